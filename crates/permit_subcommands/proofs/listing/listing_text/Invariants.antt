use Rattle.std.proofs.Common.{◌≡◌, ◌++◌, drop, string_bytes}
use Rattle.permit_subcommands.specs.Listings.{number_lines}
use Rattle.permit_subcommands.proofs.listing.listing_text.Given as goal

abbrev pub invariant-loop-file : goal.invariant-loop-file
invariant-loop-file l = string_bytes l.text ++ number_lines (drop l.file-index l.file-items) ≡ number_lines l.file-items
