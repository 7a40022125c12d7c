use Rattle.std.proofs.Common.{None, map, refl, string_bytes}
use Rattle.permit_args.proofs.Planned.{simple_reader}
use Rattle.permit_args.proofs.Unread.{blamed, found_for, parser_fault_for, unread_by_parser}
use Rattle.permit_args.proofs.words.no_subcommand.Goals as goal

pub returns-in-Ok-matches : goal.returns-in-Ok-matches
returns-in-Ok-matches c =
    let found = found_for c.in-Ok.ensures.reads (simple_reader None) c.in-Ok-matches.ensures.found in
    blamed None (map string_bytes c.args.words.now) _ c.bad.result found.taken c.bad.ensures refl

pub returns : goal.returns
returns c = unread_by_parser None (map string_bytes c.args.words.now) c.in-Err.fault (parser_fault_for _ _ c.in-Ok.ensures.reads (simple_reader None) c.in-Err.ensures.refused)
