use Rattle.std.proofs.Common.{◌∙◌, ◌++◌, ap, map, string_bytes}
use Rattle.permit_import.specs.Headings.{shown_byte}
use Rattle.permit_import.proofs.WriteLemmas.{shown_front}
use Rattle.permit_import.proofs.heading.push_bytes.Goals as goal

pub returns : goal.returns
returns c =
    c.loop-byte.invariant
    ∙ ap (λ bytes. string_bytes c.args.text.now ++ map shown_byte bytes)
    (shown_front c.args.field.now _ c.loop-byte.byte-index c.min-count.ensures c.loop-byte-test.false)
