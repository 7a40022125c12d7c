use Rattle.std.proofs.Common.{◌∙◌, ◌++◌, ap, map, string_bytes, sym}
use Rattle.std.specs.Prelude.{encode_utf8, encode_utf8_all}
use Rattle.std.proofs.lemmas.Iterator.{YieldsList-from_chars, YieldsList-from_take}
use Rattle.std.proofs.lemmas.Iterator.Consumers.{YieldsList-end}
use Rattle.permit_reasons.specs.Shown.{shown_letter}
use Rattle.std.proofs.lemmas.List.{map-id}
use Rattle.permit_reasons.proofs.Letters.{letters_more}
use Rattle.permit_reasons.proofs.shown.shown.Goals as goal

pub loop-letter-preserved : goal.loop-letter-preserved
loop-letter-preserved c =
    c.in_ok-push.ensures.bytes
    ∙ ap (λ letter. string_bytes c.loop-letter.shown ++ encode_utf8 letter) c.shown_letter.ensures
    ∙ ap (λ text. text ++ encode_utf8 (shown_letter c.in-Some.letter)) c.loop-letter.invariant
    ∙ sym (letters_more shown_letter c.loop-letter.yielded c.in-Some.letter)

pub returns : goal.returns
returns c =
    let t = YieldsList-end (YieldsList-from_take 60 (YieldsList-from_chars c.args.text.now c.utf8.text cc) cc)
    c.loop-letter.yielded _ c.loop-letter.yielded_by _ _ c.in-None.is c.next.ensures.steps in
    c.loop-letter.invariant ∙ ap (λ cs. encode_utf8_all (map shown_letter cs)) (sym (map-id c.loop-letter.yielded) ∙ t.0)
