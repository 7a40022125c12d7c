-- What is written, piece by piece, of the lines that say why records are refused.
use Rattle.std.proofs.Common.{◌≡◌, Bool, true, false, ℕ, ◌+◌, List, [], ◌∷◌, ◌++◌, length, take, inl, inr, refl, sym, ap, ◌∙◌, subst, arith, append_assoc}
use Rattle.std.proofs.Common.{append-nil, length-append}
use Rattle.std.specs.Prelude.{Option}
use Rattle.std.proofs.KnownBytes.{Appends-nil, Appends-trans}
use Rattle.std.proofs.Math.Seq.{take-append-add}
use Rattle.std.proofs.lemmas.List.{take-append-le}
use Rattle.std.specs.Io.KnownBytes.{Appends}
use Rattle.permit_import.specs.Importing.{TellsCauses}
use Rattle.permit_import.specs.Lines.{cause_line, causes_from}
use Rattle.permit_import.specs.Outcomes.{why_of}
use Rattle.permit_import.specs.Written.{WritesIf, WroteFront}
use Rattle.permit_import.specs.declared.outcome.Outcome.{Outcome}

-- a prefix of a text is one of a longer text
front_longer : (old new : Option (List ℕ)) (text next : List ℕ) → WroteFront old new text → WroteFront old new (text ++ next)
front_longer old new text next front =
    let within = front.within in
    let long : length (text ++ next) ≡ length text + length next = length-append text next in
    record {
      count = front.count;
      within = omega arith;
      wrote = subst (Appends old new) (sym (take-append-le front.count text next (omega arith))) front.wrote;
    }

-- the whole of a text and a prefix of the next are a prefix of both
front_after : (old mid new : Option (List ℕ)) (text next : List ℕ) → Appends old mid text → WroteFront mid new next → WroteFront old new (text ++ next)
front_after old mid new text next wrote front =
    let within = front.within in
    let long : length (text ++ next) ≡ length text + length next = length-append text next in
    record {
      count = length text + front.count;
      within = omega arith;
      wrote = subst (Appends old new) (sym (take-append-add text next front.count))
          (Appends-trans old mid new text (take front.count next) wrote front.wrote);
    }

-- the next text is asked for once the first is written whole
pub writes_on : (asked between whole : Bool) (old mid new : Option (List ℕ)) (text next : List ℕ) → WritesIf asked between old mid text →
    WritesIf between whole mid new next → WritesIf asked whole old new (text ++ next)
writes_on true true true old mid new text next first then_next = Appends-trans old mid new text next first then_next
writes_on true true false old mid new text next first then_next = front_after old mid new text next first then_next
writes_on true false true old mid new text next first then_next = absurd then_next
writes_on true false false old mid new text next first then_next =
    subst (λ n. WroteFront old n (text ++ next)) (sym then_next) (front_longer old mid text next first)
writes_on false true whole old mid new text next first then_next = absurd first
writes_on false false true old mid new text next first then_next = absurd then_next
writes_on false false false old mid new text next first then_next = then_next ∙ first

-- of no text all is written, where it is asked for
pub writes_none : (asked : Bool) (old : Option (List ℕ)) → WritesIf asked asked old old []
writes_none true old = Appends-nil old
writes_none false old = refl

pub tells_causes : (asked whole : Bool) (old new : Option (List ℕ)) (outcomes : List Outcome) → WritesIf asked whole old new (causes_from 1 outcomes) →
    TellsCauses asked old new outcomes
tells_causes true true old new outcomes wrote = inl wrote
tells_causes true false old new outcomes wrote = inr wrote
tells_causes false true old new outcomes wrote = absurd wrote
tells_causes false false old new outcomes wrote = wrote

-- nothing is written where there is no record
pub no_causes : (asked : Bool) (old : Option (List ℕ)) → TellsCauses asked old old []
no_causes asked old = tells_causes asked asked old old [] (writes_none asked old)

-- the lines with that of one more outcome
pub causes_last : (number : ℕ) (outcomes : List Outcome) (outcome : Outcome) (at : ℕ) → at ≡ number + length outcomes →
    causes_from number (outcomes ++ outcome ∷ []) ≡ causes_from number outcomes ++ cause_line at (why_of outcome)
causes_last number [] outcome at e =
    append-nil (cause_line number (why_of outcome)) ∙ ap (λ n. cause_line n (why_of outcome)) (sym (omega arith))
causes_last number (first ∷ outcomes) outcome at e =
    ap (λ text. cause_line number (why_of first) ++ text) (causes_last (number + 1) outcomes outcome at (omega arith))
    ∙ sym (append_assoc (cause_line number (why_of first)) (causes_from (number + 1) outcomes) (cause_line at (why_of outcome)))
