-- A text with the line of one entry more gives the history with it.
use Rattle.std.proofs.Common.{◌≡◌, refl, sym, ap, ◌∙◌, ℕ, List, [], ◌∷◌, ◌++◌, append_assoc, Option, Some}
use Rattle.std.specs.Prelude.{option_map}
use Rattle.permit_model.specs.History.{Entry as TheEntry, History}
use Rattle.permit_base.specs.declared.request.Request.{Request}
use Rattle.permit_model.specs.Machine.{entry_of, number_made}
use Rattle.permit_model.specs.Search.{add_last}
use Rattle.permit_history.specs.declared.entry.Act.{Act}
use Rattle.permit_history.specs.declared.entry.Deed.TheVariants as deed
use Rattle.permit_history.specs.declared.entry.Entry.{Entry}
use Rattle.permit_history.specs.LineData.{line_of, text_of}
use Rattle.permit_history.specs.Meaning.{meant_after, meant_with}
use Rattle.permit_history.specs.Told.{act_told, told, told_on, told_history}
use Rattle.permit_recorded.specs.Lines.{whole_line_of}
use Rattle.permit_recorded.specs.Recorded.{TellsOver}

after-append : (start before first later : List Entry)
    → meant_after start before (first ++ later) ≡ meant_after start (meant_after start before first) later
after-append start before [] later = refl
after-append start before (entry ∷ first) later = after-append start (meant_with start before entry entry.deed) first later

text-append : (first : List Entry) (entry : Entry) → text_of (first ++ entry ∷ []) ≡ text_of first ++ whole_line_of entry
text-append [] entry = refl
text-append (e ∷ first) entry =
    ap (λ (later : List ℕ). line_of e ++ 10 ∷ later) (text-append first entry) ∙ sym (append_assoc (line_of e) (10 ∷ text_of first) (whole_line_of entry))

pub tells_more : (start : List Entry) (text line : List ℕ) (h : History) (e : TheEntry) (day caller : ℕ) (act : Act) → TellsOver start text h
    → told e ≡ Some (told_on day (deed.Accepted caller act)) → line ≡ whole_line_of (told_on day (deed.Accepted caller act)) → TellsOver start (text ++ line) (e ∷ h)
tells_more start text line h e day caller act tells said is =
    let entry = told_on day (deed.Accepted caller act) in (
      tells.0 ++ entry ∷ [],
      ap (λ (l : List ℕ). l ++ line) tells.1 ∙ ap (λ (l : List ℕ). text_of tells.0 ++ l) is ∙ sym (text-append tells.0 entry),
      after-append start [] tells.0 (entry ∷ []) ∙ ap (λ (es : List Entry). es ++ entry ∷ []) tells.2
          ∙ sym (ap (add_last (told_history h)) said),
    )

-- the entry that the request adds, by its command
pub entry_said : (h : History) (day caller : ℕ) (asked : Request) (act : Act) → act_told asked (number_made h asked) ≡ Some act
    → told (entry_of h day caller asked) ≡ Some (told_on day (deed.Accepted caller act))
entry_said h day caller asked act e = ap (λ (o : Option Act). option_map (told_on day) (option_map (deed.Accepted caller) o)) e
