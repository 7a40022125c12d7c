-- A text without a line that begins with an office means the same over any start, and the text of a history has no such line.
use Rattle.std.proofs.Common.{arith, ◌≡◌, refl, ap, ◌∙◌, ℕ, Bool, List, [], ◌∷◌, Option}
use Rattle.std.proofs.Common.{option_map}
use Rattle.std.specs.Prelude.{IsTrue}
use Rattle.std.specs.List.{list_all}
use Rattle.std.proofs.lemmas.Bool.{and_parts, and_from, false≢true}
use Rattle.std.proofs.lemmas.List.Folds.{list_all-append}
use Rattle.permit_model.specs.History as model
use Rattle.permit_model.specs.History.{History}
use Rattle.permit_model.specs.Search.{add_last}
use Rattle.permit_history.specs.declared.entry.Deed.{Deed}
use Rattle.permit_history.specs.declared.entry.Entry.{Entry}
use Rattle.permit_history.specs.Meaning.{begins_none, meant_with, meant_after, meant}
use Rattle.permit_history.specs.Told.{deed_told, told_on, told_history}

-- the entry doesn't begin with an office that was there
abbrev is_later : Entry → Bool
is_later entry = begins_none entry.deed

with_any : (start other before : List Entry) (entry : Entry) (done : Deed) → IsTrue (begins_none done)
    → meant_with start before entry done ≡ meant_with other before entry done
with_any start other before entry done none = grind (arith, false≢true)

after_any : (start other before entries : List Entry) → IsTrue (list_all is_later entries)
    → meant_after start before entries ≡ meant_after other before entries
after_any start other before [] none = refl
after_any start other before (entry ∷ later) none =
    let parts = and_parts (is_later entry) _ none in
    ap (λ es. meant_after start es later) (with_any start other before entry entry.deed parts.0)
    ∙ after_any start other (meant_with other before entry entry.deed) later parts.1

pub meant_any : (start other entries : List Entry) → IsTrue (list_all is_later entries) → meant start entries ≡ meant other entries
meant_any start other entries none = after_any start other [] entries none

one_later : (es : List Entry) (day caller : ℕ) (made : Option ℕ) (done : model.Deed) → IsTrue (list_all is_later es)
    → IsTrue (list_all is_later (add_last es (option_map (told_on day) (deed_told caller made done))))
one_later es day caller made done none = grind (arith, list_all-append, and_from)

pub told_later : (h : History) → IsTrue (list_all is_later (told_history h))
told_later [] = refl
told_later (entry ∷ before) = one_later (told_history before) entry.day entry.caller entry.number entry.deed (told_later before)
