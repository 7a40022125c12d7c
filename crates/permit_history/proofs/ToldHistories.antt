-- The text gives each entry of a history.
use Rattle.std.proofs.Common.{◌≡◌, ap, ◌∙◌, suc, true, List, [], ◌∷◌, length, Option, option_map, is_some, arith, length-append}
use Rattle.std.proofs.lemmas.Bool.{false≢true}
use Rattle.permit_base.specs.declared.request.Request.{Request}
use Rattle.permit_model.specs.History as model
use Rattle.permit_model.specs.History.{Founding, Upgrade, Accepted, History}
use Rattle.permit_model.specs.Machine.{IsAccepted, MayFollow, IsFounding, IsHistory}
use Rattle.permit_model.specs.Search.{add_last}
use Rattle.permit_history.specs.Told.{deed_told, told_on, told, told_history}

request_told : (before : History) (entry : model.Entry) (request : Request) → IsAccepted before entry request
    → is_some (deed_told entry.caller entry.number (Accepted request)) ≡ true
request_told before entry request h = grind (arith, false≢true)

later_told : (before : History) (entry : model.Entry) (done : model.Deed) → MayFollow before entry done
    → is_some (deed_told entry.caller entry.number done) ≡ true
later_told before entry done h = grind (arith, request_told)

founding_told : (entry : model.Entry) (done : model.Deed) → IsFounding entry done → is_some (deed_told entry.caller entry.number done) ≡ true
founding_told entry done h = grind arith

mapped : {A B : Type 0} (f : A → B) (o : Option A) → is_some o ≡ true → is_some (option_map f o) ≡ true
mapped f o h = grind (arith, false≢true)

one_more : {A : Type 0} (items : List A) (o : Option A) → is_some o ≡ true → length (add_last items o) ≡ suc (length items)
one_more items o h = grind (arith, false≢true, length-append)

pub all_told : (h : History) → IsHistory h → length (told_history h) ≡ length h
all_told [] is = absurd is
all_told (entry ∷ []) is = one_more [] (told entry) (mapped (told_on entry.day) _ (founding_told entry entry.deed is))
all_told (entry ∷ last ∷ before) is =
    one_more (told_history (last ∷ before)) (told entry) (mapped (told_on entry.day) _ (later_told (last ∷ before) entry entry.deed is.0))
    ∙ ap suc (all_told (last ∷ before) is.1)
