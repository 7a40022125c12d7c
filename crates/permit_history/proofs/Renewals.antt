-- A renewal after the text of a history makes it that of the history in which the party had the token.
use Rattle.std.proofs.Common.{arith, ◌≡◌, refl, ap, ap₂, ◌∙◌, ℕ, Bool, if◌then◌else◌, List, [], ◌∷◌, ◌++◌, map, Option, Some}
use Rattle.std.proofs.Common.{option_map}
use Rattle.std.proofs.lemmas.List.{map-append}
use Rattle.permit_base.specs.declared.words.Role.{Role}
use Rattle.permit_base.specs.declared.request.Request.{Request}
use Rattle.permit_base.specs.declared.request.Request.TheVariants.{AddParty}
use Rattle.permit_base.specs.Digests.{digest_of}
use Rattle.permit_model.specs.History as model
use Rattle.permit_model.specs.History.{Founding, Upgrade, Accepted, History}
use Rattle.permit_model.specs.Machine.{MayFollow, IsFounding, IsHistory}
use Rattle.permit_model.specs.Renewal as renewal
use Rattle.permit_model.specs.Search.{add_last}
use Rattle.permit_history.specs.declared.entry.Act.TheVariants as act
use Rattle.permit_history.specs.declared.entry.Deed.TheVariants as deed
use Rattle.permit_history.specs.declared.entry.Entry.{Entry}
use Rattle.permit_history.specs.Meaning.{renewed_entry, meant_with, meant_after, meant}
use Rattle.permit_history.specs.Told.{deed_told, told_on, told, told_history}

-- ---- a history has no renewal

after-append : (start before first later : List Entry)
    → meant_after start before (first ++ later) ≡ meant_after start (meant_after start before first) later
after-append start before [] later = refl
after-append start before (entry ∷ first) later = after-append start (meant_with start before entry entry.deed) first later

-- one more entry that the text gives
told_last : (start es : List Entry) (day caller : ℕ) (made : Option ℕ) (done : model.Deed)
    → meant start (add_last es (option_map (told_on day) (deed_told caller made done)))
    ≡ add_last (meant start es) (option_map (told_on day) (deed_told caller made done))
told_last start es day caller made done = grind (arith, after-append)

pub meant_told : (start : List Entry) (h : History) → meant start (told_history h) ≡ told_history h
meant_told start [] = refl
meant_told start (entry ∷ before) =
    told_last start (told_history before) entry.day entry.caller entry.number entry.deed
    ∙ ap (λ es. add_last es (told entry)) (meant_told start before)

-- ---- the party's entry is changed

chosen_party : (b : Bool) (caller day : ℕ) (name : List ℕ) (role : Role) (token before : List ℕ) (made : ℕ)
    → option_map (told_on day) (deed_told caller (Some made) (if b then Accepted (AddParty name role token) else Accepted (AddParty name role before)))
    ≡ Some (told_on day (deed.Accepted caller (act.AddParty name role (if b then digest_of token else digest_of before) made)))
chosen_party b caller day name role token before made = grind arith

same_either : {A : Type 0} (b : Bool) (x : A) → (if b then x else x) ≡ x
same_either b x = grind arith

-- the text's entry for the renewed deed of a request is its entry for the deed, renewed
request_renewed : (party : ℕ) (token : List ℕ) (caller day : ℕ) (made : Option ℕ) (request : Request)
    → option_map (told_on day) (deed_told caller made (renewal.renewed_deed party token (Accepted request) made))
    ≡ option_map (renewed_entry party (digest_of token)) (option_map (told_on day) (deed_told caller made (Accepted request)))
request_renewed party token caller day made request = grind (arith, chosen_party, same_either)

chosen_founder : (b : Bool) (caller day : ℕ) (name token digest : List ℕ)
    → option_map (told_on day) (deed_told caller (Some 1) (if b then Founding name (digest_of token) else Founding name digest))
    ≡ Some (told_on day (deed.Found name (if b then digest_of token else digest)))
chosen_founder b caller day name token digest = grind arith

-- the text's entry for a renewed entry that may be in a history is its entry for that entry, renewed
abbrev IsRenewedTold : ℕ → List ℕ → model.Entry → model.Deed → Type 0
IsRenewedTold party token entry done =
    option_map (told_on entry.day) (deed_told entry.caller entry.number (renewal.renewed_deed party token done entry.number))
    ≡ option_map (renewed_entry party (digest_of token)) (option_map (told_on entry.day) (deed_told entry.caller entry.number done))

founding_renewed : (party : ℕ) (token : List ℕ) (entry : model.Entry) (done : model.Deed) → IsFounding entry done → IsRenewedTold party token entry done
founding_renewed party token entry done is = grind (arith, chosen_founder)

upgrade_renewed : (party : ℕ) (token : List ℕ) (caller day : ℕ) (made : Option ℕ)
    → option_map (told_on day) (deed_told caller made (renewal.renewed_deed party token Upgrade made)) ≡ Some (told_on day deed.Upgrade)
upgrade_renewed party token caller day made = grind (arith, same_either)

later_renewed : (party : ℕ) (token : List ℕ) (before : History) (entry : model.Entry) (done : model.Deed) → MayFollow before entry done
    → IsRenewedTold party token entry done
later_renewed party token before entry done may = grind (arith, upgrade_renewed, request_renewed)

map-add_last : {A B : Type 0} (f : A → B) (xs : List A) (o : Option A) → add_last (map f xs) (option_map f o) ≡ map f (add_last xs o)
map-add_last f xs o = grind (arith, map-append)

pub told_renewed : (party : ℕ) (token : List ℕ) (h : History) → IsHistory h
    → told_history (renewal.renewed party token h) ≡ map (renewed_entry party (digest_of token)) (told_history h)
told_renewed party token [] is = refl
told_renewed party token (entry ∷ []) is = ap (add_last []) (founding_renewed party token entry entry.deed is) ∙ map-add_last _ [] (told entry)
told_renewed party token (entry ∷ last ∷ before) is =
    ap₂ add_last (told_renewed party token (last ∷ before) is.1) (later_renewed party token (last ∷ before) entry entry.deed is.0)
    ∙ map-add_last _ (told_history (last ∷ before)) (told entry)

pub meant_renewed : (start : List Entry) (party : ℕ) (token : List ℕ) (day : ℕ) (h : History) → IsHistory h
    → meant start (told_history h ++ told_on day (deed.RenewToken party (digest_of token)) ∷ []) ≡ told_history (renewal.renewed party token h)
meant_renewed start party token day h is = grind (arith, after-append, meant_told, told_renewed)
