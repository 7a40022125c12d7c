-- The history that the entries of a text mean: a party that got another token is meant to have had it from the start.
-- A text that begins with an office that was there already doesn't say what was before, so its meaning is over that start: the
-- entries, oldest first, of the history until then. A text without such a line means the same whatever the start is.
use Rattle.std.specs.Prelude.{◌≡◌, ℕ, ◌==◌, if◌then◌else◌, Bool, true, false, List, [], ◌∷◌, ◌++◌, map}
use Rattle.permit_model.specs.History.{History}
use Rattle.permit_history.specs.declared.entry.Act.{Act}
use Rattle.permit_history.specs.declared.entry.Act.TheVariants as act
use Rattle.permit_history.specs.declared.entry.Deed.{Deed}
use Rattle.permit_history.specs.declared.entry.Deed.TheVariants as deed
use Rattle.permit_history.specs.declared.entry.Entry.{Entry}
use Rattle.permit_history.specs.LineData.{text_of}
use Rattle.permit_history.specs.Told.{told_history}

-- the accepted command, where the party that it made has the digest
abbrev pub renewed_act : ℕ → List ℕ → Act → Act
renewed_act party digest (act.AddParty name role before made) = act.AddParty name role (if made == party then digest else before) made
renewed_act party digest (act.AddParcel lot address owner made) = act.AddParcel lot address owner made
renewed_act party digest (act.Transfer parcel to) = act.Transfer parcel to
renewed_act party digest (act.Declare parcel) = act.Declare parcel
renewed_act party digest (act.File parcel kind valuation description made) = act.File parcel kind valuation description made
renewed_act party digest (act.OnFile file command made) = act.OnFile file command made

-- what was done, where the party that it made has the digest: the founder is party 1
abbrev pub renewed_deed : ℕ → List ℕ → Deed → Deed
renewed_deed party digest (deed.Begin tables) = deed.Begin tables
renewed_deed party digest (deed.Found name before) = deed.Found name (if 1 == party then digest else before)
renewed_deed party digest deed.Upgrade = deed.Upgrade
renewed_deed party digest (deed.RenewToken other given) = deed.RenewToken other given
renewed_deed party digest (deed.Accepted caller act) = deed.Accepted caller (renewed_act party digest act)

-- the entry, where the party that it made has the digest
abbrev pub renewed_entry : ℕ → List ℕ → Entry → Entry
renewed_entry party digest entry = record entry { deed = renewed_deed party digest entry.deed }

-- what the entries mean with one more: one that begins with an office means the start, and another token changes the entry that
-- made its party, and adds none
abbrev pub meant_with : (start before : List Entry) → Entry → Deed → List Entry
meant_with start before entry (deed.Begin tables) = start
meant_with start before entry (deed.RenewToken party digest) = map (renewed_entry party digest) before
meant_with start before entry (deed.Found name digest) = before ++ entry ∷ []
meant_with start before entry deed.Upgrade = before ++ entry ∷ []
meant_with start before entry (deed.Accepted caller act) = before ++ entry ∷ []

abbrev pub meant_after : (start before : List Entry) → List Entry → List Entry
meant_after start before [] = before
meant_after start before (entry ∷ later) = meant_after start (meant_with start before entry entry.deed) later

-- the entries that these mean, over the start: none begins with an office, and none renews a token
abbrev pub meant : List Entry → List Entry → List Entry
meant start entries = meant_after start [] entries

-- it is not the line that a text begins with where its office was there already
abbrev pub begins_none : Deed → Bool
begins_none (deed.Begin tables) = false
begins_none (deed.Found name digest) = true
begins_none deed.Upgrade = true
begins_none (deed.RenewToken party digest) = true
begins_none (deed.Accepted caller act) = true

-- the text gives the history, over some start
abbrev pub Tells : List ℕ → History → Type 0
Tells text h = (start : List Entry) × (entries : List Entry) × (text ≡ text_of entries) × (meant start entries ≡ told_history h)
