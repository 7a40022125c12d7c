-- A new token for a party: the history in which the party had that token from the start.
use Rattle.std.specs.Prelude.{ℕ, if◌then◌else◌, List, map, find, ◌==◌, Option, None, Some, is_some, bytes_eq}
use Rattle.permit_base.specs.declared.refusal.Reason.TheVariants as reason
use Rattle.permit_base.specs.declared.refusal.Refusal.{Refusal}
use Rattle.permit_base.specs.declared.refusal.Refusal.TheVariants as refusal
use Rattle.permit_base.specs.declared.request.Request.TheVariants.{AddParty, AddParcel, Transfer, Declare, ReadParcel, File, ReadFile, ListFiles, Register}
use Rattle.permit_base.specs.declared.request.Request.TheVariants.{OnFile}
use Rattle.permit_base.specs.Digests.{digest_of}
use Rattle.permit_model.specs.Search.{when}
use Rattle.permit_model.specs.History.{Deed, Founding, Upgrade, Accepted, Entry, History}
use Rattle.permit_model.specs.Caller.{Party}
use Rattle.permit_model.specs.Tables.{Tables}

-- the deed, where the party that it made has the token
abbrev pub with_token : List ℕ → Deed → Deed
with_token token (Founding name digest) = Founding name (digest_of token)
with_token token (Accepted (AddParty name role before)) = Accepted (AddParty name role token)
with_token token Upgrade = Upgrade
with_token token (Accepted (AddParcel lot address owner)) = Accepted (AddParcel lot address owner)
with_token token (Accepted (Transfer parcel to)) = Accepted (Transfer parcel to)
with_token token (Accepted (Declare parcel)) = Accepted (Declare parcel)
with_token token (Accepted (ReadParcel parcel)) = Accepted (ReadParcel parcel)
with_token token (Accepted (File parcel kind valuation description)) = Accepted (File parcel kind valuation description)
with_token token (Accepted (ReadFile file)) = Accepted (ReadFile file)
with_token token (Accepted (ListFiles filter)) = Accepted (ListFiles filter)
with_token token (Accepted (Register kind)) = Accepted (Register kind)
with_token token (Accepted (OnFile file command)) = Accepted (OnFile file command)

-- the deed of an entry that made what has this number
abbrev pub renewed_deed : ℕ → List ℕ → Deed → Option ℕ → Deed
renewed_deed party token deed None = deed
renewed_deed party token deed (Some id) = if id == party then with_token token deed else deed

-- the entry, where the party with the number has the token
abbrev pub renewed_entry : ℕ → List ℕ → Entry → Entry
renewed_entry party token entry = record entry { deed = renewed_deed party token entry.deed entry.number }

-- the history in which the party with the number has the token
abbrev pub renewed : ℕ → List ℕ → History → History
renewed party token h = map (renewed_entry party token) h

-- the party, with the digest where it has the number
abbrev pub with_digest : ℕ → List ℕ → Party → Party
with_digest id digest p = if p.id == id then record p { digest = digest } else p

-- the tables, where the party with the number has the digest
abbrev pub with_renewed : ℕ → List ℕ → Tables → Tables
with_renewed id digest t = record t { parties = map (with_digest id digest) t.parties }

-- the reason against giving the party with the number the digest: there is no such party, or a party has it
abbrev pub against_renewal : List Party → ℕ → List ℕ → Option Refusal
against_renewal ps id digest =
    if is_some (find (λ p. p.id == id) ps) then when (is_some (find (λ p. bytes_eq p.digest digest) ps)) (refusal.NotAdmitted reason.Taken)
    else Some refusal.Record
