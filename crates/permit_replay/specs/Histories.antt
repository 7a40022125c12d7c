-- The history that entries give, by what their text doesn't say.
use Rattle.std.specs.Prelude.{◌≡◌, ℕ, Bool, true, false, List, [], ◌∷◌, Option, None, Some, ⊤}
use Rattle.permit_base.specs.declared.request.Request.{Request}
use Rattle.permit_base.specs.declared.request.Request.TheVariants.{AddParty, AddParcel, Transfer, Declare, File, OnFile}
use Rattle.permit_base.specs.Digests.{digest_of}
use Rattle.permit_model.specs.History.{Founding, Upgrade, Accepted, History}
use Rattle.permit_model.specs.Renewal.{renewed}
use Rattle.permit_history.specs.declared.entry.Act.{Act}
use Rattle.permit_history.specs.declared.entry.Act.TheVariants as act
use Rattle.permit_history.specs.declared.entry.Deed.{Deed}
use Rattle.permit_history.specs.declared.entry.Deed.TheVariants as deed
use Rattle.permit_history.specs.declared.entry.Entry.{Entry}
use Rattle.permit_history.specs.LineData.{act_number}

-- ---- what a text doesn't say

-- the history of an office that was there before the text began, and the digest of its tables' text
pub record Begun : Type 0 where
  pub history : History
  pub tables : List ℕ

-- the token of each digest, and what was there before the text began
pub record Unsaid : Type 0 where
  pub token_of : List ℕ → List ℕ
  pub begun : Option Begun

-- the history that was there
abbrev pub history_in : Option Begun → History
history_in None = []
history_in (Some begun) = begun.history

abbrev pub history_before : Unsaid → History
history_before unsaid = history_in unsaid.begun

-- ---- the tokens

-- the token of a new party is one of its digest
abbrev pub HasTokenIn : (List ℕ → List ℕ) → Act → Type 0
HasTokenIn token_of (act.AddParty name role digest made) = digest ≡ digest_of (token_of digest)
HasTokenIn token_of (act.AddParcel lot address owner made) = ⊤
HasTokenIn token_of (act.Transfer parcel to) = ⊤
HasTokenIn token_of (act.Declare parcel) = ⊤
HasTokenIn token_of (act.File parcel kind valuation description made) = ⊤
HasTokenIn token_of (act.OnFile file command made) = ⊤

-- likewise the token of a party that got another; that of the founder is never asked for
abbrev pub HasToken : Unsaid → Deed → Type 0
HasToken unsaid (deed.Begin tables) = ⊤
HasToken unsaid (deed.Found name digest) = ⊤
HasToken unsaid deed.Upgrade = ⊤
HasToken unsaid (deed.RenewToken party digest) = digest ≡ digest_of (unsaid.token_of digest)
HasToken unsaid (deed.Accepted caller act) = HasTokenIn unsaid.token_of act

-- each digest that the entries give is that of a token
abbrev pub HaveTokens : Unsaid → List Entry → Type 0
HaveTokens unsaid [] = ⊤
HaveTokens unsaid (entry ∷ later) = HasToken unsaid entry.deed × HaveTokens unsaid later

-- what isn't said completes the entries: the text began so, and each digest that they give is that of a token
abbrev pub Completes : (Unsaid → Type 0) → Unsaid → List Entry → Type 0
Completes begins unsaid entries = begins unsaid × HaveTokens unsaid entries

-- ---- the history

-- the token of the party that the command makes, if it makes one
abbrev pub new_token : (List ℕ → List ℕ) → Act → List ℕ
new_token token_of (act.AddParty name role digest made) = token_of digest
new_token token_of (act.AddParcel lot address owner made) = []
new_token token_of (act.Transfer parcel to) = []
new_token token_of (act.Declare parcel) = []
new_token token_of (act.File parcel kind valuation description made) = []
new_token token_of (act.OnFile file command made) = []

-- the request that was accepted
abbrev pub request_by : (List ℕ → List ℕ) → Act → Request
request_by token_of (act.AddParty name role digest made) = AddParty name role (token_of digest)
request_by token_of (act.AddParcel lot address owner made) = AddParcel lot address owner
request_by token_of (act.Transfer parcel to) = Transfer parcel to
request_by token_of (act.Declare parcel) = Declare parcel
request_by token_of (act.File parcel kind valuation description made) = File parcel kind valuation description
request_by token_of (act.OnFile file command made) = OnFile file command

-- the history with one more deed of the day: one that begins with an office gives that office's, and a party with another token is meant to have had it from the start
abbrev pub history_with : Unsaid → History → ℕ → Deed → History
history_with unsaid h day (deed.Begin tables) = history_before unsaid
history_with unsaid h day (deed.Found name digest) = record { caller = 1; day = day; deed = Founding name digest; number = Some 1 } ∷ h
history_with unsaid h day deed.Upgrade = record { caller = 0; day = day; deed = Upgrade; number = None } ∷ h
history_with unsaid h day (deed.RenewToken party digest) = renewed party (unsaid.token_of digest) h
history_with unsaid h day (deed.Accepted caller act) =
    record { caller = caller; day = day; deed = Accepted (request_by unsaid.token_of act); number = act_number act } ∷ h

-- whether the deed adds an entry: to begin with an office means many, and another token changes the entry that made its party
abbrev pub adds_entry : Deed → Bool
adds_entry (deed.Begin tables) = false
adds_entry (deed.RenewToken party digest) = false
adds_entry (deed.Found name digest) = true
adds_entry deed.Upgrade = true
adds_entry (deed.Accepted caller act) = true

-- the history with the entries, the oldest first
abbrev pub history_from : Unsaid → History → List Entry → History
history_from unsaid h [] = h
history_from unsaid h (entry ∷ later) = history_from unsaid (history_with unsaid h entry.day entry.deed) later

-- the history that the entries give
abbrev pub history_by : Unsaid → List Entry → History
history_by unsaid entries = history_from unsaid [] entries
