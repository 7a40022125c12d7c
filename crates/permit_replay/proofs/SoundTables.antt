-- The tables of the history that the entries of a text give are sound.
use Rattle.std.proofs.Common.{◌≡◌, ◌≤◌, refl, sym, subst, ℕ, ◌==◌, nat_le, Bool, true, false, if◌then◌else◌, List, [], ◌∷◌, Option, None, Some, arith}
use Rattle.std.specs.Prelude.{IsTrue}
use Rattle.std.specs.List.{list_all}
use Rattle.std.proofs.lemmas.Bool.{and_parts, and_from, leb-true}
use Rattle.permit_base.specs.Limits.{is_cents, is_day, is_days, is_object_number, latest_day}
use Rattle.permit_base.specs.Texts.{is_printable, is_lot}
use Rattle.permit_base.proofs.DigestLetters.{is_digest-digest_of}
use Rattle.permit_base.specs.declared.request.Command.{Command}
use Rattle.permit_base.specs.declared.request.Command.TheVariants as command
use Rattle.permit_base.specs.declared.request.Request.TheVariants.{AddParty, AddParcel, Transfer, Declare, ReadParcel, File, ReadFile, ListFiles, Register}
use Rattle.permit_base.specs.declared.request.Request.TheVariants.{OnFile}
use Rattle.permit_model.specs.History.{Deed, Founding, Upgrade, Accepted, History, last_day}
use Rattle.permit_model.specs.Machine.{IsHistory}
use Rattle.permit_model.specs.Renewal.{with_token, renewed_deed, renewed}
use Rattle.permit_model.specs.Sound.{IsSoundTables}
use Rattle.permit_model.specs.Tables.{tables}
use Rattle.permit_model.specs.Within as model
use Rattle.permit_model.specs.Within.{is_deed_within, is_request_within, AreWithinLimits}
use Rattle.permit_store.specs.declared.plain.PlainStore.{PlainStore}
use Rattle.permit_store.specs.Frames.{StoreView}
use Rattle.permit_history.specs.declared.entry.Act.{Act}
use Rattle.permit_history.specs.declared.entry.Act.TheVariants as act
use Rattle.permit_history.specs.declared.entry.Deed.{Deed as TheDeed}
use Rattle.permit_history.specs.declared.entry.Deed.TheVariants as deed
use Rattle.permit_history.specs.declared.entry.Entry.{Entry as TheEntry}
use Rattle.permit_history.specs.Within as told
use Rattle.permit_history.specs.Within.{is_text, is_within}
use Rattle.permit_replay.specs.declared.beginning.Beginning.{Beginning}
use Rattle.permit_replay.specs.declared.beginning.Beginning.TheVariants as beginning
use Rattle.permit_replay.specs.Histories.{Begun, Unsaid, Completes, history_in, history_before, request_by, history_with, history_from, history_by}
use Rattle.permit_replay.specs.Holding.{IsBeginning}
use Rattle.permit_replay.proofs.Copied.{sound_tables}

-- ---- what an entry of a text holds

printed : (text : List ℕ) → is_text text ≡ true → is_printable text ≡ true
printed text h = (and_parts (is_printable text) _ h).0

-- what a command on a file names
command_kept : (c : Command) → told.is_command_within c ≡ true → model.is_command_within c ≡ true
command_kept (command.Return text) h = printed text h
command_kept (command.Resubmit text) h = printed text h
command_kept (command.Reject text) h = printed text h
command_kept (command.RefuseExtension text) h = printed text h
command_kept (command.Notice text) h = printed text h
command_kept (command.Revoke text) h = printed text h
command_kept (command.AskExtension days text) h =
    let parts = and_parts (is_days days) _ h in and_from _ _ parts.0 (printed text parts.1)
command_kept (command.Temporary days text) h =
    let parts = and_parts (is_days days) _ h in and_from _ _ parts.0 (printed text parts.1)
command_kept (command.Stop text conditions) h =
    let parts = and_parts (is_text text) _ h in and_from _ _ (printed text parts.0) (printed conditions parts.1)
command_kept (command.AssignReviewer party) h = refl
command_kept (command.AssignInspector party) h = refl
command_kept (command.NameContractor party) h = refl
command_kept command.StartReview h = refl
command_kept command.ApprovePlans h = refl
command_kept command.Issue h = refl
command_kept command.GrantExtension h = refl
command_kept command.BeginWork h = refl
command_kept (command.RequestInspection step) h = refl
command_kept (command.ApproveStep step) h = refl
command_kept (command.ClearNotice paper) h = refl
command_kept command.Lift h = refl
command_kept command.Certify h = refl

-- the request of an accepted command
request_kept : (token_of : List ℕ → List ℕ) (a : Act) → told.is_act_within a ≡ true → is_request_within (request_by token_of a) ≡ true
request_kept token_of (act.AddParty name role digest made) h = printed name (and_parts (is_text name) _ h).0
request_kept token_of (act.AddParcel lot address owner made) h =
    let parts = and_parts (is_lot lot) _ h in and_from _ _ parts.0 (printed address (and_parts (is_text address) _ parts.1).0)
request_kept token_of (act.Transfer parcel to) h = refl
request_kept token_of (act.Declare parcel) h = refl
request_kept token_of (act.File parcel kind valuation description made) h =
    let later = and_parts (is_object_number parcel) _ h in
    let parts = and_parts (is_cents valuation) _ later.1 in
    and_from _ _ parts.0 (printed description (and_parts (is_text description) _ parts.1).0)
request_kept token_of (act.OnFile file command made) h =
    let later = and_parts (is_object_number file) _ h in command_kept command (and_parts (told.is_command_within command) _ later.1).0

-- ---- the history

-- what was done is within the limits, on days that the office takes
pub record IsFine (h : History) : Type 0 where
  pub within : AreWithinLimits h
  pub timely : last_day h ≤ latest_day

-- so was what was there before
abbrev pub BeginsFine : (Unsaid → Type 0) → Type 0
BeginsFine begins = (unsaid : Unsaid) → begins unsaid → IsFine (history_before unsaid)

none_fine : IsFine []
none_fine = record { within = refl; timely = omega arith }

-- a deed stays within its limits where its party gets another token
token_kept : (token : List ℕ) (d : Deed) → is_deed_within d ≡ true → is_deed_within (with_token token d) ≡ true
token_kept token (Founding name before) h = and_from _ _ (and_parts (is_printable name) _ h).0 (is_digest-digest_of token)
token_kept token Upgrade h = h
token_kept token (Accepted (AddParty name role before)) h = h
token_kept token (Accepted (AddParcel lot address owner)) h = h
token_kept token (Accepted (Transfer parcel to)) h = h
token_kept token (Accepted (Declare parcel)) h = h
token_kept token (Accepted (ReadParcel parcel)) h = h
token_kept token (Accepted (File parcel kind valuation description)) h = h
token_kept token (Accepted (ReadFile file)) h = h
token_kept token (Accepted (ListFiles filter)) h = h
token_kept token (Accepted (Register kind)) h = h
token_kept token (Accepted (OnFile file command)) h = h

deed_kept : (party : ℕ) (token : List ℕ) (d : Deed) (number : Option ℕ) → is_deed_within d ≡ true → is_deed_within (renewed_deed party token d number) ≡ true
deed_kept party token d None h = h
deed_kept party token d (Some id) h = by (id == party)
  where
    by : (b : Bool) → is_deed_within (if b then with_token token d else d) ≡ true
    by true = token_kept token d h
    by false = h

renewed_within : (party : ℕ) (token : List ℕ) (h : History) → AreWithinLimits h → AreWithinLimits (renewed party token h)
renewed_within party token [] within = refl
renewed_within party token (entry ∷ before) within =
    let parts = and_parts (is_deed_within entry.deed) _ within in
    and_from _ _ (deed_kept party token entry.deed entry.number parts.0) (renewed_within party token before parts.1)

renewed_fine : (party : ℕ) (token : List ℕ) (h : History) → IsFine h → IsFine (renewed party token h)
renewed_fine party token [] fine = fine
renewed_fine party token (entry ∷ before) fine = record { within = renewed_within party token (entry ∷ before) fine.within; timely = fine.timely }

-- one more deed of the day
deed_fine : (unsaid : Unsaid) (h : History) (day : ℕ) (done : TheDeed) → IsFine (history_before unsaid) → day ≤ latest_day
    → told.is_deed_within done ≡ true → IsFine h → IsFine (history_with unsaid h day done)
deed_fine unsaid h day (deed.Begin tables) start timely within fine = start
deed_fine unsaid h day (deed.Found name digest) start timely within fine =
    let parts = and_parts (is_text name) _ within in
    record { within = and_from _ _ (and_from _ _ (printed name parts.0) parts.1) fine.within; timely = timely }
deed_fine unsaid h day deed.Upgrade start timely within fine = record { within = fine.within; timely = timely }
deed_fine unsaid h day (deed.RenewToken party digest) start timely within fine = renewed_fine party (unsaid.token_of digest) h fine
deed_fine unsaid h day (deed.Accepted caller a) start timely within fine =
    let parts = and_parts (is_object_number caller) _ within in
    record { within = and_from _ _ (request_kept unsaid.token_of a parts.1) fine.within; timely = timely }

entries_fine : (unsaid : Unsaid) (h : History) (entries : List TheEntry) → IsFine (history_before unsaid) → list_all is_within entries ≡ true → IsFine h
    → IsFine (history_from unsaid h entries)
entries_fine unsaid h [] start within fine = fine
entries_fine unsaid h (entry ∷ later) start within fine =
    let parts = and_parts (is_within entry) _ within in
    let here = and_parts (is_day entry.day) _ parts.0 in
    let timely = and_parts (nat_le 0 entry.day) _ here.0 in
    entries_fine unsaid (history_with unsaid h entry.day entry.deed) later start parts.1
    (deed_fine unsaid h entry.day entry.deed start (leb-true entry.day latest_day timely.1) here.1 fine)

-- ---- its tables

begun_fine : (o : Option Begun) (begun : Begun) → o ≡ Some begun → IsFine begun.history → IsFine (history_in o)
begun_fine o begun same fine = rw same fine

-- a copy of tables is of a history within the limits
pub begins_fine : (view : PlainStore → StoreView) (beginning : Beginning) → BeginsFine (IsBeginning view beginning)
begins_fine view beginning.Founding unsaid none = subst (λ o. IsFine (history_in o)) (sym none) none_fine
begins_fine view (beginning.Copy copy) unsaid (begun, same, of) =
    begun_fine unsaid.begun begun same (record { within = of.within; timely = of.timely })

pub sound : (begins : Unsaid → Type 0) (unsaid : Unsaid) (entries : List TheEntry) → BeginsFine begins → Completes begins unsaid entries
    → IsTrue (list_all is_within entries) → IsHistory (history_by unsaid entries) → IsSoundTables (tables (history_by unsaid entries))
sound begins unsaid entries start (begun, have) within is =
    let fine = entries_fine unsaid [] entries (start unsaid begun) within none_fine in
    sound_tables (history_by unsaid entries) is fine.within fine.timely
