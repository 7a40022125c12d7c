-- A register whose files are handed out one at a time is that of the machine's reply.
use Rattle.std.proofs.Common.{◌≡◌, ℕ, Bool, true, false, List, refl, sym, subst, ap, inl, inr}
use Rattle.std.specs.Prelude.{Option, None, Some, Result, Ok, Err, nat_lt, if◌then◌else◌}
use Rattle.std.specs.Io.KnownBytes.{Appends}
use Rattle.permit_base.specs.declared.refusal.Refusal.{Refusal}
use Rattle.permit_base.specs.declared.refusal.Refusal.TheVariants as refusal
use Rattle.permit_base.specs.declared.request.Filter.{Filter}
use Rattle.permit_base.specs.declared.request.Request.TheVariants as request
use Rattle.permit_base.specs.declared.words.RegisterKind.{RegisterKind}
use Rattle.permit_model.specs.History.{History, last_day}
use Rattle.permit_model.specs.Caller.{Party, who}
use Rattle.permit_model.specs.Policy.{Policy}
use Rattle.permit_model.specs.Listing.{register_filter}
use Rattle.permit_model.specs.Machine.{Reply, Listed, RegisterShown, Outcome, outcome_by_caller, outcome_by_request, refused, step_as}
use Rattle.permit_model.specs.Machine as shown
use Rattle.permit_office.specs.declared.showing.RowsEnd.{RowsEnd}
use Rattle.permit_office.specs.declared.showing.RowsEnd.TheVariants as ended
use Rattle.permit_office.specs.Opening.{rows_opened}
use Rattle.permit_office.specs.Showing.{IsListing, Shows, OpensAt}
use Rattle.permit_import.specs.Refusals.{refused_by}
use Rattle.permit_report.specs.declared.writer.RegisterWriter.{RegisterWriter}
use Rattle.permit_report.specs.Outgoing.{WroteFront}
use Rattle.permit_report.specs.Progress.{ending}
use Rattle.permit_report.specs.Taken.{progress, IsSameOutput, TakesFile}
use Rattle.permit_report.specs.Whole.{IsBegun, KeepsOutput, MakesText, CutsEnding, CutsLine, LacksEnding}
use Rattle.permit_subcommands.specs.Listings.{IsRegisterOf, Writes}
use Rattle.permit_subcommands.specs.declared.failure.Failure.{Failure}
use Rattle.permit_subcommands.specs.declared.failure.Failure.TheVariants as failure

-- ---- the machine's reply

-- the register's reply, by that of the listing which it holds
abbrev pub as_register : RegisterKind → Reply → Reply
as_register kind (Listed files) = RegisterShown kind files
as_register kind (shown.Done number) = shown.Done number
as_register kind (shown.ParcelShown parcel) = shown.ParcelShown parcel
as_register kind (shown.FileShown file papers) = shown.FileShown file papers
as_register kind (RegisterShown other files) = RegisterShown other files
as_register kind (shown.Refused why) = shown.Refused why

-- it is a register of the kind, or why that is refused
pub register_of : (kind : RegisterKind) (reply : Reply) → IsListing reply → IsRegisterOf kind (as_register kind reply)
register_of kind (Listed files) is = refl
register_of kind (shown.Refused why) is = is
register_of kind (shown.Done number) is = absurd is
register_of kind (shown.ParcelShown parcel) is = absurd is
register_of kind (shown.FileShown file papers) is = absurd is
register_of kind (RegisterShown other files) is = absurd is

module _ (policy : Policy) (h : History) (day : ℕ) (kind : RegisterKind) where
  by_clock : (caller : Party) (b : Bool)
      → (if b then refused h refusal.Clock else outcome_by_request policy h day caller (request.Register kind)).reply
      ≡ as_register kind (if b then refused h refusal.Clock else outcome_by_request policy h day caller (request.ListFiles (register_filter kind))).reply
  by_clock caller true = refl
  by_clock caller false = refl

  by_caller : (found : Option Party) → (outcome_by_caller policy h day (request.Register kind) found).reply
      ≡ as_register kind (outcome_by_caller policy h day (request.ListFiles (register_filter kind)) found).reply
  by_caller None = refl
  by_caller (Some caller) = by_clock caller (nat_lt day (last_day h))

  pub register_reply : (digest : List ℕ) (wanted : Filter) → wanted ≡ register_filter kind
      → (step_as policy h digest (request.Register kind) day).reply ≡ as_register kind (step_as policy h digest (request.ListFiles wanted) day).reply
  register_reply digest wanted is = subst (λ (f : Filter). (step_as policy h digest (request.Register kind) day).reply
      ≡ as_register kind (step_as policy h digest (request.ListFiles f) day).reply) (sym is) (by_caller (who h digest))

  -- as many rows are handed out as for the listing
  pub opens_register : (digest : List ℕ) (wanted : Filter) → wanted ≡ register_filter kind → (end : RowsEnd) (old new : ℕ)
      → OpensAt (rows_opened policy h digest (request.ListFiles wanted) day) end old new →
      OpensAt (rows_opened policy h digest (request.Register kind) day) end old new
  opens_register digest wanted is end old new opens = subst (λ (f : Filter). OpensAt
      (rows_opened policy h digest (request.ListFiles f) day) end old new) is opens

-- ---- what is written

module _ {W : Type 0} (contents : W → Option (List ℕ)) (kind : RegisterKind) (day : ℕ) (old new : RegisterWriter W) (begun : IsBegun kind day old) where
  -- a writer of which the files were taken writes to where it wrote
  pub keeps_output : KeepsOutput contents → CutsLine contents → LacksEnding contents → (reply : Reply) (end : RowsEnd) →
      Shows (TakesFile contents) reply old new end → IsSameOutput old new
  keeps_output output cut lacks (Listed files) (ended.All read) took = output files old new took
  keeps_output output cut lacks (Listed files) ended.Stopped stopped = (cut kind day files old new begun stopped).1
  keeps_output output cut lacks (Listed files) (ended.Refused refusal.Store) began = (lacks kind day files old new begun began).1
  keeps_output output cut lacks (shown.Refused why) (ended.Refused refusal.Store) is = ap (λ (w : RegisterWriter W). w.writer.ghost_name) is
  keeps_output output cut lacks (shown.Refused why) (ended.Refused refusal.Syntax) is = ap (λ (w : RegisterWriter W). w.writer.ghost_name) is.1
  keeps_output output cut lacks (shown.Refused why) (ended.Refused refusal.Caller) is = ap (λ (w : RegisterWriter W). w.writer.ghost_name) is.1
  keeps_output output cut lacks (shown.Refused why) (ended.Refused refusal.Clock) is = ap (λ (w : RegisterWriter W). w.writer.ghost_name) is.1
  keeps_output output cut lacks (shown.Refused why) (ended.Refused refusal.Record) is = ap (λ (w : RegisterWriter W). w.writer.ghost_name) is.1
  keeps_output output cut lacks (shown.Refused why) (ended.Refused (refusal.Denied rule)) is = ap (λ (w : RegisterWriter W). w.writer.ghost_name) is.1
  keeps_output output cut lacks (shown.Refused why) (ended.Refused (refusal.NotAdmitted against)) is = ap (λ (w : RegisterWriter W). w.writer.ghost_name) is.1
  keeps_output output cut lacks (shown.Done number) end took = elim took [ ]
  keeps_output output cut lacks (shown.ParcelShown parcel) end took = elim took [ ]
  keeps_output output cut lacks (shown.FileShown file papers) end took = elim took [ ]
  keeps_output output cut lacks (Listed files) (ended.Refused refusal.Syntax) began = elim began [ ]
  keeps_output output cut lacks (Listed files) (ended.Refused refusal.Caller) began = elim began [ ]
  keeps_output output cut lacks (Listed files) (ended.Refused refusal.Clock) began = elim began [ ]
  keeps_output output cut lacks (Listed files) (ended.Refused refusal.Record) began = elim began [ ]
  keeps_output output cut lacks (Listed files) (ended.Refused (refusal.Denied rule)) began = elim began [ ]
  keeps_output output cut lacks (Listed files) (ended.Refused (refusal.NotAdmitted against)) began = elim began [ ]
  keeps_output output cut lacks (RegisterShown _ files) end took = elim took [ ]
  keeps_output output cut lacks (shown.Refused why) (ended.All read) is = elim is [ ]
  keeps_output output cut lacks (shown.Refused why) ended.Stopped is = elim is [ ]

  -- all files and then the ending
  pub writes_all : MakesText contents → (reply : Reply) (read : ℕ) (after : W) → Shows (TakesFile contents) reply old new (ended.All read)
      → Appends (contents new.writer.now) (contents after) (ending (progress new)) →
      Writes day (contents old.writer.now) (contents after) (as_register kind reply) (Ok tt)
  writes_all makes (Listed files) read after took ended = makes kind day files old new (contents after) begun took ended
  writes_all makes (shown.Done number) read after took ended = elim took [ ]
  writes_all makes (shown.ParcelShown parcel) read after took ended = elim took [ ]
  writes_all makes (shown.FileShown file papers) read after took ended = elim took [ ]
  writes_all makes (RegisterShown other files) read after took ended = elim took [ ]
  writes_all makes (shown.Refused why) read after took ended = elim took [ ]

  -- all files, and an ending that is cut
  pub writes_cut : CutsEnding contents → (reply : Reply) (read : ℕ) (after : W) → Shows (TakesFile contents) reply old new (ended.All read)
      → WroteFront (contents new.writer.now) (contents after) (ending (progress new)) →
      Writes day (contents old.writer.now) (contents after) (as_register kind reply) (Err failure.Output)
  writes_cut cuts (Listed files) read after took ended = (inl refl, cuts kind day files old new (contents after) begun took ended)
  writes_cut cuts (shown.Done number) read after took ended = elim took [ ]
  writes_cut cuts (shown.ParcelShown parcel) read after took ended = elim took [ ]
  writes_cut cuts (shown.FileShown file papers) read after took ended = elim took [ ]
  writes_cut cuts (RegisterShown other files) read after took ended = elim took [ ]
  writes_cut cuts (shown.Refused why) read after took ended = elim took [ ]

  -- the last file's line is cut
  pub writes_some : CutsLine contents → (reply : Reply) → Shows (TakesFile contents) reply old new ended.Stopped
      → Writes day (contents old.writer.now) (contents new.writer.now) (as_register kind reply) (Err failure.Output)
  writes_some cuts (Listed files) stopped = (inl refl, (cuts kind day files old new begun stopped).0)
  writes_some cuts (shown.Done number) stopped = elim stopped [ ]
  writes_some cuts (shown.ParcelShown parcel) stopped = elim stopped [ ]
  writes_some cuts (shown.FileShown file papers) stopped = elim stopped [ ]
  writes_some cuts (RegisterShown other files) stopped = elim stopped [ ]
  writes_some cuts (shown.Refused why) stopped = elim stopped [ ]

  -- the office refused
  pub writes_refused : LacksEnding contents → (reply : Reply) (why : Refusal) → Shows (TakesFile contents) reply old new (ended.Refused why)
      → Writes day (contents old.writer.now) (contents new.writer.now) (as_register kind reply) (Err (failure.Refused (refused_by why)))
  writes_refused lacks (Listed files) refusal.Store began = (inr refl, (lacks kind day files old new begun began).0)
  writes_refused lacks (shown.Refused why) refusal.Store is = (inr refl, ap (λ (w : RegisterWriter W). contents w.writer.now) is)
  writes_refused lacks (shown.Refused why) refusal.Syntax is = (
    inl (ap (λ (r : Refusal). Err (failure.Refused (refused_by r))) is.0),
    ap (λ (w : RegisterWriter W). contents w.writer.now) is.1,
  )
  writes_refused lacks (shown.Refused why) refusal.Caller is = (
    inl (ap (λ (r : Refusal). Err (failure.Refused (refused_by r))) is.0),
    ap (λ (w : RegisterWriter W). contents w.writer.now) is.1,
  )
  writes_refused lacks (shown.Refused why) refusal.Clock is = (
    inl (ap (λ (r : Refusal). Err (failure.Refused (refused_by r))) is.0),
    ap (λ (w : RegisterWriter W). contents w.writer.now) is.1,
  )
  writes_refused lacks (shown.Refused why) refusal.Record is = (
    inl (ap (λ (r : Refusal). Err (failure.Refused (refused_by r))) is.0),
    ap (λ (w : RegisterWriter W). contents w.writer.now) is.1,
  )
  writes_refused lacks (shown.Refused why) (refusal.Denied rule) is = (
    inl (ap (λ (r : Refusal). Err (failure.Refused (refused_by r))) is.0),
    ap (λ (w : RegisterWriter W). contents w.writer.now) is.1,
  )
  writes_refused lacks (shown.Refused why) (refusal.NotAdmitted against) is =
      (inl (ap (λ (r : Refusal). Err (failure.Refused (refused_by r))) is.0), ap (λ (w : RegisterWriter W). contents w.writer.now) is.1)
  writes_refused lacks (shown.Done number) why is = elim is [ ]
  writes_refused lacks (shown.ParcelShown parcel) why is = elim is [ ]
  writes_refused lacks (shown.FileShown file papers) why is = elim is [ ]
  writes_refused lacks (RegisterShown other files) why is = elim is [ ]
  writes_refused lacks (Listed files) refusal.Syntax began = elim began [ ]
  writes_refused lacks (Listed files) refusal.Caller began = elim began [ ]
  writes_refused lacks (Listed files) refusal.Clock began = elim began [ ]
  writes_refused lacks (Listed files) refusal.Record began = elim began [ ]
  writes_refused lacks (Listed files) (refusal.Denied rule) began = elim began [ ]
  writes_refused lacks (Listed files) (refusal.NotAdmitted against) began = elim began [ ]

-- the same of a reply that is equal, between equal writers
pub writes_between : {W : Type 0} (contents : W → Option (List ℕ)) (day : ℕ) (reply told : Reply) (result : Result (Unit {0}) Failure) (old first new last : W)
    → told ≡ reply → old ≡ first → Writes day (contents old) (contents new) reply result → new ≡ last → Writes day (contents first) (contents last) told result
writes_between {W} contents day reply told result old first new last same here is there =
    let P : W → Type 0 = λ w. Writes day (contents w) (contents new) reply result in
    let Q : W → Type 0 = λ w. Writes day (contents first) (contents w) reply result in
    let R : Reply → Type 0 = λ r. Writes day (contents first) (contents last) r result in
    subst R (sym same) (subst Q there (subst P here is))
