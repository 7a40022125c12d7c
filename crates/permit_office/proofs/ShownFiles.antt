-- A listing for the party that keeps a digest, and how it ends.
use Rattle.std.proofs.Common.{◌≡◌, ◌≤◌, ℕ, Bool, List, refl, sym, subst, length}
use Rattle.std.specs.Prelude.{Option, None, Some, option_and_then}
use Rattle.permit_base.specs.declared.refusal.Refusal.{Refusal}
use Rattle.permit_base.specs.declared.refusal.Refusal.TheVariants as refusal
use Rattle.permit_base.specs.declared.request.Filter.{Filter}
use Rattle.permit_base.specs.declared.request.Request.TheVariants as request
use Rattle.permit_model.specs.History.{History, last_day}
use Rattle.permit_model.specs.Caller.{Party, who}
use Rattle.permit_model.specs.Policy.{Policy}
use Rattle.permit_model.specs.Listing.{listing}
use Rattle.permit_model.specs.Opened.{opened}
use Rattle.permit_model.specs.Tables.{FileView}
use Rattle.permit_model.specs.Machine.{Listed, Refused, Outcome, step_as}
use Rattle.permit_office.specs.declared.showing.RowsEnd.{RowsEnd}
use Rattle.permit_office.specs.declared.showing.RowsEnd.TheVariants as ended
use Rattle.permit_office.specs.Opening.{opened_for, rows_opened}
use Rattle.permit_office.specs.Callers.{RefusesCaller}
use Rattle.permit_office.specs.Showing.{OpensAt, Shows}
use Rattle.permit_office.specs.Stops.{StopsAt, StopsFor}
use Rattle.permit_office.proofs.Stepping.{stepped}

module _ {T : Type 0} (took : T → FileView → T → Bool → Type 0) (policy : Policy) (h : History) (digest : List ℕ) (day : ℕ) (wanted : Filter) where
  pub shows_known : (caller : Party) → Some caller ≡ who h digest → last_day h ≤ day → (old new : T) (end : RowsEnd) →
      Shows took (Listed (listing policy h day caller wanted)) old new end
      → Shows took (step_as policy h digest (request.ListFiles wanted) day).reply old new end
  shows_known caller is time old new end shown =
      subst (λ (o : Outcome). Shows took o.reply old new end) (sym (stepped policy h digest (request.ListFiles wanted) day caller is time)) shown

  pub stops_known : (caller : Party) → Some caller ≡ who h digest → (before after : T) (old new : ℕ) (end : RowsEnd) →
      StopsFor took policy h caller day wanted end before after old new
      → StopsAt took policy h digest day wanted end before after old new
  stops_known caller is before after old new ended.Stopped stops = (caller, sym is, stops)
  stops_known caller is before after old new (ended.All read) stops = tt
  stops_known caller is before after old new (ended.Refused why) stops = tt

pub opens_known : (policy : Policy) (h : History) (digest : List ℕ) (day : ℕ) (wanted : Filter) (caller : Party) → Some caller ≡ who h digest →
    (old new : ℕ) (end : RowsEnd)
    → OpensAt (Some (length (opened policy h day caller wanted))) end old new → OpensAt (rows_opened policy h digest (request.ListFiles wanted) day) end old new
opens_known policy h digest day wanted caller is old new end opens =
    subst (λ (found : Option Party). OpensAt (option_and_then (λ (c : Party). opened_for policy h day c (request.ListFiles wanted)) found) end old new)
    is opens

-- of a refusal nothing is said
pub opens_refused : (rows : Option ℕ) (why : Refusal) (old new : ℕ) → OpensAt rows (ended.Refused why) old new
opens_refused None why old new = tt
opens_refused (Some n) why old new = tt

-- a caller or a clock that is refused is given nothing
pub shows_nothing : {T : Type 0} (took : T → FileView → T → Bool → Type 0) (t : T) (why : Refusal) → RefusesCaller why →
    Shows took (Refused why) t t (ended.Refused why)
shows_nothing took t refusal.Caller known = (refl, refl)
shows_nothing took t refusal.Clock known = (refl, refl)
shows_nothing took t why known = absurd known
