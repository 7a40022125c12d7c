-- A text that begins with an office that was there.
use Rattle.std.proofs.Common.{◌≡◌, ◌≤◌, sym, ap, ◌∙◌, ℕ, Bool, true, false, List, [], None, Some}
use Rattle.std.specs.Prelude.{Ok, Err, not, bytes_eq, if◌then◌else◌, ◌==◌}
use Rattle.std.proofs.lemmas.Bool.{eq-eqb, ne_eqb, not-false}
use Rattle.permit_base.specs.Limits.{latest_day}
use Rattle.permit_model.specs.History.{History, last_day}
use Rattle.permit_model.specs.Machine.{IsHistory}
use Rattle.permit_model.specs.Sound.{IsSoundTables}
use Rattle.permit_model.specs.Tables.{Tables, tables}
use Rattle.permit_model.specs.Within.{AreWithinLimits}
use Rattle.permit_model.proofs.SoundOffice.{desk_sound, numbering_sound, parties_sound, parcels_sound}
use Rattle.permit_model.proofs.SoundFilings.{filings_sound, stages_sound}
use Rattle.permit_model.proofs.SoundPapers.{papers_sound}
use Rattle.permit_model.proofs.SoundRows.{work_sound}
use Rattle.permit_store.specs.declared.plain.PlainStore.{PlainStore}
use Rattle.permit_store.specs.Frames.{StoreView}
use Rattle.permit_history.specs.declared.entry.Deed.TheVariants as deed
use Rattle.permit_replay.specs.declared.beginning.Beginning.TheVariants as beginning
use Rattle.permit_replay.specs.declared.beginning.CopiedTables.{CopiedTables}
use Rattle.permit_replay.specs.declared.fault.Why.TheVariants as why
use Rattle.permit_replay.specs.declared.replayed.Replayed.TheVariants as replayed
use Rattle.permit_replay.specs.Against.{against_copy}
use Rattle.permit_replay.specs.Histories.{Unsaid}
use Rattle.permit_replay.specs.Holding.{IsBeginning, Takes}

-- the tables of a history are sound whose entries are within the limits
pub sound_tables : (h : History) → IsHistory h → AreWithinLimits h → last_day h ≤ latest_day → IsSoundTables (tables h)
sound_tables h is limits time = record {
  desk = desk_sound h is time;
  numbering = numbering_sound h is;
  parties = parties_sound h is limits;
  parcels = parcels_sound h is limits;
  filings = filings_sound h is limits;
  stages = stages_sound h is time;
  work = work_sound h is limits;
  papers = papers_sound h is limits;
}

-- ---- the first line

first_test : (b : Bool) (day last : ℕ) → b ≡ true → day ≡ last
    → (if b then if day == last then None else Some why.CopyDay else Some why.OtherCopy) ≡ None
first_test true day last is same = ap (λ (b : Bool). if b then None else Some why.CopyDay) (eq-eqb day last same)
first_test false day last is same = absurd cc

-- where the digest is that of the copy and the day its last one
pub taken : (view : PlainStore → StoreView) (copy : CopiedTables) (store : PlainStore) (unsaid : Unsaid) (day last : ℕ) (digest : List ℕ)
    → IsBeginning view (beginning.Copy copy) unsaid → false ≡ not (bytes_eq digest copy.tables) → day ≡ last
    → ((t : Tables) → (view copy.store).holds t → last ≡ t.desk.last)
    → ((t : Tables) → (view copy.store).holds t → (view store).holds t)
    → Takes view unsaid [] day (deed.Begin digest) (Ok (replayed.Open store))
taken view copy store unsaid day last digest (begun, same, of) digests days desk kept = rw same (
  first_test (bytes_eq digest begun.tables) day (last_day begun.history) (ap (bytes_eq digest) of.tables ∙ not-false _ (sym digests))
      (days ∙ desk (tables begun.history) of.held.held),
  record { history = of.held.history; upgraded = of.held.upgraded; held = kept (tables begun.history) of.held.held },
)

-- another day
pub day_taken : (view : PlainStore → StoreView) (copy : CopiedTables) (unsaid : Unsaid) (day last : ℕ) (digest : List ℕ)
    → IsBeginning view (beginning.Copy copy) unsaid → false ≡ not (bytes_eq digest copy.tables) → (day ≡ last → ⊥)
    → ((t : Tables) → (view copy.store).holds t → last ≡ t.desk.last)
    → Takes view unsaid [] day (deed.Begin digest) (Err why.CopyDay)
day_taken view copy unsaid day last digest (begun, same, of) digests days desk =
    ap (λ o. against_copy o digest day) same
    ∙ ap (λ (b : Bool). if b then if day == last_day begun.history then None else Some why.CopyDay else Some why.OtherCopy)
    (ap (bytes_eq digest) of.tables ∙ not-false _ (sym digests))
    ∙ ap (λ (b : Bool). if b then None else Some why.CopyDay) (ne_eqb day (last_day begun.history) (λ one. days (one ∙ sym (desk (tables begun.history) of.held.held))))
