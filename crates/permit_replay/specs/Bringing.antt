-- A store that is brought from a prefix of a text to its end.
use Rattle.std.specs.Prelude.{◌≡◌, ◌≤◌, ◌⊎◌, ◌++◌, ℕ, Bool, true, false, List, length, Option, Some, ⊤}
use Rattle.permit_model.specs.Tables.{Tables}
use Rattle.permit_replay.specs.Alike.{unordered}
use Rattle.permit_store.specs.declared.plain.PlainStore.{PlainStore}
use Rattle.permit_store.specs.Frames.{StoreView}
use Rattle.permit_history.specs.declared.entry.Entry.{Entry}
use Rattle.permit_history.specs.LineData.{text_of}
use Rattle.permit_history.specs.Text.{GivesInTurn}
use Rattle.permit_replay.specs.Histories.{Unsaid, Completes, history_by}
use Rattle.permit_replay.specs.Holding.{HoldsHistory}
use Rattle.permit_replay.specs.declared.opening.bringing.Brought.{Brought}
use Rattle.permit_replay.specs.declared.opening.fault.BringFault.{BringFault}
use Rattle.permit_replay.specs.declared.opening.fault.BringFault.TheVariants as fault
use Rattle.permit_replay.specs.declared.opening.fault.CompareFault.TheVariants as compare_fault
use Rattle.permit_replay.specs.Placing.{AreElsewhere, StandsLast}
use Rattle.permit_replay.specs.Prefixes.{IsTextOf, StopsAs}

-- by any tokens the entries give a history with the upgrade, whose tables are held
abbrev pub Stands : (Unsaid → Type 0) → (Tables → Type 0) → List Entry → Type 0
Stands begins holds entries = (unsaid : Unsaid) → Completes begins unsaid entries → HoldsHistory holds (history_by unsaid entries)

-- The text has so many whole lines, of so many bytes.
pub record HasLines (begins : Unsaid → Type 0) (bytes : List ℕ) (count size : ℕ) : Type 0 where
  pub entries : List Entry
  pub left : List ℕ
  pub text : IsTextOf begins bytes entries left
  pub lines : count ≡ length entries
  pub size_is : size ≡ length (text_of entries)

-- The store had the tables that a prefix of the text's lines gives, and no longer one, and holds those of the whole text now, but
-- for orders that no call shows.
pub record IsBrought (begins : Unsaid → Type 0) (bytes : List ℕ) (t : Tables) (store : StoreView) (brought : Brought) : Type 0 where
  pub entries : List Entry
  pub left : List ℕ
  pub text : IsTextOf begins bytes entries left
  pub stood : StandsLast begins brought.stood entries t
  pub lines : brought.lines ≡ length entries
  pub size : brought.length ≡ length (text_of entries)
  pub stands : Stands begins (unordered store).holds entries

-- the tables are those of no prefix of the text that has the upgrade
abbrev pub IsNowhere : (Unsaid → Type 0) → List ℕ → Tables → Type 0
IsNowhere begins bytes t = (entries : List Entry) × (left : List ℕ) × IsTextOf begins bytes entries left × AreElsewhere begins entries t

-- by any tokens of these entries and of the later ones
abbrev pub StandsBefore : (Unsaid → Type 0) → (Tables → Type 0) → List Entry → List Entry → Type 0
StandsBefore begins holds entries later =
    (unsaid : Unsaid) → Completes begins unsaid (entries ++ later) → HoldsHistory holds (history_by unsaid entries)

-- the longest prefix of all the entries that gives these tables is one of the first of them
abbrev pub StoodWithin : (Unsaid → Type 0) → List Entry → List Entry → Tables → Type 0
StoodWithin begins entries later t = (count : ℕ) × StandsLast begins count (entries ++ later) t × (count ≤ length entries)

-- the store holds these tables as before, or those that a prefix of the text gives, no shorter one than the longest that gives these
abbrev pub IsOnTheWay : (Unsaid → Type 0) → List ℕ → Tables → StoreView → Type 0
IsOnTheWay begins bytes t store =
    store.holds t ⊎ ((entries : List Entry) × (later : List Entry) × (left : List ℕ) × IsTextOf begins bytes (entries ++ later) left
    × StandsBefore begins (unordered store).holds entries later × StoodWithin begins entries later t)

-- the store holds the tables that a prefix of the entries gives, one of at least so many
abbrev pub StandsWithin : (Unsaid → Type 0) → ℕ → StoreView → List Entry → Type 0
StandsWithin begins least store entries =
    (first : List Entry) × (rest : List Entry) × (entries ≡ first ++ rest) × (least ≤ length first) × Stands begins (unordered store).holds first

-- a store that holds what both of these hold
abbrev pub in_both : StoreView → StoreView → StoreView
in_both memory store = record {
  holds = λ t. memory.holds t × store.holds t;
  doubt = store.doubt;
  handed = store.handed;
  failed = store.failed;
  commits = store.commits;
}

-- the store holds the tables that the entries give but the last of them, which wait; at least so many don't
abbrev pub StandsBehind : (Unsaid → Type 0) → ℕ → List Entry → List Entry → StoreView → Type 0
StandsBehind begins least entries waiting store =
    (done : List Entry) × (entries ≡ done ++ waiting) × (least ≤ length done) × Stands begins (unordered store).holds done

-- what is left of a text, if it is known, gives these entries in turn
abbrev pub GivesFrom : Option (List ℕ) → List Entry → List ℕ → Type 0
GivesFrom remaining entries left = (bytes : List ℕ) × (remaining ≡ Some bytes) × GivesInTurn bytes entries left

-- Replaying the text stops there. Of another fault nothing is said.
abbrev pub IsStopped : (PlainStore → StoreView) → (Unsaid → Type 0) → List ℕ → BringFault → Type 0
IsStopped view begins bytes (fault.Stopped why) = StopsAs view begins bytes why
IsStopped view begins bytes fault.Differs = ⊤
IsStopped view begins bytes fault.Again = ⊤

-- whether lines may have been done on the store before the fault
abbrev pub may_have_done : BringFault → Bool
may_have_done fault.Differs = false
may_have_done fault.Again = true
may_have_done (fault.Stopped compare_fault.Store) = true
may_have_done (fault.Stopped (compare_fault.Text why)) = false
may_have_done (fault.Stopped compare_fault.Long) = false
