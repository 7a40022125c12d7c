-- What is brought over a store is shown by its connection.
use Rattle.std.proofs.Common.{◌≡◌, inl, inr, sym, subst, ℕ, List, Option}
use Rattle.sqlite_trees.specs.declared.store.Store.{Ghosts}
use Rattle.sqlite.specs.State.{State, HasCleanDisk}
use Rattle.sqlite.specs.Held.{Held, state}
use Rattle.permit_model.specs.Tables.{Tables}
use Rattle.permit_replay.specs.Alike.{unordered}
use Rattle.permit_replay.specs.Bringing.{IsBrought, IsOnTheWay}
use Rattle.permit_replay.specs.declared.opening.bringing.Brought.{Brought}
use Rattle.permit_replay.specs.Histories.{Unsaid}
use Rattle.permit_replay.specs.Holding.{HoldsHistory}
use Rattle.permit_model.specs.History.{History}
use Rattle.permit_sql.specs.Seen.{seen}
use Rattle.permit_database.specs.Opening.{shown}

module _ (begins : Unsaid → Type 0) (s : State) (upgrade : Option ℕ) (handed failed commits : ℕ) (clean : HasCleanDisk s) where
  history_shown : (h : History) → HoldsHistory (unordered (seen s upgrade handed failed commits)).holds h → HoldsHistory (unordered (shown s)).holds h
  history_shown h has = record {
    history = has.history;
    upgraded = has.upgraded;
    held = (has.held.0, (has.held.1 clean).1, has.held.2);
  }

  brought_shown : (bytes : List ℕ) (t : Tables) (brought : Brought) → IsBrought begins bytes t (seen s upgrade handed failed commits) brought
      → IsBrought begins bytes t (shown s) brought
  brought_shown bytes t brought is = record {
    entries = is.entries;
    left = is.left;
    text = is.text;
    stood = is.stood;
    lines = is.lines;
    size = is.size;
    stands = λ unsaid have. history_shown _ (is.stands unsaid have);
  }

  way_shown : (bytes : List ℕ) (t : Tables) → IsOnTheWay begins bytes t (seen s upgrade handed failed commits) → IsOnTheWay begins bytes t (shown s)
  way_shown bytes t (inl held) = inl (held clean).1
  way_shown bytes t (inr (entries, later, left, text, stands, stood)) =
      inr (entries, later, left, text, λ unsaid have. history_shown _ (stands unsaid have), stood)

-- the same of the connection that the store gave back
module _ {S : Type 0} (g : Ghosts S) (now back : Held S) (upgrade : Option ℕ) (handed failed commits : ℕ) (same : back ≡ now)
    (clean : HasCleanDisk (state g back)) where
  pub clean_there : HasCleanDisk (state g now)
  clean_there = subst (λ (h : Held S). HasCleanDisk (state g h)) same clean

  pub brought_back : (begins : Unsaid → Type 0) (bytes : List ℕ) (t : Tables) (brought : Brought)
      → IsBrought begins bytes t (seen (state g now) upgrade handed failed commits) brought → IsBrought begins bytes t (shown (state g back)) brought
  brought_back begins bytes t brought is = subst (λ (h : Held S). IsBrought begins bytes t (shown (state g h)) brought) (sym same)
      (brought_shown begins (state g now) upgrade handed failed commits clean_there bytes t brought is)

  pub way_back : (begins : Unsaid → Type 0) (bytes : List ℕ) (t : Tables) → IsOnTheWay begins bytes t (seen (state g now) upgrade handed failed commits)
      → IsOnTheWay begins bytes t (shown (state g back))
  way_back begins bytes t way = subst (λ (h : Held S). IsOnTheWay begins bytes t (shown (state g h))) (sym same)
      (way_shown begins (state g now) upgrade handed failed commits clean_there bytes t way)
