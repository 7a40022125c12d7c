-- What a text says of tables that were compared with those of its lines.
use Rattle.std.proofs.Common.{◌≡◌, refl, sym, ap, ◌∙◌, ℕ, List, ◌++◌, length, take, Option, None, Some}
use Rattle.std.specs.Prelude.{IfNone, IfSome, is_none}
use Rattle.std.specs.Bool.{Decides}
use Rattle.std.proofs.lemmas.List.{take_at}
use Rattle.permit_model.specs.Sound.{IsSoundTables}
use Rattle.permit_model.specs.Tables.{Tables, tables}
use Rattle.permit_replay.specs.Alike.{AreAlike}
use Rattle.permit_replay.specs.Differing.{IsFirstDifference}
use Rattle.permit_replay.specs.declared.alike.differing.Difference.{Difference}
use Rattle.permit_store.specs.declared.plain.PlainStore.{PlainStore}
use Rattle.permit_store.specs.Frames.{StoreView}
use Rattle.permit_history.specs.declared.entry.Entry.{Entry}
use Rattle.permit_history.specs.Text.{next_line}
use Rattle.permit_history.specs.LineData.{text_of}
use Rattle.permit_history.proofs.LineByLine.{gives_only}
use Rattle.permit_replay.specs.declared.replayed.Replayed.TheVariants as replayed
use Rattle.permit_replay.specs.Histories.{Unsaid, history_by}
use Rattle.permit_replay.specs.Opening.{DiffersFirst, IsAlike}
use Rattle.permit_replay.specs.Telling.{HasTold, IsToldWhole}
use Rattle.permit_replay.specs.Prefixes.{IsTextOf}
use Rattle.permit_replay.proofs.SoundTables.{BeginsFine, sound}

-- the bytes of the text's lines
pub whole_length : (entries : List Entry) (bytes left : List ℕ) (size : ℕ) → bytes ≡ text_of entries ++ left → size ≡ length (text_of entries)
    → take size bytes ≡ text_of entries
whole_length entries bytes left size cut of = ap (take size) cut ∙ take_at (text_of entries) left size (sym of)

-- a text that was replayed to its end is that of its entries
pub text_known : {view : PlainStore → StoreView} {begins : Unsaid → Type 0} {bytes left : List ℕ} {entries : List Entry} {store : PlainStore}
    → HasTold view begins bytes entries left (replayed.Open store) → next_line left ≡ None → IsTextOf begins bytes entries left
text_known {view} {begins} {bytes} {left} {entries} has end = record {
  text = gives_only bytes entries left has.as_far.given;
  given = has.as_far.given;
  end = end;
  within = has.within;
  next = has.next;
  history = λ unsaid have. (has.as_far.held unsaid have).history;
  told = has.as_far.told;
}

-- where no place was found, the tables are those of the text
pub none_found : {view : PlainStore → StoreView} {begins : Unsaid → Type 0} {bytes : List ℕ} {store : PlainStore} (fine : BeginsFine begins) (t : Tables) (found : Option Difference)
    → IsToldWhole view begins bytes store → ((u : Tables) → (view store).holds u → IsSoundTables u → Decides (is_none found) (AreAlike u t))
    → IfNone found ((size : ℕ) × IsAlike begins bytes t size)
none_found fine t (Some place) whole decides = tt
none_found {view} {begins} fine t None whole decides = (
  length (text_of whole.entries),
  (
    whole.entries,
    whole.left,
    text_known whole.told whole.end,
    λ unsaid have.
        let told = whole.told in
        let held = told.as_far.held unsaid have in
        (held.history, (decides (tables (history_by unsaid whole.entries)) held.held (sound begins unsaid whole.entries fine have told.within held.history)).0 refl),
    refl,
  ),
)

-- where one was found, the tables differ there first from those of the text
pub place_found : {view : PlainStore → StoreView} {begins : Unsaid → Type 0} {bytes : List ℕ} {store : PlainStore} (t : Tables) (found : Option Difference)
    → IsToldWhole view begins bytes store → ((u : Tables) → (view store).holds u → IfSome found (IsFirstDifference u t)) → IfSome found (DiffersFirst begins bytes t)
place_found t None whole said = tt
place_found t (Some place) whole said = (
  whole.entries,
  whole.left,
  text_known whole.told whole.end,
  λ unsaid have. let told = whole.told in said (tables (history_by unsaid whole.entries)) (told.as_far.held unsaid have).held,
)
