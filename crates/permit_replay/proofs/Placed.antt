-- The place of a store in a text, with one more line.
use Rattle.std.proofs.Common.{◌≡◌, ◌<◌, ◌≤◌, inl, inr, refl, sym, ◌∙◌, subst, ℕ, zero, suc, ◌+◌, Bool, true, false, List, [], ◌∷◌, ◌++◌, length, take, Option, None, Some, arith}
use Rattle.std.specs.Prelude.{◌⊎◌, Result, Ok, Err, IfOk}
use Rattle.std.specs.Bool.{Decides, then_some}
use Rattle.std.specs.Option.{option_or}
use Rattle.std.proofs.lemmas.Bool.{false≢true}
use Rattle.std.proofs.lemmas.List.{take_all, take-append-le}
use Rattle.permit_base.specs.declared.words.Edition.TheVariants.{Second}
use Rattle.permit_model.specs.History.{History, edition}
use Rattle.permit_model.specs.Machine.{IsHistory}
use Rattle.permit_model.specs.Sound.{IsSoundTables}
use Rattle.permit_model.specs.Tables.{Desk, Tables, tables}
use Rattle.permit_replay.specs.Alike.{AreAlike}
use Rattle.permit_store.specs.declared.plain.PlainStore.{PlainStore}
use Rattle.permit_store.specs.Frames.{OverTables, StoreView}
use Rattle.permit_history.specs.declared.entry.Entry.{Entry}
use Rattle.permit_history.specs.LineData.{text_of}
use Rattle.permit_history.specs.Text.{next_line}
use Rattle.permit_replay.specs.declared.replayed.Replayed.{Replayed}
use Rattle.permit_replay.specs.declared.replayed.Replayed.TheVariants as replayed
use Rattle.permit_replay.specs.Histories.{Unsaid, Completes, history_by}
use Rattle.permit_replay.specs.Holding.{Holds}
use Rattle.permit_replay.proofs.Reading.{one_more}
use Rattle.permit_replay.specs.Placing.{AreElsewhere, AreUpgraded, IsPlaceIn, IsWhere, StandsLast, TellNone}
use Rattle.permit_replay.specs.declared.opening.placing.Place.{Place}
use Rattle.permit_replay.specs.Opening.{TellTables}
use Rattle.permit_replay.specs.Telling.{GoesOn, HasTold, IsAtLine}
use Rattle.permit_replay.specs.declared.text.Progress.TheVariants as progress
use Rattle.permit_replay.proofs.Lines.{at_next}
use Rattle.permit_replay.proofs.Opened.{text_known}
use Rattle.permit_replay.proofs.SoundTables.{BeginsFine, sound}

-- ---- the prefixes that give the tables

all_or_fewer : (count before : ℕ) → count ≤ before + 1 → (count ≤ before) ⊎ (count ≡ before + 1)
all_or_fewer count before few = grind arith

-- before the first line there are none
pub elsewhere_first : (begins : Unsaid → Type 0) (t : Tables) → AreElsewhere begins [] t
elsewhere_first begins t zero few = λ unsaid have second alike. absurd cc
elsewhere_first begins t (suc count) few = absurd (omega (arith, few))

-- of the prefixes past this one, where the next whole one gives others
none_more : (begins : Unsaid → Type 0) (entries : List Entry) (entry : Entry) (t : Tables) (past : ℕ → Type 0)
    → ((count : ℕ) → past count → count ≤ length entries → TellNone begins (take count entries) t) → TellNone begins (entries ++ entry ∷ []) t
    → (count : ℕ) → past count → count ≤ length (entries ++ entry ∷ []) → TellNone begins (take count (entries ++ entry ∷ [])) t
none_more begins entries entry t past before here count is_past few = by (all_or_fewer count (length entries) (omega (arith, few, one_more entries entry)))
  where
    by : (count ≤ length entries) ⊎ (count ≡ length entries + 1) → TellNone begins (take count (entries ++ entry ∷ [])) t
    by (inl fewer) = subst (λ es. TellNone begins es t) (sym (take-append-le count entries (entry ∷ []) fewer)) (before count is_past fewer)
    by (inr all) = subst (λ es. TellNone begins es t) (sym (take_all count (entries ++ entry ∷ []) (omega (arith, all, one_more entries entry)))) here

elsewhere_more : (begins : Unsaid → Type 0) (entries : List Entry) (entry : Entry) (t : Tables) → AreElsewhere begins entries t → TellNone begins (entries ++ entry ∷ []) t
    → AreElsewhere begins (entries ++ entry ∷ []) t
elsewhere_more begins entries entry t before here count few =
    none_more begins entries entry t (λ n. Unit {0}) (λ n past fewer. before n fewer) here count tt few

-- a prefix stays the longest, where the next whole one gives others
last_more : (begins : Unsaid → Type 0) (count : ℕ) (entries : List Entry) (entry : Entry) (t : Tables) → StandsLast begins count entries t
    → TellNone begins (entries ++ entry ∷ []) t → StandsLast begins count (entries ++ entry ∷ []) t
last_more begins count entries entry t stands here = record {
  few = omega (arith, stands.few, one_more entries entry);
  tells = subst (λ es. TellTables begins es t) (sym (take-append-le count entries (entry ∷ []) stands.few)) stands.tells;
  upgraded = subst (AreUpgraded begins) (sym (take-append-le count entries (entry ∷ []) stands.few)) stands.upgraded;
  last = none_more begins entries entry t (λ more. count < more) stands.last here;
}

-- all entries are the longest
last_all : (begins : Unsaid → Type 0) (count : ℕ) (entries : List Entry) (t : Tables) → count ≡ length entries → TellTables begins entries t → AreUpgraded begins entries
    → StandsLast begins count entries t
last_all begins count entries t all tells upgraded = record {
  few = omega (arith, all);
  tells = subst (λ es. TellTables begins es t) (sym (take_all count entries (omega (arith, all)))) tells;
  upgraded = subst (AreUpgraded begins) (sym (take_all count entries (omega (arith, all)))) upgraded;
  last = λ more above few. absurd (omega (arith, all, above, few));
}

-- whether the tables are those that the entries give
abbrev pub IsFound : (Unsaid → Type 0) → Bool → List Entry → Tables → Type 0
IsFound begins true entries t = TellTables begins entries t × AreUpgraded begins entries
IsFound begins false entries t = TellNone begins entries t

pub where_more : (begins : Unsaid → Type 0) (o : Option ℕ) (here : Bool) (count : ℕ) (entries : List Entry) (entry : Entry) (t : Tables) → IsWhere begins o entries t
    → IsFound begins here (entries ++ entry ∷ []) t → count ≡ length entries + 1 → IsWhere begins (option_or (then_some here count) o) (entries ++ entry ∷ []) t
where_more begins o true count entries entry t was (tells, upgraded) all =
    last_all begins count (entries ++ entry ∷ []) t (all ∙ sym (one_more entries entry)) tells upgraded
where_more begins None false count entries entry t was none all = elsewhere_more begins entries entry t was none
where_more begins (Some before) false count entries entry t was none all = last_more begins before entries entry t was none

-- ---- whether the tables are those of a store

-- tables with another desk aren't alike
pub other_desk : (u t : Tables) (here desk : Desk) (same : Bool) → Decides same (here ≡ desk) → same ≡ false → here ≡ u.desk → t.desk ≡ desk
    → Decides false (AreAlike u t)
other_desk u t here desk same decides is one other =
    (λ e. absurd (false≢true e), λ alike. absurd (false≢true (sym is ∙ decides.1 (one ∙ alike.desk ∙ other))))

both : (same : Bool) (P Q : Type 0) → P → Decides same Q → Decides same (P × Q)
both same P Q p decides = (λ is. (p, decides.0 is), λ pq. decides.1 pq.1)

pub both_ok : {E : Type 0} (r : Result Bool E) (P Q : Type 0) → P → IfOk r (λ same. Decides same Q) → IfOk r (λ same. Decides same (P × Q))
both_ok (Ok same) P Q p decides = both same P Q p decides
both_ok (Err e) P Q p decides = tt

-- a history that is held and has the upgrade is one
history_held : (view : PlainStore → StoreView) (unsaid : Unsaid) (as_far : Replayed) (h : History) → Holds view unsaid as_far h → edition h ≡ Second → IsHistory h
history_held view unsaid (replayed.Nothing first) h holds second = let one = subst (λ (hs : History). edition hs ≡ Second) holds.0 second in absurd cc
history_held view unsaid (replayed.Founded founder) h holds second = let first = subst (λ (hs : History). edition hs ≡ Second) holds second in absurd cc
history_held view unsaid (replayed.Open store) h holds second = holds.history

-- whether the tables that were replayed are these
pub found_so : {view : PlainStore → StoreView} {begins : Unsaid → Type 0} {bytes left : List ℕ} {entries : List Entry} {as_far : Replayed} (fine : BeginsFine begins) (t : Tables) (here : Bool)
    → HasTold view begins bytes entries left as_far
    → ((unsaid : Unsaid) (h : History) → Holds view unsaid as_far h → (IsHistory h → IsSoundTables (tables h)) → Decides here ((edition h ≡ Second) × AreAlike (tables h) t))
    → IsFound begins here entries t
found_so {view} {begins} {bytes} {left} {entries} {as_far} fine t here has answers = by here said
  where
    said : (unsaid : Unsaid) → Completes begins unsaid entries
        → Decides here ((edition (history_by unsaid entries) ≡ Second) × AreAlike (tables (history_by unsaid entries)) t)
    said unsaid have = answers unsaid (history_by unsaid entries) (has.as_far.held unsaid have) (sound begins unsaid entries fine have has.within)

    by : (b : Bool) → ((unsaid : Unsaid) → Completes begins unsaid entries
        → Decides b ((edition (history_by unsaid entries) ≡ Second) × AreAlike (tables (history_by unsaid entries)) t)) → IsFound begins b entries t
    by true decides = (
      λ unsaid have.
          let is = (decides unsaid have).0 refl in
          (history_held view unsaid as_far (history_by unsaid entries) (has.as_far.held unsaid have) is.0, is.1),
      λ unsaid have. ((decides unsaid have).0 refl).0,
    )
    by false decides = λ unsaid have second alike. absurd (false≢true ((decides unsaid have).1 (second, alike)))

-- ---- a text that is read beside a store

-- the store was only read, and has its place in the lines that were replayed
pub record IsPlaced (view : PlainStore → StoreView) (begins : Unsaid → Type 0) (bytes : List ℕ) (remaining : Option (List ℕ)) (line : ℕ) (replayed : Replayed) (old new : StoreView) (place : Place) : Type 0 where
  pub at : IsAtLine view begins bytes remaining line replayed
  pub lines : place.lines ≡ length at.entries
  pub size : place.length ≡ length (text_of at.entries)
  pub stood : OverTables old new (λ t. IsSoundTables t → IsWhere begins place.stood at.entries t)

pub placed_more : {view : PlainStore → StoreView} {begins : Unsaid → Type 0} {bytes : List ℕ} {o : Option (List ℕ)} {line : ℕ} {before : Replayed} {old mid : StoreView} {place : Place}
    (p : Option (List ℕ)) (size : ℕ) (more : Replayed) (new : StoreView) (after : Place) (placed : IsPlaced view begins bytes o line before old mid place)
    (on : GoesOn view begins bytes placed.at.entries placed.at.left p size (progress.Line more)) → (after.lines ≡ line) × (after.length ≡ place.length + size)
    → OverTables old new (λ t. IsSoundTables t → IsWhere begins after.stood (placed.at.entries ++ on.0 ∷ []) t) → IsPlaced view begins bytes p (line + 1) more old new after
placed_more p size more new after placed on (lines, length_is) stood = record {
  at = at_next p size more placed.at on;
  lines = lines ∙ placed.at.counted ∙ sym (one_more placed.at.entries on.0);
  size = omega (arith, length_is, placed.size, on.3);
  stood = stood;
}

pub placed_end : {view : PlainStore → StoreView} {begins : Unsaid → Type 0} {bytes : List ℕ} {remaining : Option (List ℕ)} {line : ℕ} {as_far : Replayed} {old new : StoreView} {place : Place} {store : PlainStore}
    (placed : IsPlaced view begins bytes remaining line as_far old new place) → HasTold view begins bytes placed.at.entries placed.at.left (replayed.Open store)
    → next_line placed.at.left ≡ None → IsPlaceIn begins bytes old new place
placed_end placed has end = record {
  entries = placed.at.entries;
  left = placed.at.left;
  text = text_known has end;
  lines = placed.lines;
  size = placed.size;
  stood = placed.stood;
}
