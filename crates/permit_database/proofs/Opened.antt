-- A store that was opened over a connection, and what comes of that.
use Rattle.std.proofs.Common.{◌≡◌, ◌≤◌, ℕ, List, [], Option, Ok, Err, refl, sym, ◌∙◌, ap, subst, arith, inl, inr}
use Rattle.std.specs.Prelude.{IsTrue, ⊤}
use Rattle.sqlite_trees.specs.View.{doubt}
use Rattle.sqlite_trees.specs.declared.store.Store.{Ghosts}
use Rattle.sqlite.specs.Effect.{Database}
use Rattle.sqlite.specs.State.{HasCleanDisk}
use Rattle.sqlite.specs.Held.{Held, state}
use Rattle.sqlite_schema.specs.declared.schema.Schema.{Schema}
use Rattle.permit_base.specs.declared.words.Edition.TheVariants.{Second}
use Rattle.permit_journal.specs.Files.{FileView}
use Rattle.permit_journal.specs.Journals.{JournalView}
use Rattle.permit_model.specs.Sound.{IsSoundTables}
use Rattle.permit_model.specs.Tables.{Tables, tables}
use Rattle.permit_replay.proofs.SoundTables.{BeginsFine, begins_fine, sound}
use Rattle.permit_replay.specs.Alike.{AreAlike, unordered}
use Rattle.permit_replay.specs.Comparing.{Looks}
use Rattle.permit_replay.specs.Histories.{Unsaid, history_by}
use Rattle.permit_replay.specs.Holding.{IsBeginning}
use Rattle.permit_replay.specs.Placing.{IsPlaceIn}
use Rattle.permit_replay.specs.declared.beginning.Beginning.{Beginning}
use Rattle.permit_replay.specs.declared.opening.placing.Place.{Place}
use Rattle.permit_recorded.specs.Resuming.{IsResumed}
use Rattle.permit_store.specs.Frames.{StoreView, Reads}
use Rattle.permit_store.specs.declared.plain.PlainStore.{PlainStore}
use Rattle.permit_store.specs.declared.store.OpenError.{OpenError}
use Rattle.permit_sql_rows.specs.Kept.{Keeps, Shows}
use Rattle.permit_sql_rows.specs.Schema.{empty_schema, schema_in}
use Rattle.permit_sql.specs.Found.{KeepsSound}
use Rattle.permit_sql.specs.Opening.{HasOtherVersion}
use Rattle.permit_sql.specs.Seen.{seen}
use Rattle.permit_database.specs.Opening.{IsBase, IsOnlyRead, IsOver, Opens, OpensInMemory, OpensWith, Refuses, StillShows, shown}
use Rattle.permit_database.specs.Served.{IsLoaded, IsUnloaded}

-- a doubt that isn't there later wasn't there before
pub none_before : (before after : ℕ) → before ≤ after → after ≡ 0 → before ≡ 0
none_before before after at_most none = omega (arith, at_most, none)

still_clean : (n m old new : ℕ) → new ≡ 0 → old ≤ m → m ≡ new → old ≡ n → n ≡ 0
still_clean n m old new none less same is = omega arith

module _ {S : Type 0} (g : Ghosts S) where
  pub clean_of : (now back : Held S) → back ≡ now → HasCleanDisk (state g back) → HasCleanDisk (state g now)
  clean_of now back same clean = subst (λ (h : Held S). HasCleanDisk (state g h)) same clean

  -- what a store's connection showed, the one that comes back shows
  pub shown_back : (now back : Held S) → back ≡ now → (t : Tables) → (HasCleanDisk (state g now) → Shows t (state g now)) → HasCleanDisk (state g back)
      → Shows t (state g back)
  shown_back now back same t there clean = subst (λ (h : Held S). Shows t (state g h)) (sym same) (there (clean_of now back same clean))

  -- the store that an open gave, given a flag or not
  pub is_over : (conn was now : Held S) (upgrade upgrade' : Option ℕ) (handed failed commits handed' failed' commits' : ℕ) →
      ((t : Tables) → (HasCleanDisk (state g was) → Shows t (state g conn)) → (seen (state g was) upgrade handed failed commits).holds t) →
      (HasCleanDisk (state g was) → KeepsSound (state g was).now) → (HasCleanDisk (state g was) → (state g was).now ≡ (state g conn).now) →
      (HasCleanDisk (state g was) → ¬ HasOtherVersion Second (state g conn).now) → (handed ≡ 0) × (failed ≡ 0) × (commits ≡ 0) →
      now ≡ was → upgrade' ≡ upgrade → (handed' ≡ handed) × (failed' ≡ failed) × (commits' ≡ commits) →
      IsOver g conn now (seen (state g now) upgrade' handed' failed' commits')
  is_over conn was now upgrade upgrade' handed failed commits handed' failed' commits' held keeps left first counts same told counted = record {
    held = λ t shows clean.
        let was_held = held t (λ _. shows) (clean_of was now same clean) in
        (was_held.0 ∙ sym told, subst (λ (h : Held S). Shows t (state g h)) (sym same) was_held.1);
    sound = λ clean. let before = clean_of was now same clean in subst KeepsSound (left before) (keeps before);
    first = λ clean. first (clean_of was now same clean);
    doubt = refl;
    counts = (counted.0 ∙ counts.0, counted.1 ∙ counts.1, counted.2 ∙ counts.2);
  }

  -- an office whose store was read once
  pub opens : {A E : Type 0} (conn was now : Held S) (old new : StoreView) (office : A) →
      IsOver g conn was old → Reads {A = A} {E = E} ⊤ old.handed old new (Ok office) → new.doubt ≡ doubt (state g now).is_clean →
      Opens g conn now new
  opens conn was now old new office over read same = record {
    over = record {
      held = λ t shows. read.kept t (over.held t shows);
      sound = λ clean. over.sound (still_clean (doubt (state g was).is_clean) new.doubt old.doubt (doubt (state g now).is_clean)
          clean read.doubt same over.doubt);
      first = λ clean. over.first (still_clean (doubt (state g was).is_clean) new.doubt old.doubt (doubt (state g now).is_clean)
          clean read.doubt same over.doubt);
      doubt = same;
      counts = (read.handed ∙ over.counts.0, read.failed ∙ over.counts.1, read.commits ∙ over.counts.2);
    };
    one = λ none. read.one none tt;
  }

  -- an office with the tables of such a store in memory
  pub opens_in_memory : (conn was now : Held S) (old new : StoreView) → IsOver g conn was old → IsLoaded old new →
      new.doubt ≡ doubt (state g now).is_clean → OpensInMemory g conn now new
  opens_in_memory conn was now old new over loaded same = record {
    held = λ t shows sound. loaded.held t (over.held t shows) sound;
    first = λ clean. over.first (still_clean (doubt (state g was).is_clean) new.doubt old.doubt (doubt (state g now).is_clean)
        clean loaded.doubt same over.doubt);
    doubt = same;
    counts = loaded.counts;
    one = loaded.one;
  }

  -- such a store that came back for want of memory, and gave its connection back
  pub still_shows : (conn was now back : Held S) (upgrade : Option ℕ) (handed failed commits : ℕ) (old : StoreView) → IsOver g conn was old →
      IsUnloaded old (seen (state g now) upgrade handed failed commits) → back ≡ now → StillShows g conn back
  still_shows conn was now back upgrade handed failed commits old over unloaded same = record {
    kept = λ t shows sound. shown_back now back same t (λ clean. (unloaded.held t (over.held t shows) sound clean).1);
    first = λ clean. over.first (still_clean (doubt (state g was).is_clean) (doubt (state g now).is_clean) old.doubt (doubt (state g now).is_clean)
        (clean_of now back same clean) unloaded.doubt refl over.doubt);
  }

  -- such a store that was only read, and gave its connection back
  pub looked : (conn was now back : Held S) (upgrade : Option ℕ) (handed failed commits : ℕ) (old : StoreView) → IsOver g conn was old →
      Looks old (seen (state g now) upgrade handed failed commits) → back ≡ now → IsOnlyRead g conn back
  looked conn was now back upgrade handed failed commits old over looks same = record {
    kept = λ t keeps sound. shown_back now back same t (λ clean. (looks.kept t (over.held t (λ _. keeps)) clean).1);
    unsound = λ none fine. absurd (none (over.sound (still_clean (doubt (state g was).is_clean) (doubt (state g now).is_clean) old.doubt
        (doubt (state g now).is_clean) (clean_of now back same fine.0) looks.doubt refl over.doubt)));
  }

  -- the place of its tables in a text, over what the two connections show
  pub place_shown : (begins : Unsaid → Type 0) (bytes : List ℕ) (place : Place) (conn was now back : Held S) (upgrade : Option ℕ) (handed failed commits : ℕ)
      (old : StoreView) → IsOver g conn was old → IsPlaceIn begins bytes old (seen (state g now) upgrade handed failed commits) place → back ≡ now
      → IsPlaceIn begins bytes (shown (state g conn)) (shown (state g back)) place
  place_shown begins bytes place conn was now back upgrade handed failed commits old over placed same = record {
    entries = placed.entries;
    left = placed.left;
    text = placed.text;
    lines = placed.lines;
    size = placed.size;
    stood = λ clean t shows sound. placed.stood (clean_of now back same clean) t (over.held t shows) sound;
  }

  -- a database that isn't opened was only read
  pub refused_back : (conn back : Held S) (why : OpenError) → Refuses g conn back why → IsOnlyRead g conn back
  refused_back conn back why refuses = record {
    kept = λ t keeps sound clean opened. refuses.kept t keeps (clean, opened);
    unsound = refuses.unsound;
  }

-- ---- with the history

-- an empty database keeps no tables
pub none_kept : (db : Database) (t : Tables) → db.schema ≡ empty_schema → Keeps t db → ⊥
none_kept db t empty keeps =
    let none : (schema_in keeps.schema.order).tables ≡ [] = ap (λ (s : Schema). s.tables) (sym keeps.schema.is ∙ empty) in absurd cc

-- tables are alike to themselves
pub alike_itself : (t : Tables) → AreAlike t t
alike_itself t = record {
  desk = refl;
  upgrade = refl;
  parties = refl;
  parcels = refl;
  interests = λ parcel party. refl;
  files = refl;
  papers = λ file. refl;
}

-- what the connection was before the redo is known as far as the file that comes back is clean
pub base_on : {S H : Type 0} (g : Ghosts S) (begins : Unsaid → Type 0) (view : H → FileView) (conn from : Held S) (text : List ℕ) (file left : H)
    → (IsTrue (view left).is_clean → IsTrue (view file).is_clean) → IsBase g begins view conn from text file → IsBase g begins view conn from text left
base_on g begins view conn from text file left clean (inl same) = inl same
base_on g begins view conn from text file left clean (inr made) = inr record {
  empty = made.empty;
  founder = made.founder;
  told = λ read. made.told (clean read);
  made = made.made;
  crash = made.crash;
}

-- a store that holds what another one did has the tables of the text
abbrev pub resumed_on : (begins : Unsaid → Type 0) (text : List ℕ) (old new : StoreView) → BeginsFine begins
    → ((t : Tables) → old.holds t → IsSoundTables t → new.holds t) → IsResumed begins text old → IsResumed begins text new
resumed_on begins text old new fine kept was = record {
  entries = was.entries;
  text_is = was.text_is;
  within = was.within;
  has = λ unsaid have.
      let h = was.has unsaid have in
      record {
        history = h.history;
        held = kept (tables (history_by unsaid was.entries)) h.held (sound begins unsaid was.entries fine have was.within h.history);
        told = h.told;
      };
  meant_is = was.meant_is;
}

module _ {S H : Type 0} (g : Ghosts S) (plain : PlainStore → StoreView) (beginning : Beginning) (view : H → FileView) where
  -- an office with its history, over a store that holds what the one did which was opened
  pub opens_on : (conn was now : Held S) (before : List ℕ) (old new : StoreView) (journal left : JournalView H) (redone : ℕ)
      → OpensWith g (IsBeginning plain beginning) view conn was before old journal redone
      → (HasCleanDisk (state g now) → (t : Tables) → old.holds t → IsSoundTables t → new.holds t)
      → (HasCleanDisk (state g now) → HasCleanDisk (state g was)) → new.doubt ≡ doubt (state g now).is_clean → left ≡ journal
      → OpensWith g (IsBeginning plain beginning) view conn now before new left redone
  opens_on conn was now before old new journal left redone it kept clean same is =
      subst (λ (j : JournalView H). OpensWith g (IsBeginning plain beginning) view conn now before new j redone) (sym is) record {
        from = it.from;
        base = it.base;
        settled = it.settled;
        cut = it.cut;
        resumed = λ well told. resumed_on (IsBeginning plain beginning) _ old new (begins_fine plain beginning) (kept well) (it.resumed (clean well) told);
        redone_is = λ well told. it.redone_is (clean well) told;
        idle = λ well none t shows sound. kept well t (it.idle (clean well) none t shows sound) sound;
        doubt_is = same;
        sound = λ well. it.sound (clean well);
      }

  -- the same of what a connection shows that came back
  pub opens_back : (conn was now back : Held S) (upgrade : Option ℕ) (handed failed commits : ℕ) (before : List ℕ) (old : StoreView)
      (journal : JournalView H) (redone : ℕ) → OpensWith g (IsBeginning plain beginning) view conn was before old journal redone
      → ((t : Tables) → old.holds t → IsSoundTables t → (unordered (seen (state g now) upgrade handed failed commits)).holds t)
      → old.doubt ≤ doubt (state g now).is_clean → back ≡ now
      → OpensWith g (IsBeginning plain beginning) view conn back before (unordered (shown (state g back))) journal redone
  opens_back conn was now back upgrade handed failed commits before old journal redone it kept less same =
      subst (λ (h : Held S). OpensWith g (IsBeginning plain beginning) view conn h before (unordered (shown (state g h))) journal redone) (sym same)
      (opens_on conn was now before old (unordered (shown (state g now))) journal journal redone it
      (λ clean t held sound. let there = kept t held sound in (there.0, (there.1 clean).1, there.2))
      (λ clean. still_clean (doubt (state g was).is_clean) (doubt (state g now).is_clean) old.doubt (doubt (state g now).is_clean)
      clean less refl it.doubt_is) refl refl)
