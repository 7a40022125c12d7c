-- A party's new token after the text whose tables a store has.
use Rattle.std.proofs.Common.{◌≡◌, ◌⊎◌, ◌∙◌, append_assoc, inr, refl, sym, ap, subst, ℕ, List, [], ◌∷◌, ◌++◌, map, None, Option, Result, Ok, Err}
use Rattle.std.specs.Prelude.{IfErr, IsTrue, OnErr, OnOk}
use Rattle.sqlite_trees.specs.declared.store.Store.{Ghosts}
use Rattle.sqlite.specs.State.{HasCleanDisk}
use Rattle.sqlite.specs.Held.{Held, state}
use Rattle.permit_base.specs.Digests.{digest_of}
use Rattle.permit_model.specs.Caller.{parties}
use Rattle.permit_model.specs.History.{History}
use Rattle.permit_model.specs.Machine.{IsHistory}
use Rattle.permit_model.specs.Renewal.{against_renewal, renewed, with_digest, with_renewed}
use Rattle.permit_model.specs.Tables.{Tables, tables}
use Rattle.permit_replay.specs.Alike.{AreAlike, unordered}
use Rattle.permit_store.proofs.Renewals.{tables_renewed}
use Rattle.permit_store.proofs.RenewedHistories.{renewed_follows}
use Rattle.permit_store.specs.Frames.{StoreView}
use Rattle.permit_history.specs.LineData.{line_of, text_of}
use Rattle.permit_history.specs.Told.{told_on}
use Rattle.permit_history.specs.declared.entry.Deed.TheVariants as deed
use Rattle.permit_history.specs.declared.entry.Entry.{Entry}
use Rattle.permit_replay.specs.Histories.{Unsaid, Completes, history_by}
use Rattle.permit_replay.proofs.Reading.{told_more, tokens_parted}
use Rattle.permit_replay.proofs.SoundTables.{begins_fine}
use Rattle.permit_replay.specs.Holding.{IsBeginning}
use Rattle.permit_replay.specs.declared.beginning.Beginning.{Beginning}
use Rattle.permit_recorded.specs.Lines.{whole_line_of}
use Rattle.permit_recorded.specs.Resuming.{IsResumed}
use Rattle.permit_journal.specs.Files.{FileView}
use Rattle.permit_journal.specs.Journals.{Has, HasUnlessShut, IsSettled, JournalView}
use Rattle.permit_store.specs.declared.plain.PlainStore.{PlainStore}
use Rattle.permit_sql_rows.specs.Kept.{IsFine, Keeps, Shows}
use Rattle.permit_sql.specs.Renewing.{OverKept}
use Rattle.permit_subcommands.specs.declared.failure.Failure.{Failure}
use Rattle.permit_database.specs.Doing.{SaysRedone}
use Rattle.permit_database.specs.Opening.{OpensWith, shown}
use Rattle.permit_database.specs.Renewing.{IsNotRenewed, renewal_line, RenewsWith, TellsTables, WasOpened}
use Rattle.permit_database.proofs.Opened.{opens_on, resumed_on}

-- one entry more adds its whole line
text_more : (entries : List Entry) (entry : Entry) → text_of (entries ++ entry ∷ []) ≡ text_of entries ++ whole_line_of entry
text_more [] entry = refl
text_more (e ∷ entries) entry =
    ap (λ later. line_of e ++ 10 ∷ later) (text_more entries entry) ∙ sym (append_assoc (line_of e) (10 ∷ text_of entries) (whole_line_of entry))

-- tables that are alike stay so where a party of both gets the digest
alike_renewed : (party : ℕ) (digest : List ℕ) (t u : Tables) → AreAlike t u → AreAlike (with_renewed party digest t) (with_renewed party digest u)
alike_renewed party digest t u alike = record {
  desk = alike.desk;
  upgrade = alike.upgrade;
  parties = ap (map (with_digest party digest)) alike.parties;
  parcels = alike.parcels;
  interests = alike.interests;
  files = alike.files;
  papers = alike.papers;
}

-- the text with the line of a new token records the tables that are renewed, where nothing was against that
pub renewal_tells : (begins : Unsaid → Type 0) (opened after : List ℕ) (old new : StoreView) (day party : ℕ) (digest : List ℕ)
    → IsResumed begins opened (unordered old) → after ≡ opened ++ renewal_line day party digest
    → ((t : Tables) → old.holds t → (against_renewal t.parties party digest ≡ None) × new.holds (with_renewed party digest t))
    → TellsTables begins after (unordered new)
renewal_tells begins opened after old new day party digest was grown made =
    let entry : Entry = told_on day (deed.RenewToken party digest) in
    record {
      entries = was.entries ++ entry ∷ [];
      text_is = grown ∙ ap (λ bs. bs ++ renewal_line day party digest) was.text_is ∙ sym (text_more was.entries entry);
      tells = λ unsaid have.
          let parted = tokens_parted begins unsaid was.entries entry have in
          let before = was.has unsaid parted.0 in
          let h : History = history_by unsaid was.entries in
          let token : List ℕ = unsaid.token_of digest in
          let t = before.held.0 in
          let alike = before.held.2 in
          let there = made t before.held.1 in
          let more : history_by unsaid (was.entries ++ entry ∷ []) ≡ renewed party token h = told_more unsaid was.entries entry in
          let free : against_renewal (parties h) party digest ≡ None = subst (λ ps. against_renewal ps party digest ≡ None) alike.parties there.0 in
          let free_token : against_renewal (parties h) party (digest_of token) ≡ None = subst (λ d. against_renewal (parties h) party d ≡ None) parted.1 free in
          let same : tables (renewed party token h) ≡ with_renewed party digest (tables h) =
          tables_renewed party token h ∙ ap (λ d. with_renewed party d (tables h)) (sym parted.1) in (
            subst IsHistory (sym more) (renewed_follows party token h before.history free_token),
            (
              with_renewed party digest t,
              there.1,
              subst (λ u. AreAlike (with_renewed party digest t) u) (sym (ap tables more ∙ same)) (alike_renewed party digest t (tables h) alike),
            ),
          );
    }

-- a renewal in an office that was opened with its history, whose last day was read then
module _ {S H : Type 0} (g : Ghosts S) (plain : PlainStore → StoreView) (beginning : Beginning) (view : H → FileView) (conn was mid back : Held S)
    (before : List ℕ) (old : StoreView) (opened left : JournalView H) (redone : ℕ)
    (it : OpensWith g (IsBeginning plain beginning) view conn was before (unordered old) opened redone)
    (file : H) (file_is : file ≡ left.file) (kept : HasCleanDisk (state g mid) → (t : Tables) → old.holds t → Shows t (state g mid)) (clean : HasCleanDisk (state g mid) → HasCleanDisk (state g was))
    (fine : IsFine (state g back) → IsFine (state g mid)) (unsaid said : Option (List ℕ)) (says : SaysRedone redone unsaid said) where
  shown_then : HasCleanDisk (state g mid) → (t : Tables) → (unordered old).holds t → (unordered (shown (state g mid))).holds t
  shown_then well t held = (held.0, kept well held.0 held.1, held.2)

  was_opened : WasOpened g (IsBeginning plain beginning) view conn before unsaid said
  was_opened = record {
    mid = mid;
    journal = opened;
    redone = redone;
    opens = opens_on g plain beginning view conn was mid before (unordered old) (unordered (shown (state g mid))) opened opened redone it
        (λ well t held sound. shown_then well t held) clean refl refl;
    says = says;
  }

  pub renews : (day party : ℕ) (digest : List ℕ) (result : Result (Unit {0}) Failure)
      → (HasCleanDisk (state g mid) → (t : Tables) → old.holds t → day ≡ t.desk.last) → (HasCleanDisk (state g back) → OnOk result (IsTrue (state g back).is_open))
      → OverKept g mid back (λ t. OnOk result (Keeps (with_renewed party digest t) (state g back).now))
      → OverKept g mid back (λ t. OnOk result (against_renewal t.parties party digest ≡ None))
      → (IsSettled view opened → OnOk result (Has view left ((view opened.file).text ++ renewal_line day party digest)))
      → OnOk result (RenewsWith g (IsBeginning plain beginning) view conn back before file party digest unsaid said)
  unfolding was_opened
  renews day party digest (Err e) last is_open made admitted entered = tt
  renews day party digest (Ok done) last is_open made admitted entered =
      let there : HasCleanDisk (state g back) → HasCleanDisk (state g mid) = λ well. (fine (well, is_open well)).0 in
      let resumed = λ (well : HasCleanDisk (state g back)) (told : IsTrue (view opened.file).is_clean).
      resumed_on (IsBeginning plain beginning) (view opened.file).text (unordered old) (unordered (shown (state g mid))) (begins_fine plain beginning)
      (λ t held sound. shown_then (there well) t held) (it.resumed (clean (there well)) told) in
      record {
        was = was_opened;
        sound = λ well. was_opened.opens.sound (there well);
        day = day;
        left = left;
        made = λ well t keeps. (admitted well t keeps, made well t keeps);
        ends = λ well told. record {
          resumed = resumed well told;
          day_is = λ unsaid have.
              let held = ((it.resumed (clean (there well)) told).has unsaid have).held in last (there well) held.0 held.1 ∙ ap (λ d. d.last) held.2.desk;
        };
        entered = λ told. entered (it.settled told);
        tells = λ well told. renewal_tells (IsBeginning plain beginning) (view opened.file).text (view left.file).text (shown (state g mid))
            (shown (state g back)) day party digest (resumed well told) (entered (it.settled told)).bytes_there
            (λ t shows.
            let keeps = shows (fine (well, is_open well)).1 in (admitted well t keeps, λ _. made well t keeps));
        file_is = file_is;
      }

  pub not_renewed : (P : Failure → Type 0) (result : Result (Unit {0}) Failure) → OnErr result (IsFine (state g back) → (state g back).now ≡ (state g mid).now)
      → (IsSettled view opened → OnErr result (HasUnlessShut view left left.is_shut (view opened.file).text))
      → IfErr result (λ why. P why ⊎ IsNotRenewed g (IsBeginning plain beginning) view conn back before file unsaid said)
  unfolding was_opened
  not_renewed P (Ok done) same unentered = tt
  not_renewed P (Err why) same unentered = inr record {
    was = was_opened;
    left = left;
    same = λ well. (fine well, same well);
    unentered = λ told. unentered (it.settled told);
    file_is = file_is;
  }
