-- The lines of a text, and one more.
use Rattle.std.proofs.Common.{◌≡◌, ◌≤◌, refl, sym, ap, ◌∙◌, ℕ, ◌+◌, true, List, [], ◌∷◌, ◌++◌, length, Option, None, Some, option_map, arith, length-append}
use Rattle.std.specs.Prelude.{IsTrue, Result, Ok, Err}
use Rattle.std.specs.List.{list_all}
use Rattle.std.specs.Io.BufRead.{drop_through}
use Rattle.std.proofs.lemmas.Bool.{and_parts, and_from}
use Rattle.permit_model.specs.History.{History}
use Rattle.permit_store.specs.declared.plain.PlainStore.{PlainStore}
use Rattle.permit_store.specs.Frames.{StoreView}
use Rattle.permit_history.specs.declared.entry.Entry.{Entry}
use Rattle.permit_history.specs.LineData.{line_of, text_of}
use Rattle.permit_history.specs.LineRead.{reading_of}
use Rattle.permit_history.specs.Text.{next_line, AnswersLine, GivesInTurn}
use Rattle.permit_history.specs.Within.{is_within}
use Rattle.permit_history.proofs.LineByLine.{gives_only}
use Rattle.permit_replay.specs.declared.beginning.Beginning.{Beginning}
use Rattle.permit_replay.specs.declared.fault.Why.{Why}
use Rattle.permit_replay.specs.declared.fault.ReplayFault.TheVariants as replay_fault
use Rattle.permit_replay.specs.declared.replayed.Replayed.{Replayed}
use Rattle.permit_replay.specs.declared.replayed.Replayed.TheVariants as replayed
use Rattle.permit_replay.specs.declared.text.Progress.TheVariants as progress
use Rattle.permit_replay.specs.Against.{against}
use Rattle.permit_replay.specs.Histories.{Unsaid, HasToken, history_with, history_from, history_by}
use Rattle.permit_replay.specs.Holding.{Holds, IsBeginning, Takes}
use Rattle.permit_replay.specs.Texts.{StopsAt}
use Rattle.permit_replay.proofs.Reading.{entry_said, one_more, replayed_more, stopped_there, tokens_parted}
use Rattle.permit_replay.specs.Prefixes.{AreNext}
use Rattle.permit_replay.specs.Telling.{GoesOn, HasTold, IsAtLine}

-- ---- one line more

pub text_more : (entries : List Entry) (entry : Entry) → length (text_of (entries ++ entry ∷ [])) ≡ length (text_of entries) + (length (line_of entry) + 1)
text_more [] entry = omega (arith, length-append (line_of entry) (10 ∷ []))
text_more (first ∷ later) entry =
    omega (arith, length-append (line_of first) (10 ∷ text_of (later ++ entry ∷ [])), length-append (line_of first) (10 ∷ text_of later), text_more later entry)

-- the entries have no more bytes than the text
pub not_longer : (bytes : List ℕ) (entries : List Entry) (left : List ℕ) → GivesInTurn bytes entries left → length (text_of entries) ≤ length bytes
not_longer bytes entries left given = omega (arith, ap length (gives_only bytes entries left given), length-append (text_of entries) left)

within_more : (entries : List Entry) (entry : Entry) → list_all is_within entries ≡ true → is_within entry ≡ true
    → list_all is_within (entries ++ entry ∷ []) ≡ true
within_more [] entry within here = and_from _ _ here refl
within_more (first ∷ later) entry within here =
    let parts = and_parts (is_within first) _ within in and_from _ _ parts.0 (within_more later entry parts.1 here)

next_more : (unsaid : Unsaid) (h : History) (entries : List Entry) (entry : Entry) → AreNext unsaid h entries
    → against unsaid (history_from unsaid h entries) entry.day entry.deed ≡ None → AreNext unsaid h (entries ++ entry ∷ [])
next_more unsaid h [] entry next none = (none, tt)
next_more unsaid h (first ∷ later) entry next none =
    (next.0, next_more unsaid (history_with unsaid h first.day first.deed) later entry next.1 none)

-- what the replay of one more entry says
abbrev TakesEntry : (PlainStore → StoreView) → Replayed → Entry → Result Replayed Why → Type 0
TakesEntry view before entry result =
    (unsaid : Unsaid) (h : History) → Holds view unsaid before h → HasToken unsaid entry.deed → Takes view unsaid h entry.day entry.deed result

pub told_more : {view : PlainStore → StoreView} {begins : Unsaid → Type 0} {bytes left : List ℕ} {entries : List Entry} {before : Replayed} (entry : Entry) (more : Replayed)
    → HasTold view begins bytes entries left before → AnswersLine (Ok entry) (next_line left) → IsTrue (is_within entry)
    → TakesEntry view before entry (Ok more) → HasTold view begins bytes (entries ++ entry ∷ []) (drop_through 10 left) more
told_more {view} {begins} {bytes} {left} {entries} {before} entry more has answer within takes = record {
  as_far = replayed_more entry has.as_far answer takes;
  next = λ unsaid have.
      let parts = tokens_parted begins unsaid entries entry have in
      next_more unsaid [] entries entry (has.next unsaid parts.0) (takes unsaid (history_by unsaid entries) (has.as_far.held unsaid parts.0) parts.1).0;
  within = within_more entries entry has.within within;
}

pub stopped_at : {view : PlainStore → StoreView} {begins : Unsaid → Type 0} {bytes left : List ℕ} {entries : List Entry} {before : Replayed} (entry : Entry) (line : ℕ) (why : Why)
    → HasTold view begins bytes entries left before → AnswersLine (Ok entry) (next_line left) → line ≡ length entries + 1
    → TakesEntry view before entry (Err why) → StopsAt view begins bytes (replay_fault.Entry line why)
stopped_at {view} {begins} {bytes} {left} {entries} {before} entry line why has answer counted takes =
    (entries, left, before, has.as_far, counted, entry, entry_said entry (next_line left) answer, stopped_there entry why has.as_far takes)

-- ---- before a line

-- before the first
abbrev pub at_first : (view : PlainStore → StoreView) (beginning : Beginning) {bytes : List ℕ} {remaining : Option (List ℕ)} → remaining ≡ Some bytes
    → IsAtLine view (IsBeginning view beginning) bytes remaining 1 (replayed.Nothing beginning)
at_first view beginning {bytes} e = record {
  entries = [];
  left = bytes;
  is_left = e;
  counted = refl;
  told = record {
    as_far = record { given = refl; held = λ unsaid have. (refl, have.0); told = λ unsaid have. refl };
    next = λ unsaid have. tt;
    within = refl;
  };
}

-- before the next
abbrev pub at_next : {view : PlainStore → StoreView} {begins : Unsaid → Type 0} {bytes : List ℕ} {o : Option (List ℕ)} {line : ℕ} {before : Replayed} (p : Option (List ℕ)) (size : ℕ) (more : Replayed)
    (at : IsAtLine view begins bytes o line before) (on : GoesOn view begins bytes at.entries at.left p size (progress.Line more))
    → IsAtLine view begins bytes p (line + 1) more
at_next p size more at on = record {
  entries = at.entries ++ on.0 ∷ [];
  left = drop_through 10 at.left;
  is_left = on.2;
  counted = ap (λ n. n + 1) (at.counted ∙ sym (one_more at.entries on.0));
  told = on.1;
}

-- ---- two readings of one text

pub same_first : (next : Option (List ℕ)) (a b : Entry) → option_map reading_of next ≡ Some (Ok a) → option_map reading_of next ≡ Some (Ok b) → a ≡ b
same_first next a b e f = let both : Some (Ok a) ≡ Some (Ok b) = sym e ∙ f in cc

-- the next line is that of the next entry
pub next_in_turn : (here : List ℕ) (rest : List Entry) (left : List ℕ) (entry : Entry) → GivesInTurn here rest left → 1 ≤ length rest
    → AnswersLine (Ok entry) (next_line here) → (later : List Entry) × (rest ≡ entry ∷ later) × GivesInTurn (drop_through 10 here) later left
next_in_turn here [] left entry given some answer = absurd (omega (arith, some))
next_in_turn here (first ∷ later) left entry given some answer =
    (later, ap (λ e. e ∷ later) (same_first (next_line here) first entry given.0 (entry_said entry (next_line here) answer)), given.1)
