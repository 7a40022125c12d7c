-- One more line of a text.
use Rattle.std.proofs.Common.{◌≡◌, refl, sym, ap, ◌∙◌, subst, ℕ, ◌+◌, List, [], ◌∷◌, ◌++◌, length, Option, None, Some, option_map, arith, length-append, inl, inr}
use Rattle.std.specs.Prelude.{◌⊎◌, Result, Ok, Err, IfSome}
use Rattle.std.specs.Io.BufRead.{drop_through}
use Rattle.permit_model.specs.History.{History}
use Rattle.permit_store.specs.declared.plain.PlainStore.{PlainStore}
use Rattle.permit_store.specs.Frames.{StoreView}
use Rattle.permit_history.specs.declared.entry.Entry.{Entry}
use Rattle.permit_history.specs.declared.fault.LineFault.{LineFault}
use Rattle.permit_history.specs.declared.fault.LineFault.TheVariants as line_fault
use Rattle.permit_history.specs.LineRead.{reading_of}
use Rattle.permit_history.specs.Meaning.{meant_with}
use Rattle.permit_history.specs.Outcome.{IsUnlessMemory}
use Rattle.permit_history.specs.Told.{told_history}
use Rattle.permit_history.specs.Text.{next_line, AnswersLine, GivesInTurn}
use Rattle.permit_replay.specs.declared.fault.Why.{Why}
use Rattle.permit_replay.specs.declared.replayed.Replayed.{Replayed}
use Rattle.permit_replay.specs.Against.{against}
use Rattle.permit_replay.specs.Histories.{Unsaid, Completes, HasToken, HaveTokens, history_before, history_with, history_from, history_by}
use Rattle.permit_replay.specs.Holding.{Holds, FailsAs, Takes}
use Rattle.permit_replay.specs.Texts.{HasReplayed, IsAtFault}
use Rattle.permit_replay.proofs.Telling.{told_with, meant_last}

-- ---- what the line says

pub entry_said : (entry : Entry) (line : Option (List ℕ)) → AnswersLine (Ok entry) line → option_map reading_of line ≡ Some (Ok entry)
entry_said entry None answer = absurd answer
entry_said entry (Some line) (inl e) = absurd cc
entry_said entry (Some line) (inr e) = ap Some (sym e)

said : (fault : LineFault) (answer : Result Entry LineFault) → IsUnlessMemory (Err fault) answer
    → (fault ≡ line_fault.Memory) ⊎ (answer ≡ Err fault)
said fault answer (inl e) = inl cc
said fault answer (inr e) = inr (sym e)

-- what is wrong with the next line
pub at_fault : (fault : LineFault) (left : List ℕ) → AnswersLine (Err fault) (next_line left) → IsAtFault fault left
at_fault fault left answer = by (next_line left) refl answer
  where
    known : (line : List ℕ) → next_line left ≡ Some line → (f : LineFault) → (f ≡ line_fault.Memory) ⊎ (reading_of line ≡ Err f) → IsAtFault f left
    known line e line_fault.Memory either = tt
    known line e line_fault.Long (inl f) = absurd cc
    known line e line_fault.Syntax (inl f) = absurd cc
    known line e line_fault.Fields (inl f) = absurd cc
    known line e line_fault.Form (inl f) = absurd cc
    known line e line_fault.Long (inr f) = ap (option_map reading_of) e ∙ ap Some f
    known line e line_fault.Syntax (inr f) = ap (option_map reading_of) e ∙ ap Some f
    known line e line_fault.Fields (inr f) = ap (option_map reading_of) e ∙ ap Some f
    known line e line_fault.Form (inr f) = ap (option_map reading_of) e ∙ ap Some f

    by : (o : Option (List ℕ)) → next_line left ≡ o → AnswersLine (Err fault) o → IsAtFault fault left
    by None e answer = absurd answer
    by (Some line) e answer = known line e fault (said fault (reading_of line) answer)

-- ---- one entry more

pub given_more : (bytes : List ℕ) (entries : List Entry) (left : List ℕ) (entry : Entry) → GivesInTurn bytes entries left
    → AnswersLine (Ok entry) (next_line left) → GivesInTurn bytes (entries ++ entry ∷ []) (drop_through 10 left)
given_more bytes [] left entry given answer = (
  subst (λ bs. option_map reading_of (next_line bs) ≡ Some (Ok entry)) (sym given)
      (entry_said entry (next_line left) answer),
  ap (drop_through 10) given,
)
given_more bytes (first ∷ later) left entry given answer = (given.0, given_more (drop_through 10 bytes) later left entry given.1 answer)

from_more : (unsaid : Unsaid) (h : History) (entries : List Entry) (entry : Entry)
    → history_from unsaid h (entries ++ entry ∷ []) ≡ history_with unsaid (history_from unsaid h entries) entry.day entry.deed
from_more unsaid h [] entry = refl
from_more unsaid h (first ∷ later) entry = from_more unsaid (history_with unsaid h first.day first.deed) later entry

-- the history that one entry more gives
pub told_more : (unsaid : Unsaid) (entries : List Entry) (entry : Entry)
    → history_by unsaid (entries ++ entry ∷ []) ≡ history_with unsaid (history_by unsaid entries) entry.day entry.deed
told_more unsaid entries entry = from_more unsaid [] entries entry

have_parted : (unsaid : Unsaid) (entries : List Entry) (entry : Entry) → HaveTokens unsaid (entries ++ entry ∷ [])
    → HaveTokens unsaid entries × HasToken unsaid entry.deed
have_parted unsaid [] entry have = (tt, have.0)
have_parted unsaid (first ∷ later) entry have =
    let parts = have_parted unsaid later entry have.1 in ((have.0, parts.0), parts.1)

pub tokens_parted : (begins : Unsaid → Type 0) (unsaid : Unsaid) (entries : List Entry) (entry : Entry)
    → Completes begins unsaid (entries ++ entry ∷ []) → Completes begins unsaid entries × HasToken unsaid entry.deed
tokens_parted begins unsaid entries entry (said, have) = let parts = have_parted unsaid entries entry have in ((said, parts.0), parts.1)

-- what is replayed with it
pub replayed_more : {view : PlainStore → StoreView} {begins : Unsaid → Type 0} {bytes left : List ℕ} {entries : List Entry} {before_it after : Replayed} (entry : Entry)
    → HasReplayed view begins bytes entries left before_it → AnswersLine (Ok entry) (next_line left)
    → ((unsaid : Unsaid) (h : History) → Holds view unsaid before_it h → HasToken unsaid entry.deed → Takes view unsaid h entry.day entry.deed (Ok after))
    → HasReplayed view begins bytes (entries ++ entry ∷ []) (drop_through 10 left) after
replayed_more {view} {begins} {bytes} {left} {entries} {before_it} {after} entry has answer takes = record {
  given = given_more bytes entries left entry has.given answer;
  held = λ unsaid have.
      let parts = tokens_parted begins unsaid entries entry have in
      subst (Holds view unsaid after) (sym (told_more unsaid entries entry)) (takes unsaid (history_by unsaid entries) (has.held unsaid parts.0) parts.1).1;
  told = λ unsaid have.
      let parts = tokens_parted begins unsaid entries entry have in
      let before = history_by unsaid entries in
      let taken = takes unsaid before (has.held unsaid parts.0) parts.1 in
      ap told_history (told_more unsaid entries entry)
      ∙ told_with view before_it unsaid before entry.day entry.deed (has.held unsaid parts.0) parts.1 taken.0
      ∙ ap (λ es. meant_with (told_history (history_before unsaid)) es entry entry.deed) (has.told unsaid parts.0)
      ∙ sym (meant_last (told_history (history_before unsaid)) entries entry);
}

-- the reason against it
pub stopped_there : {view : PlainStore → StoreView} {begins : Unsaid → Type 0} {bytes left : List ℕ} {entries : List Entry} {before : Replayed} (entry : Entry) (why : Why)
    → HasReplayed view begins bytes entries left before
    → ((unsaid : Unsaid) (h : History) → Holds view unsaid before h → HasToken unsaid entry.deed → Takes view unsaid h entry.day entry.deed (Err why))
    → (unsaid : Unsaid) → Completes begins unsaid (entries ++ entry ∷ [])
    → FailsAs why (against unsaid (history_by unsaid entries) entry.day entry.deed)
stopped_there {view} {begins} {bytes} {left} {entries} {before} entry why has takes unsaid have =
    let parts = tokens_parted begins unsaid entries entry have in
    takes unsaid (history_by unsaid entries) (has.held unsaid parts.0) parts.1

pub one_more : (entries : List Entry) (entry : Entry) → length (entries ++ entry ∷ []) ≡ length entries + 1
one_more entries entry = omega (arith, length-append entries (entry ∷ []))

-- ---- bytes that may be known

pub if_some : {A : Type 0} (o : Option A) (P : A → Type 0) → ((x : A) → o ≡ Some x → P x) → IfSome o P
if_some None P all = tt
if_some (Some x) P all = all x refl

pub some_at : {A : Type 0} (o : Option A) (P : A → Type 0) (x : A) → IfSome o P → o ≡ Some x → P x
some_at None P x said e = absurd cc
some_at (Some y) P x said e = let same : y ≡ x = cc in subst P same said
