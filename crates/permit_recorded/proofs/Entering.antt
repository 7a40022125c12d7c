-- What is left of a line that was to be entered, and of one that is withdrawn.
use Rattle.std.proofs.Common.{◌≡◌, ◌≢◌, ◌∙◌, ℕ, Bool, false, true, List, [], ◌++◌, length, refl, sym, ap, subst, inl, inr}
use Rattle.std.proofs.lemmas.List.{append-nil}
use Rattle.permit_journal.specs.Files.{FileView, LeavesGrown, Only}
use Rattle.permit_journal.specs.Journals.{JournalView, IsSettled, Has, HasUnlessShut}
use Rattle.permit_office.specs.Logs.{Noted}
use Rattle.permit_store.specs.Frames.{StoreView, HasOneDesk}
use Rattle.permit_recorded.specs.Logs.{IsEntered, IsItsLine, IsWithdrawn, HasLine, KeepsLine, LeavesLine, LogView}

-- a text that is on the disk, and to which nothing is added
pub nothing_left : (leaves : List ℕ → List ℕ → Type 0) (text : List ℕ) (outcomes : List ℕ → Type 0) → leaves [] [] → Only text outcomes
    → LeavesGrown leaves [] text outcomes
nothing_left leaves text outcomes nothing only = λ c left. record { part = []; allowed = nothing; grown = only c left ∙ sym (append-nil text) }

module _ {H : Type 0} (view : H → FileView) where
  -- an open journal that is as it was
  pub still_has : (journal : JournalView H) (shut : Bool) → shut ≡ journal.is_shut → IsSettled view journal
      → HasUnlessShut view journal shut (view journal.file).text
  still_has journal true is settled = let no : true ≡ false = is ∙ settled.is_open in cc
  still_has journal false is settled = record { settled = settled; bytes_there = refl }

  module _ (leaves : List ℕ → List ℕ → Type 0) (before old new : LogView H) (noted : Noted) (store store' : StoreView)
      (entered : IsEntered view leaves before noted old) where
    -- what was entered
    line_of_it : IsSettled view before.journal → HasLine view (view before.journal.file).text noted old.journal
    line_of_it settled = entered.written settled

    -- where the text ended before
    ended : IsSettled view before.journal → length (view before.journal.file).text ≡ old.before
    ended settled = sym (entered.before ∙ settled.counted)

    pub withdrawn : (IsSettled view old.journal → (base line : List ℕ) → length base ≡ old.before → (view old.journal.file).text ≡ base ++ line
        → HasUnlessShut view new.journal new.journal.is_shut base)
        → (IsSettled view old.journal → (base line : List ℕ) → length base ≡ old.before → (view old.journal.file).text ≡ base ++ line
        → LeavesGrown leaves line base (view new.journal.file).may_leave)
        → (store'.failed ≢ store.failed → (new.journal.is_shut ≡ true) × (new.journal.file ≡ old.journal.file))
        → (new.journal.is_shut ≡ false → store'.doubt ≡ 0 → HasOneDesk store')
        → IsWithdrawn view leaves before noted store store' new
    withdrawn back crash stays read = record {
      back = λ settled.
          let it = line_of_it settled in
          back it.has.settled (view before.journal.file).text it.line (ended settled) it.has.bytes_there;
      crash = λ settled.
          let it = line_of_it settled in
          record {
            line = it.line;
            left = crash it.has.settled (view before.journal.file).text it.line (ended settled) it.has.bytes_there;
            is = inr it.is;
          };
      read = read;
      shut = λ fails. (stays fails).0;
      stays = λ settled fails.
          let it = line_of_it settled in
          subst (KeepsLine view (view before.journal.file).text noted) (sym (stays fails).1) (record {
            line = it.line;
            is = it.is;
            there = it.has.bytes_there;
            durable = subst (λ (bytes : List ℕ). Only bytes (view old.journal.file).may_leave) it.has.bytes_there it.has.settled.durable;
          });
    }
