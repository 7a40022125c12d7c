-- What an upgrade makes of the tables that were tested.
use Rattle.std.proofs.Common.{◌≡◌, ◌≤◌, ℕ, Option, sym, ap, ◌∙◌, subst, arith}
use Rattle.std.specs.Prelude.{IsTrue}
use Rattle.sqlite_trees.specs.View.{doubt}
use Rattle.sqlite.specs.State.{State, HasCleanDisk, Survives}
use Rattle.sqlite.proofs.StateLemmas.{survives_then}
use Rattle.permit_base.specs.declared.words.Edition.TheVariants.{First}
use Rattle.permit_model.specs.Tables.{Tables, Desk, tables, with_upgrade}
use Rattle.permit_model.proofs.Editions.{upgrade_made}
use Rattle.permit_sql_rows.specs.Kept.{KeepsUnder, Keeps, IsFine}
use Rattle.permit_sql_statements.specs.Founding.{AreCounted, OverFirst}
use Rattle.permit_sql.specs.Found.{HasSound, KeepsSoundUnder}
use Rattle.permit_sql.specs.Opening.{HasOtherVersion}
use Rattle.permit_sql.specs.Seen.{IsLeft}
use Rattle.permit_sql.specs.Upgrading.{Upgrades}
use Rattle.permit_sql.proofs.Calls.{one_desk}
use Rattle.permit_sql.proofs.Upgrades.{are_counted, history_counted, typed_after}
use Rattle.permit_sql.proofs.SoundUpgrade.{sound_after}

-- the states before the test, after it, and after the upgrade of so many files
module _ (old mid new : State) (desk : Desk) (upgrade : Option ℕ) (files : ℕ) (own : desk.files ≡ files) (less : doubt mid.is_clean ≤ doubt new.is_clean)
    (stays : HasCleanDisk mid → IsTrue mid.is_open) (left : IsFine mid → IsFine old × (mid.now ≡ old.now)) (found : IsFine mid → HasSound First mid.now desk upgrade)
  where
    clean_before : HasCleanDisk new → HasCleanDisk mid
    clean_before clean = omega (arith, less, clean)

    same : HasCleanDisk new → mid.now ≡ old.now
    same clean = let there = clean_before clean in (left (there, stays there)).1

    sound_before : HasCleanDisk new → HasSound First mid.now desk upgrade
    sound_before clean = let there = clean_before clean in found (there, stays there)

    -- the count that was found is that of any tables that the database keeps
    counted : HasCleanDisk new → (t : Tables) → KeepsUnder First t old.now → t.desk.files ≡ files
    counted clean t k =
        let it = sound_before clean in
        ap (λ (d : Desk). d.files) (one_desk First t it.0 mid.now (subst (KeepsUnder First t) (sym (same clean)) k) it.3 ∙ it.4) ∙ own

    was : HasCleanDisk new → KeepsSoundUnder First old.now
    was clean = let it = sound_before clean in (it.0, it.1, it.2, subst (KeepsUnder First it.0) (same clean) it.3)

    pub upgrades : (HasCleanDisk new → OverFirst files mid.now (λ t. Keeps (with_upgrade t) new.now)) → (HasCleanDisk new → IsTrue new.is_open)
        → (HasCleanDisk mid → ¬ HasOtherVersion First old.now) → Upgrades old new files
    upgrades made opened first =
        let after : HasCleanDisk new → (t : Tables) → AreCounted t → KeepsUnder First t old.now → Keeps (with_upgrade t) new.now =
        λ clean t low k. made clean t (counted clean t k) low (subst (KeepsUnder First t) (sym (same clean)) k) in
        record {
          made = λ clean t low k. (sym (counted clean t k), after clean t low k);
          history = λ clean h is k. (
            sym (counted clean (tables h) k),
            subst (λ (t : Tables). Keeps t new.now) (sym (upgrade_made h)) (after clean (tables h) (history_counted h is) k),
          );
          tested = λ clean.
              let it = was clean in
              record { t = it.0; typed = it.1; sound = it.2; was = it.3; count = counted clean it.0 it.3; now = after clean it.0 (are_counted it.0 it.1) it.3 };
          sound = λ clean.
              let it = was clean in
              (with_upgrade it.0, typed_after it.0 it.1, sound_after it.0 it.1 it.3 it.2, after clean it.0 (are_counted it.0 it.1) it.3);
          opened = opened;
          first = λ clean. first (clean_before clean);
        }

    -- a crash leaves what was there, or the tables after the upgrade whole
    pub upgrade_survives : Survives old mid (λ _. ⊥) → Survives mid new (λ trees. OverFirst files mid.now (λ t. IsLeft trees (with_upgrade t)))
        → Survives old new (λ trees. KeepsSoundUnder First old.now × ((t : Tables) → AreCounted t → KeepsUnder First t old.now → IsLeft trees (with_upgrade t)))
    upgrade_survives one two =
        survives_then old mid new _ _ _ (λ _ _ none. absurd none)
        (λ clean _ made. (was clean, λ t low k. made t (counted clean t k) low (subst (KeepsUnder First t) (sym (same clean)) k))) one two
