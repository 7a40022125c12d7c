-- What a renewal makes of the tables that were tested.
use Rattle.std.proofs.Common.{◌≡◌, ◌≤◌, ℕ, List, Option, None, Result, Ok, Err, sym, subst, arith}
use Rattle.std.specs.Prelude.{IsTrue, OnOk}
use Rattle.sqlite_trees.specs.View.{doubt}
use Rattle.sqlite.specs.Effect.{Database}
use Rattle.sqlite.specs.State.{State, HasCleanDisk, Survives}
use Rattle.sqlite.proofs.StateLemmas.{survives_then}
use Rattle.permit_base.specs.Digests.{digest_of}
use Rattle.permit_base.proofs.DigestLetters.{is_digest-digest_of}
use Rattle.permit_base.specs.declared.words.Edition.TheVariants.{Second}
use Rattle.permit_model.specs.Renewal.{with_renewed, against_renewal}
use Rattle.permit_model.specs.Tables.{Tables, Desk, tables}
use Rattle.permit_sql_rows.specs.Kept.{Keeps, IsFine}
use Rattle.permit_sql.specs.Found.{HasSound, KeepsSound}
use Rattle.permit_sql.specs.Opening.{HasOtherVersion}
use Rattle.permit_sql.specs.Renewing.{IsRenewed, RenewsToken}
use Rattle.permit_sql.proofs.Renewing.{sound_after, history_after}

-- the states before the test, after it, and after the renewal
module _ (party : ℕ) (token : List ℕ) (old mid new : State) (desk : Desk) (upgrade : Option ℕ) (less : doubt mid.is_clean ≤ doubt new.is_clean)
    (stays : HasCleanDisk mid → IsTrue mid.is_open) (left : IsFine mid → IsFine old × (mid.now ≡ old.now)) (found : IsFine mid → HasSound Second mid.now desk upgrade)
  where
    pub fine_before : HasCleanDisk new → IsFine mid
    fine_before clean = let there : HasCleanDisk mid = omega (arith, less, clean) in (there, stays there)

    same : HasCleanDisk new → mid.now ≡ old.now
    same clean = (left (fine_before clean)).1

    still : HasCleanDisk new → (t : Tables) → Keeps t old.now → Keeps t mid.now
    still clean t k = subst (Keeps t) (sym (same clean)) k

    was : HasCleanDisk new → KeepsSound old.now
    was clean = let it = found (fine_before clean) in (it.0, it.1, it.2, subst (Keeps it.0) (same clean) it.3)

    pub renews : {A E : Type 0} (r : Result A E)
        → (HasCleanDisk new → (t : Tables) → Keeps t mid.now → OnOk r (Keeps (with_renewed party (digest_of token) t) new.now))
        → (HasCleanDisk new → (t : Tables) → Keeps t mid.now → OnOk r (against_renewal t.parties party (digest_of token) ≡ None))
        → (HasCleanDisk new → OnOk r (IsTrue new.is_open)) → (HasCleanDisk new → ¬ HasOtherVersion Second old.now) → OnOk r (RenewsToken party token old new)
    renews (Err e) made admitted opened first = tt
    renews (Ok done) made admitted opened first = record {
      made = λ clean t k. made clean t (still clean t k);
      history = λ clean h is k.
          let kept = still clean (tables h) k in
          history_after party token new.now h is (admitted clean (tables h) kept) (made clean (tables h) kept);
      admitted = λ clean t k. admitted clean t (still clean t k);
      tested = was;
      sound = λ clean.
          let it = was clean in
          sound_after party (digest_of token) (is_digest-digest_of token) new.now it.0 it.1 it.2 (made clean it.0 (still clean it.0 it.3));
      opened = opened;
      first = first;
    }

    -- a crash leaves what was there, or the tables with the new token whole
    pub renewed_survives : Survives old mid (λ _. ⊥) → Survives mid new (IsRenewed party (digest_of token) mid.now)
        → Survives old new (λ trees. KeepsSound old.now × IsRenewed party (digest_of token) old.now trees)
    renewed_survives one two =
        survives_then old mid new _ _ _ (λ _ _ none. absurd none)
        (λ clean trees made. (was clean, subst (λ (db : Database). IsRenewed party (digest_of token) db trees) (same clean) made)) one two
