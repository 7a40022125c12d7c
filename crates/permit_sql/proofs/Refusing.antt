-- What a refusal leaves of a database, by the step that refused.
use Rattle.std.proofs.Common.{◌≡◌, Result, Ok, Err, inl, inr, sym, ap, ◌∙◌, subst}
use Rattle.std.specs.Prelude.{◌≢◌, ◌⊎◌, IsTrue, IfErr, OnErr}
use Rattle.sqlite.specs.Effect.{Database}
use Rattle.sqlite.specs.State.{State, HasCleanDisk}
use Rattle.permit_base.specs.declared.refusal.Refusal.TheVariants as refused
use Rattle.permit_base.specs.declared.refusal.Reason.TheVariants as reason
use Rattle.permit_base.specs.declared.words.Edition.{Edition}
use Rattle.permit_base.specs.declared.words.Edition.TheVariants.{Second}
use Rattle.permit_store.specs.declared.store.OpenError.{OpenError}
use Rattle.permit_store.specs.declared.store.OpenError.TheVariants.{Damaged, Version, Store}
use Rattle.permit_sql_rows.specs.Schema.{IsOffice}
use Rattle.permit_sql_rows.specs.Kept.{IsFine}
use Rattle.permit_sql.specs.declared.renew.RenewError.{RenewError}
use Rattle.permit_sql.specs.declared.renew.RenewError.TheVariants as renew_error
use Rattle.permit_sql.specs.Found.{KeepsSoundUnder}
use Rattle.permit_sql.specs.Opening.{HasOtherVersion}
use Rattle.permit_sql.specs.Refusing.{Refuses}

-- the rows were tested after a first look
pub refuses_rows : {A : Type 0} (edition : Edition) (old mid new : State) (r : Result A OpenError)
    → (IsFine mid → IsFine old × (mid.now ≡ old.now)) → (IsFine new → IsFine mid × (new.now ≡ mid.now)) → (HasCleanDisk new → ¬ HasOtherVersion edition old.now)
    → (HasCleanDisk new → IfErr r (λ e. e ≡ Damaged → ¬ KeepsSoundUnder edition mid.now)) → IfErr r (λ e. e ≡ Damaged → IsOffice edition mid.now.schema)
    → (HasCleanDisk new → IfErr r (λ e. e ≢ Store → IsTrue new.is_open)) → IfErr r (λ e. (e ≡ Damaged) ⊎ (e ≡ Store))
    → IfErr r (λ e. Refuses edition old new (λ why. e ≡ why))
refuses_rows edition old mid new (Ok sound) before after first damaged schema judged refusal = tt
refuses_rows edition old mid new (Err e) before after first damaged schema judged refusal =
    let still : HasCleanDisk new → e ≡ Damaged → IsFine mid = λ clean is. (after (clean, judged clean (λ store. let one = is in let other = store in cc))).0 in
    record {
      same = λ fine. let last = after fine in last.1 ∙ (before last.0).1;
      version = λ _ is. absurd (elim refusal [ inl damage ↦ (let one = is in let other = damage in cc) | inr store ↦ (let one = is in let other = store in cc) ]);
      told = λ clean other. absurd (first clean other);
      damaged = λ clean is has. damaged clean is (subst (KeepsSoundUnder edition) (sym (before (still clean is)).1) has);
      schema = λ clean is. subst (λ (db : Database). IsOffice edition db.schema) (before (still clean is)).1 (schema is);
      judged = judged;
    }

-- the refusal of an open is one of a renewal
pub refuses_renewal : (old new : State) (e : OpenError) → Refuses Second old new (λ why. e ≡ why) →
    Refuses Second old new (λ why. renew_error.Open e ≡ renew_error.Open why)
refuses_renewal old new e it =
    let back : (why : OpenError) → renew_error.Open e ≡ renew_error.Open why → e ≡ why = λ why is. (let same = is in cc) in
    record {
      same = it.same;
      version = λ clean is. it.version clean (back Version is);
      told = λ clean other. elim (it.told clean other) [ inl is ↦ inl (ap renew_error.Open is) | inr is ↦ inr (ap renew_error.Open is) ];
      damaged = λ clean is. it.damaged clean (back Damaged is);
      schema = λ clean is. it.schema clean (back Damaged is);
      judged = λ clean other. it.judged clean (λ is. other (ap renew_error.Open is));
    }

-- once the tables were tested, a renewal is refused for the party, for the token, or since a call failed
pub refuses_tested : {A : Type 0} (old mid new : State) (r : Result A RenewError) → (HasCleanDisk new → IsFine mid) → (IsFine mid → IsFine old × (mid.now ≡ old.now))
    → (HasCleanDisk new → ¬ HasOtherVersion Second old.now) → (IsFine new → OnErr r (new.now ≡ mid.now))
    → (HasCleanDisk new → IfErr r (λ e. e ≢ renew_error.Open Store → IsTrue new.is_open))
    → IfErr r (λ e. (e ≡ renew_error.Refused refused.Record) ⊎ ((e ≡ renew_error.Refused (refused.NotAdmitted reason.Taken)) ⊎ (e ≡ renew_error.Open Store)))
    → IfErr r (λ e. Refuses Second old new (λ why. e ≡ renew_error.Open why))
refuses_tested old mid new (Ok done) fine before first same judged refusal = tt
refuses_tested old mid new (Err e) fine before first same judged refusal =
    let none : (why : OpenError) → why ≢ Store → e ≡ renew_error.Open why → ⊥ = λ why other is. elim refusal [
      | inl party ↦ (let one = is in let two = party in cc)
      | inr (inl token) ↦ (let one = is in let two = token in cc)
      | inr (inr store) ↦ other (let one = is in let two = store in cc)
    ] in
    record {
      same = λ good. same good ∙ (before (fine good.0)).1;
      version = λ _ is. absurd (none Version (λ store. let clash = store in cc) is);
      told = λ clean other. absurd (first clean other);
      damaged = λ _ is. absurd (none Damaged (λ store. let clash = store in cc) is);
      schema = λ _ is. absurd (none Damaged (λ store. let clash = store in cc) is);
      judged = judged;
    }
