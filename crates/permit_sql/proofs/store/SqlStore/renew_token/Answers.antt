use Rattle.std.proofs.Common.{◌≡◌, Result, Ok, OnOk, None, subst}
use Rattle.sqlite.specs.Held.{state}
use Rattle.sqlite.specs.State.{Survives}
use Rattle.permit_base.specs.Digests.{digest_of}
use Rattle.permit_model.specs.Renewal.{with_renewed, against_renewal}
use Rattle.permit_sql_rows.specs.Kept.{Keeps}
use Rattle.permit_sql.specs.Renewing.{IsRenewed}
use Rattle.permit_sql.proofs.Refusing.{refuses_renewal, refuses_tested}
use Rattle.permit_sql.proofs.TokenRenewal.{fine_before, renews, renewed_survives}
use Rattle.permit_sql.proofs.store.SqlStore.renew_token.Goals as goal

same_ok : {A E : Type 0} (r : Result A E) (a b : A) → r ≡ Ok a → r ≡ Ok b → a ≡ b
same_ok r a b e f = cc

pub returns-in-Ok-check-clause-renews : goal.returns-in-Ok-check-clause-renews
returns-in-Ok-check-clause-renews g c =
    let same : c.in-Ok.digest ≡ digest_of c.args.token.now = same_ok c.digest.result _ _ c.in-Ok.is c.digest.ensures in
    let sound = c.in-Ok-check.ensures in
    let mid = state g.S.Store c.check.new.conn in
    let new = state g.S.Store c.give_digest.new.conn in
    let less = c.give_digest.ensures.crash.clean in
    renews c.args.party c.args.token.now (state g.S.Store c.args.conn.now) mid new _ _ less sound.open c.check.ensures.left sound.sound c.give_digest.result
    (λ clean t k. subst (λ d. OnOk c.give_digest.result (Keeps (with_renewed c.args.party d t) new.now)) same (c.give_digest.ensures.made clean t k))
    (λ clean t k. subst (λ d. OnOk c.give_digest.result (against_renewal t.parties c.args.party d ≡ None)) same (c.give_digest.ensures.admitted clean t k))
    c.give_digest.ensures.opened
    (λ clean. sound.first (fine_before c.args.party c.args.token.now (state g.S.Store c.args.conn.now) mid new _ _ less sound.open c.check.ensures.left sound.sound clean).0)

pub returns-in-Ok-check-clause-refuses : goal.returns-in-Ok-check-clause-refuses
returns-in-Ok-check-clause-refuses g c =
    let sound = c.in-Ok-check.ensures in
    let old = state g.S.Store c.args.conn.now in
    let mid = state g.S.Store c.check.new.conn in
    let new = state g.S.Store c.give_digest.new.conn in
    let fine = fine_before c.args.party c.args.token.now old mid new _ _ c.give_digest.ensures.crash.clean sound.open c.check.ensures.left sound.sound in
    refuses_tested old mid new c.give_digest.result fine c.check.ensures.left (λ clean. sound.first (fine clean).0) c.give_digest.ensures.same
    c.give_digest.ensures.judged c.give_digest.ensures.refusal

pub returns-in-Err-clause-refuses : goal.returns-in-Err-clause-refuses
returns-in-Err-clause-refuses g c =
    refuses_renewal (state g.S.Store c.args.conn.now) (state g.S.Store c.check.new.conn) _ c.in-Err.ensures.refuses

pub returns-in-Ok-check-clause-crash : goal.returns-in-Ok-check-clause-crash
returns-in-Ok-check-clause-crash g c =
    let same : c.in-Ok.digest ≡ digest_of c.args.token.now = same_ok c.digest.result _ _ c.in-Ok.is c.digest.ensures in
    let mid = state g.S.Store c.check.new.conn in
    let new = state g.S.Store c.give_digest.new.conn in
    renewed_survives c.args.party c.args.token.now (state g.S.Store c.args.conn.now) mid new _ _ c.give_digest.ensures.crash.clean c.in-Ok-check.ensures.open
    c.check.ensures.left c.in-Ok-check.ensures.sound c.check.ensures.crash
    (subst (λ d. Survives mid new (IsRenewed c.args.party d mid.now)) same c.give_digest.ensures.crash)
