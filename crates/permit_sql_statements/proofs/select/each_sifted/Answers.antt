use Rattle.std.proofs.Common.{◌≡◌, ℕ, ◌+◌, ◌%◌, ◌^◌, [], ◌∷◌, length, filter, refl, ap, subst, ◌∙◌, rules, arith}
use Rattle.sqlite.specs.Held.{state}
use Rattle.permit_store.specs.Handing.{Took, is_found_by_any, more_handed}
use Rattle.permit_store.proofs.Sieving.{passed_on}
use Rattle.permit_sql_rows.specs.Rows.{int}
use Rattle.permit_sql_statements.specs.declared.texts.TheConstants.{READ_FOUND}
use Rattle.permit_sql_statements.specs.Gave.{Gave}
use Rattle.permit_sql_statements.proofs.Handing.{found_plain, gave_under, handed_all, handed_sifted}
use Rattle.permit_sql_statements.proofs.KeptLemmas.{query_reads}
use Rattle.permit_sql_statements.proofs.Selecting.{all_found}
use Rattle.permit_sql_statements.proofs.select.each_sifted.Goals as goal

-- a count that went up by what was passed on
counted : (more passed before after : ℕ) → passed ≡ more_handed more 0 → after ≡ (before + passed) % 2 ^ 64 → after ≡ more_handed more before
counted more passed before after e f = omega arith

pub returns-clause-handed : goal.returns-clause-handed
returns-clause-handed g c =
    let old = state g.S.Store c.args.conn.now in
    let new = state g.S.Store c.hand_rows-all.new.conn in
    let routes = c.args.routes.now in
    let result = c.hand_rows-all.result in
    let it = rw c.conn.view_is at c.hand_rows-all.ensures.handed in
    let test = is_found_by_any routes c.args.caller c.args.day in
    let on = passed_on g.T.Taker.took routes c.args.caller c.args.day result it.0 _ c.hand_rows-all.new.taker (omega arith) (refl, refl, refl) it.1 in
    let named = on.same in (
      filter test it.0,
      subst (λ x. Took g.T.Taker.took (filter test it.0) c.args.taker.now x result) (search rules) on.taken,
      counted (length (filter test it.0)) c.hand_rows-all.new.taker.passed c.args.handed.now _ on.passed refl,
      λ t clean there same.
          let gave = it.2 clean (λ opened. found_plain t old.now (there opened)) in
          let asked = ap (λ v. v ∷ []) (c.number.ensures ∙ ap int c.get.ensures.same) in
          handed_sifted t result test it.0 (all_found t c.args.caller) (handed_all t c.args.caller result old new it.0 there
          (gave_under t.upgrade c.args.upgrade same (subst (λ p. Gave c.args.upgrade result READ_FOUND.now p old new it.0) asked gave))),
    )

pub returns-clause-read : goal.returns-clause-read
returns-clause-read g c =
    let query = rw c.conn.view_is at c.hand_rows-all.ensures.query in
    query_reads g.S.Store c.hand_rows-all.result query query.opened (λ t k. found_plain t (state g.S.Store c.args.conn.now).now k)
