use Rattle.std.proofs.Common.{subst, sym, ◌∙◌}
use Rattle.sqlite.specs.Effect.{Database}
use Rattle.sqlite.specs.Held.{state}
use Rattle.permit_base.specs.declared.words.Edition.TheVariants.{First, Second}
use Rattle.permit_sql.specs.Opening.{HasOtherVersion}
use Rattle.permit_cli.specs.Reasons.{Stands}
use Rattle.permit_cli.proofs.Standings.{stands_by, tells}
use Rattle.permit_cli.proofs.standing.standing_in.Goals as goal

pub returns-clause-stands : goal.returns-clause-stands
returns-clause-stands g c clean =
    let db = (state g.S.Store c.args.conn.now).now in
    let now = (state g.S.Store c.says_other_version-2.new.conn).now in
    let one = c.in_ok-not_first in
    let two = c.in_ok-not_second in
    let after = two.ensures.same clean in
    let before = one.ensures.same after.0 in
    let first = tells First db now c.schema.result.now one.not_first c.is_office-is_first.result (one.ensures.other after.0) (one.ensures.told after.0)
    c.is_office-is_first.ensures.told c.schema.ensures.value (after.1 ∙ before.1) in
    let second = tells Second db now c.schema-2.result.now two.not_second c.is_office-is_second.result
    (λ says. subst (λ (d : Database). HasOtherVersion Second d) before.1 (two.ensures.other clean says))
    (λ has. two.ensures.told clean (subst (λ (d : Database). HasOtherVersion Second d) (sym before.1) has))
    c.is_office-is_second.ensures.told c.schema-2.ensures.value (after.1 ∙ before.1) in
    subst (Stands db) (sym c.standing_by.ensures) (stands_by db one.not_first two.not_second c.is_office-is_first.result c.is_office-is_second.result first second)
