use Rattle.std.proofs.Common.{arith}
use Rattle.sqlite.specs.State.{HasCleanDisk}
use Rattle.sqlite.specs.Held.{state}
use Rattle.permit_sql.proofs.Refusing.{refuses_rows}
use Rattle.permit_sql.proofs.open.check_versioned.Goals as goal

pub returns-in-Ok-false-clause-refuses : goal.returns-in-Ok-false-clause-refuses
returns-in-Ok-false-clause-refuses g c =
    let old = state g.S.Store c.args.conn.now in
    let mid = state g.S.Store c.has_other_version.new.conn in
    let new = state g.S.Store c.check_tables.new.conn in
    refuses_rows c.args.edition old mid new c.check_tables.result c.has_other_version.ensures.look.left c.check_tables.ensures.look.left
    (λ clean other.
    let late : HasCleanDisk mid = let less = c.check_tables.ensures.look.crash.clean in omega (arith, less, clean) in
    let is_other = c.in-Ok-false.ensures.told late other in
    let is_not = c.in-Ok-false.field-0-test in
    cc)
    c.check_tables.ensures.damaged c.check_tables.ensures.schema c.check_tables.ensures.judged c.check_tables.ensures.refusal
