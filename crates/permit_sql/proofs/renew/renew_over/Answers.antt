use Rattle.std.proofs.Common.{sym, arith}
use Rattle.sqlite.specs.State.{HasCleanDisk}
use Rattle.sqlite.specs.Held.{state}
use Rattle.permit_sql_rows.specs.Kept.{Shows}
use Rattle.permit_sql.proofs.Renewing.{none_there, none_has_it, one_has_it, reads_survive, renewal_survives, renews_failed}
use Rattle.permit_sql.proofs.renew.renew_over.Goals as goal

pub returns-in_err-role-clause-renewed : goal.returns-in_err-role-clause-renewed
returns-in_err-role-clause-renewed g c = λ t clean shows.
    renews_failed (λ u. Shows u (state g.S.Store c.read_role.new.conn)) c.args.party c.args.digest.now t c.from_residual.result c.from_residual.ensures.0
    (c.read_role.ensures.read.kept t clean shows)

pub returns-then-is_none-clause-renewed : goal.returns-then-is_none-clause-renewed
returns-then-is_none-clause-renewed g c = λ t clean shows. (
  none_there t.parties c.args.party c.args.digest.now c.in_ok-role.role (c.in_ok-role.ensures.found t clean shows) c.if-is_none.ensures,
  c.read_role.ensures.read.kept t clean shows,
)

pub returns-in_err-holder-clause-renewed : goal.returns-in_err-holder-clause-renewed
returns-in_err-holder-clause-renewed g c = λ t clean shows.
    let mid : HasCleanDisk (state g.S.Store c.read_role.new.conn) = omega (arith, c.find_party.ensures.read.doubt, clean) in
    renews_failed (λ u. Shows u (state g.S.Store c.find_party.new.conn)) c.args.party c.args.digest.now t c.from_residual-in_err-holder.result
    c.from_residual-in_err-holder.ensures.0 (c.find_party.ensures.read.kept t clean (c.read_role.ensures.read.kept t mid shows))

pub returns-in_err-holder-clause-crash : goal.returns-in_err-holder-clause-crash
returns-in_err-holder-clause-crash g c t k =
    reads_survive g.S.Store c.args.conn.now c.read_role.new.conn c.find_party.new.conn c.read_role.result c.find_party.result c.read_role.ensures.read
    c.in_ok-role.ensures.read.opened c.find_party.ensures.read c.find_party.ensures.outlasts t k _

pub returns-then-is_some-clause-renewed : goal.returns-then-is_some-clause-renewed
returns-then-is_some-clause-renewed g c = λ t clean shows.
    let mid : HasCleanDisk (state g.S.Store c.read_role.new.conn) = omega (arith, c.find_party.ensures.read.doubt, clean) in
    let after = c.read_role.ensures.read.kept t mid shows in (
      one_has_it t.parties c.args.party c.args.digest.now c.in_ok-role.role c.in_ok-holder.holder (c.in_ok-role.ensures.found t mid shows) c.if-is_none.ensures
          (c.in_ok-holder.ensures.found t clean after) (sym c.if-is_some.ensures),
      c.find_party.ensures.read.kept t clean after,
    )

pub returns-then-is_some-clause-crash : goal.returns-then-is_some-clause-crash
returns-then-is_some-clause-crash g c t k =
    reads_survive g.S.Store c.args.conn.now c.read_role.new.conn c.find_party.new.conn c.read_role.result c.find_party.result c.read_role.ensures.read
    c.in_ok-role.ensures.read.opened c.find_party.ensures.read c.find_party.ensures.outlasts t k _

pub returns-in_err-renew_party-clause-renewed : goal.returns-in_err-renew_party-clause-renewed
returns-in_err-renew_party-clause-renewed g c = λ t clean shows.
    let late : HasCleanDisk (state g.S.Store c.find_party.new.conn) = omega (arith, c.renew_party.ensures.doubt, clean) in
    let mid : HasCleanDisk (state g.S.Store c.read_role.new.conn) = omega (arith, c.find_party.ensures.read.doubt, late) in
    renews_failed (λ u. Shows u (state g.S.Store c.renew_party.new.conn)) c.args.party c.args.digest.now t c.from_residual-in_err-renew_party.result
    c.from_residual-in_err-renew_party.ensures.0
    (c.in_err-renew_party.ensures.kept t clean (c.find_party.ensures.read.kept t late (c.read_role.ensures.read.kept t mid shows)))

pub returns-in_err-renew_party-clause-crash : goal.returns-in_err-renew_party-clause-crash
returns-in_err-renew_party-clause-crash g c t k =
    renewal_survives g.S.Store c.args.conn.now c.read_role.new.conn c.find_party.new.conn c.read_role.result c.find_party.result c.read_role.ensures.read
    c.in_ok-role.ensures.read.opened c.find_party.ensures.read c.find_party.ensures.outlasts t k c.renew_party.new.conn c.renew_party.result c.args.party
    c.args.digest.now c.in_ok-holder.ensures.read.opened (rw c.get.ensures.same at c.renew_party.ensures)
    (λ late.
    let mid : HasCleanDisk (state g.S.Store c.read_role.new.conn) = omega (arith, c.find_party.ensures.read.doubt, late) in
    let after = c.read_role.ensures.read.kept t mid (λ _. k) in
    none_has_it t.parties c.args.party c.args.digest.now c.in_ok-role.role c.in_ok-holder.holder (c.in_ok-role.ensures.found t mid (λ _. k)) c.if-is_none.ensures
    (c.in_ok-holder.ensures.found t late after) (sym c.if-is_some.ensures))

pub returns-clause-renewed : goal.returns-clause-renewed
returns-clause-renewed g c = λ t clean shows.
    let late : HasCleanDisk (state g.S.Store c.find_party.new.conn) = omega (arith, c.renew_party.ensures.doubt, clean) in
    let mid : HasCleanDisk (state g.S.Store c.read_role.new.conn) = omega (arith, c.find_party.ensures.read.doubt, late) in
    let after = c.read_role.ensures.read.kept t mid shows in
    let none = none_has_it t.parties c.args.party c.args.digest.now c.in_ok-role.role c.in_ok-holder.holder (c.in_ok-role.ensures.found t mid shows)
    c.if-is_none.ensures (c.in_ok-holder.ensures.found t late after) (sym c.if-is_some.ensures) in
    (none, (rw c.get.ensures.same at c.in_ok-renew_party.ensures).made t clean (c.find_party.ensures.read.kept t late after) none)

pub returns-clause-crash : goal.returns-clause-crash
returns-clause-crash g c t k =
    renewal_survives g.S.Store c.args.conn.now c.read_role.new.conn c.find_party.new.conn c.read_role.result c.find_party.result c.read_role.ensures.read
    c.in_ok-role.ensures.read.opened c.find_party.ensures.read c.find_party.ensures.outlasts t k c.renew_party.new.conn c.renew_party.result c.args.party
    c.args.digest.now c.in_ok-holder.ensures.read.opened (rw c.get.ensures.same at c.renew_party.ensures)
    (λ late.
    let mid : HasCleanDisk (state g.S.Store c.read_role.new.conn) = omega (arith, c.find_party.ensures.read.doubt, late) in
    let after = c.read_role.ensures.read.kept t mid (λ _. k) in
    none_has_it t.parties c.args.party c.args.digest.now c.in_ok-role.role c.in_ok-holder.holder (c.in_ok-role.ensures.found t mid (λ _. k)) c.if-is_none.ensures
    (c.in_ok-holder.ensures.found t late after) (sym c.if-is_some.ensures))
