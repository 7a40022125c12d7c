use Rattle.std.proofs.Common.{Option, Some, None, IfSome, sym, ◌∙◌}
use Rattle.sqlite.specs.Held.{state}
use Rattle.permit_sql.proofs.Version.{only_found, kept_desk}
use Rattle.permit_sql.proofs.open.find_desk.Goals as goal

of_both : {A : Type 0} {P Q R : A → Type 0} (o : Option A) → IfSome o P → IfSome o Q → ((x : A) → P x → Q x → R x) → IfSome o R
of_both None p q f = tt
of_both (Some x) p q f = f x p q

pub returns-clause-good : goal.returns-clause-good
returns-clause-good g c fine office =
    let was = (c.desk_seen.ensures.look.left fine).0 in
    let is = c.as_slice.ensures.value in
    of_both c.only_desk.result c.only_desk.ensures.back c.only_desk.ensures.typed (λ d shown good.
    only_found c.args.edition (state g.S.Store c.args.conn.now).now c.in_ok-rows.rows.items shown.0 d office (c.schema-schema.ensures.live was.1).0
    (c.in_ok-rows.ensures.rows fine.0) (sym is ∙ shown.1) shown.2 good)

pub returns-clause-kept : goal.returns-clause-kept
returns-clause-kept g c fine t typed k =
    c.only_desk.ensures.some t.desk typed.desk k.now (c.as_slice.ensures.value
    ∙ kept_desk c.args.edition t (state g.S.Store c.args.conn.now).now c.in_ok-rows.rows.items k (c.in_ok-rows.ensures.rows fine.0))
