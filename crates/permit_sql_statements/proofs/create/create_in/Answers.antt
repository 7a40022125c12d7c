use Rattle.std.proofs.Common.{ℕ, List, sym, subst, Result, Ok, Err, OnOk}
use Rattle.std.proofs.lemmas.Result.{on_ok_weaker}
use Rattle.sqlite.specs.Held.{state}
use Rattle.sqlite.proofs.StateLemmas.{survives_weaker}
use Rattle.permit_base.specs.declared.words.Role.TheVariants.{Official}
use Rattle.permit_model.specs.Caller.{Party}
use Rattle.permit_model.specs.Tables.{tables}
use Rattle.permit_store.specs.Founding.{founding}
use Rattle.permit_sql_rows.specs.Kept.{Keeps}
use Rattle.permit_sql_statements.proofs.Creating.{founding_made}
use Rattle.permit_sql_statements.proofs.create.create_in.Goals as goal

join : {T E P Q R : Type 0} (r : Result T E) → OnOk r P → OnOk r Q → (P → Q → R) → OnOk r R
join (Ok x) p q f = f p q
join (Err e) p q f = tt

abbrev founder_of : List ℕ → List ℕ → Party
founder_of name digest = record { id = 1; name = name; role = Official; digest = digest }

pub returns-clause-made : goal.returns-clause-made
returns-clause-made g c clean =
    let a = c.args in
    let f = a.founder.now in
    join c.found.result (c.found.ensures.shown clean) (on_ok_weaker c.found.result
    (λ h. founding_made g.S.Store a.conn.now _ f.day (founder_of f.name f.digest) c.requires.empty
    (rw (
      c.params-to_sql.ensures,
      c.params-to_sql-2.ensures,
      c.params-to_sql-3.ensures,
      c.params-to_sql-4.ensures,
      c.params-to_sql-5.ensures,
      c.params-to_sql-6.ensures,
      c.get.ensures.same,
      c.as_str.ensures.same,
      c.as_str-2.ensures.same,
    ) at h)) (c.found.ensures.all clean))
    (λ same h. subst (Keeps (tables (founding f.name f.digest f.day))) (sym same) h)

pub returns-clause-crash : goal.returns-clause-crash
returns-clause-crash g c =
    let a = c.args in
    let f = a.founder.now in
    survives_weaker (state g.S.Store a.conn.now) (state g.S.Store c.found.new.conn) _ _
    (λ clean trees h. (
      h.0,
      founding_made g.S.Store a.conn.now h.0 f.day (founder_of f.name f.digest) c.requires.empty
          (rw (
            c.params-to_sql.ensures,
            c.params-to_sql-2.ensures,
            c.params-to_sql-3.ensures,
            c.params-to_sql-4.ensures,
            c.params-to_sql-5.ensures,
            c.params-to_sql-6.ensures,
            c.get.ensures.same,
            c.as_str.ensures.same,
            c.as_str-2.ensures.same,
          ) at h.1),
      h.2,
    ))
    c.found.ensures.crash
