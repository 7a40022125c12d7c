use Rattle.std.proofs.Common.{Option, Some, None, IfSome, List, get_or, ap, ◌∙◌}
use Rattle.sqlite_value.specs.Order.{Row}
use Rattle.permit_sql.proofs.Version.{first_alone}
use Rattle.permit_sql.proofs.open.only_desk.Goals as goal

shown_too : {A : Type 0} {P Q : A → Type 0} (o : Option A) → IfSome o P → ((x : A) → P x → Q x) → IfSome o Q
shown_too None p f = tt
shown_too (Some x) p f = f x p

pub returns-in-len1-clause-back : goal.returns-in-len1-clause-back
returns-in-len1-clause-back c =
    let row = c.row-item.result in
    shown_too c.desk_under.result c.desk_under.ensures.back (λ d shown. (
      row,
      first_alone c.args.rows.now row row c.in-len1.len_at_least c.in-len1.len_below c.row-item.is,
      shown,
    ))

pub returns-in-len1-clause-some : goal.returns-in-len1-clause-some
returns-in-len1-clause-some c = λ is good now e.
    c.desk_under.ensures.some is good now (c.row-item.is ∙ ap (λ (l : List Row). get_or l 0 c.row-item.result) e)
