use Rattle.std.proofs.Common.{sym, subst, ◌∙◌}
use Rattle.permit_base.specs.declared.words.Edition.TheVariants.{Second}
use Rattle.permit_sql_rows.specs.Kept.{KeepsUnder}
use Rattle.permit_sql.proofs.Passing.{few_papers}
use Rattle.permit_sql.proofs.first_unsound_paper.papers_fault.Goals as goal

pub returns-clause-named : goal.returns-clause-named
returns-clause-named g c fine t typed k desk upgrade =
    let third = c.first_of.ensures.look.left fine in
    let second = c.tallies_of.ensures.look.left third.0 in
    let first = c.roles_of.ensures.look.left second.0 in
    let told = rw c.in-Some.is at (c.in_ok-tallies.ensures.told third.0.0 t typed (subst (KeepsUnder Second t) (sym first.1) k) upgrade) in
    let few = few_papers _ _ _ t.files (sym told.0) in
    c.first_of.ensures.named fine.0 t typed (subst (KeepsUnder Second t) (sym (second.1 ∙ first.1)) k) desk told.1 few

pub returns-clause-first : goal.returns-clause-first
returns-clause-first g c fine t typed k desk upgrade =
    let third = c.first_of.ensures.look.left fine in
    let second = c.tallies_of.ensures.look.left third.0 in
    let first = c.roles_of.ensures.look.left second.0 in
    let told = rw c.in-Some.is at (c.in_ok-tallies.ensures.told third.0.0 t typed (subst (KeepsUnder Second t) (sym first.1) k) upgrade) in
    let few = few_papers _ _ _ t.files (sym told.0) in
    c.first_of.ensures.first fine.0 t typed (subst (KeepsUnder Second t) (sym (second.1 ∙ first.1)) k) desk told.1 few
