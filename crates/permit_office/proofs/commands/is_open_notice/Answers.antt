use Rattle.std.proofs.Common.{◌∙◌, sym}
use Rattle.permit_model.specs.Tables.{tables}
use Rattle.permit_office.proofs.OpenNotices.{open_papers}
use Rattle.permit_office.proofs.commands.is_open_notice.Goals as goal

pub returns-clause-open : goal.returns-clause-open
returns-clause-open g c = λ doubt h is held one there.
    let number = sym c.named_paper.ensures ∙ c.in-Some.is in
    rw (number, ← open_papers h c.args.file c.in-Some.number one there) (c.has_open_notice.ensures.found doubt (tables h) held)
