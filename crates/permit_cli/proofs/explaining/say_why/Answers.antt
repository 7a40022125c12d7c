use Rattle.std.proofs.Common.{List, ℕ, subst}
use Rattle.permit_cli.specs.Explained.{ExplainsFile}
use Rattle.permit_cli.proofs.Explanations.{known, line_of}
use Rattle.permit_cli.proofs.explaining.say_why.Goals as goal

pub returns-in-File : goal.returns-in-File
returns-in-File g c =
    known _ _ _ _ _ _ c.in-File.is
    (subst (λ (path : List ℕ). ExplainsFile path (g.E.Write.contents c.args.err.now) (g.E.Write.contents c.explain_file.new.err) c.explain_file.result)
    c.as_str.ensures.value c.explain_file.ensures)

pub returns-in-Day : goal.returns-in-Day
returns-in-Day g c = known _ _ _ _ _ _ c.in-Day.is (line_of _ _ _ _ _ c.refused_day.ensures c.print_line_of.ensures)

pub returns-in-Zone : goal.returns-in-Zone
returns-in-Zone g c = known _ _ _ _ _ _ c.in-Zone.is (line_of _ _ _ _ _ c.zone_reason.ensures c.print_line_of-in-Zone.ensures)

pub returns-in-Listen : goal.returns-in-Listen
returns-in-Listen g c = known _ _ _ _ _ _ c.in-Listen.is (line_of _ _ _ _ _ c.listen_reason.ensures c.print_line_of-in-Listen.ensures)
