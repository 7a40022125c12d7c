use Rattle.std.proofs.Common.{◌++◌, ◌∙◌, List, ℕ, ap, sym}
use Rattle.std.specs.Prelude.{codes}
use Rattle.permit_import.specs.Refusals.{refused_line}
use Rattle.permit_cli.proofs.Complaints.{line_said}
use Rattle.permit_cli.proofs.complaining.say_refused.Goals as goal

pub returns-in-Denied : goal.returns-in-Denied
returns-in-Denied g c =
    line_said (refused_line c.args.why.now) (codes "refused: denied by ") c.as_str.result.now (codes "\n") _ _ _
    (ap refused_line c.in-Denied.is ∙ ap (λ (w : List ℕ). codes "refused: denied by " ++ w) (sym c.as_str.ensures.same)) c.print_three-in-Denied.ensures

pub returns-in-NotAdmitted : goal.returns-in-NotAdmitted
returns-in-NotAdmitted g c =
    line_said (refused_line c.args.why.now) (codes "refused: not admitted, ") c.word-in-NotAdmitted.result.now (codes "\n") _ _ _
    (ap refused_line c.in-NotAdmitted.is ∙ ap (λ (w : List ℕ). codes "refused: not admitted, " ++ w) (sym c.word-in-NotAdmitted.ensures))
    c.print_three-in-NotAdmitted.ensures
