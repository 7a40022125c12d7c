use Rattle.std.proofs.Common.{codes, refl}
use Rattle.clap.specs.Words.{first_of, found_of, rows_of}
use Rattle.permit_args.specs.Blames.{BlamesCheck}
use Rattle.permit_args.specs.Faults.{Says}
use Rattle.permit_args.specs.Lines.{clash_line}
use Rattle.permit_args.specs.Plans.{is_given, Clashes, IsCheckOf}
use Rattle.permit_args.proofs.Unread.{refuses}
use Rattle.permit_args.proofs.Values.{no_check}
use Rattle.permit_args.proofs.found.check.Goals as goal

pub returns-in-Err-clause-refused : goal.returns-in-Err-clause-refused
returns-in-Err-clause-refused c =
    let rows = rows_of (found_of c.args.matches.now) in
    let two = c.in-Err.clash in
    let clash : Clashes (is_given (codes "dead") rows) (first_of (codes "facts") rows) (first_of (codes "against") rows) (is_given (codes "table") rows) two =
    rw (c.is_given-dead.ensures, c.value-facts.ensures, c.value-against.ensures, c.is_given-table.ensures) c.in-Err.ensures.clash in
    let said : Says (clash_line two) c.bad.result = rw c.line.ensures at c.bad.ensures in
    refuses (IsCheckOf rows) (BlamesCheck rows) (clash_line two) c.bad.result said (no_check _ _ _ _ two clash) (two, clash, refl)
