use Rattle.std.proofs.Common.{Some, inl, inr}
use Rattle.clap.specs.Words.{found_of, rows_of}
use Rattle.permit_args.specs.Blames.{Blames, BlamesOffice, BlamesPlace}
use Rattle.permit_args.specs.Plans.{IsListOf, IsOfficeOf, IsStageOf}
use Rattle.permit_args.specs.declared.places.Place.TheVariants as place
use Rattle.permit_args.specs.declared.plan.Subcommand.TheVariants as named
use Rattle.permit_args.proofs.Unread.{passed_on, refused_part}
use Rattle.permit_args.proofs.subcommands.list.Goals as goal

pub returns-in_err-office-clause-refused : goal.returns-in_err-office-clause-refused
returns-in_err-office-clause-refused c = passed_on _ _ _ c.from_residual.ensures.1 (
    refused_part (IsListOf (rows_of (found_of c.args.matches.now))) (Blames (Some named.List) (rows_of (found_of c.args.matches.now))) (IsOfficeOf (rows_of (found_of c.args.matches.now))) (BlamesOffice (rows_of (found_of c.args.matches.now))) _ c.in_err-office.ensures.refused
    (λ x is. (x.office, is.office)) (λ none line h. inl h))

pub returns-in_err-stage-clause-refused : goal.returns-in_err-stage-clause-refused
returns-in_err-stage-clause-refused c = passed_on _ _ _ c.from_residual-in_err-stage.ensures.1 (
    refused_part (IsListOf (rows_of (found_of c.args.matches.now))) (Blames (Some named.List) (rows_of (found_of c.args.matches.now))) (IsStageOf (rows_of (found_of c.args.matches.now))) (BlamesPlace place.Stage (rows_of (found_of c.args.matches.now))) _ c.in_err-stage.ensures.refused
    (λ x is. (x.stage, is.stage)) (λ none line h. inr h))
