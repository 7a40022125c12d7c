use Rattle.std.proofs.Common.{Some, codes, inl, inr}
use Rattle.clap.specs.Words.{found_of, rows_of}
use Rattle.permit_args.specs.Blames.{Blames, BlamesOffice, BlamesKeeping}
use Rattle.permit_args.specs.Plans.{ArePathsOf, IsImportOf, IsKeepingOf, IsOfficeOf}
use Rattle.permit_args.specs.declared.plan.Subcommand.TheVariants as named
use Rattle.permit_args.proofs.Unread.{passed_on, refused_part, refused_without}
use Rattle.permit_args.proofs.subcommands.import.Goals as goal

pub returns-in_err-office-clause-refused : goal.returns-in_err-office-clause-refused
returns-in_err-office-clause-refused c = passed_on _ _ _ c.from_residual.ensures.1 (
    refused_part (IsImportOf (rows_of (found_of c.args.matches.now))) (Blames (Some named.Import) (rows_of (found_of c.args.matches.now))) (IsOfficeOf (rows_of (found_of c.args.matches.now))) (BlamesOffice (rows_of (found_of c.args.matches.now))) _ c.in_err-office.ensures.refused
    (λ x is. (x.office, is.office)) (λ none line h. inl h))

pub returns-in_err-required-clause-refused : goal.returns-in_err-required-clause-refused
returns-in_err-required-clause-refused c = passed_on _ _ _ c.from_residual-in_err-required.ensures.1 (
    refused_without (codes "file") (rows_of (found_of c.args.matches.now)) (IsImportOf (rows_of (found_of c.args.matches.now))) (Blames (Some named.Import) (rows_of (found_of c.args.matches.now))) _ c.in_err-required.ensures.refused
    (λ x is. (x.file.now, is.file)) (λ line h. inr (inl h)))

pub returns-in_err-keeping-clause-refused : goal.returns-in_err-keeping-clause-refused
returns-in_err-keeping-clause-refused c = passed_on _ _ _ c.from_residual-in_err-keeping.ensures.1 (
    refused_part (IsImportOf (rows_of (found_of c.args.matches.now))) (Blames (Some named.Import) (rows_of (found_of c.args.matches.now)))
    (IsKeepingOf (ArePathsOf (rows_of (found_of c.args.matches.now))) (rows_of (found_of c.args.matches.now))) (BlamesKeeping (rows_of (found_of c.args.matches.now))) _ c.in_err-keeping.ensures.refused
    (λ x is. (x.history, is.history)) (λ none line h. inr (inr h)))
