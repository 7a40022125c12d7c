use Rattle.std.proofs.Common.{Some, codes, inl, inr}
use Rattle.clap.specs.Words.{found_of, rows_of}
use Rattle.permit_args.specs.Blames.{Blames, BlamesPaths}
use Rattle.permit_args.specs.Plans.{ArePathsOf, IsCheckDbOf}
use Rattle.permit_args.specs.declared.plan.Subcommand.TheVariants as named
use Rattle.permit_args.proofs.Unread.{passed_on, refused_part, refused_without}
use Rattle.permit_args.proofs.subcommands.check_db.Goals as goal

pub returns-in_err-required-clause-refused : goal.returns-in_err-required-clause-refused
returns-in_err-required-clause-refused c = passed_on _ _ _ c.from_residual.ensures.1 (
    refused_without (codes "db") (rows_of (found_of c.args.matches.now)) (IsCheckDbOf (rows_of (found_of c.args.matches.now))) (Blames (Some named.CheckDb) (rows_of (found_of c.args.matches.now))) _ c.in_err-required.ensures.refused
    (λ x is. (x.db.now, is.db)) (λ line h. inl h))

pub returns-in_err-paths-clause-refused : goal.returns-in_err-paths-clause-refused
returns-in_err-paths-clause-refused c = passed_on _ _ _ c.from_residual-in_err-paths.ensures.1 (
    refused_part (IsCheckDbOf (rows_of (found_of c.args.matches.now))) (Blames (Some named.CheckDb) (rows_of (found_of c.args.matches.now)))
    (ArePathsOf (rows_of (found_of c.args.matches.now))) (BlamesPaths (rows_of (found_of c.args.matches.now))) _ c.in_err-paths.ensures.refused
    (λ x is. (x.history, is.history)) (λ none line h. inr h))
