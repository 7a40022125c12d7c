use Rattle.std.proofs.Common.{Some, codes, inl, inr}
use Rattle.clap.specs.Words.{found_of, rows_of}
use Rattle.permit_args.specs.Blames.{Blames, BlamesBoth}
use Rattle.permit_args.specs.Plans.{IsKeepingOf, IsPathOf, IsUpgradeOf}
use Rattle.permit_args.specs.declared.plan.Subcommand.TheVariants as named
use Rattle.permit_args.proofs.Unread.{passed_on, refused_part, refused_without}
use Rattle.permit_args.proofs.subcommands.upgrade.Goals as goal

pub returns-in_err-required-clause-refused : goal.returns-in_err-required-clause-refused
returns-in_err-required-clause-refused c = passed_on _ _ _ c.from_residual.ensures.1 (
    refused_without (codes "db") (rows_of (found_of c.args.matches.now)) (IsUpgradeOf (rows_of (found_of c.args.matches.now))) (Blames (Some named.Upgrade) (rows_of (found_of c.args.matches.now))) _ c.in_err-required.ensures.refused
    (λ x is. (x.db.now, is.db)) (λ line h. inl h))

pub returns-in_err-new_keeping-clause-refused : goal.returns-in_err-new_keeping-clause-refused
returns-in_err-new_keeping-clause-refused c = passed_on _ _ _ c.from_residual-in_err-new_keeping.ensures.1 (
    refused_part (IsUpgradeOf (rows_of (found_of c.args.matches.now))) (Blames (Some named.Upgrade) (rows_of (found_of c.args.matches.now)))
    (IsKeepingOf (IsPathOf (rows_of (found_of c.args.matches.now))) (rows_of (found_of c.args.matches.now))) (BlamesBoth (rows_of (found_of c.args.matches.now))) _ c.in_err-new_keeping.ensures.refused
    (λ x is. (x.history, is.history)) (λ none line h. inr h))
