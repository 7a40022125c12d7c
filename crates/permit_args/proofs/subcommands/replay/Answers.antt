use Rattle.std.proofs.Common.{Some, codes, inl, inr}
use Rattle.clap.specs.Words.{found_of, rows_of}
use Rattle.permit_args.specs.Blames.{Blames}
use Rattle.permit_args.specs.Plans.{IsReplayOf}
use Rattle.permit_args.specs.declared.plan.Subcommand.TheVariants as named
use Rattle.permit_args.proofs.Unread.{passed_on, refused_without}
use Rattle.permit_args.proofs.subcommands.replay.Goals as goal

pub returns-in_err-required-clause-refused : goal.returns-in_err-required-clause-refused
returns-in_err-required-clause-refused c = passed_on _ _ _ c.from_residual.ensures.1 (
    refused_without (codes "db") (rows_of (found_of c.args.matches.now)) (IsReplayOf (rows_of (found_of c.args.matches.now))) (Blames (Some named.Replay) (rows_of (found_of c.args.matches.now))) _ c.in_err-required.ensures.refused
    (λ x is. (x.db.now, is.db)) (λ line h. inl h))

pub returns-in_err-required-2-clause-refused : goal.returns-in_err-required-2-clause-refused
returns-in_err-required-2-clause-refused c = passed_on _ _ _ c.from_residual-in_err-required-2.ensures.1 (
    refused_without (codes "history") (rows_of (found_of c.args.matches.now)) (IsReplayOf (rows_of (found_of c.args.matches.now))) (Blames (Some named.Replay) (rows_of (found_of c.args.matches.now))) _ c.in_err-required-2.ensures.refused
    (λ x is. (x.history.text.now, is.history.0)) (λ line h. inr h))
