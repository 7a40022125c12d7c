use Rattle.std.proofs.Common.{Some, codes, inl, inr}
use Rattle.clap.specs.Words.{found_of, rows_of}
use Rattle.permit_args.specs.Blames.{Blames, BlamesToken}
use Rattle.permit_args.specs.Plans.{IsInitOf, IsTokenOf}
use Rattle.permit_args.specs.declared.plan.Subcommand.TheVariants as named
use Rattle.permit_args.proofs.Unread.{passed_on, refused_part, refused_without}
use Rattle.permit_args.proofs.subcommands.init.Goals as goal

pub returns-in_err-required-clause-refused : goal.returns-in_err-required-clause-refused
returns-in_err-required-clause-refused c = passed_on _ _ _ c.from_residual.ensures.1 (
    refused_without (codes "db") (rows_of (found_of c.args.matches.now)) (IsInitOf (rows_of (found_of c.args.matches.now))) (Blames (Some named.Init) (rows_of (found_of c.args.matches.now))) _ c.in_err-required.ensures.refused
    (λ x is. (x.db.now, is.db)) (λ line h. inl h))

pub returns-in_err-required-2-clause-refused : goal.returns-in_err-required-2-clause-refused
returns-in_err-required-2-clause-refused c = passed_on _ _ _ c.from_residual-in_err-required-2.ensures.1 (
    refused_without (codes "name") (rows_of (found_of c.args.matches.now)) (IsInitOf (rows_of (found_of c.args.matches.now))) (Blames (Some named.Init) (rows_of (found_of c.args.matches.now))) _ c.in_err-required-2.ensures.refused
    (λ x is. (x.name.now, is.name)) (λ line h. inr (inl h)))

pub returns-in_err-token-clause-refused : goal.returns-in_err-token-clause-refused
returns-in_err-token-clause-refused c = passed_on _ _ _ c.from_residual-in_err-token.ensures.1 (
    refused_part (IsInitOf (rows_of (found_of c.args.matches.now))) (Blames (Some named.Init) (rows_of (found_of c.args.matches.now))) (IsTokenOf (rows_of (found_of c.args.matches.now))) (BlamesToken (rows_of (found_of c.args.matches.now))) _ c.in_err-token.ensures.refused
    (λ x is. (x.token, is.token)) (λ none line h. inr (inr h)))
