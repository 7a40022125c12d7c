use Rattle.std.proofs.Common.{Some, codes, inl, inr}
use Rattle.clap.specs.Words.{found_of, rows_of}
use Rattle.permit_args.specs.Blames.{Blames, BlamesKeeping, BlamesPlace}
use Rattle.permit_args.specs.Plans.{ArePathsOf, IsConnectionsOf, IsKeepingOf, IsServeOf, IsWorkersOf}
use Rattle.permit_args.specs.declared.places.Place.TheVariants as place
use Rattle.permit_args.specs.declared.plan.Subcommand.TheVariants as named
use Rattle.permit_args.proofs.Unread.{passed_on, refused_part, refused_without}
use Rattle.permit_args.proofs.subcommands.serve.Goals as goal

pub returns-in_err-required-clause-refused : goal.returns-in_err-required-clause-refused
returns-in_err-required-clause-refused c = passed_on _ _ _ c.from_residual.ensures.1 (
    refused_without (codes "db") (rows_of (found_of c.args.matches.now)) (IsServeOf (rows_of (found_of c.args.matches.now))) (Blames (Some named.Serve) (rows_of (found_of c.args.matches.now))) _ c.in_err-required.ensures.refused
    (λ x is. (x.db.now, is.db)) (λ line h. inl h))

pub returns-in_err-required-2-clause-refused : goal.returns-in_err-required-2-clause-refused
returns-in_err-required-2-clause-refused c = passed_on _ _ _ c.from_residual-in_err-required-2.ensures.1 (
    refused_without (codes "policy") (rows_of (found_of c.args.matches.now)) (IsServeOf (rows_of (found_of c.args.matches.now))) (Blames (Some named.Serve) (rows_of (found_of c.args.matches.now))) _ c.in_err-required-2.ensures.refused
    (λ x is. (x.policy.now, is.policy)) (λ line h. inr (inl h)))

pub returns-in_err-required-3-clause-refused : goal.returns-in_err-required-3-clause-refused
returns-in_err-required-3-clause-refused c = passed_on _ _ _ c.from_residual-in_err-required-3.ensures.1 (
    refused_without (codes "listen") (rows_of (found_of c.args.matches.now)) (IsServeOf (rows_of (found_of c.args.matches.now))) (Blames (Some named.Serve) (rows_of (found_of c.args.matches.now))) _ c.in_err-required-3.ensures.refused
    (λ x is. (x.listen.now, is.listen)) (λ line h. inr (inr (inl h))))

pub returns-in_err-workers-clause-refused : goal.returns-in_err-workers-clause-refused
returns-in_err-workers-clause-refused c = passed_on _ _ _ c.from_residual-in_err-workers.ensures.1 (
    refused_part (IsServeOf (rows_of (found_of c.args.matches.now))) (Blames (Some named.Serve) (rows_of (found_of c.args.matches.now))) (IsWorkersOf (rows_of (found_of c.args.matches.now))) (BlamesPlace place.Workers (rows_of (found_of c.args.matches.now))) _ c.in_err-workers.ensures.refused
    (λ x is. (x.workers, is.workers)) (λ none line h. inr (inr (inr (inl h)))))

pub returns-in_err-connections-clause-refused : goal.returns-in_err-connections-clause-refused
returns-in_err-connections-clause-refused c = passed_on _ _ _ c.from_residual-in_err-connections.ensures.1 (
    refused_part (IsServeOf (rows_of (found_of c.args.matches.now))) (Blames (Some named.Serve) (rows_of (found_of c.args.matches.now))) (IsConnectionsOf (rows_of (found_of c.args.matches.now))) (BlamesPlace place.Connections (rows_of (found_of c.args.matches.now))) _ c.in_err-connections.ensures.refused
    (λ x is. (x.connections, is.connections)) (λ none line h. inr (inr (inr (inr (inl h))))))

pub returns-in_err-keeping-clause-refused : goal.returns-in_err-keeping-clause-refused
returns-in_err-keeping-clause-refused c = passed_on _ _ _ c.from_residual-in_err-keeping.ensures.1 (
    refused_part (IsServeOf (rows_of (found_of c.args.matches.now))) (Blames (Some named.Serve) (rows_of (found_of c.args.matches.now)))
    (IsKeepingOf (ArePathsOf (rows_of (found_of c.args.matches.now))) (rows_of (found_of c.args.matches.now))) (BlamesKeeping (rows_of (found_of c.args.matches.now))) _ c.in_err-keeping.ensures.refused
    (λ x is. (x.history, is.history)) (λ none line h. inr (inr (inr (inr (inr h))))))
