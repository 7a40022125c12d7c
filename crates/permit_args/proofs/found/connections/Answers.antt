use Rattle.clap.specs.Words.{found_of, rows_of}
use Rattle.permit_args.specs.Blames.{BlamesPlace}
use Rattle.permit_args.specs.Plans.{most_connections, IsConnectionsOf, IsCountOf}
use Rattle.permit_args.specs.declared.places.Place.TheVariants as place
use Rattle.permit_args.proofs.Unread.{passed_on, refused_at}
use Rattle.permit_args.proofs.Values.{optional_counted}
use Rattle.permit_args.proofs.found.connections.Goals as goal

pub returns-in_err-count-in-Some-clause-refused : goal.returns-in_err-count-in-Some-clause-refused
returns-in_err-count-in-Some-clause-refused c = passed_on _ _ _ c.from_residual.ensures.1 (
    refused_at place.Connections (rows_of (found_of c.args.matches.now)) c.in-Some.text.now
    (IsConnectionsOf (rows_of (found_of c.args.matches.now))) (BlamesPlace place.Connections (rows_of (found_of c.args.matches.now)))
    (IsCountOf most_connections c.in-Some.text.now) _ c.in_err-count-in-Some.ensures.refused
    (λ x is. optional_counted most_connections _ c.in-Some.text.now x c.in-Some.ensures is) c.in-Some.ensures (λ taken. taken) (λ line h. h))
