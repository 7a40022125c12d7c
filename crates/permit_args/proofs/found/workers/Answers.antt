use Rattle.clap.specs.Words.{found_of, rows_of}
use Rattle.permit_args.specs.Blames.{BlamesPlace}
use Rattle.permit_args.specs.Plans.{most_workers, IsCountOf, IsWorkersOf}
use Rattle.permit_args.specs.declared.places.Place.TheVariants as place
use Rattle.permit_args.proofs.Unread.{if_refused, refused_at}
use Rattle.permit_args.proofs.Values.{workers_of}
use Rattle.permit_args.proofs.found.workers.Goals as goal

pub returns-in-Some-clause-refused : goal.returns-in-Some-clause-refused
returns-in-Some-clause-refused c = if_refused c.count.result _ _ (λ fault refused. refused_at place.Workers (rows_of (found_of c.args.matches.now)) c.in-Some.text.now
    (IsWorkersOf (rows_of (found_of c.args.matches.now))) (BlamesPlace place.Workers (rows_of (found_of c.args.matches.now))) (IsCountOf most_workers c.in-Some.text.now) fault refused
    (λ x is. (x, workers_of (rows_of (found_of c.args.matches.now)) c.in-Some.text.now x c.in-Some.ensures is)) c.in-Some.ensures (λ taken. taken) (λ line h. h)) c.count.ensures.refused
