use Rattle.std.proofs.Common.{Ok, ap}
use Rattle.std.proofs.lemmas.Bool.{false≢true}
use Rattle.std.proofs.lemmas.Option.{IfSome_then}
use Rattle.permit_days.specs.Dates.{IsTextOf}
use Rattle.permit_subcommands.proofs.Dated.{kept_day, one_day}
use Rattle.permit_subcommands.proofs.days.day_of_run.Goals as goal

pub returns-in_err-days_of_run-clause-every : goal.returns-in_err-days_of_run-clause-every
returns-in_err-days_of_run-clause-every g c =
    IfSome_then c.args.words.now.day c.days_of_run.ensures.every
    (λ date every zoned day small is. absurd (false≢true (rw c.in_err-days_of_run.was at (every zoned day small is))))

pub returns-clause-read : goal.returns-clause-read
returns-clause-read g c =
    IfSome_then c.args.words.now.day c.in_ok-days_of_run.ensures.dated
    (λ date dated. kept_day (λ day. IsTextOf day date.now) c.in_ok-days_of_run.field-0.date c.today.result dated c.today.ensures.dated)

pub returns-clause-every : goal.returns-clause-every
returns-clause-every g c =
    IfSome_then c.args.words.now.day c.in_ok-days_of_run.ensures.dated
    (λ date dated zoned day small is. ap Ok (one_day c.today.result day date.now
    (kept_day (λ day. IsTextOf day date.now) c.in_ok-days_of_run.field-0.date c.today.result dated c.today.ensures.dated) is))
