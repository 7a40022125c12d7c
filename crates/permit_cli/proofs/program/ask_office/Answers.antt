use Rattle.permit_args.specs.Keepings.{named_history}
use Rattle.permit_cli.proofs.Doings.{if_ok, run_day_read, says_asked}
use Rattle.permit_cli.proofs.Failings.{asks_fail}
use Rattle.permit_cli.proofs.program.ask_office.Goals as goal

pub returns : goal.returns
returns c =
    let on = run_day_read _ c.args.words.now.days _ c.in_ok-day.ensures.read c.in_ok-day.ensures.clock in
    let named = c.in_ok-history.ensures.named.0 in
    record {
      told = if_ok c.done_at.result (λ done told. (_, on, told)) c.done_at.ensures.comes;
      fails = asks_fail c.args.words.now _ c.in_ok-history.history c.args.keeping c.args.question _ _ c.done_at.result on named c.done_at.ensures.fails;
      says = says_asked c.in_ok-history.history (named_history c.args.keeping) c.args.question _ _ named c.done_at.ensures.says;
    }
