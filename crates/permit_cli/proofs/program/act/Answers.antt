use Rattle.std.proofs.Common.{List, ℕ, sym, subst}
use Rattle.permit_subcommands.specs.Tokens.{IsTokenOf}
use Rattle.permit_cli.proofs.Doings.{act_says, acts_as, if_ok}
use Rattle.permit_cli.proofs.Failings.{acts_fail, if_err}
use Rattle.permit_cli.proofs.program.act.Goals as goal

pub returns : goal.returns
returns c =
    let named = subst (λ (t : List ℕ). IsTokenOf c.args.words.now.office.token t) (sym c.as_str.ensures.value) c.in_ok-token.ensures.named in
    let came = c.ask_office in
    let asks = c.in_ok-question.ensures.asks in
    record {
      acts = if_ok came.result (λ done told. acts_as c.args.words.now _ _ _ _ done named asks told) came.ensures.told;
      fails = if_err came.result (λ why failed. (acts_fail c.args.words.now _ _ _ _ _ why asks failed).0) came.ensures.fails;
      unwritten = if_err came.result (λ why failed. (acts_fail c.args.words.now _ _ _ _ _ why asks failed).1) came.ensures.fails;
      says = act_says c.args.words.now _ _ _ _ _ asks came.ensures.says;
    }
