use Rattle.std.proofs.Common.{sym, ◌∙◌}
use Rattle.permit_core.proofs.SameReasons.{reason_on_row}
use Rattle.permit_core.proofs.state.FileState.admit.Goals as goal

pub returns-in-Some-clause-model : goal.returns-in-Some-clause-model
returns-in-Some-clause-model c h id caller file is there row known =
    sym (reason_on_row h id c.args.day caller file c.args.command.now c.args.self.now c.args.people.now is there row known) ∙ sym c.reason_against.ensures
    ∙ c.in-Some.is

pub returns-in-None-clause-model : goal.returns-in-None-clause-model
returns-in-None-clause-model c h id caller file is there row known =
    sym (reason_on_row h id c.args.day caller file c.args.command.now c.args.self.now c.args.people.now is there row known) ∙ sym c.reason_against.ensures
    ∙ c.in-None.is
