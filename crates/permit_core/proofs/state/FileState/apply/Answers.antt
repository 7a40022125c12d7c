use Rattle.std.proofs.Common.{arith, sym, ◌∙◌, ap}
use Rattle.permit_model.specs.Tables.{state_of}
use Rattle.permit_core.proofs.RowMore.{row_more, notices_within, recorded}
use Rattle.permit_core.proofs.state.FileState.apply.Goals as goal

pub returns-clause-model : goal.returns-clause-model
returns-clause-model c h id file is there later row admitted = grind (arith, notices_within, row_more)

pub returns-clause-recorded : goal.returns-clause-recorded
returns-clause-recorded c h id file after is there later row admitted recorded_as =
    returns-clause-model c h id file is there later row admitted ∙ sym
    (ap state_of (recorded h id c.args.day c.args.caller file after c.args.command.now there recorded_as))
