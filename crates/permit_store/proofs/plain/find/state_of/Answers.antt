use Rattle.std.proofs.Common.{sym}
use Rattle.permit_store.proofs.Kept.{row_found}
use Rattle.permit_store.proofs.plain.find.state_of.Goals as goal

pub returns : goal.returns
returns c = rw (sym (row_found c.args.id c.args.files.now), sym c.file_numbered.ensures) c.copy_state.ensures
