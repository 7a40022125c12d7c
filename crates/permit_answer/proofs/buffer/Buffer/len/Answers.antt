use Rattle.std.proofs.Common.{ap, ◌∙◌, length}
use Rattle.permit_answer.proofs.Buffers.{view_length}
use Rattle.permit_answer.proofs.buffer.Buffer.len.Goals as goal

pub returns-clause-count : goal.returns-clause-count
returns-clause-count c = view_length c.self.inside.bytes c.self.inside.len c.self.told c.self.invariant ∙ ap length c.self.view_is
