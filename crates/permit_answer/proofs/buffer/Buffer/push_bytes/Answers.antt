use Rattle.std.proofs.Common.{arith, ◌∙◌}
use Rattle.permit_answer.proofs.Buffers.{pushed_more, whole_line}
use Rattle.permit_answer.proofs.buffer.Buffer.push_bytes.Goals as goal

pub loop-byte-preserved : goal.loop-byte-preserved
loop-byte-preserved c =
    c.push.ensures ∙ pushed_more c.args.self.now c.args.bytes.now c.loop-byte.byte-index c.loop-byte.self c.loop-byte-test.true c.loop-byte.invariant

pub loop-byte-init : goal.loop-byte-init
loop-byte-init c = whole_line c.args.self.now (omega (arith, c.len-len.ensures.count, c.len-len.ensures.fits))
