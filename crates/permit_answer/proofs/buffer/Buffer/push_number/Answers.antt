use Rattle.std.proofs.Common.{arith, ◌<◌, ◌^◌}
use Rattle.permit_answer.proofs.Lengths.{number_short}
use Rattle.permit_answer.proofs.buffer.Buffer.push_number.Goals as goal

pub returns-in-Some-clause-short : goal.returns-in-Some-clause-short
returns-in-Some-clause-short c =
    let h : c.in-Some.n < 2 ^ 32 = omega arith in
    rw c.in-Some.is (number_short c.in-Some.n h)
