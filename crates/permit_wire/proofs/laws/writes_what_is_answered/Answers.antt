use Rattle.permit_wire.proofs.WhatIsWritten.{writes_what_is_answered}
use Rattle.permit_wire.proofs.laws.writes_what_is_answered.Goals as goal

pub returns : goal.returns
returns c = λ after ends bytes before exchanges h. writes_what_is_answered after ends h
