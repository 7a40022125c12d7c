use Rattle.permit_wire.proofs.WhatIsAsked.{serves_what_is_asked}
use Rattle.permit_wire.proofs.laws.puts_what_is_asked.Goals as goal

pub returns : goal.returns
returns c = λ after ends bytes before exchanges h. serves_what_is_asked after ends bytes before exchanges h
