use Rattle.permit_http.proofs.Streams.{message-append, fault-append}
use Rattle.permit_http.proofs.laws.front_stays.Goals as goal

pub returns : goal.returns
returns c = record { message = message-append; fault = fault-append }
