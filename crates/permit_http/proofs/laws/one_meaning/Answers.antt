use Rattle.permit_http.proofs.Unique.{one_message, one_fault, message_or_fault, message_or_unfinished, fault_or_unfinished}
use Rattle.permit_http.proofs.laws.one_meaning.Goals as goal

pub returns : goal.returns
returns c = record {
  message = one_message;
  fault = one_fault;
  message_or_fault = message_or_fault;
  message_or_unfinished = message_or_unfinished;
  fault_or_unfinished = fault_or_unfinished;
}
