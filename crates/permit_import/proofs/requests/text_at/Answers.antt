use Rattle.permit_import.proofs.RecordLemmas.{text_read}
use Rattle.permit_import.proofs.requests.text_at.Goals as goal

pub returns-in-Ok : goal.returns-in-Ok
returns-in-Ok c = text_read _ c.in_ok-get.field-0.now c.in-Ok.text.now c.in_ok-get.ensures.value c.in-Ok.ensures.cases.0 c.in-Ok.ensures.cases.1
