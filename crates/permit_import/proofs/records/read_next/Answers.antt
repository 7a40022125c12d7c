use Rattle.csv.specs.Records.{fields_of}
use Rattle.permit_import.proofs.ReadLemmas.{next_read, ready_read}
use Rattle.permit_import.proofs.records.read_next.Goals as goal

pub returns-clause-next : goal.returns-clause-next
returns-clause-next g c = λ left rows behind.
    next_read g.R.Read.remaining left rows c.args.records.now c.read_byte_record.new.self
    (fields_of c.read_byte_record.new.row) c.read_byte_record.result c.map_err.result _ behind
    (c.read_byte_record.ensures.ready behind.trim)
    (ready_read c.read_byte_record.result _ _ _ c.read_byte_record.ensures.reads behind.trim behind.ready) c.map_err.ensures.cases
