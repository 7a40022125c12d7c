use Rattle.std.proofs.Common.{Ok, Err, refl}
use Rattle.permit_wire.proofs.Whole.{out_read, is_some}
use Rattle.permit_wire.proofs.read.read_by.Goals as goal

pub returns-in-Ok-clause-reads : goal.returns-in-Ok-clause-reads
returns-in-Ok-clause-reads g c = λ bytes e.
    let shut = rw c.in-Ok-Some.field-0-is at c.in-Ok-Some.ensures.shut in
    let gives = rw c.in-Ok-Some.field-0-is at c.in-Ok-Some.ensures.gives in
    out_read bytes c.args.inbox.now c.read_message.new.self c.read_out.new.inbox (g.R.Read.remaining c.read_message.new.reader) c.in-Ok-Some.spans
    (λ t. is_some _ _ refl (shut t).0) (λ t. gives t bytes e) c.in-Ok-Some.ensures.count c.in-Ok-Some.ensures.stays
    (Ok c.in-Ok.asked) c.in-Ok.ensures.asked c.in-Ok.ensures.out

pub returns-in-Err-read_out-clause-reads : goal.returns-in-Err-read_out-clause-reads
returns-in-Err-read_out-clause-reads g c = λ bytes e.
    let shut = rw c.in-Ok-Some.field-0-is at c.in-Ok-Some.ensures.shut in
    let gives = rw c.in-Ok-Some.field-0-is at c.in-Ok-Some.ensures.gives in
    out_read bytes c.args.inbox.now c.read_message.new.self c.read_out.new.inbox (g.R.Read.remaining c.read_message.new.reader) c.in-Ok-Some.spans
    (λ t. is_some _ _ refl (shut t).0) (λ t. gives t bytes e) c.in-Ok-Some.ensures.count c.in-Ok-Some.ensures.stays
    (Err c.in-Err-read_out.fault) c.in-Err-read_out.ensures.asked c.in-Err-read_out.ensures.out
