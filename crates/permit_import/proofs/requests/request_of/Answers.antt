use Rattle.std.proofs.Common.{◌≡◌, ◌∙◌, sym, subst}
use Rattle.std.specs.Prelude.{IfOk}
use Rattle.csv.specs.Records.{fields_of}
use Rattle.permit_import.proofs.RecordLemmas.{first_missing, record_read, second_missing, third_missing}
use Rattle.permit_import.proofs.requests.request_of.Goals as goal

pub returns-in_default : goal.returns-in_default
returns-in_default c = first_missing (fields_of c.args.row.now) c.in_default.ensures

pub returns-in_default-text_at : goal.returns-in_default-text_at
returns-in_default-text_at c = second_missing (fields_of c.args.row.now) c.in_default-text_at.ensures

pub returns-in_default-text_at-2 : goal.returns-in_default-text_at-2
returns-in_default-text_at-2 c = third_missing (fields_of c.args.row.now) c.in_default-text_at-2.ensures

pub returns : goal.returns
returns c =
    let fields = fields_of c.args.row.now in
    let read = record_read fields c.in-Some.lot.now c.in-Some-text_at.address.now c.in-Some-text_at-2.owner.now (sym c.len.ensures ∙ c.if-len-ne3.false)
    c.in-Some.ensures c.in-Some-text_at.ensures c.in-Some-text_at-2.ensures in
    subst (λ x. IfOk c.parcel.result (λ r. r ≡ x)) read c.parcel.ensures
