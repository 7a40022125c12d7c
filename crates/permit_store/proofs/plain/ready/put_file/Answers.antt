use Rattle.std.proofs.Common.{◌≡◌, ◌+◌, length, arith, ap, sym}
use Rattle.permit_model.specs.Tables.{FileRow}
use Rattle.std.specs.Prelude.{is_ok}
use Rattle.permit_store.proofs.Places.{in_place_pushed}
use Rattle.permit_store.proofs.plain.ready.put_file.Goals as goal

pub returns-then-len-clause-places : goal.returns-then-len-clause-places
returns-then-len-clause-places c =
    let files = c.args.files.now.items in
    let number : c.in-File.row.id ≡ 1 + length files = omega
    (arith, ap (λ (r : FileRow). r.id) (sym c.row.view_is), c.if-get-len.true, c.get.ensures.same, c.len.ensures) in
    in_place_pushed (is_ok c.push.result) files c.push.new.self.items _ c.push.ensures.items number
