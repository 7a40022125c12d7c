use Rattle.std.proofs.Common.{◌≡◌, true, false, sym, ◌∙◌}
use Rattle.std.specs.Prelude.{IsTrue, ◌↔◌}
use Rattle.std.proofs.lemmas.Bool.{ne_eqb}
use Rattle.csv.specs.Records.{fields_of}
use Rattle.permit_import.proofs.RecordLemmas.{HasLot, HasAddress, and_not, and_then, header_by, header_has, lot_not, lot_then}
use Rattle.permit_import.proofs.records.is_header.Goals as goal
use Rattle.permit_import.proofs.records.is_header.Goals.{then-len-eq3, else-len-eq3, then-has, else-has}

pub returns-then-has-2 : goal.returns-then-has-2
returns-then-has-2 c =
    let fields = fields_of c.args.row.now in
    let lot : IsTrue c.if-len-eq3.value ↔ HasLot fields = elim c.if-len-eq3.branch [
      | then-len-eq3 w ↦ lot_then fields c.if-len-eq3.value w.has.result (sym c.len.ensures ∙ w.if-len-eq3.true) w.value-is w.has.ensures
      | else-len-eq3 w ↦ lot_not fields c.if-len-eq3.value (λ e. w.if-len-eq3.false (c.len.ensures ∙ e)) (w.value-is ∙ ne_eqb c.len.result 3 w.if-len-eq3.false)
    ] in
    let address : IsTrue c.if-has.value ↔ HasAddress fields = elim c.if-has.branch [
      | then-has w ↦ and_then c.if-len-eq3.value c.if-has.value w.has-then-has.result lot w.if-has.true w.value-is w.has-then-has.ensures
      | else-has w ↦ and_not c.if-len-eq3.value c.if-has.value lot w.if-has.false (w.value-is ∙ w.if-has.false)
    ] in
    header_by fields c.has-then-has-2.result (address.0 c.if-has-2.true) c.has-then-has-2.ensures

pub returns-else-has-2 : goal.returns-else-has-2
returns-else-has-2 c =
    let fields = fields_of c.args.row.now in
    let lot : IsTrue c.if-len-eq3.value ↔ HasLot fields = elim c.if-len-eq3.branch [
      | then-len-eq3 w ↦ lot_then fields c.if-len-eq3.value w.has.result (sym c.len.ensures ∙ w.if-len-eq3.true) w.value-is w.has.ensures
      | else-len-eq3 w ↦ lot_not fields c.if-len-eq3.value (λ e. w.if-len-eq3.false (c.len.ensures ∙ e)) (w.value-is ∙ ne_eqb c.len.result 3 w.if-len-eq3.false)
    ] in
    let address : IsTrue c.if-has.value ↔ HasAddress fields = elim c.if-has.branch [
      | then-has w ↦ and_then c.if-len-eq3.value c.if-has.value w.has-then-has.result lot w.if-has.true w.value-is w.has-then-has.ensures
      | else-has w ↦ and_not c.if-len-eq3.value c.if-has.value lot w.if-has.false (w.value-is ∙ w.if-has.false)
    ] in
    ((λ t. let bad : true ≡ false = sym t ∙ c.if-has-2.false in cc), λ e. address.1 (header_has fields e))
