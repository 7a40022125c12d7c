use Rattle.permit_report.proofs.Takes.{holds, whole, whole_front, stopped, began}
use Rattle.permit_report.proofs.laws.written_registers.Goals as goal

pub returns : goal.returns
returns g c = record {
  output = λ files old new took. (holds g.W.Write.contents files old new took).same;
  whole = whole g.W.Write.contents;
  ending_cut = whole_front g.W.Write.contents;
  line_cut = stopped g.W.Write.contents;
  no_ending = began g.W.Write.contents;
}
