use Rattle.std.proofs.Common.{refl, []}
use Rattle.permit_history.proofs.Renewals.{meant_told, meant_renewed}
use Rattle.permit_history.proofs.laws.a_text_tells_its_history.Goals as goal

pub returns : goal.returns
returns c = record {
  told = λ h. ([], _, refl, meant_told [] h);
  renewed = λ h party day token is. ([], _, refl, meant_renewed [] party token day h is);
}
