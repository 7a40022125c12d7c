use Rattle.std.proofs.Common.{◌∙◌, sym, ap}
use Rattle.permit_model.specs.Tables.{Desk}
use Rattle.permit_replay.proofs.Looking.{clean_before}
use Rattle.permit_replay.proofs.AlikeTables.{none_alike}
use Rattle.permit_replay.proofs.alike.compare.first_difference.Goals as goal

pub returns-clause-alike : goal.returns-clause-alike
returns-clause-alike g c = λ d e t u h k st su.
    let one = c.in_ok-one.ensures.found (clean_before c.in_ok-found.ensures.first d) t h in
    let other = c.in_ok-other.ensures.found (clean_before c.in_ok-found.ensures.second e) u k in
    let desk = sym one ∙ c.is_same_desk.ensures.0 c.if-not-is_same_desk.false ∙ other in
    none_alike t u c.in_ok-found.found st su
    (ap (λ (d : Desk). d.edition) (sym one) ∙ c.is_of_second.ensures.0 c.if-not-is_of_second.false) desk
    (c.in_ok-found.ensures.found d e t u (c.in_ok-one.ensures.read.kept t h) (c.in_ok-other.ensures.read.kept u k) one desk)
