-- The law is a lemma by induction on the rules.
use Rattle.permit_model.proofs.PolicyFacts.{narrowed}
use Rattle.permit_model.proofs.laws.allowed_to_two_relations.Goals as goal

pub returns : goal.returns
returns c = record { narrowed = narrowed }
