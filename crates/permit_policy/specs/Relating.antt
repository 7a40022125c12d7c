-- What a rule asks of the caller's relations, as the model has it.
use Rattle.permit_model.specs.Policy.{RelationTest, Any, OneOf, Both}
use Rattle.permit_policy.specs.declared.rule.RelationTest.{RelationTest as Test}
use Rattle.permit_policy.specs.declared.rule.RelationTest.TheVariants as test

-- the test with its words as a list
abbrev pub relation_view : Test → RelationTest
relation_view test.Any = Any
relation_view (test.OneOf words) = OneOf words.items
relation_view (test.Both first second) = Both first second
