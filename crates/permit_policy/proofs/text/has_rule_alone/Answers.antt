use Rattle.std.proofs.Common.{rules, tests, string_bytes, codes, [], ◌∷◌}
use Rattle.std.proofs.lemmas.Iterator.Consumers.{YieldsList-from_rest}
use Rattle.std.proofs.lemmas.Iterator.Search.{all_from_yields_List}
use Rattle.std.specs.Map.{keys_of}
use Rattle.permit_policy.specs.PolicyText.{is_among}
use Rattle.permit_policy.proofs.Items.{keys_among-view}
use Rattle.permit_policy.proofs.text.has_rule_alone.Goals as goal

pub returns : goal.returns
returns c =
    rw (keys_among-view (codes "rule" ∷ []) c.args.document.now.entries)
    (all_from_yields_List (λ k. is_among (codes "rule" ∷ []) (string_bytes k)) _ _ _ c.all.ensures.ran
    (YieldsList-from_rest (keys_of c.args.document.now.entries) c.keys.ensures.rest) (λ x b q k. search (rules, tests)))
