use Rattle.std.proofs.Common.{rules, tests, string_bytes}
use Rattle.std.proofs.lemmas.Iterator.Consumers.{YieldsList-from_rest}
use Rattle.std.proofs.lemmas.Iterator.Search.{all_from_yields_List}
use Rattle.std.specs.Map.{keys_of}
use Rattle.permit_policy.specs.PolicyText.{is_among, rule_keys}
use Rattle.permit_policy.proofs.Items.{keys_among-view}
use Rattle.permit_policy.proofs.table.knows_keys.Goals as goal

pub returns : goal.returns
returns c =
    rw (keys_among-view rule_keys c.args.table.now.entries)
    (all_from_yields_List (λ k. is_among rule_keys (string_bytes k)) _ _ _ c.all.ensures.ran
    (YieldsList-from_rest (keys_of c.args.table.now.entries) c.keys.ensures.rest) (λ x b q k. search (rules, tests)))
