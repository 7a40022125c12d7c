use Rattle.std.proofs.Common.{rules, tests, codes, [], ◌∷◌, ap, not, option_map, Bor, Global, Some, String, string_bytes, sym, ◌∙◌}
use Rattle.std.proofs.lemmas.Iterator.Consumers.{YieldsList-from_rest}
use Rattle.std.proofs.lemmas.Iterator.Search.{find_from_yields_List}
use Rattle.std.specs.Map.{keys_of}
use Rattle.permit_policy.specs.PolicyText.{is_among}
use Rattle.permit_reasons.proofs.Keys.{unknown_key-view}
use Rattle.permit_reasons.proofs.shape.unknown_top_key.Goals as goal

pub returns-in-Some : goal.returns-in-Some
returns-in-Some c =
    let found = find_from_yields_List (λ k. not (is_among (codes "rule" ∷ []) (string_bytes k))) c.find.new.self _ c.find.result c.find.ensures.ran
    (YieldsList-from_rest (keys_of c.args.document.now.entries) c.keys.ensures.rest) (λ x b q k. search (rules, tests)) in
    ap Some c.as_str.ensures.value
    ∙ ap (option_map string_bytes) (sym (ap (option_map (λ (k : Bor (String Global)). k.now)) c.in-Some.is) ∙ found)
    ∙ sym (unknown_key-view (codes "rule" ∷ []) c.args.document.now.entries)

pub returns-in-None : goal.returns-in-None
returns-in-None c =
    let found = find_from_yields_List (λ k. not (is_among (codes "rule" ∷ []) (string_bytes k))) c.find.new.self _ c.find.result c.find.ensures.ran
    (YieldsList-from_rest (keys_of c.args.document.now.entries) c.keys.ensures.rest) (λ x b q k. search (rules, tests)) in
    ap (option_map string_bytes) (sym (ap (option_map (λ (k : Bor (String Global)). k.now)) c.in-None.is) ∙ found)
    ∙ sym (unknown_key-view (codes "rule" ∷ []) c.args.document.now.entries)
