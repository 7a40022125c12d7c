use Rattle.std.proofs.Common.{rules, tests}
use Rattle.std.proofs.lemmas.Iterator.{YieldsList-from_slice}
use Rattle.std.proofs.lemmas.Iterator.Search.{all_from_yields_List}
use Rattle.std.proofs.lemmas.List.Folds.{list_all-map}
use Rattle.toml.specs.View.{view}
use Rattle.permit_policy.specs.PolicyText.{is_text}
use Rattle.permit_reasons.proofs.shape.are_texts.Goals as goal

pub returns : goal.returns
returns c =
    rw (list_all-map is_text view c.args.values.now)
    (all_from_yields_List (λ v. is_text (view v)) _ _ _ c.all.ensures.ran (YieldsList-from_slice c.args.values.now (cc)) (λ x b q k. search (rules, tests)))
