use Rattle.std.proofs.Common.{rules, tests, bytes_eq}
use Rattle.std.proofs.lemmas.Iterator.{YieldsList-from_slice}
use Rattle.std.proofs.lemmas.Iterator.Search.{any_from_yields_List}
use Rattle.toml.specs.View.{view}
use Rattle.permit_policy.specs.PolicyText.{text_of}
use Rattle.permit_policy.proofs.Texts.{is_among-texts}
use Rattle.permit_reasons.proofs.lists.is_among.Goals as goal

pub returns : goal.returns
returns c =
    rw (is_among-texts c.args.values.now c.args.text.now)
    (any_from_yields_List (λ v. bytes_eq c.args.text.now (text_of (view v))) _ _ _ c.any.ensures.ran (YieldsList-from_slice c.args.values.now (cc))
    (λ x b q k. search (rules, tests)))
