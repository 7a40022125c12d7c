use Rattle.std.proofs.Common.{◌∙◌, sym, ap, map, Some, option_map}
use Rattle.toml.specs.View.{view}
use Rattle.permit_policy.specs.PolicyText.{items_list}
use Rattle.permit_policy.proofs.Items.{items_list-view}
use Rattle.permit_reasons.proofs.entry.items.Goals as goal

pub returns-in-Some : goal.returns-in-Some
returns-in-Some c =
    ap (λ vs. Some (map view vs)) c.deref.ensures.value
    ∙ ap Some (sym (items_list-view c.in-Some.items.now.items))
    ∙ ap (option_map items_list) c.in-Some.ensures
