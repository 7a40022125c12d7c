use Rattle.std.proofs.Common.{◌≡◌, ◌∙◌, sym, subst}
use Rattle.permit_base.specs.declared.words.Relations.{Relations}
use Rattle.permit_model.specs.Opened.{Cell, allowed_by}
use Rattle.permit_model.specs.Policy.{Policy}
use Rattle.permit_policy.specs.Masks.{may}
use Rattle.permit_policy.proofs.Allowing.{allowed_as, not_empty, some_regions}
use Rattle.permit_policy.proofs.access.access_for.Goals as goal

pub returns : goal.returns
returns c =
    let role = c.args.role in
    let action = c.args.action in
    let regions = c.in_ok-regions.regions in
    let P : Policy → Type 0 = λ rules. (cell : Cell) (set : Relations) → may c.in_ok-masks.masks cell set ≡ allowed_by rules role action cell set in
    let same : P c.args.policy.now = subst P c.in_order.ensures c.in_ok-masks.ensures.exact in
    let all = allowed_as _ (allowed_by c.args.policy.now role action) regions.items same c.in_ok-regions.ensures in (
      λ full. c.if-is_full.ensures.more (λ cell set. same cell set ∙ full cell set),
      not_empty _ regions.items (some_regions regions.items _ (sym regions.ok.0) c.if-is_empty.ensures) all,
      all,
    )
