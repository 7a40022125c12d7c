use Rattle.std.proofs.Common.{List, get_or, refl, sym, subst, All}
use Rattle.std.proofs.lemmas.List.Elements.{All-push}
use Rattle.permit_base.specs.declared.words.Action.TheVariants.{AddParty}
use Rattle.permit_model.specs.Policy.{Policy}
use Rattle.permit_policy.specs.Changes.{AreDifferences, IsChanged}
use Rattle.permit_policy.specs.Shares.{decided_for}
use Rattle.permit_policy.specs.declared.changes.Changes.{Changes}
use Rattle.permit_policy.proofs.Changing.{actions_next}
use Rattle.permit_policy.proofs.changes.push_changes.Goals as goal

pub loop-action-preserved : goal.loop-action-preserved
loop-action-preserved c =
    let actions = c.all-action-items.result.now in
    let i = c.loop-action.action-index in
    let role = c.args.role in
    let action = get_or actions i AddParty in
    let groups = c.in_ok-groups_of.field-0 in
    let one : Changes = record { role = role; action = action; groups = groups } in
    let P : Policy → Policy → Type 0 = λ policy other. AreDifferences (decided_for policy role action) (decided_for other role action) groups.items in
    let here : IsChanged c.args.policy.now c.args.other.now one =
    subst (P c.args.policy.now) c.in_order-in-loop-action.ensures (subst (λ (policy : Policy). P policy c.in_order-in-loop-action.result.now) c.in_order.ensures c.in_ok-groups_of.ensures) in
    let Q : List Changes → Type 0 = All (IsChanged c.args.policy.now c.args.other.now) in
    record {
      order = actions_next role actions i AddParty c.loop-action.all.items c.push.new.self.items one _ c.loop-action-test.true refl c.in_ok-push.ensures.items c.loop-action.invariant.order;
      each = λ old. subst Q (sym c.in_ok-push.ensures.items) (All-push (IsChanged c.args.policy.now c.args.other.now) c.loop-action.all.items one (c.loop-action.invariant.each old) here);
    }
