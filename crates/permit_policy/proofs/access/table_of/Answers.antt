use Rattle.std.proofs.Common.{List, sym, subst, All}
use Rattle.std.proofs.lemmas.List.Elements.{All-push}
use Rattle.permit_base.specs.declared.words.Action.TheVariants.{AddParty}
use Rattle.permit_policy.specs.Access.{TellsRow}
use Rattle.permit_policy.specs.declared.access.Row.{Row}
use Rattle.permit_policy.proofs.Allowing.{rows_next}
use Rattle.permit_policy.proofs.access.table_of.Goals as goal

pub loop-action-preserved : goal.loop-action-preserved
loop-action-preserved c =
    let one = c.in_ok-row_for.field-0 in
    let P : List Row → Type 0 = All (TellsRow c.args.policy.now) in
    record {
      order = rows_next c.loop-action.rows.items c.push.new.self.items c.all-action-items.result.now c.loop-action.action-index AddParty one
          c.loop-action-test.true c.in_ok-row_for.ensures.action c.in_ok-push.ensures.items c.loop-action.invariant.order;
      told = subst P (sym c.in_ok-push.ensures.items) (All-push (TellsRow c.args.policy.now) c.loop-action.rows.items one c.loop-action.invariant.told c.in_ok-row_for.ensures.told);
    }
