use Rattle.std.proofs.Common.{sym, ap, ◌∙◌, ◌&&◌, Bool, [], ◌∷◌, ◌++◌, map}
use Rattle.permit_base.specs.declared.route.Route.{Route}
use Rattle.permit_model.specs.Opened.{Cell, cells}
use Rattle.permit_model.specs.Routes.{route_by}
use Rattle.permit_model.proofs.Selecting.{filter_twice}
use Rattle.permit_policy.specs.Kept.{is_kept}
use Rattle.permit_policy.specs.Masks.{may}
use Rattle.permit_policy.specs.Selections.{is_opened}
use Rattle.permit_policy.proofs.Selecting.{item_kept, item_left, items_end}
use Rattle.permit_policy.proofs.KeptCells.{at_place}
use Rattle.permit_policy.proofs.routes.selection.Goals as goal
use Rattle.permit_policy.proofs.routes.selection.Goals.{then-is_opened+in_ok-push, else-is_opened}

pub loop-number-preserved : goal.loop-number-preserved
loop-number-preserved c =
    let a = c.args in
    let f : Cell → Route = λ cell. route_by cell a.by in
    let p : Cell → Bool = λ cell. is_kept cell && is_opened (may a.masks.now) a.filter.now a.by cell in
    let n = c.loop-number.number in
    let here = c.numbered-cell.result in
    let lt = c.loop-number-test.true in
    let stands = at_place n here lt c.numbered-cell.ensures in
    elim c.if-is_opened.branch [
      | then-is_opened+in_ok-push w ↦
          rw w.routes-is (item_kept f p cells n here here c.loop-number.routes.items w.push.new.self.items _ lt stands
          (sym c.is_opened.ensures ∙ w.if-is_opened.true)
          (w.in_ok-push.ensures.items ∙ ap (λ (r : Route). c.loop-number.routes.items ++ r ∷ []) w.route_by.ensures) c.loop-number.invariant)
      | else-is_opened w ↦
          rw w.routes-is (item_left f p cells n here here c.loop-number.routes.items _ lt stands
          (sym c.is_opened.ensures ∙ w.if-is_opened.false) c.loop-number.invariant)
    ]

pub returns : goal.returns
returns c =
    let a = c.args in
    let f = λ (cell : Cell). route_by cell a.by in
    let q = is_opened (may a.masks.now) a.filter.now a.by in
    items_end f (λ cell. is_kept cell && q cell) cells c.loop-number.number c.loop-number.routes.items _ c.loop-number-test.false c.loop-number.invariant
    ∙ ap (map f) (sym (filter_twice is_kept q cells))
