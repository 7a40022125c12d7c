use Rattle.std.proofs.Common.{◌≡◌, ◌+◌, ◌%◌, ◌^◌, ◌++◌, ◌∷◌, [], ◌∙◌, List, sym, ap, subst, take, map, arith, refl, le_refl}
use Rattle.std.proofs.lemmas.List.{take_more, take_all}
use Rattle.std.specs.Prelude.{Ok, Vec}
use Rattle.std.specs.Global.{Global}
use Rattle.permit_base.specs.declared.route.Route.{Route}
use Rattle.permit_model.proofs.Selecting.{mapped_both}
use Rattle.permit_policy.specs.Selections.{items_of}
use Rattle.permit_office.specs.declared.showing.RowsEnd.{RowsEnd}
use Rattle.permit_office.specs.declared.showing.RowsEnd.TheVariants.{All as RowsAll}
use Rattle.permit_office.specs.Listings.{Adds, Gathers}
use Rattle.permit_office.specs.Passing.{PassedOn}
use Rattle.permit_office.proofs.Listings.{gathers_more, gathers_none}
use Rattle.permit_office.proofs.listing.gather.Goals as goal

pub loop-selection-init : goal.loop-selection-init
loop-selection-init g c = record {
  kept = λ t held. held;
  one = λ sure one. one;
  doubt = le_refl _;
  failed = refl;
  commits = refl;
  gathers = gathers_none c.args.policy.now c.args.caller.now c.args.day (g.S.Store.view c.args.store.now) c.new.result.items c.new.ensures.items;
}

pub loop-selection-preserved : goal.loop-selection-preserved
loop-selection-preserved g c =
    let a = c.args in
    let l = c.loop-selection in
    let s = g.S.Store.view in
    let made = c.in_ok-more.ensures.making in
    let i = l.selection-index in
    let xs = a.selections.now in
    let x : Vec Route Global = c.selection-item.result in
    let sofar = map items_of (take i xs) in
    let more : map items_of (take (i + 1) xs) ≡ sofar ++ items_of x ∷ [] =
    ap (map items_of) (take_more xs i x c.loop-selection-test.true ∙ ap (λ y. take i xs ++ y ∷ []) (sym c.selection-item.is))
    ∙ mapped_both items_of (take i xs) (x ∷ []) in
    let passed : PassedOn Adds a.policy.now a.caller.now a.day (items_of x) (s l.store) (s c.pass_on.new.store) l.list c.pass_on.new.taker
    (Ok (RowsAll c.in-All.more)) =
    subst (λ (end : RowsEnd). PassedOn Adds a.policy.now a.caller.now a.day (items_of x) (s l.store) (s c.pass_on.new.store) l.list c.pass_on.new.taker (Ok end))
    c.in-All.is
    (subst (λ (rs : List Route). PassedOn Adds a.policy.now a.caller.now a.day rs (s l.store) (s c.pass_on.new.store) l.list c.pass_on.new.taker
    (Ok c.in_ok-more.field-0)) c.deref.ensures.value c.in_ok-more.ensures.passed) in
    record {
      kept = λ t held. made.kept t (l.invariant.kept t held);
      one = λ sure one.
          let late : (s l.store).doubt ≡ 0 = omega (arith, made.doubt) in
          made.one sure (l.invariant.one late one);
      doubt = omega (arith, made.doubt);
      failed = made.failed ∙ l.invariant.failed;
      commits = made.commits ∙ l.invariant.commits;
      gathers = subst (λ (ss : List (List Route)). Gathers a.policy.now a.caller.now a.day ss (s a.store.now) (s c.pass_on.new.store)
          c.pass_on.new.taker.files.items ((l.read + c.in-All.more) % 2 ^ 32)) (sym more)
          (gathers_more a.policy.now a.caller.now a.day sofar (items_of x) (s a.store.now) (s l.store) (s c.pass_on.new.store) l.list c.pass_on.new.taker
          l.read c.in-All.more l.invariant.gathers passed made.doubt l.invariant.kept);
    }

pub returns-clause-gathered : goal.returns-clause-gathered
returns-clause-gathered g c =
    let a = c.args in
    let l = c.loop-selection in
    let s = g.S.Store.view in
    subst (λ (ys : List (Vec Route Global)). Gathers a.policy.now a.caller.now a.day (map items_of ys) (s a.store.now) (s l.store) l.list.files.items l.read)
    (take_all l.selection-index a.selections.now c.loop-selection-test.false) l.invariant.gathers
