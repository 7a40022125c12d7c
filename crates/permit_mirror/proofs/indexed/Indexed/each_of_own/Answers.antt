use Rattle.std.proofs.Common.{◌==◌, ◌∙◌, refl, ap, sym, subst, arith}
use Rattle.std.specs.List.{list_any}
use Rattle.permit_model.specs.Tables.{Tables}
use Rattle.permit_store.specs.Handing.{found_by_any}
use Rattle.permit_mirror.specs.Pairs.{RiseFrom}
use Rattle.permit_mirror.proofs.Own.{found_own, hands, hands_none}
use Rattle.permit_mirror.proofs.indexed.Indexed.each_of_own.Goals as goal

pub returns-in_default : goal.returns-in_default
returns-in_default g c =
    let s = c.args.self.now in
    let new = c.counted.new.self in
    let found = λ (t : Tables). found_by_any c.args.routes.now c.args.caller c.args.day t in
    record {
      handed = hands g.T.Taker.took (g.M.Store.view s.memory) (g.M.Store.view new.memory) s.index new.index s.handed new.handed s.handed s.failed new.failed s.commits
          new.commits c.args.taker.now c.args.taker.now c.counted.result _ found found c.counted.ensures.tables.1 c.counted.ensures.others.0 c.counted.ensures.answer
          (λ t h. subst (λ m. (g.M.Store.view m).holds t) (sym c.counted.ensures.tables.0) h) c.counted.ensures.one c.counted.ensures.failed
          c.counted.ensures.others.1 (λ t _. refl) (hands_none g.T.Taker.took _ found s.handed c.args.taker.now _ refl (omega arith));
    }

pub returns : goal.returns
returns g c =
    let s = c.args.self.now in
    let new = c.counted-2.new.self in
    let numbers = c.deref.result.now in
    let routes = c.args.routes.now in
    record {
      handed = hands g.T.Taker.took (g.M.Store.view s.memory) (g.M.Store.view new.memory) s.index new.index s.handed new.handed c.hand-answer.new.handed s.failed
          new.failed s.commits new.commits c.args.taker.now c.hand-answer.new.taker c.counted-2.result c.hand-answer.result _
          (λ t. found_by_any routes c.args.caller c.args.day t) c.counted-2.ensures.tables.1 c.counted-2.ensures.others.0 c.counted-2.ensures.answer
          (λ t h. subst (λ m. (g.M.Store.view m).holds t) (sym c.counted-2.ensures.tables.0) (c.hand-answer.ensures.kept t h)) c.counted-2.ensures.one
          c.counted-2.ensures.failed c.counted-2.ensures.others.1
          (λ t covers. found_own s.index t c.args.caller covers c.args.day routes numbers c.requires (subst (RiseFrom 0) (sym c.deref.ensures.value) c.in-Ok.ensures.rising)
          (λ n. ap (list_any (λ m. m == n)) c.deref.ensures.value ∙ c.in-Ok.ensures.exact n))
          c.hand-answer.ensures.handed;
    }
