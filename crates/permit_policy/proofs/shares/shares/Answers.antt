use Rattle.std.proofs.Common.{ap, refl, ◌∙◌, zero-add, get_or}
use Rattle.std.proofs.lemmas.List.Elements.{All-nil}
use Rattle.permit_base.specs.declared.words.Role.{Role}
use Rattle.permit_base.specs.declared.words.Action.{Action}
use Rattle.permit_policy.specs.Hits.{covers, AreHits}
use Rattle.permit_policy.specs.Masks.{only_where, has_set}
use Rattle.permit_policy.specs.Shares.{decided_for, shared, TellsShare}
use Rattle.permit_policy.proofs.Bits.{set_in_every}
use Rattle.permit_policy.proofs.Marking.{Decides}
use Rattle.permit_policy.proofs.Sharing.{leaves_next, share_told, split_once}
use Rattle.permit_policy.proofs.shares.shares.Goals as goal

pub loop-place-init : goal.loop-place-init
loop-place-init c =
    rw c.new-shares.ensures.items (record {
      once = λ set. zero-add _ ∙ ap (λ b. only_where b 1) (set_in_every set);
      told = λ role action hits. All-nil (TellsShare (decided_for c.args.rules.now role action c.args.cell));
      left = λ role action hits set e. refl;
    })

pub loop-place-preserved : goal.loop-place-preserved
loop-place-preserved c =
    let rules = c.args.rules.now in
    let i = c.loop-place.place in
    let rule = c.index-rules-place.result in
    let undecided = c.loop-place.undecided in
    let decided = c.decided_by-decided.result in
    let before = c.loop-place.invariant in
    let more = c.in_ok-push_decided.ensures in
    let here : (role : Role) (action : Action) → AreHits role action rules c.args.hits.now → Decides rules i rule role action c.args.cell _ undecided decided =
    λ role action hits. record {
      within = c.loop-place-test.true;
      here = c.index-rules-place.is;
      fits = c.decided_by-decided.type_inv;
      hit = hits.each i c.loop-place-test.true rule c.index-rules-place.is;
      made = c.decided_by-decided.ensures;
    } in
    record {
      once = λ set. split_once undecided decided (shared c.loop-place.shares.items set) _ set (covers rule c.args.cell) (has_set (get_or c.args.hits.now i 0) set) c.decided_by-decided.type_inv (c.decided_by-decided.ensures set) (more.shared set) (before.once set);
      told = λ role action hits. more.told (decided_for rules role action c.args.cell)
          (λ set e. share_told rules i rule role action c.args.cell _ undecided decided set (here role action hits) (before.left role action hits set) e) (before.told role action hits);
      left = λ role action hits set. leaves_next rules i rule role action c.args.cell _ undecided decided set (here role action hits) (before.left role action hits set);
    }
