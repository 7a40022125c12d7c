use Rattle.std.proofs.Common.{◌++◌, ◌∷◌, [], subst, sym, ◌∙◌, ap}
use Rattle.std.specs.Option.{option_or}
use Rattle.permit_store.specs.contracts.plain.PlainStoreStore.TheImpl as plain
use Rattle.permit_replay.specs.Holding.{IsBeginning}
use Rattle.permit_replay.specs.Placing.{IsWhere}
use Rattle.permit_replay.proofs.SoundTables.{begins_fine}
use Rattle.permit_replay.proofs.Placed.{found_so, where_more}
use Rattle.permit_replay.proofs.opening.placing.step.Goals as goal

pub returns-clause-placed : goal.returns-clause-placed
returns-clause-placed g c = λ beginning bytes entries entry left has line clean t held desk sound was.
    let begins = IsBeginning plain.view-value.it beginning in
    let here = c.in_ok-is_there.field-0 in
    let stood = c.args.place.stood in
    let found = found_so (begins_fine plain.view-value.it beginning) t here has
    (λ unsaid h holds sound_told. c.in_ok-is_there.ensures.same clean t held unsaid h holds sound_told desk sound) in
    subst (λ o. IsWhere begins o (entries ++ entry ∷ []) t) (sym (c.or-stood.ensures ∙ ap (λ o. option_or o stood) c.then_some-here.ensures))
    (where_more begins stood here c.args.line entries entry t was found line)
