use Rattle.std.proofs.Common.{refl}
use Rattle.permit_store.specs.contracts.plain.PlainStoreStore.TheImpl as plain
use Rattle.permit_replay.proofs.Reading.{some_at}
use Rattle.permit_replay.proofs.SoundTables.{begins_fine}
use Rattle.permit_replay.proofs.Opened.{none_found, place_found}
use Rattle.permit_replay.proofs.opening.differing.difference.Goals as goal

pub returns-clause-none : goal.returns-clause-none
returns-clause-none g c = λ bytes reading clean t held sound.
    let whole = some_at (g.R.Read.remaining c.args.source.now) _ bytes c.in_ok-told.ensures.told reading in
    none_found (begins_fine plain.view-value.it c.args.beginning) t c.in_ok-found.found whole
    (λ u told sound_told. c.in_ok-found.ensures.alike refl clean u t told held sound_told sound)

pub returns-clause-named : goal.returns-clause-named
returns-clause-named g c = λ bytes reading clean t held.
    let whole = some_at (g.R.Read.remaining c.args.source.now) _ bytes c.in_ok-told.ensures.told reading in
    place_found t c.in_ok-found.found whole (λ u told. c.in_ok-found.ensures.named refl clean u t told held)
