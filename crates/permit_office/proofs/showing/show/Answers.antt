use Rattle.std.proofs.Common.{◌≡◌, ◌∙◌, [], refl, sym, subst, arith}
use Rattle.permit_model.specs.Tables.{tables}
use Rattle.permit_model.specs.Machine.{Listed, Refused, Outcome}
use Rattle.permit_base.specs.declared.request.Request.TheVariants as request
use Rattle.permit_base.specs.declared.refusal.Refusal.TheVariants as refusal
use Rattle.permit_office.specs.declared.showing.RowsEnd.TheVariants as ended
use Rattle.permit_office.specs.Opening.{rows_opened}
use Rattle.permit_office.specs.Callers.{RefusesCaller}
use Rattle.permit_office.specs.Showing.{Shows}
use Rattle.permit_office.proofs.KnownCallers.{known_in, refused_as}
use Rattle.permit_office.proofs.ShownFiles.{opens_refused, opens_known, shows_known, shows_nothing, stops_known}
use Rattle.permit_office.proofs.showing.show.Goals as goal

pub returns-in-Ok-clause-shown : goal.returns-in-Ok-clause-shown
returns-in-Ok-clause-shown g c = λ doubt h is held.
    let a = c.args in
    let s = g.S.Store.view in
    let late : (s c.known_caller.new.store).doubt ≡ 0 = omega arith in
    let known = known_in (tables h) a.digest.now a.day c.in-Ok-Ok.caller _ (sym c.in-Ok-Ok.field-0-is ∙ c.in-Ok-Ok.ensures.known late (tables h) held) in
    shows_known g.T.Taker.took a.policy.now h a.digest.now a.day a.wanted c.in-Ok-Ok.caller known.is known.time a.taker.now c.hand_files.new.taker c.in-Ok.end
    (c.in-Ok.ensures.shown doubt h is (c.known_caller.ensures.read.kept (tables h) held))

pub returns-in-Ok-clause-opened : goal.returns-in-Ok-clause-opened
returns-in-Ok-clause-opened g c = λ doubt h is held.
    let a = c.args in
    let s = g.S.Store.view in
    let late : (s c.known_caller.new.store).doubt ≡ 0 = omega arith in
    let known = known_in (tables h) a.digest.now a.day c.in-Ok-Ok.caller _ (sym c.in-Ok-Ok.field-0-is ∙ c.in-Ok-Ok.ensures.known late (tables h) held) in
    opens_known a.policy.now h a.digest.now a.day a.wanted c.in-Ok-Ok.caller known.is (s a.store.now).handed (s c.hand_files.new.store).handed c.in-Ok.end
    (rw c.known_caller.ensures.read.handed at (c.in-Ok.ensures.opened doubt h is (c.known_caller.ensures.read.kept (tables h) held)))

pub returns-in-Ok-clause-stopped : goal.returns-in-Ok-clause-stopped
returns-in-Ok-clause-stopped g c = λ doubt h is held.
    let a = c.args in
    let s = g.S.Store.view in
    let late : (s c.known_caller.new.store).doubt ≡ 0 = omega arith in
    let known = known_in (tables h) a.digest.now a.day c.in-Ok-Ok.caller _ (sym c.in-Ok-Ok.field-0-is ∙ c.in-Ok-Ok.ensures.known late (tables h) held) in
    stops_known g.T.Taker.took a.policy.now h a.digest.now a.day a.wanted c.in-Ok-Ok.caller known.is a.taker.now c.hand_files.new.taker (s a.store.now).handed
    (s c.hand_files.new.store).handed c.in-Ok.end
    (rw c.known_caller.ensures.read.handed at (c.in-Ok.ensures.stopped doubt h is (c.known_caller.ensures.read.kept (tables h) held)))

pub returns-in-Ok-Ok-clause-shown : goal.returns-in-Ok-Ok-clause-shown
returns-in-Ok-Ok-clause-shown g c = λ doubt h is held.
    let a = c.args in
    let s = g.S.Store.view in
    let late : (s c.known_caller.new.store).doubt ≡ 0 = omega arith in
    let known = known_in (tables h) a.digest.now a.day c.in-Ok-Ok.caller _ (sym c.in-Ok-Ok.field-0-is ∙ c.in-Ok-Ok.ensures.known late (tables h) held) in
    shows_known g.T.Taker.took a.policy.now h a.digest.now a.day a.wanted c.in-Ok-Ok.caller known.is known.time a.taker.now c.hand_files.new.taker
    (ended.Refused refusal.Store)
    (c.in-Err-hand_files.ensures.shown doubt h is (c.known_caller.ensures.read.kept (tables h) held))

pub returns-in-Ok-Ok-clause-opened : goal.returns-in-Ok-Ok-clause-opened
returns-in-Ok-Ok-clause-opened g c = λ doubt h is held.
    let a = c.args in
    opens_refused (rows_opened a.policy.now h a.digest.now (request.ListFiles a.wanted) a.day) _ _ _

pub returns-in-Ok-Err-clause-shown : goal.returns-in-Ok-Err-clause-shown
returns-in-Ok-Err-clause-shown g c = λ doubt h is held.
    let a = c.args in
    let why = c.in-Ok-Err.refusal in
    let known : RefusesCaller why = rw c.in-Ok-Err.field-0-is at c.in-Ok-Err.ensures.told in
    let machine = refused_as a.policy.now h (request.ListFiles a.wanted) a.day why a.digest.now
    (sym c.in-Ok-Err.field-0-is ∙ c.in-Ok-Err.ensures.known doubt (tables h) held) in
    subst (λ (o : Outcome). Shows g.T.Taker.took o.reply a.taker.now a.taker.now (ended.Refused why)) (sym machine)
    (shows_nothing g.T.Taker.took a.taker.now why known)

pub returns-in-Ok-Err-clause-opened : goal.returns-in-Ok-Err-clause-opened
returns-in-Ok-Err-clause-opened g c = λ doubt h is held.
    let a = c.args in
    opens_refused (rows_opened a.policy.now h a.digest.now (request.ListFiles a.wanted) a.day) _ _ _

pub returns-clause-opened : goal.returns-clause-opened
returns-clause-opened g c = λ doubt h is held.
    let a = c.args in
    opens_refused (rows_opened a.policy.now h a.digest.now (request.ListFiles a.wanted) a.day) _ _ _

pub returns-in-Ok-clause-some : goal.returns-in-Ok-clause-some
returns-in-Ok-clause-some g c =
    let some = c.in-Ok.ensures.some in
    (Listed some.0, tt, some.1)

pub returns-in-Ok-Ok-clause-some : goal.returns-in-Ok-Ok-clause-some
returns-in-Ok-Ok-clause-some g c =
    let some = c.in-Err-hand_files.ensures.some in
    (Listed some.0, tt, some.1)

pub returns-in-Ok-Err-clause-some : goal.returns-in-Ok-Err-clause-some
returns-in-Ok-Err-clause-some g c =
    let known : RefusesCaller c.in-Ok-Err.refusal = rw c.in-Ok-Err.field-0-is at c.in-Ok-Err.ensures.told in
    (Refused c.in-Ok-Err.refusal, known, shows_nothing g.T.Taker.took c.args.taker.now c.in-Ok-Err.refusal known)

pub returns-clause-some : goal.returns-clause-some
returns-clause-some g c = (Listed [], tt, ([], [], refl, refl))
