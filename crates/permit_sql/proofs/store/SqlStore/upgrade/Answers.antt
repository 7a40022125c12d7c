use Rattle.std.proofs.Common.{◌≡◌, rules}
use Rattle.sqlite.specs.Held.{state}
use Rattle.permit_sql.proofs.Upgrading.{upgrades, upgrade_survives}
use Rattle.permit_sql.proofs.store.SqlStore.upgrade.Goals as goal

pub returns-in-Ok-clause-upgrades : goal.returns-in-Ok-clause-upgrades
returns-in-Ok-clause-upgrades g c =
    let own : c.in_ok-sound.sound.desk.files ≡ c.sound.inside.0.0.files = search rules in
    upgrades (state g.S.Store c.args.conn.now) (state g.S.Store c.check.new.conn) (state g.S.Store c.upgrade_in.new.conn) c.in_ok-sound.sound.desk
    c.in_ok-sound.sound.upgrade _ own c.upgrade_in.ensures.crash.clean c.in_ok-sound.ensures.open c.check.ensures.left c.in_ok-sound.ensures.sound
    c.in-Ok.ensures.made c.in-Ok.ensures.transaction.opened c.in_ok-sound.ensures.first

pub returns-in-Ok-clause-crash : goal.returns-in-Ok-clause-crash
returns-in-Ok-clause-crash g c =
    let own : c.in_ok-sound.sound.desk.files ≡ c.sound.inside.0.0.files = search rules in
    upgrade_survives (state g.S.Store c.args.conn.now) (state g.S.Store c.check.new.conn) (state g.S.Store c.upgrade_in.new.conn) c.in_ok-sound.sound.desk
    c.in_ok-sound.sound.upgrade c.sound.inside.0.0.files own c.upgrade_in.ensures.crash.clean c.in_ok-sound.ensures.open c.check.ensures.left
    c.in_ok-sound.ensures.sound c.check.ensures.crash c.upgrade_in.ensures.crash

pub returns-in-Err-clause-crash : goal.returns-in-Err-clause-crash
returns-in-Err-clause-crash g c =
    let own : c.in_ok-sound.sound.desk.files ≡ c.sound.inside.0.0.files = search rules in
    upgrade_survives (state g.S.Store c.args.conn.now) (state g.S.Store c.check.new.conn) (state g.S.Store c.upgrade_in.new.conn) c.in_ok-sound.sound.desk
    c.in_ok-sound.sound.upgrade c.sound.inside.0.0.files own c.upgrade_in.ensures.crash.clean c.in_ok-sound.ensures.open c.check.ensures.left
    c.in_ok-sound.ensures.sound c.check.ensures.crash c.upgrade_in.ensures.crash
