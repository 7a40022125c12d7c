use Rattle.std.proofs.Common.{◌≡◌, sym, ap, subst, ◌∙◌, rules, true≢false}
use Rattle.sqlite.specs.Effect.{Database}
use Rattle.sqlite.specs.Held.{state}
use Rattle.permit_model.specs.Tables.{Desk}
use Rattle.permit_sql_rows.specs.Kept.{KeepsUnder}
use Rattle.permit_sql.specs.Found.{HasDesk, HasUpgrade, HasObjects, HasCases}
use Rattle.permit_sql.proofs.Opened.{tables_found}
use Rattle.permit_sql.proofs.open.find_sound.Goals as goal

pub returns-clause-good : goal.returns-clause-good
returns-clause-good g c fine office =
    let old = (state g.S.Store c.args.conn.now).now in
    let d = c.in-Some.desk in
    let e = c.args.edition in
    let u = c.in-Some-2.upgrade in
    let fifth = c.are_sound.ensures.left fine in
    let fourth = c.has_sound_files.ensures.look.left fifth.0 in
    let third = c.has_sound_objects.ensures.look.left fourth.0 in
    let second = c.find_upgrade.ensures.left third.0 in
    let first = c.find_desk.ensures.look.left second.0 in
    let same : c.desk.inside.files ≡ d.files = search rules in
    let desk : HasDesk d (old.trees 0) = rw c.in-Some.is at (c.in_ok-desk.ensures.good second.0 office) in
    let now = rw c.in-Some.is at c.in_ok-desk.ensures.now in
    let upgrade : HasUpgrade e d.files u old = subst (HasUpgrade e d.files u) first.1
    (subst (λ n. HasUpgrade e n u (state g.S.Store c.find_desk.new.conn).now) same
    (rw c.in-Some-2.is at (c.in_ok-upgrade.ensures.good third.0))) in
    let objects : HasObjects d old.trees = subst (λ (db : Database). HasObjects d db.trees) (second.1 ∙ first.1)
    (c.in_ok-has_sound_objects.ensures.good fourth.0 c.if-not-branch.false) in
    let cases : HasCases d u old.trees = subst (λ (db : Database). HasCases d u db.trees) (third.1 ∙ second.1 ∙ first.1)
    (c.in_ok-has_sound_files.ensures.good fifth.0 c.if-not-branch-2.false) in
    let found = tables_found e old d u cases.counts office now desk upgrade objects.parties objects.parcels objects.interests cases.files cases.counted cases.papers cases.apart in
    let told = c.in_ok-are_sound.ensures.told fine found.0 found.1
    (subst (KeepsUnder e found.0) (sym (fourth.1 ∙ third.1 ∙ second.1 ∙ first.1)) found.2) found.3 found.4 in
    (found.0, found.1, told.0 c.if-not-branch-3.false, found.2, found.3, found.4)

pub returns-then-not-branch-3-clause-kept : goal.returns-then-not-branch-3-clause-kept
returns-then-not-branch-3-clause-kept g c fine has =
    let t = has.0 in
    let e = c.args.edition in
    let fifth = c.are_sound.ensures.left fine in
    let fourth = c.has_sound_files.ensures.look.left fifth.0 in
    let third = c.has_sound_objects.ensures.look.left fourth.0 in
    let second = c.find_upgrade.ensures.left third.0 in
    let first = c.find_desk.ensures.look.left second.0 in
    let desk_is = rw c.in-Some.is at (c.in_ok-desk.ensures.kept second.0 t has.1 has.3) in
    let desk : t.desk ≡ c.in-Some.desk = cc in
    let own : c.desk.inside.files ≡ c.in-Some.desk.files = search rules in
    let files = own ∙ ap (λ (x : Desk). x.files) (sym desk) in
    let upgrade_is = rw c.in-Some-2.is at (c.in_ok-upgrade.ensures.kept third.0 t has.1 (subst (KeepsUnder e t) (sym first.1) has.3) files) in
    let upgrade : t.upgrade ≡ c.in-Some-2.upgrade = cc in
    let told = c.in_ok-are_sound.ensures.told fine t has.1 (subst (KeepsUnder e t) (sym (fourth.1 ∙ third.1 ∙ second.1 ∙ first.1)) has.3) desk upgrade in
    absurd (true≢false (sym (told.1 has.2) ∙ c.if-not-branch-3.true))
