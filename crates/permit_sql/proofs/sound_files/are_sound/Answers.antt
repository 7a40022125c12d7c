use Rattle.std.proofs.Common.{sym, ap, subst, ◌∙◌, true≢false}
use Rattle.std.proofs.lemmas.Result.{IfOk-weaker}
use Rattle.permit_base.specs.declared.words.Role.TheVariants.{Official}
use Rattle.permit_sql_rows.specs.Kept.{KeepsUnder}
use Rattle.permit_sql.specs.Tested.{fits_desk, fits_cases, has_role_at}
use Rattle.permit_sql.proofs.Soundness.{tested, sound_by}
use Rattle.permit_sql.proofs.sound_files.are_sound.Goals as goal

pub returns-then-not-has_official-clause-told : goal.returns-then-not-has_official-clause-told
returns-then-not-has_official-clause-told g c fine t typed k desk upgrade =
    let roles = c.in_ok-roles.ensures.told fine.0 t typed k in (
      λ never. absurd (true≢false (sym never)),
      λ sound. sym c.if-not-has_official.true ∙ c.has_official.ensures ∙ ap (λ r. has_role_at r Official 1) (c.deref.ensures.value ∙ roles)
          ∙ (tested t typed k.keyed sound).official,
    )

pub returns-then-not-branch-clause-told : goal.returns-then-not-branch-clause-told
returns-then-not-branch-clause-told g c fine t typed k desk upgrade =
    let was = c.has_sound_parcels.ensures.look.left fine in
    let same = (c.roles_of.ensures.look.left was.0).1 in
    let told = c.in_ok-has_sound_parcels.ensures.told fine t typed (subst (KeepsUnder c.args.edition t) (sym same) k) desk in (
      λ never. absurd (true≢false (sym never)),
      λ sound. sym c.if-not-branch.true ∙ told ∙ (tested t typed k.keyed sound).parcels,
    )

pub returns-clause-told : goal.returns-clause-told
returns-clause-told g c fine t typed k desk upgrade =
    let third = c.has_sound_cases.ensures.look.left fine in
    let second = c.has_sound_parcels.ensures.look.left third.0 in
    let first = c.roles_of.ensures.look.left second.0 in
    let roles = c.in_ok-roles.ensures.told second.0.0 t typed k in
    let parcels = c.in_ok-has_sound_parcels.ensures.told third.0 t typed (subst (KeepsUnder c.args.edition t) (sym first.1) k) desk in
    let cases = c.has_sound_cases.ensures.told fine t typed (subst (KeepsUnder c.args.edition t) (sym (second.1 ∙ first.1)) k) desk upgrade in
    IfOk-weaker c.has_sound_cases.result _ _ (λ good e. (
      λ said. sound_by t typed k.keyed (record {
        desk = ap fits_desk desk ∙ sym c.fits_desk.ensures ∙ c.if-not-fits_desk.false;
        official = ap (λ r. has_role_at r Official 1) (sym (c.deref.ensures.value ∙ roles)) ∙ sym c.has_official.ensures ∙ c.if-not-has_official.false;
        parcels = sym parcels ∙ c.if-not-branch.false;
        cases = ap (λ r. fits_cases r t) (sym roles) ∙ sym e ∙ said;
      }),
      λ sound. e ∙ ap (λ r. fits_cases r t) roles ∙ (tested t typed k.keyed sound).cases,
    )) cases
