use Rattle.std.proofs.Common.{◌≡◌, true, false, Some, None, sym, ap, subst, ◌∙◌}
use Rattle.std.specs.Prelude.{if◌then◌else◌}
use Rattle.std.proofs.lemmas.List.Sorted.{IsPermutation-refl}
use Rattle.permit_base.specs.declared.words.Role.TheVariants.{Official}
use Rattle.permit_sql.specs.Tested.{fits_desk, has_role_at}
use Rattle.permit_sql.specs.First.{roles_in}
use Rattle.permit_sql.specs.declared.fault.Fault.TheVariants as fault
use Rattle.permit_sql.specs.declared.fault.PartyRule.TheVariants as party
use Rattle.permit_sql.proofs.Firsts.{is_first}
use Rattle.permit_sql.proofs.DeskNamed.{official_named}
use Rattle.permit_sql.proofs.why.unsound_rows.Goals as goal

pub returns-then-not-has_official-clause-named : goal.returns-then-not-has_official-clause-named
returns-then-not-has_official-clause-named g c fine t typed k desk upgrade =
    let roles = c.in_ok-roles.ensures.told fine.0 t typed k in
    official_named t typed (subst (λ d. fits_desk d ≡ true) desk c.requires.fits)
    (sym (ap (λ r. has_role_at r Official 1) (c.deref.ensures.value ∙ roles)) ∙ sym c.has_official.ensures ∙ c.if-not-has_official.true)

pub returns-then-not-has_official-clause-first : goal.returns-then-not-has_official-clause-first
returns-then-not-has_official-clause-first g c fine t typed k desk upgrade =
    let roles = c.in_ok-roles.ensures.told fine.0 t typed k in
    let none : has_role_at (roles_in t) Official 1 ≡ false =
    sym (ap (λ r. has_role_at r Official 1) (c.deref.ensures.value ∙ roles)) ∙ sym c.has_official.ensures ∙ c.if-not-has_official.true in
    (t.interests, IsPermutation-refl t.interests, is_first _ (ap (λ b. if b then None else Some (fault.Party (Some 1) party.Official)) (sym none)))
