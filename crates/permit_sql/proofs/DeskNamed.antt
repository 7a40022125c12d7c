-- What is named of the desk and of the first party is false of typed tables.
use Rattle.std.proofs.Common.{◌≡◌, ◌≤◌, true, false, not, Some, List, [], ◌∷◌, map, length, sym, ap, subst}
use Rattle.std.proofs.Common.{◌∙◌, arith, true≢false}
use Rattle.std.specs.Prelude.{◌&&◌, ◌||◌, ◌==◌, nat_le}
use Rattle.std.specs.List.{list_any}
use Rattle.std.proofs.lemmas.Bool.{and_from, and_parts, or_left, or_from, eq-eqb, leb-true}
use Rattle.permit_base.specs.Limits.{is_between, most_records}
use Rattle.permit_base.specs.declared.words.Role.TheVariants.{Official}
use Rattle.permit_model.specs.Caller.{Party}
use Rattle.permit_model.specs.Tables.{Tables, Desk}
use Rattle.permit_model.specs.Sound.{has_party_of, has_few_records}
use Rattle.permit_sql.specs.Found.{AreTyped, IsNumbered}
use Rattle.permit_sql.specs.Tested.{fits_desk, has_role_at}
use Rattle.permit_sql.specs.Named.{breaks, is_it, holds_of_desk, fits_desk_rule}
use Rattle.permit_sql.specs.declared.fault.Fault.TheVariants as fault
use Rattle.permit_sql.specs.declared.fault.DeskRule.{DeskRule}
use Rattle.permit_sql.specs.declared.fault.DeskRule.TheVariants as desk
use Rattle.permit_sql.specs.declared.fault.PartyRule.TheVariants as party
use Rattle.permit_sql.proofs.Soundness.{role_there}
use Rattle.permit_sql.proofs.Naming.{negated, first_fails}

pub desk_named : (t : Tables) (d : Desk) → d ≡ t.desk → (rule : DeskRule) → fits_desk_rule d rule ≡ false → breaks t (fault.Desk rule) ≡ true
desk_named t d same rule h = negated (holds_of_desk t rule) (go rule (subst (λ x. fits_desk_rule x rule ≡ false) same h))
  where
    go : (r : DeskRule) → fits_desk_rule t.desk r ≡ false → holds_of_desk t r ≡ false
    go desk.Row h = absurd (true≢false h)
    go desk.Last h = first_fails _ _ h
    go desk.Parties h = absurd (true≢false h)
    go desk.Parcels h = absurd (true≢false h)
    go desk.Files h = absurd (true≢false h)
    go desk.Records h = h

-- the first party is there, and isn't an official
pub official_named : (t : Tables) → AreTyped t → fits_desk t.desk ≡ true → has_role_at (map (λ (p : Party). p.role) t.parties) Official 1 ≡ false →
    breaks t (fault.Party (Some 1) party.Official) ≡ true
official_named t typed fits none = go t.parties typed.party_numbers (subst (λ n. 1 ≤ n) (sym typed.party_count) some)
  where
    some : 1 ≤ t.desk.parties
    some =
        let few = (and_parts (nat_le 1 t.desk.last) (has_few_records t.desk) fits).1 in
        let first = (and_parts (is_between 1 most_records t.desk.parties && nat_le t.desk.parcels most_records) _ few).0 in
        let parties = (and_parts (is_between 1 most_records t.desk.parties) _ first).0 in
        leb-true 1 t.desk.parties (and_parts (nat_le 1 t.desk.parties) _ parties).0

    go : (ps : List Party) → IsNumbered (λ p. p.id) 1 ps → 1 ≤ length ps → list_any (λ p. is_it (Some 1) p.id && not (not (p.id == 1) || has_party_of t Official 1)) ps ≡ true
    go [] up low = absurd (omega (arith, low))
    go (p ∷ ps) up low =
        let away : has_party_of t Official 1 ≡ false = role_there t typed Official 1 (omega arith) ∙ none in
        let first : (p.id == 1) ≡ true = eq-eqb p.id 1 up.0 in
        or_left (is_it (Some 1) p.id && not (not (p.id == 1) || has_party_of t Official 1)) _
        (and_from _ _ first (negated _ (or_from _ _ (ap not first) away)))
