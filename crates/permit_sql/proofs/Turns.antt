-- What a paper breaks after the tally of its file, by what was tested of it.
use Rattle.std.proofs.Common.{◌≡◌, ℕ, ◌-◌, Bool, true, false, Some, None, List, refl, sym, ap, ap₂, ◌∙◌}
use Rattle.std.specs.Prelude.{if◌then◌else◌, option_map, slice_get, slice_set}
use Rattle.permit_model.specs.Tables.{Paper}
use Rattle.permit_sql.specs.Tested.{is_next, tally_after, next_tally}
use Rattle.permit_sql.specs.Named.{fits_paper_rule, fault_at}
use Rattle.permit_sql.specs.First.{first_broken, or_else, of_paper, of_turn, told_after, paper_rules}
use Rattle.permit_sql.specs.declared.tally.Tally.{Tally}
use Rattle.permit_sql.specs.declared.fault.Fault.TheVariants as fault
use Rattle.permit_sql.specs.declared.fault.PaperRule.TheVariants as paper

module _ (parties last : ℕ) (told : List Tally) (p q : Paper) (u : Tally) (same : q ≡ p)
    (exact : None ≡ first_broken (λ r. fits_paper_rule parties last r q) paper_rules) (at : slice_get told (p.file - 1) ≡ Some u) where
  whole : of_paper parties last p ≡ None
  whole = ap (option_map (fault.Paper (Some p.file) (Some p.number)))
      (ap (λ z. first_broken (λ r. fits_paper_rule parties last r z) paper_rules) (sym same) ∙ sym exact)

  pub turn_broken : next_tally q (Some u) ≡ None → Some (fault_at u q) ≡ or_else (of_paper parties last p) (of_turn p (slice_get told (p.file - 1)))
  turn_broken none =
      ap (λ z. Some (fault_at u z)) same
      ∙ sym (ap₂ or_else whole (ap (of_turn p) at ∙ go (is_next u p) (ap (λ z. next_tally z (Some u)) (sym same) ∙ none)))
    where
      go : (b : Bool) → (if b then Some (tally_after u p) else None) ≡ None → (if b then None else Some (fault_at u p)) ≡ Some (fault_at u p)
      go true is = absurd (let e = is in cc)
      go false is = refl

  pub turn_passed : (next : Tally) (place : ℕ) → next_tally q (Some u) ≡ Some next → place ≡ p.file - 1 →
      (or_else (of_paper parties last p) (of_turn p (slice_get told (p.file - 1))) ≡ None)
      × (slice_set told place next ≡ told_after told p (slice_get told (p.file - 1)))
  turn_passed next place is here =
      let it = go (is_next u p) (ap (λ z. next_tally z (Some u)) (sym same) ∙ is) in (
        ap₂ or_else whole (ap (of_turn p) at ∙ it.0),
        ap₂ (slice_set told) here it.1 ∙ sym (ap (told_after told p) at),
      )
    where
      go : (b : Bool) → (if b then Some (tally_after u p) else None) ≡ Some next →
          ((if b then None else Some (fault_at u p)) ≡ None) × (next ≡ tally_after u p)
      go true is = (refl, let e : next ≡ tally_after u p = cc in e)
      go false is = absurd (let e = is in cc)

-- a paper of no file that is there
pub turn_missing : (parties last : ℕ) (told : List Tally) (p q : Paper) → q ≡ p →
    None ≡ first_broken (λ r. fits_paper_rule parties last r q) paper_rules → slice_get told (p.file - 1) ≡ None →
    Some (fault.Paper (Some q.file) (Some q.number) paper.File) ≡ or_else (of_paper parties last p) (of_turn p (slice_get told (p.file - 1)))
turn_missing parties last told p q same exact none =
    let whole : of_paper parties last p ≡ None = ap (option_map (fault.Paper (Some p.file) (Some p.number)))
    (ap (λ z. first_broken (λ r. fits_paper_rule parties last r z) paper_rules) (sym same) ∙ sym exact) in
    ap (λ (z : Paper). Some (fault.Paper (Some z.file) (Some z.number) paper.File)) same ∙ sym (ap₂ or_else whole (ap (of_turn p) none))
