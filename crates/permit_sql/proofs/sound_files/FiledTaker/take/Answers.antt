use Rattle.std.proofs.Common.{[], ◌∷◌, ◌++◌, inl, refl, sym, ap, ap₂, ◌∙◌, rules}
use Rattle.permit_sql.specs.Tested.{fits_file as fits_state, first_tally}
use Rattle.permit_sql.proofs.sound_files.FiledTaker.take.Goals as goal

pub returns-then-not-fits_file : goal.returns-then-not-fits_file
returns-then-not-fits_file c f good named is =
    let same = c.in-Some.ensures.read f [] named is in
    let told = ap₂ (λ roles s. fits_state roles c.args.self.now.parcels c.args.self.now.last s) (sym c.deref.ensures.value) (sym same) in
    inl (told ∙ sym c.fits_file.ensures ∙ c.if-not-fits_file.true)

pub returns-in-Ok : goal.returns-in-Ok
returns-in-Ok c = (
  λ f good named is.
      let same = c.in-Some.ensures.read f [] named is in
      let told = ap₂ (λ roles s. fits_state roles c.args.self.now.parcels c.args.self.now.last s) (sym c.deref.ensures.value) (sym same) in (
        told ∙ sym c.fits_file.ensures ∙ c.if-not-fits_file.false,
        c.in-Ok.ensures.items ∙ ap (λ t. c.args.self.now.tallies.items ++ t ∷ []) (c.of.ensures ∙ ap first_tally same),
      ),
  (refl, (refl, (refl, refl))),
)

pub returns-in_default : goal.returns-in_default
returns-in_default c = λ f good named is. let was = c.state_in.ensures.some f [] good named is in search rules
