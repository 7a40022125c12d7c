use Rattle.std.proofs.Common.{rules, ◌≡◌, ◌-◌, ◌<◌, length, Some, refl, sym, ap, subst, ◌∙◌}
use Rattle.std.specs.Prelude.{slice_get, slice_set}
use Rattle.std.proofs.lemmas.Option.{slice_get_read}
use Rattle.permit_model.specs.Tables.{Paper}
use Rattle.permit_sql.specs.Tested.{fits_paper, next_tally}
use Rattle.permit_sql.proofs.sound_files.EnteredTaker.take.Goals as goal

pub returns : goal.returns
returns c = (
  λ p good is.
      let read = c.in-Ok.ensures.read p is in
      let told = c.args.self.now.tallies.items in
      let inside : c.place_of-at.result ≡ c.in-Ok.paper.file - 1 = search rules in
      let place : c.place_of-at.result ≡ p.file - 1 = inside ∙ ap (λ (q : Paper). q.file - 1) read in
      let long : c.len.result ≡ length told = search rules in
      let low : c.place_of-at.result < c.len.result = search rules in
      let here = slice_get_read told c.len.result c.place_of-at.result c.index.result.now long low c.index.ensures in
      let at = subst (λ n. slice_get told n ≡ Some c.index.result.now) place here in
      let next = subst (λ q. next_tally q (Some c.index.result.now) ≡ Some c.in-Some.next) read (sym c.after.ensures ∙ c.in-Some.is) in (
        ap (λ q. fits_paper c.args.self.now.parties c.args.self.now.last q) (sym read) ∙ sym c.fits_paper.ensures ∙ c.if-not-fits_paper.false,
        (
          c.in-Some.next,
          subst (λ o. next_tally p o ≡ Some c.in-Some.next) (sym at) next,
          ap (λ n. slice_set told n c.in-Some.next) place,
        ),
      ),
  (refl, refl),
)
