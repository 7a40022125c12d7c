use Rattle.std.proofs.Common.{◌≡◌, inl, inr, sym, ap, ◌∙◌, arith, length, true≢false, rules}
use Rattle.permit_base.specs.declared.words.Edition.TheVariants.{Second}
use Rattle.permit_model.specs.Tables.{Desk}
use Rattle.permit_sql.specs.Named.{unended_from}
use Rattle.permit_sql.proofs.WholeMeanings.{each_paper_plain}
use Rattle.permit_sql.proofs.Naming.{each_breaks}
use Rattle.permit_sql.proofs.PapersNamed.{papers_told}
use Rattle.permit_sql.proofs.first_unsound_paper.first_of.Goals as goal

pub takes_all-requires-clause-plain : goal.takes_all-requires-clause-plain
takes_all-requires-clause-plain g c = each_paper_plain Second

pub returns-then-all-clause-named : goal.returns-then-all-clause-named
returns-then-all-clause-named g c clean t typed k desk tallies few =
    let own_parties : c.desk.inside.parties ≡ c.args.desk.parties = search rules in
    let own_last : c.desk.inside.last ≡ c.args.desk.last = search rules in
    let took = papers_told Second g.S.Store c.args.conn.now c.takes_all.new.conn t typed k few _ c.takes_all.new.taker _
    (own_parties ∙ ap (λ (d : Desk). d.parties) desk) (own_last ∙ ap (λ (d : Desk). d.last) desk) tallies (c.in_ok-all.ensures.handed clean) c.if-read.false in
    elim took [
      | inl it ↦
          let long = ap length c.deref.ensures.value ∙ it.1.1 in
          let most = typed.desk.files in
          each_breaks t c.first_unended.result _ (c.first_unended.ensures (omega (arith, long, most)) ∙ ap (unended_from 1) c.deref.ensures.value) it.1.0
      | inr it ↦ absurd (true≢false (sym c.if-all.true ∙ it.0))
    ]

pub returns-then-all-clause-first : goal.returns-then-all-clause-first
returns-then-all-clause-first g c clean t typed k desk tallies few =
    let own_parties : c.desk.inside.parties ≡ c.args.desk.parties = search rules in
    let own_last : c.desk.inside.last ≡ c.args.desk.last = search rules in
    let took = papers_told Second g.S.Store c.args.conn.now c.takes_all.new.conn t typed k few _ c.takes_all.new.taker _
    (own_parties ∙ ap (λ (d : Desk). d.parties) desk) (own_last ∙ ap (λ (d : Desk). d.last) desk) tallies (c.in_ok-all.ensures.handed clean) c.if-read.false in
    elim took [
      | inl it ↦
          let long = ap length c.deref.ensures.value ∙ it.1.1 in
          let most = typed.desk.files in
          c.first_unended.ensures (omega (arith, long, most)) ∙ ap (unended_from 1) c.deref.ensures.value ∙ it.1.2
      | inr it ↦ absurd (true≢false (sym c.if-all.true ∙ it.0))
    ]

pub returns-clause-named : goal.returns-clause-named
returns-clause-named g c clean t typed k desk tallies few =
    let own_parties : c.desk.inside.parties ≡ c.args.desk.parties = search rules in
    let own_last : c.desk.inside.last ≡ c.args.desk.last = search rules in
    let took = papers_told Second g.S.Store c.args.conn.now c.takes_all.new.conn t typed k few _ c.takes_all.new.taker _
    (own_parties ∙ ap (λ (d : Desk). d.parties) desk) (own_last ∙ ap (λ (d : Desk). d.last) desk) tallies (c.in_ok-all.ensures.handed clean) c.if-read.false in
    elim took [
      | inl it ↦ absurd (true≢false (sym it.0 ∙ c.if-all.false))
      | inr it ↦ it.1.0
    ]

pub returns-clause-first : goal.returns-clause-first
returns-clause-first g c clean t typed k desk tallies few =
    let own_parties : c.desk.inside.parties ≡ c.args.desk.parties = search rules in
    let own_last : c.desk.inside.last ≡ c.args.desk.last = search rules in
    let took = papers_told Second g.S.Store c.args.conn.now c.takes_all.new.conn t typed k few _ c.takes_all.new.taker _
    (own_parties ∙ ap (λ (d : Desk). d.parties) desk) (own_last ∙ ap (λ (d : Desk). d.last) desk) tallies (c.in_ok-all.ensures.handed clean) c.if-read.false in
    elim took [
      | inl it ↦ absurd (true≢false (sym it.0 ∙ c.if-all.false))
      | inr it ↦ it.1.1
    ]
