use Rattle.std.proofs.Common.{inl, inr, sym, ap, ◌∙◌, true≢false}
use Rattle.permit_sql.specs.First.{of_parcel, first_in}
use Rattle.permit_sql.proofs.WholeMeanings.{each_parcel_plain}
use Rattle.permit_sql.proofs.Firsts.{parcels_told}
use Rattle.permit_sql.proofs.Naming.{each_breaks, parcels_break}
use Rattle.permit_sql.proofs.first_unsound.parcel_fault.Goals as goal

pub takes_all-requires-clause-plain : goal.takes_all-requires-clause-plain
takes_all-requires-clause-plain g c = each_parcel_plain c.args.edition

pub returns-then-branch-clause-first : goal.returns-then-branch-clause-first
returns-then-branch-clause-first g c clean t typed k =
    elim (parcels_told c.args.edition g.S.Store c.args.conn.now c.takes_all.new.conn t typed k _ c.takes_all.new.taker _ (c.in_ok-takes_all.ensures.handed clean)) [
      | inl it ↦ it.1
      | inr it ↦ absurd (true≢false (sym c.if-branch.true ∙ it.0))
    ]

pub returns-clause-first : goal.returns-clause-first
returns-clause-first g c clean t typed k =
    elim (parcels_told c.args.edition g.S.Store c.args.conn.now c.takes_all.new.conn t typed k _ c.takes_all.new.taker _ (c.in_ok-takes_all.ensures.handed clean)) [
      | inl it ↦ absurd (true≢false (sym it.0 ∙ c.if-branch.false))
      | inr it ↦ it.1
    ]

pub returns-clause-named : goal.returns-clause-named
returns-clause-named g c clean t typed k parties =
    elim (parcels_told c.args.edition g.S.Store c.args.conn.now c.takes_all.new.conn t typed k _ c.takes_all.new.taker _ (c.in_ok-takes_all.ensures.handed clean)) [
      | inl it ↦ absurd (true≢false (sym it.0 ∙ c.if-branch.false))
      | inr it ↦ each_breaks t _ _ (it.1 ∙ ap (λ n. first_in (of_parcel n) t.parcels) parties) (λ f. parcels_break t typed k.keyed f)
    ]
