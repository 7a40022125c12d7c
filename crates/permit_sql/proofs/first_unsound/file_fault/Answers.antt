use Rattle.std.proofs.Common.{inl, inr, sym, ap, ◌∙◌, true≢false}
use Rattle.permit_sql.specs.First.{of_file, first_in, roles_in}
use Rattle.permit_sql.proofs.WholeMeanings.{each_file_plain}
use Rattle.permit_sql.proofs.Firsts.{files_told}
use Rattle.permit_sql.proofs.Naming.{each_breaks, files_break}
use Rattle.permit_sql.proofs.first_unsound.file_fault.Goals as goal

pub takes_all-requires-clause-plain : goal.takes_all-requires-clause-plain
takes_all-requires-clause-plain g c = each_file_plain c.args.edition

pub returns-then-branch-clause-first : goal.returns-then-branch-clause-first
returns-then-branch-clause-first g c clean t typed k upgrade =
    elim (files_told c.args.edition g.S.Store c.args.conn.now c.takes_all.new.conn t typed k _ c.takes_all.new.taker _ (sym upgrade)
    (c.in_ok-takes_all.ensures.handed clean)) [
      | inl it ↦ it.1
      | inr it ↦ absurd (true≢false (sym c.if-branch.true ∙ it.0))
    ]

pub returns-clause-first : goal.returns-clause-first
returns-clause-first g c clean t typed k upgrade =
    elim (files_told c.args.edition g.S.Store c.args.conn.now c.takes_all.new.conn t typed k _ c.takes_all.new.taker _ (sym upgrade)
    (c.in_ok-takes_all.ensures.handed clean)) [
      | inl it ↦ absurd (true≢false (sym it.0 ∙ c.if-branch.false))
      | inr it ↦ it.1
    ]

pub returns-clause-named : goal.returns-clause-named
returns-clause-named g c clean t typed k upgrade roles parcels last =
    elim (files_told c.args.edition g.S.Store c.args.conn.now c.takes_all.new.conn t typed k _ c.takes_all.new.taker _ (sym upgrade)
    (c.in_ok-takes_all.ensures.handed clean)) [
      | inl it ↦ absurd (true≢false (sym it.0 ∙ c.if-branch.false))
      | inr it ↦ each_breaks t _ _ (it.1 ∙ ap (λ r. first_in (of_file r c.args.parcels c.args.last) t.files) roles
          ∙ ap (λ n. first_in (of_file (roles_in t) n c.args.last) t.files) parcels ∙ ap (λ l. first_in (of_file (roles_in t) t.desk.parcels l) t.files) last)
          (λ f. files_break t typed k.keyed f)
    ]
