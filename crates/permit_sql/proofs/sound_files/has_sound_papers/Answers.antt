use Rattle.std.proofs.Common.{sym, ap, ◌∙◌}
use Rattle.std.specs.Prelude.{◌&&◌}
use Rattle.std.specs.List.{list_all}
use Rattle.permit_sql.specs.Tested.{is_ended}
use Rattle.permit_sql.proofs.WholeMeanings.{each_paper_plain}
use Rattle.permit_sql.proofs.Passing.{unless, entered_taken}
use Rattle.permit_sql.proofs.sound_files.has_sound_papers.Goals as goal

pub takes_all-requires-clause-plain : goal.takes_all-requires-clause-plain
takes_all-requires-clause-plain g c = each_paper_plain c.args.edition

pub returns-then-not-all-clause-told : goal.returns-then-not-all-clause-told
returns-then-not-all-clause-told g c clean t typed k parties last tallies few =
    let took = unless (entered_taken c.args.edition g.S.Store c.args.conn.now c.takes_all.new.conn t typed k _ c.takes_all.new.taker _ parties last tallies few
    (c.in_ok-all.ensures.handed clean)) c.if-entered.false in
    sym (ap (λ x. x && list_all is_ended c.takes_all.new.taker.tallies.items) c.if-not-all.true) ∙ took

pub returns-clause-told : goal.returns-clause-told
returns-clause-told g c clean t typed k parties last tallies few =
    let took = unless (entered_taken c.args.edition g.S.Store c.args.conn.now c.takes_all.new.conn t typed k _ c.takes_all.new.taker _ parties last tallies few
    (c.in_ok-all.ensures.handed clean)) c.if-entered.false in
    c.are_ended.ensures ∙ ap (list_all is_ended) c.deref.ensures.value
    ∙ sym (ap (λ x. x && list_all is_ended c.takes_all.new.taker.tallies.items) c.if-not-all.false) ∙ took
