use Rattle.std.proofs.Common.{◌≡◌, length, true≢false, sym, ap, ◌∙◌, arith}
use Rattle.permit_sql.proofs.WholeMeanings.{each_file_plain}
use Rattle.permit_sql.proofs.FileChecks.{files_are}
use Rattle.permit_sql.proofs.Neighbours.{long_map}
use Rattle.permit_sql.proofs.Refused.{took_with, files_taken}
use Rattle.permit_sql.proofs.typed_files.check_files.Goals as goal

pub takes_all-requires-clause-plain : goal.takes_all-requires-clause-plain
takes_all-requires-clause-plain g c = each_file_plain c.args.edition

pub returns-clause-good : goal.returns-clause-good
returns-clause-good g c clean =
    let took = c.in_ok-all.ensures.all clean c.if-not-all.false in
    files_are c.args.edition g.S.Store c.args.conn.now c.takes_all.new.conn took.0 _ c.takes_all.new.taker c.new.ensures.items took.1

pub returns-then-not-all-clause-kept : goal.returns-then-not-all-clause-kept
returns-then-not-all-clause-kept g c clean t typed k same then =
    let took = took_with (files_taken c.args.edition g.S.Store c.args.conn.now c.takes_all.new.conn t typed k _ c.takes_all.new.taker _ c.new.ensures.items (sym then)
    (c.in_ok-all.ensures.handed clean)) c.if-files.false in
    absurd (true≢false (sym took.0 ∙ c.if-not-all.true))

pub returns-then-len-count-clause-kept : goal.returns-then-len-count-clause-kept
returns-then-len-count-clause-kept g c clean t typed k same then =
    let took = took_with (files_taken c.args.edition g.S.Store c.args.conn.now c.takes_all.new.conn t typed k _ c.takes_all.new.taker _ c.new.ensures.items (sym then)
    (c.in_ok-all.ensures.handed clean)) c.if-files.false in
    let long : length c.takes_all.new.taker.counts.items ≡ c.args.count = ap length took.1 ∙ long_map (λ f. f.state.papers) t.files ∙ typed.file_count
    ∙ sym same in
    omega (arith, long)

pub returns-clause-kept : goal.returns-clause-kept
returns-clause-kept g c clean t typed k same then =
    (took_with (files_taken c.args.edition g.S.Store c.args.conn.now c.takes_all.new.conn t typed k _ c.takes_all.new.taker _ c.new.ensures.items (sym then)
    (c.in_ok-all.ensures.handed clean)) c.if-files.false).1
