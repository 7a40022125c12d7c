use Rattle.std.proofs.Common.{◌∷◌, arith}
use Rattle.std.proofs.lemmas.Bool.Decides.{when_true, when_false}
use Rattle.std.proofs.lemmas.Result.{err_from_is_err_and}
use Rattle.permit_import.specs.Records.{header}
use Rattle.permit_import.proofs.Ending.{counts_short, ended, line_short, no_header, no_memory, unmade, unread}
use Rattle.permit_import.proofs.Progress.{begun, counts_fit, went_on}
use Rattle.permit_import.proofs.importing.import_by.Goals as goal

pub returns-in_err-line-clause-imports : goal.returns-in_err-line-clause-imports
returns-in_err-line-clause-imports g c =
    let p = err_from_is_err_and c.from_residual.result c.from_residual.ensures.1 in
    rw (p.1, p.2) (no_memory g.M.Service.did c.args.token.now c.args.day c.args.why (g.R.Read.remaining c.args.reader)
    (g.W.Write.contents c.args.out.now) (g.E.Write.contents c.args.causes.now) c.args.service.now)

pub returns-in_err-read_heading-clause-imports : goal.returns-in_err-read_heading-clause-imports
returns-in_err-read_heading-clause-imports g c =
    let left = g.R.Read.remaining c.args.reader in
    let p = err_from_is_err_and c.from_residual-in_err-read_heading.result c.from_residual-in_err-read_heading.ensures.1 in
    rw (p.1, p.2) (no_header g.M.Service.did c.args.token.now c.args.day c.args.why left (g.W.Write.contents c.args.out.now)
    (g.E.Write.contents c.args.causes.now) c.args.service.now _ (c.in_err-read_heading.ensures.headless left c.records-records.ensures))

pub loop-number-init : goal.loop-number-init
loop-number-init g c =
    let left = g.R.Read.remaining c.args.reader in
    let behind = c.in_ok-read_heading.ensures.reads left c.records-records.ensures in
    record {
      progress = rw c.new-tally.ensures (begun g.M.Service.did g.R.Read.remaining c.args.token.now c.args.day
          c.args.why left (g.W.Write.contents c.args.out.now) (g.E.Write.contents c.args.causes.now) c.args.service.now c.read_heading.new.records behind);
      ready = c.requires;
      few = omega arith;
    }

pub returns-in_err-read_next-clause-imports : goal.returns-in_err-read_next-clause-imports
returns-in_err-read_next-clause-imports g c =
    let inv = c.loop-number.invariant in
    let p = err_from_is_err_and c.from_residual-in_err-read_next.result c.from_residual-in_err-read_next.ensures.1 in
    rw (p.1, p.2, c.in_err-read_next.ensures.fault) (unread _ _ _ _ _ _ _ _ _ _ _ _ _ _ _ _ inv.progress inv.few)

pub returns-in_err-write_counts-clause-imports : goal.returns-in_err-write_counts-clause-imports
returns-in_err-write_counts-clause-imports g c =
    let inv = c.loop-number.invariant in
    let all = when_false _ _ c.if-not-branch.true (c.in_ok-read_next.ensures.next (g.R.Read.remaining c.args.reader)
    (header ∷ inv.progress.rows) inv.progress.behind) in
    let p = err_from_is_err_and c.from_residual-in_err-write_counts.result c.from_residual-in_err-write_counts.ensures.1 in
    rw (p.1, p.2) (counts_short _ _ _ _ _ _ _ _ _ _ _ _ _ _ _ _ _ _ inv.progress inv.few all c.in_err-write_counts.ensures.short)

pub returns-then-not-branch-clause-imports : goal.returns-then-not-branch-clause-imports
returns-then-not-branch-clause-imports g c =
    let inv = c.loop-number.invariant in
    let all = when_false _ _ c.if-not-branch.true (c.in_ok-read_next.ensures.next (g.R.Read.remaining c.args.reader)
    (header ∷ inv.progress.rows) inv.progress.behind) in
    ended _ _ _ _ _ _ _ _ _ _ _ _ _ _ _ _ _ inv.progress inv.few all c.in_ok-write_counts.ensures.whole

pub returns-in_err-outcome-clause-imports : goal.returns-in_err-outcome-clause-imports
returns-in_err-outcome-clause-imports g c =
    let inv = c.loop-number.invariant in
    let p = err_from_is_err_and c.from_residual-in_err-outcome.result c.from_residual-in_err-outcome.ensures.1 in
    rw (p.1, p.2) (unmade _ _ _ _ _ _ _ _ _ _ _ _ _ _ _ _ _ inv.progress inv.few c.in_err-outcome.ensures.err)

pub returns-in_err-write_outcome-clause-imports : goal.returns-in_err-write_outcome-clause-imports
returns-in_err-write_outcome-clause-imports g c =
    let inv = c.loop-number.invariant in
    let behind = when_true _ _ c.if-not-branch.false (c.in_ok-read_next.ensures.next (g.R.Read.remaining c.args.reader)
    (header ∷ inv.progress.rows) inv.progress.behind) in
    let p = err_from_is_err_and c.from_residual-in_err-write_outcome.result c.from_residual-in_err-write_outcome.ensures.1 in
    rw (p.1, p.2) (line_short _ _ _ _ _ _ _ _ _ _ _ _ _ _ _ _ _ _ _ _ _ _ _ _ inv.progress c.if-number-gt-MOST_RECORDS.false behind
    c.in_ok-outcome.ensures.tries c.write_cause-asked.ensures c.in_err-write_outcome.ensures.short)

pub count-requires-clause-added : goal.count-requires-clause-added
count-requires-clause-added g c = let inv = c.loop-number.invariant in (counts_fit _ _ _ _ _ _ _ _ _ _ _ _ _ _ _ _ inv.progress inv.few).0

pub count-requires-clause-kept : goal.count-requires-clause-kept
count-requires-clause-kept g c = let inv = c.loop-number.invariant in (counts_fit _ _ _ _ _ _ _ _ _ _ _ _ _ _ _ _ inv.progress inv.few).1

pub count-requires-clause-refused : goal.count-requires-clause-refused
count-requires-clause-refused g c = let inv = c.loop-number.invariant in (counts_fit _ _ _ _ _ _ _ _ _ _ _ _ _ _ _ _ inv.progress inv.few).2

pub loop-number-preserved : goal.loop-number-preserved
loop-number-preserved g c =
    let inv = c.loop-number.invariant in
    let behind = when_true _ _ c.if-not-branch.false (c.in_ok-read_next.ensures.next (g.R.Read.remaining c.args.reader)
    (header ∷ inv.progress.rows) inv.progress.behind) in
    record {
      progress = rw c.count.ensures (went_on _ _ _ _ _ _ _ _ _ _ _ _ _ _ _ _ _ _ _ _ _ _ _ inv.progress behind c.in_ok-outcome.ensures.tries
          c.write_cause-asked.ensures c.in_ok-write_outcome.ensures.whole);
      ready = c.add.ensures.ready;
      few = omega (arith, c.if-number-gt-MOST_RECORDS.false);
    }

pub returns-clause-imports : goal.returns-clause-imports
returns-clause-imports g c = let inv = c.loop-number.invariant in unread _ _ _ _ _ _ _ _ _ _ _ _ _ _ _ _ inv.progress inv.few
