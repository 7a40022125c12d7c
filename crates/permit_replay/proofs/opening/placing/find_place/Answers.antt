use Rattle.std.proofs.Common.{rules, ◌≤◌, ◌+◌, ◌++◌, ◌∷◌, [], length, vec_len, ap, ◌∙◌, refl, sym, arith}
use Rattle.std.specs.Io.BufRead.{drop_through}
use Rattle.permit_store.specs.contracts.plain.PlainStoreStore.TheImpl as plain
use Rattle.permit_replay.specs.Holding.{IsBeginning}
use Rattle.permit_replay.proofs.Lines.{at_first, not_longer}
use Rattle.permit_replay.proofs.Looking.{clean_before, looks_on}
use Rattle.permit_replay.proofs.Placed.{elsewhere_first, placed_end, placed_more}
use Rattle.permit_replay.proofs.Reading.{if_some}
use Rattle.permit_replay.proofs.opening.placing.find_place.Goals as goal

pub loop-line-init : goal.loop-line-init
loop-line-init g c = record {
  looks = let read = c.in_ok-desk.ensures.read in record { kept = read.kept; doubt = read.doubt; commits = read.commits };
  desk = λ clean t held. sym (c.in_ok-desk.ensures.found clean t held);
  placed = λ bytes e. record {
    at = at_first plain.view-value.it c.args.beginning e;
    lines = refl;
    size = refl;
    stood = λ clean t held sound. elsewhere_first (IsBeginning plain.view-value.it c.args.beginning) t;
  };
}

pub loop-line-preserved : goal.loop-line-preserved
loop-line-preserved g c =
    let was = c.loop-line.invariant in
    record {
      looks = looks_on was.looks c.step.ensures.looks;
      desk = λ clean t held. was.desk (clean_before c.step.ensures.looks clean) t held;
      placed = λ bytes e.
          let placed = was.placed bytes e in
          let at = placed.at in
          let said = c.in_ok-next.ensures.next c.args.beginning bytes at in
          let on = rw c.in-Line.is at said in
          let left = drop_through 10 at.left in
          let counted = c.in_ok-place-in-Line.ensures.counted in
          placed_more (g.R.Read.remaining c.replay_line.new.source) (vec_len c.replay_line.new.room) c.step.new.replayed (g.S.Store.view c.step.new.store) c.in_ok-place-in-Line.place placed
          (on.0, c.step.ensures.told c.args.beginning bytes (at.entries ++ on.0 ∷ []) left on.1, on.2, on.3)
          (counted.0, counted.1 ∙ ap (λ n. c.loop-line.place.length + n) c.len.ensures)
          (λ clean t held sound.
          let before = clean_before c.step.ensures.looks clean in
          c.in_ok-place-in-Line.ensures.placed c.args.beginning bytes at.entries on.0 left on.1 at.counted clean t (was.looks.kept t held) (was.desk before t held) sound
          (placed.stood before t held sound));
    }

pub returns-in_err-next-clause-stopped : goal.returns-in_err-next-clause-stopped
returns-in_err-next-clause-stopped g c = if_some (g.R.Read.remaining c.args.source.now) _
    (λ bytes e.
    let placed = c.loop-line.invariant.placed bytes e in
    let stopped = c.in_err-next.ensures.stopped c.args.beginning bytes placed.at in search rules)

pub returns-in_err-place-in-Line-clause-stopped : goal.returns-in_err-place-in-Line-clause-stopped
returns-in_err-place-in-Line-clause-stopped g c = if_some (g.R.Read.remaining c.args.source.now) _
    (λ bytes e.
    let placed = c.loop-line.invariant.placed bytes e in
    let at = placed.at in
    let said = c.in_ok-next.ensures.next c.args.beginning bytes at in
    let on = rw c.in-Line.is at said in
    let told = on.1 in
    let fits : c.loop-line.place.length + c.len.result ≤ length bytes =
    omega (arith, placed.size, on.3, c.len.ensures, not_longer bytes (at.entries ++ on.0 ∷ []) (drop_through 10 at.left) told.as_far.given) in
    let stopped = c.in_err-place-in-Line.ensures.stopped c.args.beginning bytes fits in search rules)

pub returns-in-End-clause-placed : goal.returns-in-End-clause-placed
returns-in-End-clause-placed g c = λ bytes e.
    let placed = c.loop-line.invariant.placed bytes e in
    let said = c.in_ok-next.ensures.next c.args.beginning bytes placed.at in
    let end = rw c.in-End.is at said in
    placed_end placed end.0 end.1

pub returns-clause-stopped : goal.returns-clause-stopped
returns-clause-stopped g c = if_some (g.R.Read.remaining c.args.source.now) _
    (λ bytes e.
    let placed = c.loop-line.invariant.placed bytes e in
    let at = placed.at in
    let told = at.told in (at.entries, at.left, c.loop-line.replayed, told.as_far, omega (arith, at.counted, c.loop-line-test.false)))
