use Rattle.std.proofs.Common.{inr, ap, Err}
use Rattle.permit_http.proofs.Streams.{on_stream}
use Rattle.permit_http.proofs.Given.{needed, stops, whole, lacks_body}
use Rattle.permit_http.proofs.Unique.{covered_shows_none, shown_is}
use Rattle.permit_http.specs.declared.error.WireError.TheVariants.{Fault}
use Rattle.permit_http.proofs.inbox.Inbox.read_found.Goals as goal

pub returns-in-Err-clause-gives : goal.returns-in-Err-clause-gives
returns-in-Err-clause-gives g c = λ bytes e.
    let x = c.requires.found in
    let at = on_stream c.args.self.now (g.R.Read.remaining c.args.reader.now) bytes _ x.0 e x.1.head in
    inr (x.0, at.0, at.1, c.in-Err.ensures.fault x.0 (rw c.as_slice.ensures x.1))

pub returns-in-Ok-true-clause-gives : goal.returns-in-Ok-true-clause-gives
returns-in-Ok-true-clause-gives g c = λ bytes e.
    let x = c.requires.found in
    let covers = rw c.as_slice.ensures at (c.in-Ok.ensures.parts x.0 (rw c.as_slice.ensures x.1)) in
    let there = rw c.in-Ok-true.field-0-test at c.in-Ok-true.ensures.there in
    let ordered = rw c.as_slice.ensures at c.in-Ok.ensures.ordered in
    whole c.args.self.now c.fill_to.new.self (g.R.Read.remaining c.args.reader.now) (g.R.Read.remaining c.fill_to.new.reader) c.in-Ok.parts x.0
    c.fill_to.ensures.filled covers ordered bytes e there

pub returns-in-Ok-false-clause-gives : goal.returns-in-Ok-false-clause-gives
returns-in-Ok-false-clause-gives g c = λ bytes e.
    let x = c.requires.found in
    let covers = rw c.as_slice.ensures at (c.in-Ok.ensures.parts x.0 (rw c.as_slice.ensures x.1)) in
    let there = rw c.in-Ok-false.field-0-test at c.in-Ok-false.ensures.there in
    let ordered = rw c.as_slice.ensures at c.in-Ok.ensures.ordered in
    inr (lacks_body c.args.self.now c.fill_to.new.self (g.R.Read.remaining c.args.reader.now) (g.R.Read.remaining c.fill_to.new.reader) c.in-Ok.parts x.0
    c.fill_to.ensures.filled covers ordered bytes e there.0 there.1)

pub returns-in-Ok-false-clause-unfinished : goal.returns-in-Ok-false-clause-unfinished
returns-in-Ok-false-clause-unfinished g c =
    let x = c.requires.found in
    let covers = rw c.as_slice.ensures at (c.in-Ok.ensures.parts x.0 (rw c.as_slice.ensures x.1)) in
    let there = rw c.in-Ok-false.field-0-test at c.in-Ok-false.ensures.there in
    let ordered = rw c.as_slice.ensures at c.in-Ok.ensures.ordered in
    inr (stops c.args.self.now c.fill_to.new.self (g.R.Read.remaining c.args.reader.now) (g.R.Read.remaining c.fill_to.new.reader) c.in-Ok.parts x.0
    c.fill_to.ensures.filled covers ordered there.0)

pub returns-in-Err-fill_to-clause-unfinished : goal.returns-in-Err-fill_to-clause-unfinished
returns-in-Err-fill_to-clause-unfinished g c =
    let x = c.requires.found in
    let covers = rw c.as_slice.ensures at (c.in-Ok.ensures.parts x.0 (rw c.as_slice.ensures x.1)) in
    let ordered = rw c.as_slice.ensures at c.in-Ok.ensures.ordered in
    inr (stops c.args.self.now c.fill_to.new.self (g.R.Read.remaining c.args.reader.now) (g.R.Read.remaining c.fill_to.new.reader) c.in-Ok.parts x.0
    c.fill_to.ensures.filled covers ordered c.in-Err-fill_to.ensures.failed)

pub returns-in-Err-clause-refuses : goal.returns-in-Err-clause-refuses
returns-in-Err-clause-refuses g c = λ fault shown.
    let x = c.requires.found in
    let is = c.in-Err.ensures.fault x.0 (rw c.as_slice.ensures x.1) in
    ap (λ e. Err (Fault e)) (shown_is _ _ x.0 fault _ x.1.head is shown)

pub returns-in-Ok-true-clause-refuses : goal.returns-in-Ok-true-clause-refuses
returns-in-Ok-true-clause-refuses g c = λ fault shown.
    let x = c.requires.found in
    absurd (covered_shows_none _ c.in-Ok.parts x.0 fault (rw c.as_slice.ensures at (c.in-Ok.ensures.parts x.0 (rw c.as_slice.ensures x.1))) shown)

pub returns-in-Ok-true-clause-at_once : goal.returns-in-Ok-true-clause-at_once
returns-in-Ok-true-clause-at_once g c = λ fault shown.
    let x = c.requires.found in
    absurd (covered_shows_none _ c.in-Ok.parts x.0 fault (rw c.as_slice.ensures at (c.in-Ok.ensures.parts x.0 (rw c.as_slice.ensures x.1))) shown)

pub returns-in-Ok-false-clause-refuses : goal.returns-in-Ok-false-clause-refuses
returns-in-Ok-false-clause-refuses g c = λ fault shown.
    let x = c.requires.found in
    absurd (covered_shows_none _ c.in-Ok.parts x.0 fault (rw c.as_slice.ensures at (c.in-Ok.ensures.parts x.0 (rw c.as_slice.ensures x.1))) shown)

pub returns-in-Ok-false-clause-at_once : goal.returns-in-Ok-false-clause-at_once
returns-in-Ok-false-clause-at_once g c = λ fault shown.
    let x = c.requires.found in
    absurd (covered_shows_none _ c.in-Ok.parts x.0 fault (rw c.as_slice.ensures at (c.in-Ok.ensures.parts x.0 (rw c.as_slice.ensures x.1))) shown)

pub returns-in-Err-fill_to-clause-refuses : goal.returns-in-Err-fill_to-clause-refuses
returns-in-Err-fill_to-clause-refuses g c = λ fault shown.
    let x = c.requires.found in
    absurd (covered_shows_none _ c.in-Ok.parts x.0 fault (rw c.as_slice.ensures at (c.in-Ok.ensures.parts x.0 (rw c.as_slice.ensures x.1))) shown)

pub returns-in-Err-fill_to-clause-at_once : goal.returns-in-Err-fill_to-clause-at_once
returns-in-Err-fill_to-clause-at_once g c = λ fault shown.
    let x = c.requires.found in
    absurd (covered_shows_none _ c.in-Ok.parts x.0 fault (rw c.as_slice.ensures at (c.in-Ok.ensures.parts x.0 (rw c.as_slice.ensures x.1))) shown)

pub returns-in-Ok-true-clause-needed : goal.returns-in-Ok-true-clause-needed
returns-in-Ok-true-clause-needed g c =
    let x = c.requires.found in
    let covers = rw c.as_slice.ensures at (c.in-Ok.ensures.parts x.0 (rw c.as_slice.ensures x.1)) in
    let ordered = rw c.as_slice.ensures at c.in-Ok.ensures.ordered in
    needed _ _ _ _ _ c.in-Ok.parts x.0 covers ordered c.fill_to.ensures.needed

pub returns-in-Ok-false-clause-needed : goal.returns-in-Ok-false-clause-needed
returns-in-Ok-false-clause-needed g c =
    let x = c.requires.found in
    let covers = rw c.as_slice.ensures at (c.in-Ok.ensures.parts x.0 (rw c.as_slice.ensures x.1)) in
    let ordered = rw c.as_slice.ensures at c.in-Ok.ensures.ordered in
    needed _ _ _ _ _ c.in-Ok.parts x.0 covers ordered c.fill_to.ensures.needed

pub returns-in-Err-fill_to-clause-needed : goal.returns-in-Err-fill_to-clause-needed
returns-in-Err-fill_to-clause-needed g c =
    let x = c.requires.found in
    let covers = rw c.as_slice.ensures at (c.in-Ok.ensures.parts x.0 (rw c.as_slice.ensures x.1)) in
    let ordered = rw c.as_slice.ensures at c.in-Ok.ensures.ordered in
    needed _ _ _ _ _ c.in-Ok.parts x.0 covers ordered c.fill_to.ensures.needed
