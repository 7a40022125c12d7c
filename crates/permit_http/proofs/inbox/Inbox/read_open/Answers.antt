use Rattle.std.proofs.Common.{◌≡◌, refl, sym, subst, ◌∙◌, inl}
use Rattle.permit_http.specs.Head.{NeverHasHead}
use Rattle.permit_http.specs.Message.{ShowsFault}
use Rattle.permit_http.specs.declared.fault.Fault.{Fault}
use Rattle.permit_http.specs.Stream.{InboxData}
use Rattle.permit_http.proofs.Filling.{filled_on}
use Rattle.permit_http.proofs.Streams.{split, same_stream, never-append}
use Rattle.permit_http.proofs.ReadsMade.{reads_then}
use Rattle.permit_http.proofs.Unique.{shown_not_open}
use Rattle.permit_http.proofs.inbox.Inbox.read_open.Goals as goal

-- a fault that the bytes show, the same bytes show
shown_still : (old new : InboxData) (fault : Fault) → new ≡ old → ShowsFault old.bytes fault → ShowsFault new.bytes fault
shown_still old new fault same shown = let P : InboxData → Type 0 = λ i. ShowsFault i.bytes fault in subst P (sym same) shown

pub returns-in-Head-clause-filled : goal.returns-in-Head-clause-filled
returns-in-Head-clause-filled g c = filled_on _ _ _ _ _ _ c.head.ensures.filled c.read_found.ensures.filled

pub returns-in-Head-clause-refuses : goal.returns-in-Head-clause-refuses
returns-in-Head-clause-refuses g c = λ fault shown.
    let same = c.head.ensures.there (shown_not_open _ fault shown) in
    c.read_found.ensures.refuses fault (shown_still _ _ fault same.0 shown)

pub returns-in-Head-clause-at_once : goal.returns-in-Head-clause-at_once
returns-in-Head-clause-at_once g c = λ fault shown.
    let same = c.head.ensures.there (shown_not_open _ fault shown) in
    let found = c.read_found.ensures.at_once fault (shown_still _ _ fault same.0 shown) in
    (found.0 ∙ same.0, found.1 ∙ same.1)

pub returns-in-Refused-clause-gives : goal.returns-in-Refused-clause-gives
returns-in-Refused-clause-gives g c = λ bytes e.
    let t = split c.head.new.self (g.R.Read.remaining c.head.new.reader) bytes
    (same_stream c.args.self.now c.head.new.self (g.R.Read.remaining c.args.reader.now) (g.R.Read.remaining c.head.new.reader) bytes
    c.head.ensures.filled e) in
    inl (refl, subst NeverHasHead (sym t.1) (never-append c.head.new.self.bytes t.0 c.in-Refused.ensures.sought))

pub returns-in-Head-clause-needed : goal.returns-in-Head-clause-needed
returns-in-Head-clause-needed g c = reads_then _ _ _ _ _ _ _ _ c.head.ensures.needed c.read_found.ensures.needed
