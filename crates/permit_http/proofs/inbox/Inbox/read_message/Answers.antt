use Rattle.std.proofs.Common.{ap, ◌∙◌}
use Rattle.permit_http.proofs.inbox.Inbox.read_message.Goals as goal

pub returns-then-is_err-clause-at_once : goal.returns-then-is_err-clause-at_once
returns-then-is_err-clause-at_once g c = λ opened fault shown.
    let found = c.read_open-read.ensures.at_once fault shown in
    (ap (λ i. i.bytes) c.close.ensures ∙ ap (λ i. i.bytes) found.0, found.1)

pub returns-else-is_err-clause-at_once : goal.returns-else-is_err-clause-at_once
returns-else-is_err-clause-at_once g c = λ opened fault shown.
    let found = c.read_open-read.ensures.at_once fault shown in
    (ap (λ i. i.bytes) found.0, found.1)
