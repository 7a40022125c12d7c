use Rattle.permit_http.proofs.Covered.{covers, for_some, parts_ordered}
use Rattle.permit_http.proofs.head.parts_of.Goals as goal

pub returns-clause-ordered : goal.returns-clause-ordered
returns-clause-ordered c =
    let within = rw c.front-head.ensures at c.only_field-authorization.ensures.within in
    parts_ordered c.args.bytes.now c.args.headers.now c.args.found c.only_field-authorization.result c.asks_to_close-closes.result c.in_ok-length.length
    c.requires within c.in_ok-length.ensures.small

pub returns-clause-parts : goal.returns-clause-parts
returns-clause-parts c = λ h f.
    let within = rw c.front-head.ensures at c.only_field-authorization.ensures.within in
    covers c.args.bytes.now c.args.headers.now c.args.found h f c.only_field-authorization.result c.asks_to_close-closes.result c.in_ok-length.length
    (for_some _ c.only_field-authorization.result within)
    (rw c.front-head.ensures at c.only_field-authorization.ensures.value)
    (rw c.front-head.ensures at c.asks_to_close-closes.ensures)
    (rw c.front-head.ensures at c.in_ok-length.ensures.value)
