use Rattle.permit_office.proofs.Listings.{found_by_routes, files_gathered, rows_read}
use Rattle.permit_office.proofs.listing.list_selected.Goals as goal

pub returns-clause-files : goal.returns-clause-files
returns-clause-files g c = λ doubt h is held wanted e.
    let a = c.args in
    let all = c.in_ok-all.ensures.gathered in
    files_gathered a.policy.now h a.day a.caller.now wanted is all.given c.in_ok-all.all.files.items c.in_order.result.items all.files
    (found_by_routes a.policy.now h a.day a.caller.now wanted all.given _ e (all.found doubt h is held))
    c.in_order.ensures.order c.in_order.ensures.from c.in_order.ensures.all

pub returns-clause-opened : goal.returns-clause-opened
returns-clause-opened g c = λ doubt h is held wanted e.
    let a = c.args in
    let s = g.S.Store.view in
    let all = c.in_ok-all.ensures.gathered in
    rows_read a.policy.now h a.day a.caller.now wanted is all.given _ (s a.store.now).handed (s c.gather.new.store).handed
    (found_by_routes a.policy.now h a.day a.caller.now wanted all.given _ e (all.found doubt h is held)) all.read all.handed
