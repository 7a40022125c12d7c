use Rattle.std.proofs.Common.{◌≡◌, ◌==◌, find, sym, ◌∙◌, ap}
use Rattle.std.specs.Prelude.{Some}
use Rattle.permit_model.specs.Routes.{owner_in, has_interest_in}
use Rattle.permit_model.specs.Tables.{FileRow}
use Rattle.permit_mirror.proofs.Finding.{told}
use Rattle.permit_mirror.proofs.search.find_row.Goals as goal

pub returns-then-any_finds-clause-found : goal.returns-then-any_finds-clause-found
returns-then-any_finds-clause-found g c = λ t held.
    let row = c.in-Some-2.row in
    let read : find (λ f. f.id == c.args.number) t.files ≡ Some row = ap (λ id. find (λ f. f.id == id) t.files) (sym c.in-Some.ensures.same)
    ∙ sym (c.in_ok-row.ensures.found (g.met.M.Memory.sure _) t held) ∙ c.in-Some-2.is in
    let parcel : c.parcel-parcel.result ≡ row.state.parcel = c.parcel-parcel.ensures ∙ ap (λ (r : FileRow). r.state.parcel) c.row.view_is in
    let there = c.in_ok-row.ensures.read.kept t held in
    let owner : c.in_ok-owner.owner ≡ owner_in t row.state.parcel = c.in_ok-owner.ensures.found (g.met.M.Memory.sure _) t there ∙ ap (owner_in t) parcel in
    let conflict : c.in_ok-conflict.conflict ≡ has_interest_in t row.state.parcel c.args.caller =
    c.in_ok-conflict.ensures.found (g.met.M.Memory.sure _) t (c.in_ok-owner.ensures.read.kept t there)
    ∙ ap (λ n. has_interest_in t n c.args.caller) parcel in
    sym (told c.args.routes.now c.args.caller c.args.day t c.args.number row c.in_ok-owner.owner c.in_ok-conflict.conflict _ read owner conflict
    (sym c.any_finds.ensures ∙ c.if-any_finds.true))

pub returns-else-any_finds-clause-found : goal.returns-else-any_finds-clause-found
returns-else-any_finds-clause-found g c = λ t held.
    let row = c.in-Some-2.row in
    let read : find (λ f. f.id == c.args.number) t.files ≡ Some row = ap (λ id. find (λ f. f.id == id) t.files) (sym c.in-Some.ensures.same)
    ∙ sym (c.in_ok-row.ensures.found (g.met.M.Memory.sure _) t held) ∙ c.in-Some-2.is in
    let parcel : c.parcel-parcel.result ≡ row.state.parcel = c.parcel-parcel.ensures ∙ ap (λ (r : FileRow). r.state.parcel) c.row.view_is in
    let there = c.in_ok-row.ensures.read.kept t held in
    let owner : c.in_ok-owner.owner ≡ owner_in t row.state.parcel = c.in_ok-owner.ensures.found (g.met.M.Memory.sure _) t there ∙ ap (owner_in t) parcel in
    let conflict : c.in_ok-conflict.conflict ≡ has_interest_in t row.state.parcel c.args.caller =
    c.in_ok-conflict.ensures.found (g.met.M.Memory.sure _) t (c.in_ok-owner.ensures.read.kept t there)
    ∙ ap (λ n. has_interest_in t n c.args.caller) parcel in
    sym (told c.args.routes.now c.args.caller c.args.day t c.args.number row c.in_ok-owner.owner c.in_ok-conflict.conflict _ read owner conflict
    (sym c.any_finds.ensures ∙ c.if-any_finds.false))
