use Rattle.std.proofs.Common.{◌≡◌, ◌==◌, ◌++◌, ◌∷◌, [], Bool, true, false, cond, refl, sym, ◌∙◌, ap, rules}
use Rattle.std.specs.Prelude.{◌&&◌, ◌||◌, Result, Ok, Err, IsOk, OnOk}
use Rattle.std.proofs.lemmas.List.Folds.{list_any-append}
use Rattle.permit_model.specs.Parcels.{Interest}
use Rattle.permit_store.specs.Interests.{is_declared}
use Rattle.permit_store.proofs.plain.interests.Interests.add.Goals as goal

either : (here before : Bool) → cond here true before ≡ (before || (here || false))
either true true = refl
either true false = refl
either false true = refl
either false false = refl

on_ok : {T E P : Type 0} (result : Result T E) → IsOk result → OnOk result P → P
on_ok (Ok x) ok p = p
on_ok (Err e) ok p = cc

pub invariant_of-self : goal.invariant_of-self
invariant_of-self c =
    let s = c.args.self.now in
    let rows = s.rows.items in
    let new = c.args.interest in
    let more : c.push.new.self.items ≡ rows ++ new ∷ [] = search rules in
    let parcel : c.get.result ≡ new.parcel = c.get.ensures.same ∙ ap (λ (i : Interest). i.parcel) c.interest.view_is in
    let party : c.get-2.result ≡ new.party = c.get-2.ensures.same ∙ ap (λ (i : Interest). i.party) c.interest.view_is in
    let updated = on_ok _ (c.insert.ensures.succeeds c.requires.spare) c.insert.ensures.updates in
    record {
      same = λ a b.
          let here = (new.parcel == a) && (new.party == b) in
          let before = is_declared a b rows in
          updated.0 (a, b) ∙ ap (cond ((c.get.result == a) && (c.get-2.result == b)) true) (s.same a b)
          ∙ ap (λ n. cond ((n == a) && (c.get-2.result == b)) true before) parcel ∙ ap (λ n. cond ((new.parcel == a) && (n == b)) true before) party
          ∙ either here before ∙ sym (list_any-append (λ i. (i.parcel == a) && (i.party == b)) rows (new ∷ [])) ∙ ap (is_declared a b) (sym more);
    }
