use Rattle.std.proofs.Common.{◌≡◌, ℕ, rules}
use Rattle.std.specs.List.{dedup}
use Rattle.std.proofs.lemmas.Fn.{always_returns_same, dedup_same}
use Rattle.permit_model.specs.Parcels.{Interest}
use Rattle.permit_replay.proofs.Sorted.{rises, declare_same, same_interest}
use Rattle.permit_replay.proofs.seal.interests.in_order.Goals as goal

pub returns-clause-rising : goal.returns-clause-rising
returns-clause-rising c =
    let sorted = c.sort_unstable_by_key.new.self.items in
    let thin : c.dedup_by_key.new.self.items ≡ dedup same_interest sorted =
    dedup_same _ same_interest _ (λ x y b f' x' y' k. search rules) sorted c.dedup_by_key.new.self.items c.dedup_by_key.ensures.filtered in
    let key : Interest → ℕ × ℕ = λ i. (i.parcel, i.party) in
    rises sorted c.dedup_by_key.new.self.items
    (c.sort_unstable_by_key.ensures.sorted key (always_returns_same _ (λ a r. r ≡ key a.0.now) _ (λ a r q k. search rules))) thin

pub returns-clause-declared : goal.returns-clause-declared
returns-clause-declared c =
    let sorted = c.sort_unstable_by_key.new.self.items in
    let thin : c.dedup_by_key.new.self.items ≡ dedup same_interest sorted =
    dedup_same _ same_interest _ (λ x y b f' x' y' k. search rules) sorted c.dedup_by_key.new.self.items c.dedup_by_key.ensures.filtered in
    declare_same c.args.interests.items sorted c.dedup_by_key.new.self.items c.sort_unstable_by_key.ensures.permutation thin
