use Rattle.std.proofs.Common.{◌≡◌, rules}
use Rattle.std.specs.List.{dedup}
use Rattle.std.specs.List.Sorted.{IsNonDecreasingBy}
use Rattle.std.proofs.lemmas.Fn.{dedup_same}
use Rattle.std.proofs.lemmas.List.Sorted.{IsNonDecreasingBy-from_sort_by_key}
use Rattle.permit_office.proofs.Ordering.{number, same_number, in_order, from_files, all_files}
use Rattle.permit_office.proofs.listing.in_order.Goals as goal

pub returns-clause-order : goal.returns-clause-order
returns-clause-order c =
    let sorted = c.sort_unstable_by_key.new.self.items in
    let up : IsNonDecreasingBy number sorted = IsNonDecreasingBy-from_sort_by_key number sorted c.sort_unstable_by_key.ensures.sorted
    (λ a r q k. search rules) in
    let thin : c.dedup_by_key.new.self.items ≡ dedup same_number sorted =
    dedup_same _ same_number _ (λ x y b f' x' y' k. search rules) sorted c.dedup_by_key.new.self.items c.dedup_by_key.ensures.filtered in
    in_order c.args.files.items sorted c.dedup_by_key.new.self.items up thin

pub returns-clause-from : goal.returns-clause-from
returns-clause-from c =
    let sorted = c.sort_unstable_by_key.new.self.items in
    let thin : c.dedup_by_key.new.self.items ≡ dedup same_number sorted =
    dedup_same _ same_number _ (λ x y b f' x' y' k. search rules) sorted c.dedup_by_key.new.self.items c.dedup_by_key.ensures.filtered in
    from_files c.args.files.items sorted c.dedup_by_key.new.self.items c.sort_unstable_by_key.ensures.permutation thin

pub returns-clause-all : goal.returns-clause-all
returns-clause-all c =
    let sorted = c.sort_unstable_by_key.new.self.items in
    let thin : c.dedup_by_key.new.self.items ≡ dedup same_number sorted =
    dedup_same _ same_number _ (λ x y b f' x' y' k. search rules) sorted c.dedup_by_key.new.self.items c.dedup_by_key.ensures.filtered in
    all_files c.args.files.items sorted c.dedup_by_key.new.self.items c.sort_unstable_by_key.ensures.permutation thin
