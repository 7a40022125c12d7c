use Rattle.std.proofs.Common.{rules}
use Rattle.std.specs.Prelude.{nat_lt}
use Rattle.std.proofs.lemmas.Fn.{always_returns_same}
use Rattle.permit_office.proofs.Ordering.{number, told_rising}
use Rattle.permit_office.proofs.listing.is_rising.Goals as goal

pub returns : goal.returns
returns c =
    told_rising c.args.files.now c.is_sorted_by.result
    (c.is_sorted_by.ensures.cases (λ x y. nat_lt (number x) (number y)) (always_returns_same _ _ _ (λ a r f' k. search rules)))
