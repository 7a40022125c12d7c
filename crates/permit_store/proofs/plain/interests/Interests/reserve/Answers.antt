use Rattle.std.proofs.Common.{ap, sym, ◌∙◌}
use Rattle.permit_store.specs.Interests.{is_declared}
use Rattle.permit_store.proofs.plain.interests.Interests.reserve.Goals as goal

pub invariant_of-self-2 : goal.invariant_of-self-2
invariant_of-self-2 c = record {
  same = λ parcel party. c.reserve-2.ensures.keys.2 (parcel, party) ∙ c.args.self.now.same parcel party
      ∙ ap (is_declared parcel party) (sym c.reserve.ensures.items);
}
