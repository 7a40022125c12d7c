-- One text printed after another.
use Rattle.std.proofs.Common.{ℕ, ◌+◌, ◌≤◌, List, ◌++◌, length, take, Option, Result, Ok, Err, arith, length-append}
use Rattle.std.proofs.KnownBytes.{Appends-trans}
use Rattle.std.proofs.Math.Seq.{take-append-add}
use Rattle.std.proofs.lemmas.List.{take-append-le}
use Rattle.std.specs.Io.KnownBytes.{Appends}
use Rattle.permit_report.specs.Outgoing.{WroteFront}
use Rattle.permit_subcommands.specs.Printing.{Prints}
use Rattle.permit_subcommands.specs.declared.failure.Failure.{Failure}

-- a prefix of the first text is one of both
pub front_of_first : (front back : List ℕ) (before after : Option (List ℕ)) → WroteFront before after front → WroteFront before after (front ++ back)
front_of_first front back before after h = record {
  count = h.count;
  within = omega (arith, h.within, length-append front back);
  wrote = let within : h.count ≤ length front = omega (arith, h.within) in
      rw (take-append-le h.count front back within) h.wrote;
}

-- the first text, and then a prefix of the second
front_of_both : (front back : List ℕ) (before between after : Option (List ℕ)) → Appends before between front → WroteFront between after back
    → WroteFront before after (front ++ back)
front_of_both front back before between after h k = record {
  count = length front + k.count;
  within = omega (arith, k.within, length-append front back);
  wrote = rw (take-append-add front back k.count) (Appends-trans before between after front (take k.count back) h k.wrote);
}

-- after the first text the second is printed, or fails
pub prints_both : (front back : List ℕ) (before between after : Option (List ℕ)) (result : Result (Unit {0}) Failure) → Appends before between front
    → Prints back between after result → Prints (front ++ back) before after result
prints_both front back before between after (Ok done) h k = Appends-trans before between after front back h k
prints_both front back before between after (Err why) h k = (k.0, front_of_both front back before between after h k.1)
