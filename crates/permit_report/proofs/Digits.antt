-- How long numbers and words are.
use Rattle.std.proofs.Common.{lit<, lit≤, ◌≡◌, ap, List, ℕ, ◌<◌, ◌≤◌, ◌^◌, length, arith}
use Rattle.std.specs.Fmt.{decimal}
use Rattle.std.proofs.lemmas.Fmt.{length-decimal-le}
use Rattle.permit_base.specs.Words.{kind_word, stage_word, timing_word}
use Rattle.permit_base.specs.declared.words.Kind.{Kind}
use Rattle.permit_base.specs.declared.words.Kind.TheVariants as kind
use Rattle.permit_base.specs.declared.words.Stage.{Stage}
use Rattle.permit_base.specs.declared.words.Stage.TheVariants as stage
use Rattle.permit_base.specs.declared.words.Timing.{Timing}
use Rattle.permit_base.specs.declared.words.Timing.TheVariants as timing

pub two_digits : (n : ℕ) → n < 100 → length (decimal n) ≤ 2
two_digits n h = length-decimal-le 2 n (lit< tt) (omega arith) (omega arith)

pub four_digits : (n : ℕ) → n < 10000 → length (decimal n) ≤ 4
four_digits n h = length-decimal-le 4 n (lit< tt) (omega arith) (omega arith)

pub ten_digits : (n : ℕ) → n < 2 ^ 32 → length (decimal n) ≤ 10
ten_digits n h = length-decimal-le 10 n (lit< tt) (omega arith) (omega arith)

kind_short : (k : Kind) → length (kind_word k) ≤ 9
kind_short kind.Construct = lit≤ tt
kind_short kind.Enlarge = lit≤ tt
kind_short kind.Alter = lit≤ tt
kind_short kind.Repair = lit≤ tt
kind_short kind.Move = lit≤ tt
kind_short kind.Demolish = lit≤ tt
kind_short kind.Occupancy = lit≤ tt

stage_short : (s : Stage) → length (stage_word s) ≤ 9
stage_short stage.Filed = lit≤ tt
stage_short stage.Review = lit≤ tt
stage_short stage.Returned = lit≤ tt
stage_short stage.Approved = lit≤ tt
stage_short stage.Rejected = lit≤ tt
stage_short stage.Issued = lit≤ tt
stage_short stage.Working = lit≤ tt
stage_short stage.Revoked = lit≤ tt
stage_short stage.Finaled = lit≤ tt
stage_short stage.Certified = lit≤ tt
stage_short stage.Abandoned = lit≤ tt
stage_short stage.Lapsed = lit≤ tt
stage_short stage.New = lit≤ tt
stage_short stage.Office = lit≤ tt

timing_short : (t : Timing) → length (timing_word t) ≤ 5
timing_short timing.Untimed = lit≤ tt
timing_short timing.Past = lit≤ tt
timing_short timing.Near = lit≤ tt
timing_short timing.Ahead = lit≤ tt

pub kind_fits : (word : List ℕ) (k : Kind) → word ≡ kind_word k → length word ≤ 9
kind_fits word k is = omega (arith, ap length is, kind_short k)

pub stage_fits : (word : List ℕ) (s : Stage) → word ≡ stage_word s → length word ≤ 9
stage_fits word s is = omega (arith, ap length is, stage_short s)

pub timing_fits : (word : List ℕ) (t : Timing) → word ≡ timing_word t → length word ≤ 5
timing_fits word t is = omega (arith, ap length is, timing_short t)
