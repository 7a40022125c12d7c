-- What a parse of the first bytes says of a head within the limits.
use Rattle.std.proofs.Common.{◌≡◌, ℕ, ◌+◌, ◌-◌, ◌≤◌, List, ◌++◌, length, take, drop, sym, ap, ◌∙◌, arith, append_assoc}
use Rattle.std.proofs.Math.Seq.{take-append-add}
use Rattle.std.proofs.lemmas.List.{take-append-le, length-take-le, length-take, take-append-drop, drop_at, length-map}
use Rattle.httparse.specs.Grammar.{RequestHead, ReadsRequest, print_request, HasNoRequest}
use Rattle.httparse.specs.Spans.{IsRequestAt, IsRequestWithin, RequestOverflows}
use Rattle.httparse.specs.declared.spans.HeaderSpan.{HeaderSpan}
use Rattle.httparse.specs.declared.spans.RequestSpans.{RequestSpans}
use Rattle.httparse.proofs.GrammarLemmas.{ReadsRequest-append}
use Rattle.permit_http.specs.Head.{LacksHead, NeverHasHead, head_limit}
use Rattle.permit_http.specs.Spans.{IsFound}

-- what comes after a head is what is left when its bytes are gone
pub rest_is : (bytes rest : List ℕ) (h : RequestHead) (n : ℕ) → ReadsRequest bytes h rest → n ≡ length (print_request h) → rest ≡ drop n bytes
rest_is bytes rest h n x e = sym (ap (drop n) x.1 ∙ drop_at (print_request h) rest n (sym e))

-- a head is in the first bytes, if it is no longer
pub front_reads : (bytes rest : List ℕ) (h : RequestHead) (n : ℕ) → ReadsRequest bytes h rest → length (print_request h) ≤ n
    → ReadsRequest (take n bytes) h (take (n - length (print_request h)) rest)
front_reads bytes rest h n x le =
    let size : length (print_request h) + (n - length (print_request h)) ≡ n = omega arith in (
      x.0,
      ap (take n) x.1 ∙ ap (λ k. take k (print_request h ++ rest)) (sym size)
          ∙ take-append-add (print_request h) rest (n - length (print_request h)),
    )

pub lacks : (bytes : List ℕ) → HasNoRequest (take head_limit bytes) → LacksHead bytes
lacks bytes nope h rest x = nope h _ (front_reads bytes rest h head_limit x.reads x.short)

pub never_long : (bytes : List ℕ) → HasNoRequest (take head_limit bytes) → head_limit ≤ length bytes → NeverHasHead bytes
never_long bytes nope long more =
    lacks (bytes ++ more) (rw (take-append-le head_limit bytes more long) nope)

pub never_refused : (bytes : List ℕ) → RequestOverflows 32 (take head_limit bytes) → NeverHasHead bytes
never_refused bytes over more h rest x =
    let whole : bytes ++ more ≡ take head_limit bytes ++ (drop head_limit bytes ++ more)
    = ap (λ b. b ++ more) (sym (take-append-drop head_limit bytes)) ∙ append_assoc (take head_limit bytes) (drop head_limit bytes) more in
    let many = over (drop head_limit bytes ++ more) h rest (x.reads.0, sym whole ∙ x.reads.1) in
    absurd (omega (arith, many, x.few))

pub found : (bytes : List ℕ) (headers : List HeaderSpan) (spans : RequestSpans) (h : RequestHead) → length headers ≡ 32
    → IsRequestAt (take head_limit bytes) headers spans h → IsRequestWithin (take head_limit bytes) headers spans
    → IsFound bytes headers spans h
found bytes headers spans h room x y =
    let front = ReadsRequest-append (take head_limit bytes) h _ (drop head_limit bytes) x.reads in
    let whole = rw take-append-drop at front in
    let rest = rest_is bytes _ h spans.len whole x.len in
    let size = simp length-map at (ap length x.fields) in
    record {
      head = record {
        reads = rw rest at whole;
        short = omega (arith, x.len, y.section.len_fits, length-take head_limit bytes);
        few = omega (arith, size, length-take-le spans.headers headers y.section.count_fits, y.section.count_fits);
      };
      at = x;
      within = y;
    }
