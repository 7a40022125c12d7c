-- What the calls of a disk do after a text.
use Rattle.std.proofs.Common.{◌≡◌, ◌<◌, ◌≤◌, ◌+◌, ℕ, List, [], ◌∷◌, ◌++◌, length, take, drop, sym, ◌∙◌, ap, arith, ext_get_or, length-append, length-drop, subst}
use Rattle.std.specs.Prelude.{slice_index}
use Rattle.std.proofs.lemmas.List.{get_or-take, get_or_append_left, get_or-drop, length-take, take-append-drop}
use Rattle.sqlite_disk.specs.Disk.{Holds, Torn, Cut, Follows}
use Rattle.permit_journal.specs.Files.{Grown, LeavesGrown, Only}
use Rattle.permit_journal.specs.Parts.{AreNoMore}

-- what agrees with a text up to its end is that text with something after it
begins : (base new : List ℕ) → length base ≤ length new → ((i : ℕ) → i < length base → slice_index new i ≡ slice_index base i)
    → new ≡ base ++ drop (length base) new
begins base new long same =
    sym (take-append-drop (length base) new) ∙ ap (λ (l : List ℕ). l ++ drop (length base) new) (ext_get_or 0 (take (length base) new) base (omega (arith, length-take (length base) new))
    λ i low. let inside : i < length base = omega (arith, length-take (length base) new) in get_or-take (length base) new i 0 inside ∙ same i inside)

-- so it is, with a part of the bytes, where it isn't longer than with all of them
part_behind : (bytes base new : List ℕ) → length base ≤ length new → length new ≤ length base + length bytes
    → ((i : ℕ) → i < length base → slice_index new i ≡ slice_index base i) → Grown AreNoMore bytes base new
part_behind bytes base new long short same = record {
  part = drop (length base) new;
  allowed = omega (arith, length-drop (length base) new);
  grown = begins base new long same;
}

-- a write at the end, whatever becomes of it
pub torn_behind : (bytes base new : List ℕ) (end : ℕ) → end ≡ length base → Torn end (length bytes) base new → Grown AreNoMore bytes base new
torn_behind bytes base new end is torn =
    part_behind bytes base new torn.no_shorter (omega (arith, torn.no_longer)) λ i low. torn.below i low (omega arith)

-- and one that succeeds
pub written_behind : (bytes base new : List ℕ) (end : ℕ) → end ≡ length base → Torn end (length bytes) base new
    → (0 < length bytes → Holds new end bytes) → new ≡ base ++ bytes
written_behind [] base new end is torn holds =
    let none : length (drop (length base) new) ≡ 0 = omega (arith, length-drop (length base) new, torn.no_longer) in
    begins base new torn.no_shorter (λ i low. torn.below i low (omega arith))
    ∙ ap (λ (l : List ℕ). base ++ l) (ext_get_or 0 (drop (length base) new) [] none (λ i low. absurd (omega (arith, none))))
written_behind (b ∷ bytes) base new end is torn holds =
    let all = holds (omega arith) in
    let same : length (drop (length base) new) ≡ length (b ∷ bytes) = omega (arith, length-drop (length base) new, torn.no_longer, all.within) in
    begins base new torn.no_shorter (λ i low. torn.below i low (omega arith))
    ∙ ap (λ (l : List ℕ). base ++ l) (ext_get_or 0 (drop (length base) new) (b ∷ bytes) same (λ i low.
    let there : length base + i ≡ end + i = omega arith in
    get_or-drop (length base) new i 0 ∙ ap (slice_index new) there ∙ all.each i (omega (arith, same))))

-- a text that is cut where it ended before something was appended
pub cut_behind : (bytes base old new : List ℕ) (to : ℕ) → length base ≡ to → Grown AreNoMore bytes base old → Cut to old new → Grown AreNoMore bytes base new
cut_behind bytes base old new to is grown cut =
    let long : length old ≡ length base + length grown.part = ap (λ (l : List ℕ). length l) grown.grown ∙ length-append base grown.part in
    part_behind bytes base new (omega (arith, cut.no_shorter)) (omega (arith, cut.no_longer, grown.allowed)) λ i low.
    cut.below i (omega arith) (omega arith) ∙ ap (λ (l : List ℕ). slice_index l i) grown.grown ∙ get_or_append_left base grown.part 0 i low

-- and one that is cut to the length that is wanted
pub cut_there : (old new : List ℕ) (to : ℕ) → to ≤ length old → Cut to old new → length new ≡ to → new ≡ take to old
cut_there old new to inside cut there =
    ext_get_or 0 new (take to old) (omega (arith, length-take to old)) λ i low. cut.below i (omega arith) (omega arith) ∙ sym (get_or-take to old i 0 (omega arith))

-- what a crash leaves of a text on the disk to which something is appended
pub crash_behind : (bytes base : List ℕ) (end : ℕ) (old new : List ℕ → Type 0) → end ≡ length base → Only base old
    → Follows (Torn end (length bytes)) old new → LeavesGrown AreNoMore bytes base new
crash_behind bytes base end old new is only follows c left =
    let from = follows c left in
    torn_behind bytes base c end is (subst (λ (d : List ℕ). Torn end (length bytes) d c) (only from.0 from.1) from.2)

-- what it leaves of one that is cut
pub crash_cut : (bytes base : List ℕ) (to : ℕ) (old new : List ℕ → Type 0) → length base ≡ to → LeavesGrown AreNoMore bytes base old
    → Follows (Cut to) old new → LeavesGrown AreNoMore bytes base new
crash_cut bytes base to old new is before follows c left =
    let from = follows c left in
    cut_behind bytes base from.0 c to is (before from.0 from.1) from.2
