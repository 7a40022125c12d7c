-- Papers in the order of their files and numbers are those of each file, the files in their order.
use Rattle.std.proofs.Common.{◌≡◌, inl, inr, ℕ, suc, ◌+◌, ◌<◌, ◌≤◌, Bool, true, false, cond, List, [], ◌∷◌, ◌++◌, filter, length, refl, sym, ap, ap₂, ◌∙◌, arith, true≢false}
use Rattle.std.specs.Prelude.{◌==◌, nat_lt}
use Rattle.std.specs.List.{AllByRecursion, flat_map}
use Rattle.std.proofs.lemmas.Bool.{eqb-true, eqb-false, ne_eqb, lt-ltb, ltb-true}
use Rattle.std.proofs.lemmas.Bool.Decides.{nat_tests}
use Rattle.sqlite_trees.specs.Tree.{IsAscending}
use Rattle.permit_model.specs.Tables.{FileRow, Paper}
use Rattle.permit_sql.specs.Found.{IsLater, IsNumbered, IsRising}
use Rattle.permit_sql.proofs.Tallies.{of_file}

-- ---- the files rise

abbrev UpTo : Paper → Paper → Type 0
UpTo p q = p.file ≤ q.file

later_file : (file number : ℕ) (p : Paper) → IsLater file number p.file p.number → file ≤ p.file
later_file file number p (inl h) = let e = h.0 in omega (arith, e)
later_file file number p (inr h) = omega (arith, h)

all_from : (a b : ℕ) → a ≤ b → (ps : List Paper) → AllByRecursion (λ q. b ≤ q.file) ps → AllByRecursion (λ q. a ≤ q.file) ps
all_from a b low [] h = tt
all_from a b low (p ∷ ps) h = (let e = h.0 in omega (arith, low, e), all_from a b low ps h.1)

all_later : (file number : ℕ) (ps : List Paper) → IsRising file number ps → AllByRecursion (λ q. file ≤ q.file) ps
all_later file number [] up = tt
all_later file number (p ∷ ps) up =
    let low = later_file file number p up.0 in
    (low, all_from file p.file low ps (all_later p.file p.number ps up.1))

files_up : (file number : ℕ) (ps : List Paper) → IsRising file number ps → IsAscending UpTo ps
files_up file number [] up = tt
files_up file number (p ∷ ps) up = (all_later p.file p.number ps up.1, files_up p.file p.number ps up.1)

-- ---- the papers of a file, and those of later files

abbrev past : ℕ → List Paper → List Paper
past a = filter (λ p. nat_lt a p.file)

none_of : (a b : ℕ) → a < b → (ps : List Paper) → AllByRecursion (λ q. b ≤ q.file) ps → of_file a ps ≡ []
none_of a b low [] h = refl
none_of a b low (p ∷ ps) h =
    let e = h.0 in
    let other : (p.file == a) ≡ false = ne_eqb p.file a (λ same. omega (arith, low, e, same)) in
    rw (other, none_of a b low ps h.1) refl

all_past : (a b : ℕ) → a < b → (ps : List Paper) → AllByRecursion (λ q. b ≤ q.file) ps → past a ps ≡ ps
all_past a b low [] h = refl
all_past a b low (p ∷ ps) h =
    let e = h.0 in
    let over : nat_lt a p.file ≡ true = lt-ltb a p.file (omega (arith, low, e)) in
    rw (over, all_past a b low ps h.1) refl

split_at : (a : ℕ) (ps : List Paper) → IsAscending UpTo ps → AllByRecursion (λ q. a ≤ q.file) ps → ps ≡ of_file a ps ++ past a ps
split_at a [] up low = refl
split_at a (p ∷ ps) up low = go (p.file == a) refl (split_at a ps up.1 low.1)
  where
    go : (b : Bool) → (p.file == a) ≡ b → ps ≡ of_file a ps ++ past a ps → p ∷ ps ≡ cond b (p ∷ of_file a ps) (of_file a ps) ++ past a (p ∷ ps)
    go true same more =
        let file : p.file ≡ a = eqb-true p.file a same in
        let not_past : nat_lt a p.file ≡ false = grind (arith, nat_tests) in
        ap (λ l. p ∷ l) more ∙ ap (λ b. p ∷ (of_file a ps ++ cond b (p ∷ past a ps) (past a ps))) (sym not_past)
    go false other more =
        let e = low.0 in
        let apart = eqb-false p.file a other in
        let over : a < p.file = omega (arith, e, apart) in
        let first : nat_lt a p.file ≡ true = lt-ltb a p.file over in
        ap (λ l. p ∷ l) (sym (all_past a p.file over ps up.0)) ∙ ap (λ b. cond b (p ∷ past a ps) (past a ps)) (sym first)
        ∙ ap (λ l. l ++ past a (p ∷ ps)) (sym (none_of a p.file over ps up.0))

-- ---- what holds of the papers holds of those of later files

past_all : (P : Paper → Type 0) (a : ℕ) (ps : List Paper) → AllByRecursion P ps → AllByRecursion P (past a ps)
past_all P a [] h = tt
past_all P a (p ∷ ps) h = go (nat_lt a p.file) (past_all P a ps h.1)
  where
    go : (b : Bool) → AllByRecursion P (past a ps) → AllByRecursion P (cond b (p ∷ past a ps) (past a ps))
    go true more = (h.0, more)
    go false more = more

past_up : (a : ℕ) (ps : List Paper) → IsAscending UpTo ps → IsAscending UpTo (past a ps)
past_up a [] up = tt
past_up a (p ∷ ps) up = go (nat_lt a p.file) (past_up a ps up.1)
  where
    go : (b : Bool) → IsAscending UpTo (past a ps) → IsAscending UpTo (cond b (p ∷ past a ps) (past a ps))
    go true more = (past_all (UpTo p) a ps up.0, more)
    go false more = more

past_low : (a : ℕ) (ps : List Paper) → AllByRecursion (λ q. suc a ≤ q.file) (past a ps)
past_low a [] = tt
past_low a (p ∷ ps) = go (nat_lt a p.file) refl (past_low a ps)
  where
    go : (b : Bool) → nat_lt a p.file ≡ b → AllByRecursion (λ q. suc a ≤ q.file) (past a ps) →
        AllByRecursion (λ q. suc a ≤ q.file) (cond b (p ∷ past a ps) (past a ps))
    go true over more = (let e = ltb-true a p.file over in omega (arith, e), more)
    go false _ more = more

of_past : (a id : ℕ) → a < id → (ps : List Paper) → of_file id (past a ps) ≡ of_file id ps
of_past a id low [] = refl
of_past a id low (p ∷ ps) = go (nat_lt a p.file) refl (of_past a id low ps)
  where
    go : (b : Bool) → nat_lt a p.file ≡ b → of_file id (past a ps) ≡ of_file id ps → of_file id (cond b (p ∷ past a ps) (past a ps)) ≡ of_file id (p ∷ ps)
    go true over more = ap (λ l. cond (p.file == id) (p ∷ l) l) more
    go false under more =
        let other : (p.file == id) ≡ false = ne_eqb p.file id (λ same.
        let over : nat_lt a p.file ≡ true = lt-ltb a p.file (omega (arith, low, same)) in true≢false (sym over ∙ under)) in
        more ∙ ap (λ b. cond b (p ∷ of_file id ps) (of_file id ps)) (sym other)

each_past : (a n : ℕ) → a < n → (fs : List FileRow) → IsNumbered (λ (f : FileRow). f.id) n fs → (ps : List Paper) →
    flat_map (λ (f : FileRow). of_file f.id (past a ps)) fs ≡ flat_map (λ (f : FileRow). of_file f.id ps) fs
each_past a n low [] up ps = refl
each_past a n low (f ∷ fs) up ps =
    let id = up.0 in
    ap₂ ◌++◌ (of_past a f.id (omega (arith, low, id)) ps) (each_past a (suc n) (omega (arith, low)) fs up.1 ps)

-- ---- all papers

by_files : (fs : List FileRow) (a : ℕ) (ps : List Paper) → IsNumbered (λ (f : FileRow). f.id) a fs → IsAscending UpTo ps →
    AllByRecursion (λ q. a ≤ q.file) ps → AllByRecursion (λ q. q.file < a + length fs) ps → ps ≡ flat_map (λ (f : FileRow). of_file f.id ps) fs
by_files [] a [] up rising low high = refl
by_files [] a (p ∷ ps) up rising low high = let x = low.0 in let y = high.0 in absurd (omega (arith, x, y))
by_files (f ∷ fs) a ps up rising low high =
    let rest = past a ps in
    let more = by_files fs (suc a) rest up.1 (past_up a ps rising) (past_low a ps) (moved rest (past_all (λ q. q.file < a + suc (length fs)) a ps high)) in
    split_at a ps rising low ∙ ap₂ ◌++◌ (ap (λ n. of_file n ps) (sym up.0)) (more ∙ each_past a (suc a) (omega arith) fs up.1 ps)
  where
    moved : (qs : List Paper) → AllByRecursion (λ q. q.file < a + suc (length fs)) qs → AllByRecursion (λ q. q.file < suc a + length fs) qs
    moved [] h = tt
    moved (q ∷ qs) h = (let e = h.0 in omega (arith, e), moved qs h.1)

-- rising papers of files that are numbered from 1
pub in_files : (fs : List FileRow) (ps : List Paper) → IsNumbered (λ (f : FileRow). f.id) 1 fs → IsRising 0 0 ps → AllByRecursion (λ q. 1 ≤ q.file) ps →
    AllByRecursion (λ q. q.file ≤ length fs) ps → ps ≡ flat_map (λ (f : FileRow). of_file f.id ps) fs
in_files fs ps up rising low high = by_files fs 1 ps up (files_up 0 0 ps rising) low (within ps high)
  where
    within : (qs : List Paper) → AllByRecursion (λ q. q.file ≤ length fs) qs → AllByRecursion (λ q. q.file < 1 + length fs) qs
    within [] h = tt
    within (q ∷ qs) h = (let e = h.0 in omega (arith, e), within qs h.1)
