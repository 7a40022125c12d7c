-- What the files keep when one of them changes.
use Rattle.std.proofs.Common.{◌≡◌, ◌<◌, ℕ, zero, suc, ◌==◌, Bool, true, false, cond, List, [], ◌∷◌, ◌++◌, length, map, filter, find, get_or, slice_get, set}
use Rattle.std.proofs.Common.{refl, sym, ◌∙◌, ap, arith}
use Rattle.std.specs.Prelude.{None, Some, option_map, if◌then◌else◌, ◌&&◌}
use Rattle.std.specs.List.{position_or_len}
use Rattle.std.proofs.lemmas.Bool.{eqb-true}
use Rattle.std.proofs.lemmas.List.{append-nil}
use Rattle.std.proofs.lemmas.List.Elements.{filter-append}
use Rattle.std.proofs.lemmas.List.Folds.{find_at, find-set, find_past}
use Rattle.std.proofs.lemmas.List.Sums.{passes_at_first}
use Rattle.permit_model.specs.Tables.{FileRow, Paper}
use Rattle.permit_store.specs.Changes.{closed_by, papers_after, paper_of}
use Rattle.permit_store.specs.declared.change.RowEffect.{RowEffect}
use Rattle.permit_store.specs.declared.change.RowEffect.TheVariants as effect
use Rattle.permit_store.specs.Plain.{KeptFile, papers_in, papers_at}

-- ---- looking for a file

find_mapped : {A B : Type 0} (f : A → B) (p : B → Bool) (xs : List A) → option_map f (find (λ x. p (f x)) xs) ≡ find p (map f xs)
find_mapped f p [] = refl
find_mapped f p (x ∷ xs) = either (p (f x)) (find_mapped f p xs)
  where
    either : (b : Bool) → option_map f (find (λ x. p (f x)) xs) ≡ find p (map f xs) →
        option_map f (cond b (Some x) (find (λ x. p (f x)) xs)) ≡ cond b (Some (f x)) (find p (map f xs))
    either true ih = refl
    either false ih = ih

-- the row that is found is the row of the file that is found
pub row_found : (id : ℕ) (files : List KeptFile) → option_map (λ k. k.row) (find (λ k. k.row.id == id) files) ≡ find (λ f. f.id == id) (map (λ k. k.row) files)
row_found id files = find_mapped (λ (k : KeptFile). k.row) (λ f. f.id == id) files

-- ---- other papers at a place

slice_at : {A : Type 0} (xs : List A) (i : ℕ) (d : A) → i < length xs → slice_get xs i ≡ Some (get_or xs i d)
slice_at [] i d h = absurd (omega arith)
slice_at (x ∷ xs) zero d h = refl
slice_at (x ∷ xs) (suc i) d h = slice_at xs i d (omega arith)

-- the papers of the file at its place
pub papers_at_place : (id : ℕ) (files : List KeptFile) (i : ℕ) (d : KeptFile) → i ≡ position_or_len (λ k. k.row.id == id) files → i < length files →
    papers_at id files ≡ (get_or files i d).papers
papers_at_place id files i d e h = ap papers_in (find_at (λ (k : KeptFile). k.row.id == id) files ∙ ap (slice_get files) (sym e) ∙ slice_at files i d h)

set_at : (id f : ℕ) (files : List KeptFile) (i : ℕ) (d new : KeptFile) (b : Bool) → (id == f) ≡ b → ((get_or files i d).row.id ≡ id) →
    (new.row.id == id) ≡ true → i ≡ position_or_len (λ k. k.row.id == id) files → i < length files →
    papers_at f (set files i new) ≡ (if b then new.papers else papers_at f files)
set_at id f files i d new true same old named e h =
    ap (λ n. papers_at n (set files i new)) (sym (eqb-true id f same))
    ∙ ap papers_in (find-set (λ (k : KeptFile). k.row.id == id) files i new e h named)
set_at id f files i d new false other old named e h =
    let not_this : ((get_or files i d).row.id == f) ≡ false = ap (λ n. n == f) old ∙ other in
    let not_new : (new.row.id == f) ≡ false = ap (λ n. n == f) (eqb-true new.row.id id named) ∙ other in
    ap papers_in (find_past (λ (k : KeptFile). k.row.id == f) files i new d not_this not_new)

-- the papers of each file, after a file of the same number is put at its place
pub papers_put : (id f : ℕ) (files : List KeptFile) (i : ℕ) (d new : KeptFile) → new.row.id ≡ (get_or files i d).row.id →
    i ≡ position_or_len (λ k. k.row.id == id) files → i < length files →
    papers_at f (set files i new) ≡ (if id == f then new.papers else papers_at f files)
papers_put id f files i d new same e h =
    let there : ((get_or files i d).row.id == id) ≡ true = ap (λ j. (get_or files j d).row.id == id) e
    ∙ passes_at_first (λ (k : KeptFile). k.row.id == id) files d (rw (sym e) h) in
    set_at id f files i d new (id == f) refl (eqb-true (get_or files i d).row.id id there) (ap (λ n. n == id) same ∙ there) e h

-- ---- a file more

-- a file that is added with no papers leaves each file's papers
pub papers_pushed : (f : ℕ) (row : FileRow) (files : List KeptFile) → papers_at f (files ++ (record { row = row; papers = [] }) ∷ []) ≡ papers_at f files
papers_pushed f row [] = either (row.id == f)
  where
    either : (b : Bool) → papers_in (cond b (Some (record { row = row; papers = [] })) None) ≡ []
    either true = refl
    either false = refl
papers_pushed f row (k ∷ files) = either (k.row.id == f) (papers_pushed f row files)
  where
    either : (b : Bool) → papers_at f (files ++ (record { row = row; papers = [] }) ∷ []) ≡ papers_at f files →
        papers_in (cond b (Some k) (find (λ k. k.row.id == f) (files ++ (record { row = row; papers = [] }) ∷ [])))
        ≡ papers_in (cond b (Some k) (find (λ k. k.row.id == f) files))
    either true ih = refl
    either false ih = ih

-- ---- the papers of one file among all

closed_file : (file n : ℕ) (p : Paper) → (closed_by file n p).file ≡ p.file
closed_file file n p = either ((p.file == file) && (p.number == n))
  where
    either : (b : Bool) → (cond b (record p { is_open = false }) p).file ≡ p.file
    either true = refl
    either false = refl

closed_filtered : (file n f : ℕ) (papers : List Paper) → filter (λ p. p.file == f) (map (closed_by file n) papers)
    ≡ map (closed_by file n) (filter (λ p. p.file == f) papers)
closed_filtered file n f [] = refl
closed_filtered file n f (p ∷ papers) =
    ap (λ g. cond (g == f) (closed_by file n p ∷ filter (λ p. p.file == f) (map (closed_by file n) papers))
    (filter (λ p. p.file == f) (map (closed_by file n) papers))) (closed_file file n p)
    ∙ either (p.file == f) (closed_filtered file n f papers)
  where
    either : (b : Bool) → filter (λ p. p.file == f) (map (closed_by file n) papers) ≡ map (closed_by file n) (filter (λ p. p.file == f) papers) →
        cond b (closed_by file n p ∷ filter (λ p. p.file == f) (map (closed_by file n) papers)) (filter (λ p. p.file == f) (map (closed_by file n) papers))
        ≡ map (closed_by file n) (cond b (p ∷ filter (λ p. p.file == f) papers) (filter (λ p. p.file == f) papers))
    either true ih = ap (λ ps. closed_by file n p ∷ ps) ih
    either false ih = ih

closed_other : (file n f : ℕ) (p : Paper) → (file == f) ≡ false → (p.file == f) ≡ true → closed_by file n p ≡ p
closed_other file n f p other this = either (p.file == file) refl
  where
    either : (b : Bool) → (p.file == file) ≡ b → cond (b && (p.number == n)) (record p { is_open = false }) p ≡ p
    either true e = let same : (p.file == f) ≡ (file == f) = ap (λ m. m == f) (eqb-true p.file file e) in cc
    either false e = refl

closed_others : (file n f : ℕ) (papers : List Paper) → (file == f) ≡ false →
    map (closed_by file n) (filter (λ p. p.file == f) papers) ≡ filter (λ p. p.file == f) papers
closed_others file n f [] other = refl
closed_others file n f (p ∷ papers) other = either (p.file == f) refl (closed_others file n f papers other)
  where
    either : (b : Bool) → (p.file == f) ≡ b → map (closed_by file n) (filter (λ p. p.file == f) papers) ≡ filter (λ p. p.file == f) papers →
        map (closed_by file n) (cond b (p ∷ filter (λ p. p.file == f) papers) (filter (λ p. p.file == f) papers))
        ≡ cond b (p ∷ filter (λ p. p.file == f) papers) (filter (λ p. p.file == f) papers)
    either true this ih = ap (λ q. q ∷ map (closed_by file n) (filter (λ p. p.file == f) papers)) (closed_other file n f p other this) ∙ ap (λ ps. p ∷ ps) ih
    either false this ih = ih

filtered_by : (file f count day : ℕ) (change : RowEffect) (papers : List Paper) (b : Bool) → (file == f) ≡ b →
    filter (λ p. p.file == f) (papers_after file count day change papers)
    ≡ (if b then papers_after file count day change (filter (λ p. p.file == file) papers) else filter (λ p. p.file == f) papers)
filtered_by file f count day effect.None papers true e = ap (λ n. filter (λ p. p.file == n) papers) (sym (eqb-true file f e))
filtered_by file f count day effect.None papers false e = refl
filtered_by file f count day (effect.Paper new) papers true e =
    let paper : Paper = paper_of file count day new in
    filter-append (λ (p : Paper). p.file == f) papers (paper ∷ [])
    ∙ ap (λ c. filter (λ p. p.file == f) papers ++ cond c (paper ∷ []) []) e
    ∙ ap (λ n. filter (λ p. p.file == n) papers ++ paper ∷ []) (sym (eqb-true file f e))
filtered_by file f count day (effect.Paper new) papers false e =
    let paper : Paper = paper_of file count day new in
    filter-append (λ (p : Paper). p.file == f) papers (paper ∷ [])
    ∙ ap (λ c. filter (λ p. p.file == f) papers ++ cond c (paper ∷ []) []) e
    ∙ append-nil (filter (λ p. p.file == f) papers)
filtered_by file f count day (effect.NoticeClosed n) papers true e =
    closed_filtered file n f papers ∙ ap (λ m. map (closed_by file n) (filter (λ p. p.file == m) papers)) (sym (eqb-true file f e))
filtered_by file f count day (effect.NoticeClosed n) papers false e = closed_filtered file n f papers ∙ closed_others file n f papers e

-- the papers of each file, after what changes by a file's new row
pub papers_filtered : (file f count day : ℕ) (change : RowEffect) (papers : List Paper) →
    filter (λ p. p.file == f) (papers_after file count day change papers)
    ≡ (if file == f then papers_after file count day change (filter (λ p. p.file == file) papers) else filter (λ p. p.file == f) papers)
papers_filtered file f count day change papers = filtered_by file f count day change papers (file == f) refl
