-- The cells in the order of their numbers, and those of kept rows among them.
use Rattle.std.proofs.Common.{◌≡◌, refl, ap, sym, ◌∙◌, Bool, true, false, ◌&&◌, cond, ℕ, ◌+◌, ◌<◌, ◌≤◌, zero-add, List, [], ◌∷◌, ◌++◌, append_assoc, append-nil}
use Rattle.std.proofs.Common.{map, filter, drop, get_or}
use Rattle.std.specs.List.{list_all, flat_map, range_with_len}
use Rattle.std.proofs.lemmas.List.{at_drop_more, at_drop_all, get_or-map}
use Rattle.std.proofs.lemmas.List.FromFn.{get_or-range_with_len}
use Rattle.permit_model.specs.Opened.{Cell, cells}
use Rattle.permit_policy.specs.Masks.{cell_number}
use Rattle.permit_policy.specs.Kept.{is_kept}

-- ---- the cell of a number

numbers : map cell_number cells ≡ range_with_len 0 112
numbers = refl

nth_number : (n : ℕ) (d : Cell) → n < 112 → cell_number (get_or cells n d) ≡ n
nth_number n d h = sym (get_or-map cell_number cells n d 0 h) ∙ ap (λ xs. get_or xs n 0) numbers ∙ get_or-range_with_len 0 112 n 0 h ∙ zero-add n

-- the one cell of the number is at its place
pub at_place : (n : ℕ) (here : Cell) → n < 112 → ((cell : Cell) → cell_number cell ≡ n → here ≡ cell) → here ≡ get_or cells n here
at_place n here h numbered = numbered (get_or cells n here) (nth_number n here h)

-- ---- kept cells

-- what a function of lists gives for the kept cells from a number on
abbrev pub from_number : {A : Type 0} → (List Cell → A) → ℕ → A
from_number f n = f (filter is_kept (drop n cells))

pub kept_next : {A : Type 0} (f : List Cell → A) (n : ℕ) (here : Cell) → n < 112 → here ≡ get_or cells n here → is_kept here ≡ true
    → from_number f n ≡ f (here ∷ filter is_kept (drop (n + 1) cells))
kept_next f n here h e t =
    at_drop_more (λ xs. f (filter is_kept xs)) cells n here h
    ∙ ap (λ x. f (filter is_kept (x ∷ drop (n + 1) cells))) (sym e)
    ∙ ap (λ b. f (cond b (here ∷ filter is_kept (drop (n + 1) cells)) (filter is_kept (drop (n + 1) cells)))) t

pub kept_skip : {A : Type 0} (f : List Cell → A) (n : ℕ) (here : Cell) → n < 112 → here ≡ get_or cells n here → is_kept here ≡ false
    → from_number f n ≡ from_number f (n + 1)
kept_skip f n here h e t =
    at_drop_more (λ xs. f (filter is_kept xs)) cells n here h
    ∙ ap (λ x. f (filter is_kept (x ∷ drop (n + 1) cells))) (sym e)
    ∙ ap (λ b. f (cond b (here ∷ filter is_kept (drop (n + 1) cells)) (filter is_kept (drop (n + 1) cells)))) t

pub kept_end : {A : Type 0} (f : List Cell → A) (n : ℕ) → 112 ≤ n → from_number f n ≡ f []
kept_end f n h = at_drop_all (λ xs. f (filter is_kept xs)) cells n h

-- ---- whether all are open

pub open_here : (p : Cell → Bool) (n : ℕ) (here : Cell) (whole : Bool) → n < 112 → here ≡ get_or cells n here → is_kept here ≡ true → p here ≡ true
    → from_number (list_all p) n ≡ whole → from_number (list_all p) (n + 1) ≡ whole
open_here p n here whole h e t o k =
    ap (λ b. b && from_number (list_all p) (n + 1)) (sym o) ∙ sym (kept_next (list_all p) n here h e t) ∙ k

pub open_skip : (p : Cell → Bool) (n : ℕ) (here : Cell) (whole : Bool) → n < 112 → here ≡ get_or cells n here → is_kept here ≡ false
    → from_number (list_all p) n ≡ whole → from_number (list_all p) (n + 1) ≡ whole
open_skip p n here whole h e t k = sym (kept_skip (list_all p) n here h e t) ∙ k

pub shut_here : (p : Cell → Bool) (n : ℕ) (here : Cell) (whole : Bool) → n < 112 → here ≡ get_or cells n here → is_kept here ≡ true → p here ≡ false
    → from_number (list_all p) n ≡ whole → false ≡ whole
shut_here p n here whole h e t o k =
    ap (λ b. b && from_number (list_all p) (n + 1)) (sym o) ∙ sym (kept_next (list_all p) n here h e t) ∙ k

-- ---- the routes of the kept cells that meet a filter

-- what those of these cells give that pass the test
abbrev pub each_gives : {B : Type 0} → (Cell → List B) → (Cell → Bool) → List Cell → List B
each_gives f p xs = flat_map f (filter p xs)

first_gives : {B : Type 0} (f : Cell → List B) (p : Cell → Bool) (x : Cell) (xs : List Cell) → p x ≡ true → each_gives f p (x ∷ xs) ≡ f x ++ each_gives f p xs
first_gives f p x xs t = rw t refl

first_gives_none : {B : Type 0} (f : Cell → List B) (p : Cell → Bool) (x : Cell) (xs : List Cell) → p x ≡ false → each_gives f p (x ∷ xs) ≡ each_gives f p xs
first_gives_none f p x xs t = rw t refl

pub cell_taken : {B : Type 0} (f : Cell → List B) (p : Cell → Bool) (n : ℕ) (here : Cell) (made more whole : List B) → n < 112 → here ≡ get_or cells n here
    → is_kept here ≡ true → p here ≡ true → more ≡ made ++ f here
    → made ++ from_number (each_gives f p) n ≡ whole → more ++ from_number (each_gives f p) (n + 1) ≡ whole
cell_taken f p n here made more whole h e t m add k =
    let rest = from_number (each_gives f p) (n + 1) in
    let first : from_number (each_gives f p) n ≡ f here ++ rest = kept_next (each_gives f p) n here h e t
    ∙ first_gives f p here (filter is_kept (drop (n + 1) cells)) m in
    ap (λ xs. xs ++ rest) add ∙ append_assoc made (f here) rest ∙ ap (λ xs. made ++ xs) (sym first) ∙ k

pub cell_unmet : {B : Type 0} (f : Cell → List B) (p : Cell → Bool) (n : ℕ) (here : Cell) (made whole : List B) → n < 112 → here ≡ get_or cells n here
    → is_kept here ≡ true → p here ≡ false
    → made ++ from_number (each_gives f p) n ≡ whole → made ++ from_number (each_gives f p) (n + 1) ≡ whole
cell_unmet f p n here made whole h e t m k =
    let first : from_number (each_gives f p) n ≡ from_number (each_gives f p) (n + 1) = kept_next (each_gives f p) n here h e t
    ∙ first_gives_none f p here (filter is_kept (drop (n + 1) cells)) m in
    ap (λ xs. made ++ xs) (sym first) ∙ k

pub cell_skipped : {B : Type 0} (f : Cell → List B) (p : Cell → Bool) (n : ℕ) (here : Cell) (made whole : List B) → n < 112 → here ≡ get_or cells n here
    → is_kept here ≡ false
    → made ++ from_number (each_gives f p) n ≡ whole → made ++ from_number (each_gives f p) (n + 1) ≡ whole
cell_skipped f p n here made whole h e t k = ap (λ xs. made ++ xs) (sym (kept_skip (each_gives f p) n here h e t)) ∙ k

pub cells_end : {B : Type 0} (f : Cell → List B) (p : Cell → Bool) (n : ℕ) (made whole : List B) → 112 ≤ n
    → made ++ from_number (each_gives f p) n ≡ whole → made ≡ whole
cells_end f p n made whole h k = sym (append-nil made) ∙ ap (λ xs. made ++ xs) (sym (kept_end (each_gives f p) n h)) ∙ k
