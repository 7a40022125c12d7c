-- Reads that are made one after the other.
use Rattle.std.proofs.Common.{◌≡◌, ℕ, List, [], ◌∷◌, ◌++◌, append_assoc, append-nil, refl, sym, subst}
use Rattle.permit_http.specs.Needed.{ReadsOn, ReadsWhile}

module _ {R : Type 0} (gave : R → List ℕ → R → Type 0) where
  module _ (waits : List ℕ → Type 0) where
    -- none was made
    pub reads_none : (bytes : List ℕ) (reader : R) → ReadsWhile waits gave bytes reader bytes reader
    reads_none bytes reader = ([], (refl, refl))

    joined : (bytes : List ℕ) (reader : R) (pieces : List (List ℕ)) (mid : List ℕ) (between : R) (more : List (List ℕ)) (last : List ℕ) (after : R)
        → ReadsOn waits gave bytes reader pieces mid between → ReadsOn waits gave mid between more last after
        → ReadsOn waits gave bytes reader (pieces ++ more) last after
    joined bytes reader [] mid between more last after h k =
        subst (λ r. ReadsOn waits gave bytes r more last after) h.1 (subst (λ bs. ReadsOn waits gave bs between more last after) h.0 k)
    joined bytes reader (piece ∷ pieces) mid between more last after h k =
        (h.0, h.1, h.2, joined (bytes ++ piece) h.0 pieces mid between more last after h.3 k)

    -- some, and then others
    pub reads_then : (bytes mid last : List ℕ) (reader between after : R)
        → ReadsWhile waits gave bytes reader mid between → ReadsWhile waits gave mid between last after → ReadsWhile waits gave bytes reader last after
    reads_then bytes mid last reader between after h k =
        (h.0 ++ k.0, joined bytes reader h.0 mid between k.0 last after h.1 k.1)

    -- one more
    pub reads_more : (bytes mid last more : List ℕ) (reader between after : R)
        → ReadsWhile waits gave bytes reader mid between → waits mid → gave between more after → last ≡ mid ++ more
        → ReadsWhile waits gave bytes reader last after
    reads_more bytes mid last more reader between after h waiting one is =
        reads_then bytes mid last reader between after h (more ∷ [], (after, waiting, one, (is, refl)))

  widened : (narrow wide : List ℕ → Type 0) (bytes : List ℕ) (reader : R) (pieces : List (List ℕ)) (last : List ℕ) (after : R)
      → ((more : List ℕ) → narrow (bytes ++ more) → wide (bytes ++ more))
      → ReadsOn narrow gave bytes reader pieces last after → ReadsOn wide gave bytes reader pieces last after
  widened narrow wide bytes reader [] last after each h = h
  widened narrow wide bytes reader (piece ∷ pieces) last after each h = (
    h.0,
    subst wide (append-nil bytes) (each [] (subst narrow (sym (append-nil bytes)) h.1)),
    h.2,
    widened narrow wide (bytes ++ piece) h.0 pieces last after
        (λ more x. subst wide (sym (append_assoc bytes piece more)) (each (piece ++ more) (subst narrow (append_assoc bytes piece more) x))) h.3,
  )

  -- what waits by one word, after these bytes, waits by another
  pub reads_as : (narrow wide : List ℕ → Type 0) (bytes last : List ℕ) (reader after : R)
      → ((more : List ℕ) → narrow (bytes ++ more) → wide (bytes ++ more))
      → ReadsWhile narrow gave bytes reader last after → ReadsWhile wide gave bytes reader last after
  reads_as narrow wide bytes last reader after each h = (h.0, widened narrow wide bytes reader h.0 last after each h.1)
