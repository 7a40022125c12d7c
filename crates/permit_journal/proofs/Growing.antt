-- A text with a part of a line after it.
use Rattle.std.proofs.Common.{◌≡◌, ℕ, List, [], ◌++◌, length, take, sym, ◌∙◌, ap}
use Rattle.std.proofs.lemmas.List.{append-nil}
use Rattle.std.proofs.Math.Seq.{take-append_seam}
use Rattle.permit_journal.specs.Files.{Grown}

module _ (leaves : List ℕ → List ℕ → Type 0) where
  -- nothing, and all of it
  pub nothing : (line base text : List ℕ) → leaves line [] → text ≡ base → Grown leaves line base text
  nothing line base text allowed is = record { part = []; allowed = allowed; grown = is ∙ sym (append-nil base) }

  pub all : (line base text : List ℕ) → leaves line line → text ≡ base ++ line → Grown leaves line base text
  all line base text allowed is = record { part = line; allowed = allowed; grown = is }

  -- cut exactly, it is the text
  pub cut_exactly : (line base old new : List ℕ) (to : ℕ) → length base ≡ to → Grown leaves line base old → new ≡ take to old → new ≡ base
  cut_exactly line base old new to len grown cut =
      cut ∙ ap (λ (l : List ℕ). take to l) grown.grown ∙ ap (λ (n : ℕ). take n (base ++ grown.part)) (sym len) ∙ take-append_seam base grown.part
