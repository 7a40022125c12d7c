-- The first lines of a text, and the evidence of them. A line ends with an LF: what is after the last one is none.
use Rattle.std.specs.Prelude.{◌≡◌, ℕ, zero, suc, Bool, ◌==◌, List, [], ◌∷◌, count_by, if◌then◌else◌, Option, None, Some, option_map}
use Rattle.permit_base.specs.Digests.{digest_of}
use Rattle.permit_history.specs.declared.evidence.Evidence.{Evidence}

-- an LF
abbrev pub ends_line : ℕ → Bool
ends_line byte = byte == 10

-- how many lines a text has
abbrev pub line_count : List ℕ → ℕ
line_count bytes = count_by ends_line bytes

-- the first n lines of a text with their LFs: none where it has fewer
abbrev pub lines_of : ℕ → List ℕ → Option (List ℕ)
lines_of zero bytes = Some []
lines_of (suc n) [] = None
lines_of (suc n) (x ∷ xs) = option_map (λ later. x ∷ later) (lines_of (if ends_line x then n else suc n) xs)

-- the text begins with so many lines of that digest
abbrev pub IsOfPrefix : List ℕ → Evidence → Type 0
IsOfPrefix bytes evidence = option_map digest_of (lines_of evidence.lines bytes) ≡ Some evidence.sha256

-- and it has no more lines
pub record IsEvidenceOf (bytes : List ℕ) (evidence : Evidence) : Type 0 where
  pub lines : evidence.lines ≡ line_count bytes
  pub sha256 : IsOfPrefix bytes evidence
