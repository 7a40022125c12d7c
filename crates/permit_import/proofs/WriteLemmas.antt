-- What a writer was given, piece by piece.
use Rattle.std.proofs.Common.{◌≡◌, ◌≤◌, ℕ, List, length, min, take, ap, ◌∙◌, Option}
use Rattle.std.proofs.KnownBytes.{Appends-trans}
use Rattle.std.proofs.lemmas.List.{take_all, take_min}
use Rattle.std.specs.Io.KnownBytes.{Appends}
use Rattle.permit_import.specs.Written.{WroteFront, WroteInto}

-- a prefix of the next text after the whole of one
pub wrote_into : (old mid new : Option (List ℕ)) (text next : List ℕ) → Appends old mid text → WroteFront mid new next → WroteInto old new text next
wrote_into old mid new text next wrote front = record {
  count = front.count;
  within = front.within;
  wrote = Appends-trans old mid new text (take front.count next) wrote front.wrote;
}

-- the bytes of a field that are shown, once all of them are
pub shown_front : (field : List ℕ) (count i : ℕ) → count ≡ min 60 (length field) → length (take count field) ≤ i → take i (take count field) ≡ take 60 field
shown_front field count i e h = take_all i (take count field) h ∙ ap (λ n. take n field) e ∙ take_min 60 field
