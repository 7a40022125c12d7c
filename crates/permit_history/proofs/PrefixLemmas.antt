-- A prefix of a text, as pieces of the text are added to it.
use Rattle.std.proofs.Common.{◌≡◌, ◌⊎◌, inl, inr, ◌∙◌, ap, sym, subst, refl, ℕ, ◌+◌, ◌-◌, ◌<◌, ◌≤◌, min, Bool, true, false, List, [], ◌∷◌, ◌++◌, length, get_or, take, Option, None, Some, IfSome, append_assoc, arith}
use Rattle.std.specs.Prelude.{nat_lt, option_map, OnSome}
use Rattle.std.specs.Io.KnownBytes.{Consumes, IsAtEnd}
use Rattle.std.proofs.lemmas.Bool.Decides.{nat_tests}
use Rattle.std.proofs.lemmas.List.{append-nil, take_more}
use Rattle.std.proofs.lemmas.List.Sums.{count_by_more_no, count_by_more_yes}
use Rattle.sha2.specs.declared.Sha256.{Sha256}
use Rattle.sha2.specs.Hashers.{Holds256}
use Rattle.permit_base.specs.Digests.{digest_of}
use Rattle.permit_history.specs.declared.evidence.Evidence.{Evidence}
use Rattle.permit_history.specs.declared.evidence.Prefix.{Prefix}
use Rattle.permit_history.specs.Evidence.{ends_line, line_count, lines_of}
use Rattle.permit_history.specs.Prefixes.{IsEvidenceWithin, IsPrefixOf}
use Rattle.permit_history.proofs.FirstLines.{line_count-append, lines_of-append, lines_of-more, lines_of-none, mapped}

-- ---- the lines of a piece, byte by byte

module _ (most lines i : ℕ) (piece : List ℕ) (less : i < length piece) (count : lines ≡ min most (line_count (take i piece))) where
  -- a byte that ends none of them
  pub counted_no : (text : List ℕ) → (ends_line (get_or piece i 0) ≡ true → lines < most → ⊥) → lines_of lines (take i piece) ≡ Some text
      → (lines ≡ min most (line_count (take (i + 1) piece))) × (lines_of lines (take (i + 1) piece) ≡ Some text)
  counted_no text other first = (
    elim_byte (ends_line (get_or piece i 0)) refl,
    ap (lines_of lines) (take_more piece i 0 less) ∙ lines_of-append lines (take i piece) (get_or piece i 0 ∷ []) text first,
  )
    where
      elim_byte : (b : Bool) → ends_line (get_or piece i 0) ≡ b → lines ≡ min most (line_count (take (i + 1) piece))
      elim_byte true e =
          let more = count_by_more_yes ends_line piece i 0 less e in
          let full : most ≤ lines = omega (arith, other e) in omega (arith, count, more, full)
      elim_byte false e = count ∙ ap (min most) (sym (count_by_more_no ends_line piece i 0 less e))

  -- a byte that ends one more
  pub counted_yes : ends_line (get_or piece i 0) ≡ true → lines < most
      → (lines + 1 ≡ min most (line_count (take (i + 1) piece))) × (lines_of (lines + 1) (take (i + 1) piece) ≡ Some (take (i + 1) piece))
  counted_yes ends room =
      let more = count_by_more_yes ends_line piece i 0 less ends in
      let next = take_more piece i 0 less in
      let all : lines + 1 ≡ line_count (take i piece) + 1 = omega (arith, count, room) in
      let last : lines_of 1 (get_or piece i 0 ∷ []) ≡ Some (get_or piece i 0 ∷ []) = rw ends refl in (
        omega (arith, count, more, room),
        ap (lines_of (lines + 1)) next ∙ lines_of-more (lines + 1) 1 (take i piece) (get_or piece i 0 ∷ []) (omega arith) all
            ∙ ap (option_map (λ text. take i piece ++ text)) last ∙ ap Some (sym next),
      )

-- ---- a piece more

module _ (most : ℕ) (bytes piece : List ℕ) (old new : Prefix) (is : IsPrefixOf most bytes old) (lines end : ℕ)
    (count : lines ≡ min (most - old.lines) (line_count piece)) (taken : lines_of lines piece ≡ Some (take end piece)) where
  -- no line ends in it
  pub added_none : lines ≡ 0 → new.lines ≡ old.lines → new.whole ≡ old.whole → Holds256 new.read (bytes ++ piece) → IsPrefixOf most (bytes ++ piece) new
  added_none none same whole read = record {
    lines = omega (arith, same, is.lines, count, none, line_count-append bytes piece);
    text = is.text;
    first = ap (λ n. lines_of n (bytes ++ piece)) same ∙ lines_of-append old.lines bytes piece is.text is.first;
    whole = subst (λ (h : Sha256). Holds256 h is.text) (sym whole) is.whole;
    read = read;
  }

  -- some do
  pub added_some : 0 < lines → new.lines ≡ old.lines + lines → Holds256 new.whole (bytes ++ take end piece) → Holds256 new.read (bytes ++ piece)
      → IsPrefixOf most (bytes ++ piece) new
  added_some some more whole read = record {
    lines = omega (arith, more, is.lines, count, line_count-append bytes piece, some);
    text = bytes ++ take end piece;
    first = lines_of-more new.lines lines bytes piece some (omega (arith, more, is.lines, count, some)) ∙ ap (option_map (λ text. bytes ++ text)) taken;
    whole = whole;
    read = read;
  }

-- ---- the evidence

-- where the pieces of a text have so many lines, or are the text, their evidence is the text's
module _ (most : ℕ) (done piece : List ℕ) (evidence : Evidence) (is : IsEvidenceWithin most (done ++ piece) evidence) where
  longer : (rest : List ℕ) → evidence.lines ≡ most → IsEvidenceWithin most ((done ++ piece) ++ rest) evidence
  longer rest all = record {
    lines = omega (arith, is.lines, all, line_count-append (done ++ piece) rest);
    sha256 = mapped digest_of (lines_of evidence.lines (done ++ piece)) (lines_of evidence.lines ((done ++ piece) ++ rest)) evidence.sha256 is.sha256
        (λ text. lines_of-append evidence.lines (done ++ piece) rest text);
  }

  pub of_whole : (before mid after : Option (List ℕ)) → Consumes before mid done → Consumes mid after piece
      → (evidence.lines ≡ most) ⊎ OnSome mid (IsAtEnd after) → IfSome before (λ bytes. IsEvidenceWithin most bytes evidence)
  of_whole None mid after first taken ended = tt
  of_whole (Some bytes) None after first taken ended = absurd first
  of_whole (Some bytes) (Some left) None first taken ended = absurd taken
  of_whole (Some bytes) (Some left) (Some rest) first taken (inl all) =
      subst (λ b. IsEvidenceWithin most b evidence) (sym (first ∙ ap (λ l. done ++ l) taken ∙ sym (append_assoc done piece rest))) (longer rest all)
  of_whole (Some bytes) (Some left) (Some rest) first taken (inr end) =
      subst (λ b. IsEvidenceWithin most b evidence) (sym (first ∙ ap (λ l. done ++ l) (taken ∙ ap (λ l. piece ++ l) end ∙ append-nil piece))) is

-- where fewer lines are there than are asked for, they have no digest
pub missing_within : (lines : ℕ) (bytes : List ℕ) (evidence : Evidence) → IsEvidenceWithin lines bytes evidence → (evidence.lines ≡ lines → ⊥)
    → None ≡ option_map digest_of (lines_of lines bytes)
missing_within lines bytes evidence is fewer =
    let less : line_count bytes < lines = omega (arith, is.lines, fewer) in sym (ap (option_map digest_of) (lines_of-none lines bytes less))

-- the lines of a prefix and of its evidence are as many
pub same_lines : (most : ℕ) (bytes : List ℕ) (prefix : Prefix) (evidence : Evidence) → IsPrefixOf most bytes prefix → IsEvidenceWithin most bytes evidence
    → evidence.lines ≡ prefix.lines
same_lines most bytes prefix evidence is has = has.lines ∙ sym is.lines

-- a piece without bytes
pub none_shown : (piece : List ℕ) → nat_lt 0 (length piece) ≡ false → length piece ≡ 0
none_shown piece none = grind (arith, nat_tests)
