-- What an import has done where it ends.
use Rattle.std.proofs.Common.{◌≡◌, ◌≤◌, Bool, ℕ, ◌+◌, List, [], ◌∷◌, ◌++◌, length, inl, inr, refl, sym, subst, arith}
use Rattle.std.proofs.Common.{length-append}
use Rattle.std.specs.Prelude.{Option, Result, Ok, Err}
use Rattle.std.proofs.KnownBytes.{Appends-kept, Appends-nil, Appends-trans}
use Rattle.std.specs.Io.KnownBytes.{Appends}
use Rattle.csv.specs.declared.reader.Reader.{Reader}
use Rattle.permit_base.specs.declared.request.Asked.{Asked}
use Rattle.permit_wire.specs.declared.service.Dated.{Dated}
use Rattle.permit_import.specs.Importing.{EndsOf, ImportsBy}
use Rattle.permit_import.specs.Headings.{StopsAtHeading}
use Rattle.permit_import.specs.Lines.{cause_line, count_line, lines_from, record_line}
use Rattle.permit_import.specs.Outcomes.{outcomes_of, tally_of, why_of}
use Rattle.permit_import.specs.Reading.{AreAll, Behind, BeginWith}
use Rattle.permit_import.specs.Records.{Fields, header, request_of_record}
use Rattle.permit_import.specs.Trying.{Tries}
use Rattle.permit_import.specs.Written.{StopsShort, WritesIf, WroteInto}
use Rattle.permit_import.specs.declared.fault.ImportFault.{ImportFault}
use Rattle.permit_import.specs.declared.fault.ImportFault.TheVariants.{FirstRecord, Reading, Memory, Writing}
use Rattle.permit_import.specs.declared.outcome.Outcome.{Outcome}
use Rattle.permit_import.specs.declared.tally.Tally.{Tally}
use Rattle.permit_import.proofs.CauseLemmas.{no_causes, tells_causes}
use Rattle.permit_import.proofs.Progress.{Progress, more_causes, more_tried, outcomes_each}
use Rattle.permit_import.proofs.ReadLemmas.{begins}
use Rattle.permit_import.proofs.WriteLemmas.{wrote_into}

-- how an import ends whose first record isn't read as that of a parcel list
headless_ends : (left before : Option (List ℕ)) (fault : ImportFault) → StopsAtHeading left fault →
    EndsOf left before before (Err fault) [] []
headless_ends left before FirstRecord headless = (refl, headless, refl)
headless_ends left before Reading failed = (inl refl, Appends-nil before)
headless_ends left before Memory none = absurd none
headless_ends left before Writing none = absurd none

-- the line of the last record that was tried stopped short
line_out : (left before mid after : Option (List ℕ)) (rows : List Fields) (told outcomes : List Outcome) (last : Outcome) (number : ℕ) (fault : ImportFault) →
    BeginWith left (header ∷ rows) → Appends before mid (lines_from 1 told) → outcomes ≡ told ++ last ∷ [] → number ≡ length told + 1 →
    StopsShort mid after (record_line number last) fault → EndsOf left before after (Err fault) rows outcomes
line_out left before mid after rows told outcomes last number Memory begin wrote are at short =
    (inr begin, inr (record { told = told; lost = last; are = are; wrote = Appends-kept before mid after (lines_from 1 told) wrote short }))
line_out left before mid after rows told outcomes last number Writing begin wrote are at short =
    inl (
      begin,
      record {
        told = told;
        last = last;
        are = are;
        wrote = subst (λ n. WroteInto before after (lines_from 1 told) (record_line n last)) at
            (wrote_into before mid after (lines_from 1 told) (record_line number last) wrote short);
      },
    )
line_out left before mid after rows told outcomes last number FirstRecord begin wrote are at short = absurd short
line_out left before mid after rows told outcomes last number Reading begin wrote are at short = absurd short

-- the line of the counts stopped short
counts_out : (left before mid after : Option (List ℕ)) (rows : List Fields) (outcomes : List Outcome) (tally : Tally) (fault : ImportFault) →
    BeginWith left (header ∷ rows) → AreAll left (header ∷ rows) → Appends before mid (lines_from 1 outcomes) → tally ≡ tally_of outcomes →
    StopsShort mid after (count_line tally) fault → EndsOf left before after (Err fault) rows outcomes
counts_out left before mid after rows outcomes tally Memory begin all wrote is short =
    (inr begin, inl (Appends-kept before mid after (lines_from 1 outcomes) wrote short))
counts_out left before mid after rows outcomes tally Writing begin all wrote is short =
    inr (
      all,
      subst (λ t. WroteInto before after (lines_from 1 outcomes) (count_line t)) is
          (wrote_into before mid after (lines_from 1 outcomes) (count_line tally) wrote short),
    )
counts_out left before mid after rows outcomes tally FirstRecord begin all wrote is short = absurd short
counts_out left before mid after rows outcomes tally Reading begin all wrote is short = absurd short

module _ {T : Type 0} (did : T → Asked → ℕ → Dated → T → Type 0) (token : List ℕ) (day : ℕ) (asked : Bool) (left : Option (List ℕ)) where
  -- no record was tried
  untried : (before said : Option (List ℕ)) (service : T) (fault : ImportFault) → EndsOf left before before (Err fault) [] [] →
      ImportsBy did token day asked left before before said said service service (Err fault)
  untried before said service fault ends =
      record { rows = []; replies = []; few = omega arith; run = refl; ends = ends; causes = no_causes asked said }

  pub no_memory : (before said : Option (List ℕ)) (service : T) → ImportsBy did token day asked left before before said said service service (Err Memory)
  no_memory before said service = untried before said service Memory (inl refl, inl (Appends-nil before))

  pub no_header : (before said : Option (List ℕ)) (service : T) (fault : ImportFault) → StopsAtHeading left fault →
      ImportsBy did token day asked left before before said said service service (Err fault)
  no_header before said service fault stops = untried before said service fault (headless_ends left before fault stops)

module _ {T R : Type 0} (did : T → Asked → ℕ → Dated → T → Type 0) (remaining : R → Option (List ℕ)) (token : List ℕ) (day : ℕ)
    (asked : Bool) (left before said : Option (List ℕ)) where
  -- the records so far were tried, and the import ends so
  ends_there : (going : Bool) (mid after saying : Option (List ℕ)) (old new : T) (reader : Reader R) (number : ℕ) (tally : Tally) (result : Result Tally ImportFault)
      (p : Progress did remaining token day asked left before said going mid saying old new reader number tally) → number ≤ 1000000 →
      EndsOf left before after result p.rows (outcomes_of p.rows p.replies) →
      ImportsBy did token day asked left before after said saying old new result
  ends_there going mid after saying old new reader number tally result p few ends =
      let n : length p.rows + 1 ≡ number = p.count in
      record {
        rows = p.rows;
        replies = p.replies;
        few = omega arith;
        run = p.run;
        ends = ends;
        causes = tells_causes asked going said saying (outcomes_of p.rows p.replies) p.causes;
      }

  -- all records were tried, and the counts written
  pub ended : (going : Bool) (mid after saying : Option (List ℕ)) (old new : T) (reader : Reader R) (number : ℕ) (tally : Tally)
      (p : Progress did remaining token day asked left before said going mid saying old new reader number tally) → number ≤ 1000000 →
      AreAll left (header ∷ p.rows) → Appends mid after (count_line tally) →
      ImportsBy did token day asked left before after said saying old new (Ok tally)
  ended going mid after saying old new reader number tally p few all line =
      ends_there going mid after saying old new reader number tally (Ok tally) p few
      (all, p.tally_is, Appends-trans before mid after (lines_from 1 (outcomes_of p.rows p.replies)) (count_line tally) p.written line)

  -- the reader failed, or there are too many records
  pub unread : (going : Bool) (after saying : Option (List ℕ)) (old new : T) (reader : Reader R) (number : ℕ) (tally : Tally) →
      Progress did remaining token day asked left before said going after saying old new reader number tally → number ≤ 1000000 →
      ImportsBy did token day asked left before after said saying old new (Err Reading)
  unread going after saying old new reader number tally p few =
      ends_there going after after saying old new reader number tally (Err Reading) p few
      (inr (begins remaining left reader (header ∷ p.rows) p.behind), p.written)

  -- memory ran out for a record's values
  pub unmade : (going : Bool) (after saying : Option (List ℕ)) (old between new : T) (reader : Reader R) (number : ℕ) (tally : Tally) →
      Progress did remaining token day asked left before said going after saying old between reader number tally → number ≤ 1000000 → new ≡ between →
      ImportsBy did token day asked left before after said saying old new (Err Memory)
  unmade going after saying old between new reader number tally p few same =
      subst (λ o. ImportsBy did token day asked left before after said saying old o (Err Memory)) (sym same)
      (ends_there going after after saying old between reader number tally (Err Memory) p few
      (inr (begins remaining left reader (header ∷ p.rows) p.behind), inl p.written))

  -- a record was tried, and its line stopped short
  pub line_short : (going going_on : Bool) (mid after saying saying_next : Option (List ℕ)) (old between new : T) (reader next : Reader R) (number : ℕ) (tally : Tally)
      (row : Fields) (outcome : Outcome) (fault : ImportFault)
      (p : Progress did remaining token day asked left before said going mid saying old between reader number tally) →
      number ≤ 999999 → Behind remaining left next (header ∷ (p.rows ++ row ∷ [])) →
      Tries did token day row (request_of_record row) between new outcome →
      WritesIf going going_on saying saying_next (cause_line number (why_of outcome)) → StopsShort mid after (record_line number outcome) fault →
      ImportsBy did token day asked left before after said saying_next old new (Err fault)
  line_short going going_on mid after saying saying_next old between new reader next number tally row outcome fault p few behind tries cause short =
      let m = more_tried did token day p.rows p.replies row outcome old between new p.run tries in
      let n : length p.rows + 1 ≡ number = p.count in
      let longer : length (p.rows ++ row ∷ []) ≡ length p.rows + 1 = length-append p.rows (row ∷ []) in
      let each : length (outcomes_of p.rows p.replies) ≡ length p.rows =
      outcomes_each did remaining token day asked left before said going mid saying old between reader number tally p in
      record {
        rows = p.rows ++ row ∷ [];
        replies = m.given;
        few = omega arith;
        run = m.run;
        ends = line_out left before mid after (p.rows ++ row ∷ []) (outcomes_of p.rows p.replies)
            (outcomes_of (p.rows ++ row ∷ []) m.given) outcome number fault
            (begins remaining left next (header ∷ (p.rows ++ row ∷ [])) behind) p.written m.outcomes (omega arith) short;
        causes = tells_causes asked going_on said saying_next (outcomes_of (p.rows ++ row ∷ []) m.given)
            (more_causes did remaining token day asked left before said going going_on mid saying saying_next old between new reader number tally row outcome p m cause);
      }

  -- all records were tried, and the line of the counts stopped short
  pub counts_short : (going : Bool) (mid after saying : Option (List ℕ)) (old new : T) (reader : Reader R) (number : ℕ) (tally : Tally) (fault : ImportFault)
      (p : Progress did remaining token day asked left before said going mid saying old new reader number tally) → number ≤ 1000000 →
      AreAll left (header ∷ p.rows) → StopsShort mid after (count_line tally) fault →
      ImportsBy did token day asked left before after said saying old new (Err fault)
  counts_short going mid after saying old new reader number tally fault p few all short =
      ends_there going mid after saying old new reader number tally (Err fault) p few
      (counts_out left before mid after p.rows (outcomes_of p.rows p.replies) tally fault
      (begins remaining left reader (header ∷ p.rows) p.behind) all p.written p.tally_is short)
