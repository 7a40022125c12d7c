-- A read of one record more.
use Rattle.std.proofs.Common.{◌≡◌, ℕ, Bool, true, false, List, inl, sym, ◌∙◌, subst}
use Rattle.std.specs.Prelude.{Option, Result, Ok, Err, IfOk, OnOk, IsErrAnd, MatchResult}
use Rattle.csv.specs.Reading.{ReadRecord, default_config, strip_bom, took_first}
use Rattle.csv.specs.declared.error.Error.{Error}
use Rattle.csv.specs.declared.parser.State.TheVariants as st
use Rattle.csv.specs.declared.reader.Reader.{Reader}
use Rattle.csv.proofs.ReadFacts.{rows-end, rows-more}
use Rattle.permit_import.specs.Records.{Fields}
use Rattle.permit_import.specs.Reading.{BeginWith, Behind, ReadsNext}

next_by : {R : Type 0} (remaining : R → Option (List ℕ)) (left : Option (List ℕ)) (rows : List Fields) (old new : Reader R) (fields : Fields) (found : Bool) →
    Behind remaining left old rows → took_first new ≡ true → ReadRecord remaining old new found fields → ReadsNext remaining left rows fields new found
next_by remaining left rows old new fields true behind took read = record {
  trim = read.3 ∙ behind.trim;
  ready = inl took;
  config = read.2 ∙ behind.config;
  reached = λ bytes e.
      let k = behind.reached bytes e in
      let m = rows-more remaining old new fields default_config st.StartRecord (strip_bom bytes) k.0 rows behind.config k.1 k.2 read in
      (m.0, m.1, m.2);
}
next_by remaining left rows old new fields false behind took read = λ bytes e.
    let k = behind.reached bytes e in
    (old.state, k.0, k.2, rows-end remaining old new fields default_config k.0 behind.config k.1 read)

no_value : {T F : Type 0} (told : Result T F) (Q : F → Type 0) (P : T → Type 0) → IsErrAnd told Q → IfOk told P
no_value (Ok x) Q P h = absurd h
no_value (Err e) Q P h = tt

-- what a read of a record says, with its error reported as another
pub next_read : {R F : Type 0} (remaining : R → Option (List ℕ)) (left : Option (List ℕ)) (rows : List Fields) (old new : Reader R) (fields : Fields)
    (r : Result Bool Error) (told : Result Bool F) (Q : Error → F → Type 0) →
    Behind remaining left old rows → OnOk r (took_first new ≡ true) → IfOk r (λ found. ReadRecord remaining old new found fields) →
    MatchResult r (λ x. told ≡ Ok x) (λ e. IsErrAnd told (Q e)) → IfOk told (ReadsNext remaining left rows fields new)
next_read remaining left rows old new fields (Ok found) told Q behind took read same =
    subst (λ t. IfOk t (ReadsNext remaining left rows fields new)) (sym same) (next_by remaining left rows old new fields found behind took read)
next_read remaining left rows old new fields (Err e) told Q behind took read same = no_value told (Q e) (ReadsNext remaining left rows fields new) same

-- a reader that is after these records shows that the bytes begin with them
pub begins : {R : Type 0} (remaining : R → Option (List ℕ)) (left : Option (List ℕ)) (reader : Reader R) (rows : List Fields) →
    Behind remaining left reader rows → BeginWith left rows
begins remaining left reader rows behind = λ bytes e. let k = behind.reached bytes e in (reader.state, k.0, k.2)

-- what holds with a premise of each value holds of the value with the premise
pub ready_read : {T F : Type 0} (r : Result T F) (P Q : Type 0) (W : T → Type 0) → IfOk r (λ x. P → Q → W x) → P → Q → IfOk r W
ready_read (Ok x) P Q W h p q = h p q
ready_read (Err e) P Q W h p q = tt
