-- An import goes on by one record.
use Rattle.std.proofs.Common.{Bool, cond, ◌≡◌, ◌≤◌, ◌<◌, ℕ, suc, ◌+◌, ◌^◌, ◌-◌, List, [], ◌∷◌, ◌++◌, length, refl, sym, ap, ◌∙◌, subst, arith, append_assoc}
use Rattle.std.proofs.Common.{append-nil, length-append}
use Rattle.std.specs.Prelude.{Option, None, Some, option_map, count_by}
use Rattle.std.specs.List.{cons_option}
use Rattle.std.proofs.KnownBytes.{Appends-nil, Appends-trans}
use Rattle.std.proofs.lemmas.List.Elements.{filter_map-append}
use Rattle.std.proofs.lemmas.List.Sums.{count_by-le-length, sum_by-append}
use Rattle.std.specs.Io.KnownBytes.{Appends}
use Rattle.csv.specs.declared.reader.Reader.{Reader}
use Rattle.permit_base.specs.declared.request.Asked.{Asked}
use Rattle.permit_base.specs.declared.request.Request.{Request}
use Rattle.permit_office.specs.declared.reply.Reply.{Reply}
use Rattle.permit_wire.specs.declared.service.Dated.{Dated}
use Rattle.permit_import.specs.Lines.{cause_line, causes_from, lines_from, record_line}
use Rattle.permit_import.specs.Outcomes.{counted, is_added, is_kept, is_refused, outcome_of, outcomes_of, outcomes_with, tally_of, unasked, why_of}
use Rattle.permit_import.specs.Reading.{Behind}
use Rattle.permit_import.specs.Records.{Fields, asked_by, header, request_of_record, requests_of}
use Rattle.permit_import.specs.Runs.{Gave, Runs}
use Rattle.permit_import.specs.Trying.{Tries}
use Rattle.permit_import.specs.Written.{WritesIf}
use Rattle.permit_import.specs.declared.outcome.Outcome.{Outcome}
use Rattle.permit_import.specs.declared.outcome.Outcome.TheVariants.{Added, Kept, Malformed, Refused}
use Rattle.permit_import.specs.declared.tally.Tally.{Tally}
use Rattle.permit_import.proofs.CauseLemmas.{causes_last, writes_none, writes_on}

-- ---- requests and outcomes of one record more

abbrev asked_on : List ℕ → ℕ → Request → Asked × ℕ
asked_on token day request = (asked_by token request, day)

requests_last : (token : List ℕ) (day : ℕ) (rows : List Fields) (row : Fields) (o : Option Request) → request_of_record row ≡ o →
    requests_of token day (rows ++ row ∷ []) ≡ requests_of token day rows ++ cons_option (option_map (asked_on token day) o) []
requests_last token day rows row o e =
    filter_map-append (λ r. option_map (asked_on token day) (request_of_record r)) rows (row ∷ [])
    ∙ ap (λ x. requests_of token day rows ++ cons_option (option_map (asked_on token day) x) []) e

-- the first of the records, by whether it is a request
outcomes_first : (token : List ℕ) (day : ℕ) (first : Fields) (o : Option Request) (rows : List Fields) (row : Fields) (replies more : List Reply) →
    length replies ≡ length (cons_option (option_map (asked_on token day) o) (requests_of token day rows)) →
    ((left : List Reply) → length left ≡ length (requests_of token day rows) →
    outcomes_of (rows ++ row ∷ []) (left ++ more) ≡ outcomes_of rows left ++ outcomes_of (row ∷ []) more) →
    outcomes_with first o (replies ++ more) (outcomes_of (rows ++ row ∷ [])) ≡ outcomes_with first o replies (outcomes_of rows) ++ outcomes_of (row ∷ []) more
outcomes_first token day first None rows row replies more e behind = ap (λ os. unasked first ∷ os) (behind replies e)
outcomes_first token day first (Some request) rows row [] more e behind = absurd (omega arith)
outcomes_first token day first (Some request) rows row (reply ∷ replies) more e behind = ap (λ os. outcome_of reply ∷ os) (behind replies (omega arith))

outcomes_last : (token : List ℕ) (day : ℕ) (rows : List Fields) (row : Fields) (replies more : List Reply) →
    length replies ≡ length (requests_of token day rows) →
    outcomes_of (rows ++ row ∷ []) (replies ++ more) ≡ outcomes_of rows replies ++ outcomes_of (row ∷ []) more
outcomes_last token day [] row [] more e = refl
outcomes_last token day [] row (reply ∷ replies) more e = absurd (omega arith)
outcomes_last token day (first ∷ rows) row replies more e =
    outcomes_first token day first (request_of_record first) rows row replies more e (λ left same. outcomes_last token day rows row left more same)

-- there is an outcome for each record
length-with : (token : List ℕ) (day : ℕ) (row : Fields) (o : Option Request) (rows : List Fields) (replies : List Reply) →
    length replies ≡ length (cons_option (option_map (asked_on token day) o) (requests_of token day rows)) →
    ((left : List Reply) → length left ≡ length (requests_of token day rows) → length (outcomes_of rows left) ≡ length rows) →
    length (outcomes_with row o replies (outcomes_of rows)) ≡ suc (length rows)
length-with token day row None rows replies e behind = ap suc (behind replies e)
length-with token day row (Some request) rows [] e behind = absurd (omega arith)
length-with token day row (Some request) rows (reply ∷ replies) e behind = ap suc (behind replies (omega arith))

pub length-outcomes : (token : List ℕ) (day : ℕ) (rows : List Fields) (replies : List Reply) → length replies ≡ length (requests_of token day rows) →
    length (outcomes_of rows replies) ≡ length rows
length-outcomes token day [] replies e = refl
length-outcomes token day (row ∷ rows) replies e =
    length-with token day row (request_of_record row) rows replies e (λ left same. length-outcomes token day rows left same)

-- ---- lines and counts of one outcome more

lines_last : (number : ℕ) (outcomes : List Outcome) (outcome : Outcome) (at : ℕ) → at ≡ number + length outcomes →
    lines_from number (outcomes ++ outcome ∷ []) ≡ lines_from number outcomes ++ record_line at outcome
lines_last number [] outcome at e = append-nil (record_line number outcome) ∙ ap (λ n. record_line n outcome) (sym (omega arith))
lines_last number (first ∷ outcomes) outcome at e =
    ap (λ text. record_line number first ++ text) (lines_last (number + 1) outcomes outcome at (omega arith))
    ∙ sym (append_assoc (record_line number first) (lines_from (number + 1) outcomes) (record_line at outcome))

count_last : (test : Outcome → Bool) (outcomes : List Outcome) (outcome : Outcome) (more : ℕ) → count_by test (outcome ∷ []) ≡ more →
    count_by test outcomes + more ≡ count_by test (outcomes ++ outcome ∷ [])
count_last test outcomes outcome more e =
    ap (λ n. count_by test outcomes + n) (sym e) ∙ sym (sum_by-append (λ o. cond (test o) 1 0) outcomes (outcome ∷ []))

count_same : (test : Outcome → Bool) (outcomes : List Outcome) (outcome : Outcome) → count_by test (outcome ∷ []) ≡ 0 →
    count_by test outcomes ≡ count_by test (outcomes ++ outcome ∷ [])
count_same test outcomes outcome e = sym (omega arith) ∙ count_last test outcomes outcome 0 e

abbrev counts : ℕ → ℕ → ℕ → Tally
counts a k r = record { added = a; kept = k; refused = r }

same_counts : (a b k l r s : ℕ) → a ≡ b → k ≡ l → r ≡ s → counts a k r ≡ counts b l s
same_counts a b k l r s e f g = ap (λ x. counts x k r) e ∙ ap (λ x. counts b x r) f ∙ ap (counts b l) g

tally_last : (outcomes : List Outcome) (outcome : Outcome) → counted (tally_of outcomes) outcome ≡ tally_of (outcomes ++ outcome ∷ [])
tally_last os (Added number) = same_counts _ _ _ _ _ _ (count_last is_added os (Added number) 1 refl) (count_same is_kept os (Added number) refl)
    (count_same is_refused os (Added number) refl)
tally_last os Kept = same_counts _ _ _ _ _ _ (count_same is_added os Kept refl) (count_last is_kept os Kept 1 refl) (count_same is_refused os Kept refl)
tally_last os (Malformed fault) = same_counts _ _ _ _ _ _ (count_same is_added os (Malformed fault) refl) (count_same is_kept os (Malformed fault) refl)
    (count_last is_refused os (Malformed fault) 1 refl)
tally_last os (Refused why) = same_counts _ _ _ _ _ _ (count_same is_added os (Refused why) refl) (count_same is_kept os (Refused why) refl)
    (count_last is_refused os (Refused why) 1 refl)

-- ---- what was tried

module _ {T : Type 0} (did : T → Asked → ℕ → Dated → T → Type 0) where
  -- each request has its reply
  pub runs_each : (requests : List (Asked × ℕ)) (replies : List Reply) (old new : T) → Runs did requests replies old new →
      length replies ≡ length requests
  runs_each [] [] old new run = refl
  runs_each [] (reply ∷ replies) old new run = absurd run
  runs_each (request ∷ requests) [] old new run = absurd run
  runs_each (request ∷ requests) (reply ∷ replies) old new run = ap suc (runs_each requests replies run.0 new run.2)

  -- one request more
  runs_last : (requests : List (Asked × ℕ)) (replies : List Reply) (request : Asked × ℕ) (reply : Reply) (old between new : T) →
      Runs did requests replies old between → Gave did request reply between new →
      Runs did (requests ++ request ∷ []) (replies ++ reply ∷ []) old new
  runs_last [] [] request reply old between new run gave = (new, subst (λ o. Gave did request reply o new) run gave, refl)
  runs_last [] (r ∷ replies) request reply old between new run gave = absurd run
  runs_last (q ∷ requests) [] request reply old between new run gave = absurd run
  runs_last (q ∷ requests) (r ∷ replies) request reply old between new run gave =
      (run.0, run.1, runs_last requests replies request reply run.0 between new run.2 gave)

-- the records with one more, and what became of it
pub record More {T : Type 0} (did : T → Asked → ℕ → Dated → T → Type 0) (token : List ℕ) (day : ℕ) (rows : List Fields) (replies : List Reply)
    (row : Fields) (outcome : Outcome) (old new : T) : Type 0 where
  pub given : List Reply
  pub run : Runs did (requests_of token day (rows ++ row ∷ [])) given old new
  pub outcomes : outcomes_of (rows ++ row ∷ []) given ≡ outcomes_of rows replies ++ outcome ∷ []

module _ {T : Type 0} (did : T → Asked → ℕ → Dated → T → Type 0) (token : List ℕ) (day : ℕ) where
  more_by : (rows : List Fields) (replies : List Reply) (row : Fields) (outcome : Outcome) (old between new : T) →
      Runs did (requests_of token day rows) replies old between → (o : Option Request) → request_of_record row ≡ o →
      Tries did token day row o between new outcome → More did token day rows replies row outcome old new
  more_by rows replies row outcome old between new run None e tries =
      let each : length replies ≡ length (requests_of token day rows) = runs_each did _ replies old between run in
      record {
        given = replies;
        run = subst (λ xs. Runs did xs replies old new)
            (sym (requests_last token day rows row None e ∙ append-nil (requests_of token day rows)))
            (subst (Runs did (requests_of token day rows) replies old) (sym tries.0) run);
        outcomes = ap (outcomes_of (rows ++ row ∷ [])) (sym (append-nil replies)) ∙ outcomes_last token day rows row replies [] each
            ∙ ap (λ o. outcomes_of rows replies ++ outcomes_with row o [] (outcomes_of [])) e
            ∙ ap (λ o. outcomes_of rows replies ++ o ∷ []) (sym tries.1);
      }
  more_by rows replies row outcome old between new run (Some request) e tries =
      let each : length replies ≡ length (requests_of token day rows) = runs_each did _ replies old between run in
      record {
        given = replies ++ tries.0 ∷ [];
        run = subst (λ xs. Runs did xs (replies ++ tries.0 ∷ []) old new) (sym (requests_last token day rows row (Some request) e))
            (runs_last did (requests_of token day rows) replies (asked_on token day request) tries.0 old between new run tries.1);
        outcomes = outcomes_last token day rows row replies (tries.0 ∷ []) each
            ∙ ap (λ o. outcomes_of rows replies ++ outcomes_with row o (tries.0 ∷ []) (outcomes_of [])) e
            ∙ ap (λ o. outcomes_of rows replies ++ o ∷ []) (sym tries.2);
      }

  pub more_tried : (rows : List Fields) (replies : List Reply) (row : Fields) (outcome : Outcome) (old between new : T) →
      Runs did (requests_of token day rows) replies old between → Tries did token day row (request_of_record row) between new outcome →
      More did token day rows replies row outcome old new
  more_tried rows replies row outcome old between new run tries =
      more_by rows replies row outcome old between new run (request_of_record row) refl tries

-- the number of the record more
more_at : (token : List ℕ) (day : ℕ) (number : ℕ) (rows : List Fields) (replies : List Reply) → length replies ≡ length (requests_of token day rows) →
    length rows + 1 ≡ number → number ≡ 1 + length (outcomes_of rows replies)
more_at token day number rows replies each count =
    let long : length (outcomes_of rows replies) ≡ length rows = length-outcomes token day rows replies each in
    omega arith

-- the records that were tried so far, and what became of them
pub record Progress {T R : Type 0} (did : T → Asked → ℕ → Dated → T → Type 0) (remaining : R → Option (List ℕ)) (token : List ℕ) (day : ℕ)
    (asked : Bool) (left before said : Option (List ℕ)) (going : Bool) (after saying : Option (List ℕ)) (old new : T) (reader : Reader R) (number : ℕ) (tally : Tally) : Type 0 where
  pub rows : List Fields
  pub replies : List Reply
  pub behind : Behind remaining left reader (header ∷ rows)
  pub run : Runs did (requests_of token day rows) replies old new
  pub count : length rows + 1 ≡ number
  pub written : Appends before after (lines_from 1 (outcomes_of rows replies))
  pub causes : WritesIf asked going said saying (causes_from 1 (outcomes_of rows replies))
  pub tally_is : tally ≡ tally_of (outcomes_of rows replies)

module _ {T R : Type 0} (did : T → Asked → ℕ → Dated → T → Type 0) (remaining : R → Option (List ℕ)) (token : List ℕ) (day : ℕ)
    (asked : Bool) (left before said : Option (List ℕ)) where
  pub begun : (service : T) (reader : Reader R) → Behind remaining left reader (header ∷ []) →
      Progress did remaining token day asked left before said asked before said service service reader 1 (record { added = 0; kept = 0; refused = 0 })
  begun service reader behind = record {
    rows = [];
    replies = [];
    behind = behind;
    run = refl;
    count = refl;
    written = Appends-nil before;
    causes = writes_none asked said;
    tally_is = refl;
  }

  -- there is an outcome for each record that was tried
  pub outcomes_each : (going : Bool) (after saying : Option (List ℕ)) (old new : T) (reader : Reader R) (number : ℕ) (tally : Tally)
      (p : Progress did remaining token day asked left before said going after saying old new reader number tally) →
      length (outcomes_of p.rows p.replies) ≡ length p.rows
  outcomes_each going after saying old new reader number tally p =
      length-outcomes token day p.rows p.replies (runs_each did (requests_of token day p.rows) p.replies old new p.run)

  -- the cause of one record more is written, where it is asked for
  pub more_causes : (going going_on : Bool) (mid saying next : Option (List ℕ)) (old between new : T) (reader : Reader R) (number : ℕ) (tally : Tally)
      (row : Fields) (outcome : Outcome) (p : Progress did remaining token day asked left before said going mid saying old between reader number tally)
      (m : More did token day p.rows p.replies row outcome old new) → WritesIf going going_on saying next (cause_line number (why_of outcome)) →
      WritesIf asked going_on said next (causes_from 1 (outcomes_of (p.rows ++ row ∷ []) m.given))
  more_causes going going_on mid saying next old between new reader number tally row outcome p m cause =
      let each = runs_each did (requests_of token day p.rows) p.replies old between p.run in
      subst (WritesIf asked going_on said next)
      (sym (ap (causes_from 1) m.outcomes ∙ causes_last 1 (outcomes_of p.rows p.replies) outcome number
      (more_at token day number p.rows p.replies each p.count)))
      (writes_on asked going going_on said saying next (causes_from 1 (outcomes_of p.rows p.replies)) (cause_line number (why_of outcome)) p.causes cause)

  -- the import goes on after a record whose line was written
  pub went_on : (going going_on : Bool) (mid after saying next : Option (List ℕ)) (old between new : T) (reader reader_next : Reader R) (number : ℕ) (tally : Tally)
      (row : Fields) (outcome : Outcome) (p : Progress did remaining token day asked left before said going mid saying old between reader number tally) →
      Behind remaining left reader_next (header ∷ (p.rows ++ row ∷ [])) → Tries did token day row (request_of_record row) between new outcome →
      WritesIf going going_on saying next (cause_line number (why_of outcome)) → Appends mid after (record_line number outcome) →
      Progress did remaining token day asked left before said going_on after next old new reader_next (number + 1) (counted tally outcome)
  went_on going going_on mid after saying next old between new reader reader_next number tally row outcome p behind tries cause line =
      let m = more_tried did token day p.rows p.replies row outcome old between new p.run tries in
      let each = runs_each did (requests_of token day p.rows) p.replies old between p.run in
      record {
        rows = p.rows ++ row ∷ [];
        replies = m.given;
        behind = behind;
        run = m.run;
        count = ap (λ n. n + 1) (length-append p.rows (row ∷ []) ∙ p.count);
        written = subst (Appends before after)
            (sym (ap (lines_from 1) m.outcomes ∙ lines_last 1 (outcomes_of p.rows p.replies) outcome number
            (more_at token day number p.rows p.replies each p.count)))
            (Appends-trans before mid after (lines_from 1 (outcomes_of p.rows p.replies)) (record_line number outcome) p.written line);
        causes = more_causes going going_on mid saying next old between new reader number tally row outcome p m cause;
        tally_is = ap (λ t. counted t outcome) p.tally_is ∙ tally_last (outcomes_of p.rows p.replies) outcome ∙ ap tally_of (sym m.outcomes);
      }

  -- no count passes that of the records
  pub counts_fit : (going : Bool) (after saying : Option (List ℕ)) (old new : T) (reader : Reader R) (number : ℕ) (tally : Tally) →
      Progress did remaining token day asked left before said going after saying old new reader number tally → number ≤ 1000000 →
      (tally.added < 2 ^ 32 - 1) × (tally.kept < 2 ^ 32 - 1) × (tally.refused < 2 ^ 32 - 1)
  counts_fit going after saying old new reader number tally p few =
      let os = outcomes_of p.rows p.replies in
      let long : length os ≡ length p.rows = outcomes_each going after saying old new reader number tally p in
      let n : length p.rows + 1 ≡ number = p.count in
      let added : tally.added ≤ length os =
      subst (λ t. t ≤ length os) (sym (ap (λ (t : Tally). t.added) p.tally_is)) (count_by-le-length is_added os) in
      let kept : tally.kept ≤ length os =
      subst (λ t. t ≤ length os) (sym (ap (λ (t : Tally). t.kept) p.tally_is)) (count_by-le-length is_kept os) in
      let refused : tally.refused ≤ length os =
      subst (λ t. t ≤ length os) (sym (ap (λ (t : Tally). t.refused) p.tally_is)) (count_by-le-length is_refused os) in
      (omega arith, omega arith, omega arith)
