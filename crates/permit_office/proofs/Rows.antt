-- The files' rows after a command on a file: that file has its new row, and each other one stays.
use Rattle.std.proofs.Common.{◌≡◌, ◌<◌, ◌+◌, ℕ, ◌==◌, Bool, true, false, cond, List, [], ◌∷◌, refl, sym, ◌∙◌, ap, map, arith}
use Rattle.std.specs.Prelude.{Some, find, unwrap_or, if◌then◌else◌}
use Rattle.std.proofs.lemmas.Bool.{eqb-true}
use Rattle.std.proofs.lemmas.Bool.Decides.{nat_tests}
use Rattle.permit_model.specs.History.{History}
use Rattle.permit_model.specs.Files.{Filing, Act, CaseFile, filings, case_file, case_files}
use Rattle.permit_model.specs.Numbering.{IsNumberedFrom}
use Rattle.permit_model.specs.Tables.{State, file_row, state_of}
use Rattle.permit_model.specs.Machine.{IsHistory}
use Rattle.permit_model.proofs.Appending.{with_act, touched}
use Rattle.permit_model.proofs.Numbers.{filings_numbered}
use Rattle.permit_store.specs.Changes.{with_state}

same_way : (a b : ℕ) → (a == b) ≡ (b == a)
same_way a b = grind (arith, nat_tests)

above : (n id : ℕ) → id < n → (n == id) ≡ false
above n id below = grind (arith, nat_tests)

row_by : (file : CaseFile) (act : Act) (state : State) (a b : Bool) → a ≡ b → (b ≡ true → state ≡ state_of (with_act file act)) →
    file_row (if a then with_act file act else file) ≡ (if b then record (file_row file) { state = state } else file_row file)
row_by file act state true true e is = ap (λ s. record (file_row file) { state = s }) (sym (is refl))
row_by file act state false false e is = refl
row_by file act state true false e is = cc
row_by file act state false true e is = cc

-- a file's row has the new state where the command is on that file
row_touched : (id : ℕ) (act : Act) (state : State) (file : CaseFile) → ((file.filing.id == id) ≡ true → state ≡ state_of (with_act file act)) →
    file_row (touched id act file) ≡ with_state id state (file_row file)
row_touched id act state file is = row_by file act state (id == file.filing.id) (file.filing.id == id) (same_way id file.filing.id) is

-- rows of higher numbers stay
rows_above : (h : History) (id : ℕ) (act : Act) (state : State) (first : ℕ) (made : List Filing) → IsNumberedFrom (λ (f : Filing). f.id) first made →
    id < first →
    map file_row (map (touched id act) (map (case_file h) made)) ≡ map (with_state id state) (map file_row (map (case_file h) made))
rows_above h id act state first [] numbered below = refl
rows_above h id act state first (f ∷ made) numbered below =
    let other : (f.id == id) ≡ false = above f.id id (omega (arith, numbered.0)) in
    ap (λ r. r ∷ map file_row (map (touched id act) (map (case_file h) made))) (row_touched id act state (case_file h f) (λ e. cc))
    ∙ ap (λ rs. with_state id state (file_row (case_file h f)) ∷ rs) (rows_above h id act state (first + 1) made numbered.1 (omega arith))

rows_by : (h : History) (id : ℕ) (act : Act) (state : State) (first : ℕ) (f filing : Filing) (made : List Filing) →
    IsNumberedFrom (λ (g : Filing). g.id) (first + 1) made → f.id ≡ first →
    state ≡ state_of (with_act (case_file h filing) act) → (b : Bool) → (f.id == id) ≡ b → cond b (Some f) (find (λ g. g.id == id) made) ≡ Some filing →
    (find (λ g. g.id == id) made ≡ Some filing → map file_row (map (touched id act) (map (case_file h) made))
    ≡ map (with_state id state) (map file_row (map (case_file h) made))) →
    map file_row (map (touched id act) (map (case_file h) (f ∷ made))) ≡ map (with_state id state) (map file_row (map (case_file h) (f ∷ made)))
rows_by h id act state first f filing made numbered named is true e found ih =
    let same : f ≡ filing = ap (λ o. unwrap_or o f) found in
    let here : f.id ≡ id = eqb-true f.id id e in
    ap (λ r. r ∷ map file_row (map (touched id act) (map (case_file h) made)))
    (row_touched id act state (case_file h f) (λ t. is ∙ ap (λ (x : Filing). state_of (with_act (case_file h x) act)) (sym same)))
    ∙ ap (λ rs. with_state id state (file_row (case_file h f)) ∷ rs) (rows_above h id act state (first + 1) made numbered (omega (arith, here, named)))
rows_by h id act state first f filing made numbered named is false e found ih =
    ap (λ r. r ∷ map file_row (map (touched id act) (map (case_file h) made))) (row_touched id act state (case_file h f) (λ t. cc))
    ∙ ap (λ rs. with_state id state (file_row (case_file h f)) ∷ rs) (ih found)

rows_from : (h : History) (id : ℕ) (act : Act) (state : State) (first : ℕ) (filing : Filing) (made : List Filing) →
    IsNumberedFrom (λ (f : Filing). f.id) first made →
    state ≡ state_of (with_act (case_file h filing) act) → find (λ g. g.id == id) made ≡ Some filing →
    map file_row (map (touched id act) (map (case_file h) made)) ≡ map (with_state id state) (map file_row (map (case_file h) made))
rows_from h id act state first filing [] numbered is found = refl
rows_from h id act state first filing (f ∷ made) numbered is found =
    rows_by h id act state first f filing made numbered.1 numbered.0 is (f.id == id) refl found
    (λ more. rows_from h id act state (first + 1) filing made numbered.1 is more)

-- the files' rows with the file's new state are those of the files after the act
pub rows_with : (h : History) (id : ℕ) (act : Act) (state : State) (filing : Filing) → IsHistory h →
    state ≡ state_of (with_act (case_file h filing) act) → find (λ g. g.id == id) (filings h) ≡ Some filing →
    map (with_state id state) (map file_row (case_files h)) ≡ map file_row (map (touched id act) (case_files h))
rows_with h id act state filing is state_is found = sym (rows_from h id act state 1 filing (filings h) (filings_numbered h is) state_is found)
