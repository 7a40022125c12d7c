use Rattle.std.proofs.Common.{rules, ◌≡◌, ℕ, Bool, List, IfSome, ap, subst, refl, sym, ◌∙◌, true≢false}
use Rattle.std.proofs.lemmas.Result.{err_from_is_err_and}
use Rattle.permit_sql_rows.proofs.Stated.{not_some, on_memory}
use Rattle.sqlite_value.specs.Order.{column}
use Rattle.permit_base.specs.declared.words.PaperSort.{PaperSort}
use Rattle.permit_model.specs.Codes.{sort_code}
use Rattle.permit_model.specs.Tables.{Paper}
use Rattle.permit_sql_rows.specs.Rows.{int, flag}
use Rattle.permit_sql_rows.proofs.Shown.{paper_shown}
use Rattle.permit_sql_rows.proofs.decode.paper_of.Goals as goal

paper_is : (is : Paper) (file number day author : ℕ) (sort : PaperSort) (days : ℕ) (text terms : List ℕ) (is_open : Bool) → file ≡ is.file →
    number ≡ is.number → day ≡ is.day → author ≡ is.author → sort ≡ is.sort → days ≡ is.days → text ≡ is.text → terms ≡ is.terms → is_open ≡ is.is_open
    → ◌≡◌ {A = Paper} (record {
      file = file;
      number = number;
      day = day;
      author = author;
      sort = sort;
      days = days;
      text = text;
      terms = terms;
      is_open = is_open;
    }) is
paper_is is file number day author sort days text terms is_open e0 e1 e2 e3 e4 e5 e6 e7 e8 = rw (e0, e1, e2, e3, e4, e5, e6, e7, e8) refl

pub returns-clause-read : goal.returns-clause-read
returns-clause-read c = λ is e.
    let at = λ (n : ℕ). ap (λ r. column r n) e in
    paper_is is _ _ _ _ _ _ _ _ _
    (subst (λ o. IfSome o (λ x. x ≡ is.file)) c.in_ok-readable.ensures.ok (c.file_number.ensures.read is.file (at 0)))
    (subst (λ o. IfSome o (λ x. x ≡ is.number)) c.in_ok-readable-2.ensures.ok (c.paper_number.ensures.read is.number (at 1)))
    (subst (λ o. IfSome o (λ x. x ≡ is.day)) c.in_ok-readable-3.ensures.ok (c.day.ensures.read is.day (at 2)))
    (subst (λ o. IfSome o (λ x. x ≡ is.author)) c.in_ok-readable-4.ensures.ok (c.party_number.ensures.read is.author (at 3)))
    (subst (λ o. IfSome o (λ x. x ≡ is.sort)) c.in_ok-readable-5.ensures.ok (c.sort.ensures.read is.sort (at 4)))
    (subst (λ o. IfSome o (λ x. x ≡ is.days)) c.in_ok-readable-6.ensures.ok (c.number.ensures.read is.days (at 5)))
    (c.in_ok-string.ensures.read is.text (at 6))
    (c.in_ok-string-2.ensures.read is.terms (at 7))
    (subst (λ o. IfSome o (λ x. x ≡ is.is_open)) c.in_ok-readable-7.ensures.ok (c.truth.ensures.read is.is_open (at 8)))

pub returns-in_err-readable-clause-some : goal.returns-in_err-readable-clause-some
returns-in_err-readable-clause-some c = λ is good e. not_some _ (rw c.in_err-readable.was at c.readable.ensures.err).0
    (c.file_number.ensures.some is.file good.file (ap (λ r. column r 0) e))

pub returns-in_err-readable-2-clause-some : goal.returns-in_err-readable-2-clause-some
returns-in_err-readable-2-clause-some c = λ is good e. not_some _ (rw c.in_err-readable-2.was at c.readable-2.ensures.err).0
    (c.paper_number.ensures.some is.number good.number (ap (λ r. column r 1) e))

pub returns-in_err-readable-3-clause-some : goal.returns-in_err-readable-3-clause-some
returns-in_err-readable-3-clause-some c = λ is good e. not_some _ (rw c.in_err-readable-3.was at c.readable-3.ensures.err).0
    (c.day.ensures.some is.day good.day (ap (λ r. column r 2) e))

pub returns-in_err-readable-4-clause-some : goal.returns-in_err-readable-4-clause-some
returns-in_err-readable-4-clause-some c = λ is good e. not_some _ (rw c.in_err-readable-4.was at c.readable-4.ensures.err).0
    (c.party_number.ensures.some is.author good.author (ap (λ r. column r 3) e))

pub returns-in_err-readable-5-clause-some : goal.returns-in_err-readable-5-clause-some
returns-in_err-readable-5-clause-some c = λ is good e. not_some _ (rw c.in_err-readable-5.was at c.readable-5.ensures.err).0
    (c.sort.ensures.some is.sort (ap (λ r. column r 4) e))

pub returns-in_err-readable-6-clause-some : goal.returns-in_err-readable-6-clause-some
returns-in_err-readable-6-clause-some c = λ is good e. not_some _ (rw c.in_err-readable-6.was at c.readable-6.ensures.err).0
    (c.number.ensures.some is.days good.days (ap (λ r. column r 5) e))

pub returns-in_err-readable-7-clause-some : goal.returns-in_err-readable-7-clause-some
returns-in_err-readable-7-clause-some c = λ is good e. not_some _ (rw c.in_err-readable-7.was at c.readable-7.ensures.err).0
    (c.truth.ensures.some is.is_open (ap (λ r. column r 8) e))

pub returns-then-not-has_string-clause-some : goal.returns-then-not-has_string-clause-some
returns-then-not-has_string-clause-some c = λ is good e.
    absurd (true≢false (sym (c.has_string.ensures.1 (is.terms, ap (λ r. column r 7) e, good.terms)) ∙ c.if-not-has_string.true))

pub returns-in_err-string-clause-memory : goal.returns-in_err-string-clause-memory
returns-in_err-string-clause-memory c =
    let p = err_from_is_err_and c.from_residual-in_err-string.result c.from_residual-in_err-string.ensures.1 in
    on_memory p.0 p.1 (λ none.
    let row = c.args.row.now in
    let text = c.in_err-string.ensures.memory (sym p.2 ∙ none) in
    let terms = c.has_string.ensures.0 c.if-not-has_string.false in
    paper_shown row
    (subst (λ o. IfSome o (λ x. column row 0 ≡ int x)) c.in_ok-readable.ensures.ok c.file_number.ensures.back)
    (subst (λ o. IfSome o (λ x. column row 1 ≡ int x)) c.in_ok-readable-2.ensures.ok c.paper_number.ensures.back)
    (subst (λ o. IfSome o (λ x. column row 2 ≡ int x)) c.in_ok-readable-3.ensures.ok c.day.ensures.back)
    (subst (λ o. IfSome o (λ x. column row 3 ≡ int x)) c.in_ok-readable-4.ensures.ok c.party_number.ensures.back)
    (subst (λ o. IfSome o (λ x. column row 4 ≡ int (sort_code x))) c.in_ok-readable-5.ensures.ok c.sort.ensures.back)
    (subst (λ o. IfSome o (λ x. column row 5 ≡ int x)) c.in_ok-readable-6.ensures.ok c.number.ensures.back)
    text.1 terms.1
    (subst (λ o. IfSome o (λ x. column row 8 ≡ flag x)) c.in_ok-readable-7.ensures.ok c.truth.ensures.back)
    (record {
      file = search rules;
      number = search rules;
      day = search rules;
      author = search rules;
      days = search rules;
      text = text.2;
      terms = terms.2;
    }))

pub returns-in_err-string-2-clause-memory : goal.returns-in_err-string-2-clause-memory
returns-in_err-string-2-clause-memory c =
    let p = err_from_is_err_and c.from_residual-in_err-string-2.result c.from_residual-in_err-string-2.ensures.1 in
    on_memory p.0 p.1 (λ none.
    let row = c.args.row.now in
    let terms = c.in_err-string-2.ensures.memory (sym p.2 ∙ none) in
    paper_shown row
    (subst (λ o. IfSome o (λ x. column row 0 ≡ int x)) c.in_ok-readable.ensures.ok c.file_number.ensures.back)
    (subst (λ o. IfSome o (λ x. column row 1 ≡ int x)) c.in_ok-readable-2.ensures.ok c.paper_number.ensures.back)
    (subst (λ o. IfSome o (λ x. column row 2 ≡ int x)) c.in_ok-readable-3.ensures.ok c.day.ensures.back)
    (subst (λ o. IfSome o (λ x. column row 3 ≡ int x)) c.in_ok-readable-4.ensures.ok c.party_number.ensures.back)
    (subst (λ o. IfSome o (λ x. column row 4 ≡ int (sort_code x))) c.in_ok-readable-5.ensures.ok c.sort.ensures.back)
    (subst (λ o. IfSome o (λ x. column row 5 ≡ int x)) c.in_ok-readable-6.ensures.ok c.number.ensures.back)
    c.in_ok-string.ensures.back terms.1
    (subst (λ o. IfSome o (λ x. column row 8 ≡ flag x)) c.in_ok-readable-7.ensures.ok c.truth.ensures.back)
    (record {
      file = search rules;
      number = search rules;
      day = search rules;
      author = search rules;
      days = search rules;
      text = c.in_ok-string.ensures.utf8;
      terms = terms.2;
    }))
