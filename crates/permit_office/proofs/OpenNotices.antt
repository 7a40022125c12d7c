-- A notice is open where the file has a paper of its number that says so.
use Rattle.std.proofs.Common.{◌≡◌, ℕ, ◌==◌, Bool, true, false, cond, not, List, [], ◌∷◌, refl, sym, ◌∙◌, ap}
use Rattle.std.specs.Prelude.{Option, None, Some, filter, unwrap_or, ◌||◌, ◌&&◌}
use Rattle.std.specs.List.{list_any}
use Rattle.std.proofs.lemmas.List.Folds.{list_any-append}
use Rattle.std.proofs.lemmas.Bool.{eqb-true}
use Rattle.permit_base.specs.declared.words.PaperSort.{PaperSort}
use Rattle.permit_base.specs.declared.request.Command.{Command}
use Rattle.permit_base.specs.declared.request.Command.TheVariants.{Notice}
use Rattle.permit_model.specs.Search.{add_last, has_number}
use Rattle.permit_model.specs.History.{History}
use Rattle.permit_model.specs.Files.{Act, CaseFile, case_numbered}
use Rattle.permit_model.specs.Work.{notices_given, is_cleared, open_notices, paper_sort}
use Rattle.permit_model.specs.Tables.{Paper, paper_by, papers_of, is_notice, tables}
use Rattle.permit_model.proofs.Papers.{papers_from, papers_of-case}
use Rattle.permit_office.proofs.Finding.{IsCase, case_found}

-- whether a paper of the sort is a notice
abbrev gives_notice : Option PaperSort → Bool
gives_notice None = false
gives_notice (Some s) = is_notice s

-- whether a notice of the number was given
abbrev was_given : ℕ → List Act → Bool
was_given n [] = false
was_given n (act ∷ before) = (gives_notice (paper_sort act.command) && (unwrap_or act.number 0 == n)) || was_given n before

-- whether the paper is an open notice of the number
abbrev pub is_open_of : ℕ → Paper → Bool
is_open_of n p = p.is_open && (p.number == n)

tautology : (h g s e m : Bool) → (e ≡ true → m ≡ h) → ((h && g) || (((s && m) && e) || false)) ≡ (h && ((s && e) || g))
tautology h g s true m same = ap (λ (x : Bool). (h && g) || (((s && x) && true) || false)) (same refl) ∙ cases h g s
  where
    cases : (h g s : Bool) → ((h && g) || (((s && h) && true) || false)) ≡ (h && ((s && true) || g))
    cases true true true = refl
    cases true true false = refl
    cases true false true = refl
    cases true false false = refl
    cases false true true = refl
    cases false true false = refl
    cases false false true = refl
    cases false false false = refl
tautology h g s false m same = cases h g s m
  where
    cases : (h g s m : Bool) → ((h && g) || (((s && m) && false) || false)) ≡ (h && ((s && false) || g))
    cases true true true true = refl
    cases true true true false = refl
    cases true true false true = refl
    cases true true false false = refl
    cases true false true true = refl
    cases true false true false = refl
    cases true false false true = refl
    cases true false false false = refl
    cases false true true true = refl
    cases false true true false = refl
    cases false true false true = refl
    cases false true false false = refl
    cases false false true true = refl
    cases false false true false = refl
    cases false false false true = refl
    cases false false false false = refl

open_more : (file n : ℕ) (open_now : List ℕ) (act : Act) (before : List Act) (papers : List Paper) (o : Option PaperSort) → paper_sort act.command ≡ o →
    list_any (is_open_of n) papers ≡ (has_number open_now n && was_given n before) →
    list_any (is_open_of n) (add_last papers (paper_by file open_now act before))
    ≡ (has_number open_now n && ((gives_notice o && (unwrap_or act.number 0 == n)) || was_given n before))
open_more file n open_now act before papers None e ih = rw e ih
open_more file n open_now act before papers (Some s) e ih =
    let m : ℕ = unwrap_or act.number 0 in
    rw (e, list_any-append, ih) (tautology (has_number open_now n) (was_given n before) (is_notice s) (m == n) (has_number open_now m)
    (λ t. ap (has_number open_now) (eqb-true m n t)))

-- the papers of the acts say so of the notices that were given
open_from : (file n : ℕ) (open_now : List ℕ) (acts : List Act) → list_any (is_open_of n) (papers_from file open_now acts)
    ≡ (has_number open_now n && was_given n acts)
open_from file n open_now [] = no_more (has_number open_now n)
  where
    no_more : (b : Bool) → false ≡ (b && false)
    no_more true = refl
    no_more false = refl
open_from file n open_now (act ∷ before) = open_more file n open_now act before (papers_from file open_now before) (paper_sort act.command) refl
    (open_from file n open_now before)

given_by : (b c d : Bool) → (b || c) ≡ true → (c ≡ true → d ≡ true) → (b || d) ≡ true
given_by true c d e ih = refl
given_by false c d e ih = ih e

given_more : (caller day n : ℕ) (command : Command) (number : Option ℕ) (before : List Act) →
    has_number (notices_given (record { caller = caller; day = day; command = command; number = number } ∷ before)) n ≡ true →
    (has_number (notices_given before) n ≡ true → was_given n before ≡ true) →
    was_given n (record { caller = caller; day = day; command = command; number = number } ∷ before) ≡ true
given_more caller day n (Notice text) None before e ih = either (0 == n) (was_given n before) (ih e)
  where
    either : (b c : Bool) → c ≡ true → (b || c) ≡ true
    either true c e = refl
    either false c e = e
given_more caller day n (Notice text) (Some k) before e ih = given_by (k == n) (has_number (notices_given before) n) (was_given n before) e ih
given_more caller day n command number before e ih = ih e

given_at_all : (n : ℕ) (acts : List Act) → has_number (notices_given acts) n ≡ true → was_given n acts ≡ true
given_at_all n [] e = cc
given_at_all n (act ∷ before) e = given_more act.caller act.day n act.command act.number before e (given_at_all n before)

kept_here : (b : Bool) (m n : ℕ) (rest ns : List ℕ) → has_number (cond b (m ∷ rest) rest) n ≡ true → (has_number rest n ≡ true → has_number ns n ≡ true) →
    ((m == n) || has_number ns n) ≡ true
kept_here true m n rest ns e ih = given_by (m == n) (has_number rest n) (has_number ns n) e ih
kept_here false m n rest ns e ih = either (m == n) (has_number ns n) (ih e)
  where
    either : (b c : Bool) → c ≡ true → (b || c) ≡ true
    either true c e = refl
    either false c e = e

-- a number that is kept was there
kept : (keeps : ℕ → Bool) (n : ℕ) (ns : List ℕ) → has_number (filter keeps ns) n ≡ true → has_number ns n ≡ true
kept keeps n [] e = cc
kept keeps n (m ∷ ns) e = kept_here (keeps m) m n (filter keeps ns) ns e (kept keeps n ns)

-- a notice that is open was given
given : (n : ℕ) (acts : List Act) → has_number (open_notices acts) n ≡ true → was_given n acts ≡ true
given n acts e = given_at_all n acts (kept (λ m. not (is_cleared acts m)) n (notices_given acts) e)

both_by : (b c : Bool) → (b ≡ true → c ≡ true) → (b && c) ≡ b
both_by true c e = e refl
both_by false c e = refl

any_of : {A : Type 0} (test p : A → Bool) (x : A) (xs : List A) (b : Bool) → test x ≡ b → list_any (λ y. test y && p y) xs ≡ list_any p (filter test xs) →
    ((b && p x) || list_any (λ y. test y && p y) xs) ≡ list_any p (cond b (x ∷ filter test xs) (filter test xs))
any_of test p x xs true e ih = ap (λ c. p x || c) ih
any_of test p x xs false e ih = ih

-- one that passes both tests is one of those that pass the first
any_in : {A : Type 0} (test p : A → Bool) (xs : List A) → list_any (λ y. test y && p y) xs ≡ list_any p (filter test xs)
any_in test p [] = refl
any_in test p (x ∷ xs) = any_of test p x xs (test x) refl (any_in test p xs)

-- the papers say which notices of the file are open
pub open_papers : (h : History) (id n : ℕ) (one : CaseFile) → case_numbered h id ≡ Some one →
    list_any (λ (p : Paper). (p.file == id) && is_open_of n p) (tables h).papers ≡ has_number (open_notices one.acts) n
open_papers h id n one there =
    let c : IsCase h id one = case_found h id one there in
    let named : one.filing.id ≡ id = ap (λ (x : CaseFile). x.filing.id) (sym c.is) ∙ c.named in
    any_in (λ (p : Paper). p.file == id) (is_open_of n) (tables h).papers
    ∙ ap (λ k. list_any (is_open_of n) (papers_of h k)) (sym named)
    ∙ ap (list_any (is_open_of n)) (papers_of-case h id one there)
    ∙ open_from one.filing.id n (open_notices one.acts) one.acts
    ∙ both_by (has_number (open_notices one.acts) n) (was_given n one.acts) (given n one.acts)
