-- Values that words refuse.
use Rattle.std.proofs.Common.{Bool, ◌⊎◌, inl, inr, ◌+◌, ◌≤◌, arith, cond, is_some, ◌≡◌, ◌∙◌, ℕ, IsSome, IsSomeAnd, IsTrue, List, MatchOption, None, Option, Some, false, true, refl, subst, sym, codes}
use Rattle.clap.specs.Words.{Row, Text, first_of}
use Rattle.permit_base.specs.Stages.{is_file_stage}
use Rattle.permit_base.specs.Words.{stage_word}
use Rattle.permit_base.specs.declared.words.Stage.{Stage}
use Rattle.permit_args.specs.Plans.{is_given, most_workers, ArePathsOf, Clashes, IsCheckBy, IsCountOf, IsFormOf, IsOptionalCountOf, IsStageOf, IsTokenOf, IsWorkersOf}
use Rattle.permit_args.specs.declared.plan.Check.{Check}
use Rattle.permit_args.specs.declared.plan.Check.TheVariants.{Rules, Dead, Facts, Against, Table}
use Rattle.permit_args.specs.declared.plan.Clash.{Clash}
use Rattle.permit_args.specs.declared.plan.Clash.TheVariants as clash
use Rattle.permit_policy.specs.declared.pages.TableForm.{TableForm}
use Rattle.permit_policy.specs.declared.pages.TableForm.TheVariants.{Columns, Csv, Markdown}
use Rattle.permit_args.specs.declared.plan.HistoryPaths.{HistoryPaths}
use Rattle.permit_args.specs.declared.plan.TokenWords.{TokenWords}
use Rattle.permit_args.specs.declared.plan.TokenWords.TheVariants.{Given, File}

-- what is something is some
pub is_some_of : {A : Type 0} (o : Option A) (x : A) → o ≡ Some x → IsSome o
is_some_of o x is = subst IsSome (sym is) refl

-- a word that is no file's stage is the word of no stage
pub no_stage : (rows : List Row) (text : Text) → first_of (codes "stage") rows ≡ Some text → ((s : Stage) → stage_word s ≡ text → IsTrue (is_file_stage s) → ⊥)
    → (stage : Option Stage) → IsStageOf rows stage → ⊥
no_stage rows text there none None is = let bad : Some text ≡ None = sym there ∙ is.word in cc
no_stage rows text there none (Some s) is =
    let same : Some text ≡ Some (stage_word s) = sym there ∙ is.word in
    let word : stage_word s ≡ text = cc in
    none s word is.within

-- 1 where something holds
abbrev mark : Bool → ℕ
mark b = cond b 1 0

-- how many of four words are there
abbrev given : Bool → Option Text → Option Text → Bool → ℕ
given dead facts against table = mark dead + mark (is_some facts) + mark (is_some against) + mark table

one : (b : Bool) → b ≡ true → mark b ≡ 1
one b e = rw e refl

zero : (b : Bool) → b ≡ false → mark b ≡ 0
zero b e = rw e refl

missing : (o : Option Text) → o ≡ None → mark (is_some o) ≡ 0
missing o e = rw e refl

few : (b : Bool) → mark b ≤ 1
few b = grind arith

one_at_most : (dead : Bool) (facts against : Option Text) (table : Bool) (check : Check) → IsCheckBy dead facts against table check → given dead facts against table ≤ 1
one_at_most dead facts against table Rules is = let a = zero dead is.0 in let b = missing facts is.1 in let c = missing against is.2 in let d = zero table is.3 in omega arith
one_at_most dead facts against table Dead is = let a = few dead in let b = missing facts is.1 in let c = missing against is.2 in let d = zero table is.3 in omega arith
one_at_most dead facts against table (Facts text) is = let a = zero dead is.0 in let b = few (is_some facts) in let c = missing against is.2 in let d = zero table is.3 in omega arith
one_at_most dead facts against table (Against path) is = let a = zero dead is.0 in let b = missing facts is.1 in let c = few (is_some against) in let d = zero table is.3 in omega arith
one_at_most dead facts against table Table is = let a = zero dead is.0 in let b = missing facts is.1 in let c = missing against is.2 in let d = few table in omega arith

two_at_least : (dead : Bool) (facts against : Option Text) (table : Bool) (two : Clash) → Clashes dead facts against table two → 2 ≤ given dead facts against table
two_at_least dead facts against table clash.DeadFacts is = let a = one dead is.0 in let b = one (is_some facts) is.1 in omega arith
two_at_least dead facts against table clash.DeadAgainst is = let a = one dead is.0 in let b = one (is_some against) is.1 in omega arith
two_at_least dead facts against table clash.DeadTable is = let a = one dead is.0 in let b = one table is.1 in omega arith
two_at_least dead facts against table clash.FactsAgainst is = let a = one (is_some facts) is.0 in let b = one (is_some against) is.1 in omega arith
two_at_least dead facts against table clash.FactsTable is = let a = one (is_some facts) is.0 in let b = one table is.1 in omega arith
two_at_least dead facts against table clash.AgainstTable is = let a = one (is_some against) is.0 in let b = one table is.1 in omega arith

-- two words that clash are no check
pub no_check : (dead : Bool) (facts against : Option Text) (table : Bool) (two : Clash) → Clashes dead facts against table two → (check : Check)
    → IsCheckBy dead facts against table check → ⊥
no_check dead facts against table two clashes check is =
    let least = two_at_least dead facts against table two clashes in
    let most = one_at_most dead facts against table check is in omega arith

-- a form is asked for once, and beside the table
pub two_forms : (rows : List Row) → is_given (codes "csv") rows ≡ true → is_given (codes "markdown") rows ≡ true → (form : TableForm) → IsFormOf rows form → ⊥
two_forms rows csv markdown Columns is = let bad : true ≡ false = sym csv ∙ is.0 in cc
two_forms rows csv markdown Csv is = let bad : true ≡ false = sym markdown ∙ is.1 in cc
two_forms rows csv markdown Markdown is = let bad : true ≡ false = sym csv ∙ is.0 in cc

pub no_table : (rows : List Row) → is_given (codes "table") rows ≡ false → (is_given (codes "csv") rows ≡ true) ⊎ (is_given (codes "markdown") rows ≡ true)
    → (form : TableForm) → IsFormOf rows form → ⊥
no_table rows table (inl csv) Columns is = let bad : true ≡ false = sym csv ∙ is.0 in cc
no_table rows table (inr markdown) Columns is = let bad : true ≡ false = sym markdown ∙ is.1 in cc
no_table rows table asked Csv is = let bad : false ≡ true = sym table ∙ is.2 in cc
no_table rows table asked Markdown is = let bad : false ≡ true = sym table ∙ is.2 in cc

-- neither a token nor its file is no token
pub no_token : (rows : List Row) → first_of (codes "token") rows ≡ None → first_of (codes "token-file") rows ≡ None → (token : TokenWords)
    → IsTokenOf rows token → ⊥
no_token rows token file (Given text) is = let bad : None ≡ Some text.now = sym token ∙ is.0 in cc
no_token rows token file (File path) is = let bad : None ≡ Some path.now = sym file ∙ is.1 in cc

-- nor are both
pub two_tokens : (rows : List Row) (one other : Text) → first_of (codes "token") rows ≡ Some one → first_of (codes "token-file") rows ≡ Some other
    → (token : TokenWords) → IsTokenOf rows token → ⊥
two_tokens rows one other token file (Given text) is = let bad : Some other ≡ None = sym file ∙ is.1 in cc
two_tokens rows one other token file (File path) is = let bad : Some one ≡ None = sym token ∙ is.0 in cc

-- a copy without the text that begins with it is no history's
pub no_paths : (rows : List Row) (copy : Text) → first_of (codes "history") rows ≡ None → first_of (codes "from") rows ≡ Some copy
    → (paths : Option HistoryPaths) → ArePathsOf rows paths → ⊥
no_paths rows copy history from None is = let bad : Some copy ≡ None = sym from ∙ is.1 in cc
no_paths rows copy history from (Some paths) is = let bad : None ≡ Some paths.text.now = sym history ∙ is.0 in cc

-- ---- counts

-- a count of what is found is one of its text
pub counted : (greatest : ℕ) (found : Option Text) (text : Text) (n : ℕ) → found ≡ Some text → IsSomeAnd found (λ t. IsCountOf greatest t n)
    → IsCountOf greatest text n
counted greatest found text n there is = subst (λ o. IsSomeAnd o (λ t. IsCountOf greatest t n)) there is

pub some_counted : (greatest : ℕ) (found : Option Text) (text : Text) (n : ℕ) → found ≡ Some text → IsCountOf greatest text n
    → IsSomeAnd found (λ t. IsCountOf greatest t n)
some_counted greatest found text n there is = subst (λ o. IsSomeAnd o (λ t. IsCountOf greatest t n)) (sym there) is

-- where a count is found, a text is
pub some_found : (greatest : ℕ) (found : Option Text) (n : ℕ) → IsSomeAnd found (λ t. IsCountOf greatest t n) → (text : Text) × (found ≡ Some text)
some_found greatest None n is = absurd is
some_found greatest (Some text) n is = (text, refl)

-- the workers that are found are those of the text
pub workers_of : (rows : List Row) (text : Text) (n : ℕ) → first_of (codes "workers") rows ≡ Some text → IsWorkersOf rows n → IsCountOf most_workers text n
workers_of rows text n there is = subst (λ o. MatchOption o (n ≡ 4) (λ t. IsCountOf most_workers t n)) there is

-- where a text is found for a number that may be left out, the number is one of the text
pub optional_counted : (greatest : ℕ) (found : Option Text) (text : Text) (x : Option ℕ) → found ≡ Some text → IsOptionalCountOf greatest found x
    → (n : ℕ) × IsCountOf greatest text n
optional_counted greatest found text None there is = let bad : Some text ≡ None = sym there ∙ is in cc
optional_counted greatest found text (Some n) there is = (n, counted greatest found text n there is)
