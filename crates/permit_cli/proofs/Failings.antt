-- Which failures a plan comes to, by those of an office and its database.
use Rattle.std.proofs.Common.{◌≡◌, ◌⊎◌, inl, inr, ℕ, List, Option, None, Some, Result, Ok, Err, refl, subst, sym, true≢false}
use Rattle.std.specs.Prelude.{IfErr, IsSome, IsSomeAnd}
use Rattle.permit_base.specs.declared.words.RegisterKind.{RegisterKind}
use Rattle.permit_args.specs.Keepings.{named_history}
use Rattle.permit_args.specs.declared.plan.ActWords.{ActWords}
use Rattle.permit_args.specs.declared.plan.HistoryPaths.{HistoryPaths}
use Rattle.permit_args.specs.declared.plan.ImportWords.{ImportWords}
use Rattle.permit_args.specs.declared.plan.InitWords.{InitWords}
use Rattle.permit_args.specs.declared.plan.Keeping.{Keeping}
use Rattle.permit_args.specs.declared.plan.Keeping.TheVariants.{Without}
use Rattle.permit_args.specs.declared.plan.ListWords.{ListWords}
use Rattle.permit_args.specs.declared.plan.OfficeWords.{OfficeWords}
use Rattle.permit_args.specs.declared.plan.Plan.{Plan}
use Rattle.permit_args.specs.declared.plan.RegisterWords.{RegisterWords}
use Rattle.permit_args.specs.declared.plan.RenewTokenWords.{RenewTokenWords}
use Rattle.permit_args.specs.declared.plan.ServeWords.{ServeWords}
use Rattle.permit_import.specs.declared.refused.RefusalWord.TheVariants as word
use Rattle.permit_subcommands.specs.Failures.{plain}
use Rattle.permit_subcommands.specs.Listings.{WritesSome}
use Rattle.permit_subcommands.specs.declared.failure.Failure.{Failure}
use Rattle.permit_database.specs.Asked.{AsksFiles, AsksImport, AsksRegister, AsksRequest}
use Rattle.permit_database.specs.Failing.{FailsIn, FailsToListen, IsOfHistory, IsOfText, IsUnfounded, IsUnrenewed, IsUnusable, OrOfHistory, OrOfText, StopsImport}
use Rattle.permit_database.specs.declared.outcome.Outcome.{Outcome}
use Rattle.permit_database.specs.declared.question.Question.{Question}
use Rattle.permit_database.specs.declared.question.Question.TheVariants as question
use Rattle.permit_cli.specs.Doing.{IsRunDay}
use Rattle.permit_cli.specs.Failing.{FailsAs, FailsToAct, FailsToAsk, FailsToFound, FailsToImport, FailsToList, FailsToRegister}
use Rattle.permit_cli.specs.Failing.{FailsToRenew, FailsToServe, IsUnasked, IsUnbegun, IsUnkept, IsUnkeptBy}

-- each failure of which something is said has that said of it
pub if_err : {A E : Type 0} {P Q : E → Type 0} (result : Result A E) → ((e : E) → P e → Q e) → IfErr result P → IfErr result Q
if_err (Ok a) so said = tt
if_err (Err e) so said = so e said

-- two things that are said of each failure
pub both_fail : {A E : Type 0} (P Q : E → Type 0) (result : Result A E) → IfErr result P → IfErr result Q → IfErr result (λ e. P e × Q e)
both_fail P Q (Ok a) first second = tt
both_fail P Q (Err e) first second = (first, second)

-- which failures a plan that is known comes to
pub fails_as : (known planned : Plan) (before after : Option (List ℕ)) (result : Result Outcome Failure) → planned ≡ known →
    IfErr result (FailsAs known before after) → IfErr result (FailsAs planned before after)
fails_as known planned before after result is said = subst (λ (p : Plan). IfErr result (FailsAs p before after)) (sym is) said

-- ---- a history, where one is named

-- a failure where there is one is one where one is named
only_named : {A B : Type 0} (P : Type 0) (there : Option A) (named : Option B) → (IsSome there → IsSome named) → IsSomeAnd there (λ _. P) →
    IsSomeAnd named (λ _. P)
only_named P None named so fails = absurd fails
only_named P (Some a) None so fails = absurd (true≢false (sym (so refl)))
only_named P (Some a) (Some b) so fails = fails

-- a text that can't be used is a history that can't
of_text : {H : Type 0} (why : Failure) (history : Option H) → IsSomeAnd history (λ _. IsOfText why) → IsSomeAnd history (λ _. IsOfHistory why)
of_text why None fails = absurd fails
of_text why (Some history) fails = subst IsOfHistory (sym fails.2) tt

-- that of a history of which the file was opened
unkept : (why : Failure) (named : Option HistoryPaths) → IsSomeAnd named (λ _. IsOfHistory why) → IsUnkept named why
unkept why None fails = absurd fails
unkept why (Some paths) fails = inl fails

unkept_so : {H : Type 0} (why : Failure) (history : Option H) (keeping : Keeping HistoryPaths) → (IsSome history → IsSome (named_history keeping)) →
    IsSomeAnd history (λ _. IsOfText why) → IsUnkeptBy keeping why
unkept_so why history keeping so fails =
    inl (unkept why (named_history keeping) (only_named (IsOfHistory why) history (named_history keeping) so (of_text why history fails)))

-- ---- a plan

pub founds_fail : {A J : Type 0} (words : InitWords) (journal : Option J) (result : Result A Failure) → (IsSome journal → IsSome words.history) →
    IfErr result (λ why. OrOfHistory journal (IsUnfounded why) why) →
    IfErr result (λ why. FailsToFound words why ⊎ IsUnbegun words.history why)
founds_fail words journal (Ok done) so fails = tt
founds_fail words journal (Err why) so (inl unfounded) = inl (inr (inr (inr unfounded)))
founds_fail words journal (Err why) so (inr told) = inr (only_named (IsOfHistory why) journal words.history so told)

-- an office that the words name fails as one does that is asked on the day of the run
pub asks_fail : {A H R : Type 0} (words : OfficeWords) (day : ℕ) (history : Option H) (keeping : Keeping HistoryPaths) (asked : Question R)
    (before after : Option (List ℕ)) (result : Result A Failure) → IsRunDay words.days day → (IsSome history → IsSome (named_history keeping)) →
    IfErr result (FailsIn history day asked before after) → IfErr result (FailsToAsk words keeping asked before after)
asks_fail words day history keeping asked before after (Ok done) on so fails = tt
asks_fail words day history keeping asked before after (Err why) on so (inl (inl unusable, same)) = inl (inl (inr (inr unusable), same))
asks_fail words day history keeping asked before after (Err why) on so (inl (inr told, same)) = inr (unkept_so why history keeping so told, same)
asks_fail words day history keeping asked before after (Err why) on so (inr failed) = inl (inr (day, on, failed))

-- memory ran out
without_memory : (words : OfficeWords) (why : Failure) → why ≡ plain word.Store → IsUnasked words why
without_memory words why lacking = inr (inr (inr (inr (inr lacking))))

pub acts_fail : {R : Type 0} (words : ActWords) (token : List ℕ) (keeping : Keeping HistoryPaths) (asked : Question R) (before after : Option (List ℕ))
    (why : Failure) → AsksRequest words token asked → FailsToAsk words.office keeping asked before after why →
    (FailsToAct words why ⊎ IsUnkeptBy keeping why) × (after ≡ before)
acts_fail words token keeping (question.Serve request) before after why asks (inl (inl unasked)) = (inl (inr unasked.0), unasked.1)
acts_fail words token keeping (question.Serve request) before after why asks (inl (inr failed)) =
    (inl (inr (without_memory words.office why failed.2.0)), failed.2.1)
acts_fail words token keeping (question.Serve request) before after why asks (inr told) = (inr told.0, told.1)
acts_fail words token keeping (question.List _ _) before after why asks failed = absurd asks
acts_fail words token keeping (question.Register _ _) before after why asks failed = absurd asks
acts_fail words token keeping (question.Import _ _ _ _) before after why asks failed = absurd asks

pub lists_fail : {R : Type 0} (words : ListWords) (token : List ℕ) (asked : Question R) (before after : Option (List ℕ)) (why : Failure) →
    AsksFiles words token asked → FailsToAsk words.office Without asked before after why → FailsToList words.office why × (after ≡ before)
lists_fail words token (question.Serve _) before after why asks failed = absurd asks
lists_fail words token (question.List by filter) before after why asks (inl (inl unasked)) = (inr (inl unasked.0), unasked.1)
lists_fail words token (question.List by filter) before after why asks (inl (inr failed)) = (inr (inr failed.2.0), failed.2.1)
lists_fail words token (question.List by filter) before after why asks (inr (inl told, same)) = absurd told
lists_fail words token (question.List by filter) before after why asks (inr (inr told, same)) = absurd told
lists_fail words token (question.Register _ _) before after why asks failed = absurd asks
lists_fail words token (question.Import _ _ _ _) before after why asks failed = absurd asks

pub registers_fail : {R : Type 0} (words : RegisterWords) (token : List ℕ) (asked : Question R) (before after : Option (List ℕ)) (why : Failure) →
    AsksRegister words token asked → FailsToAsk words.office Without asked before after why → FailsToRegister words before after why
registers_fail words token (question.Serve _) before after why asks failed = absurd asks
registers_fail words token (question.List _ _) before after why asks failed = absurd asks
registers_fail words token (question.Register by kind) before after why asks (inl (inl unasked)) = inl (inr unasked.0, unasked.1)
registers_fail words token (question.Register by kind) before after why asks (inl (inr failed)) =
    inr (failed.0, failed.1, subst (λ (k : RegisterKind). WritesSome k failed.0 before after (Err why)) asks.1 failed.2)
registers_fail words token (question.Register by kind) before after why asks (inr (inl told, same)) = absurd told
registers_fail words token (question.Register by kind) before after why asks (inr (inr told, same)) = absurd told
registers_fail words token (question.Import _ _ _ _) before after why asks failed = absurd asks

pub imports_fail : {R : Type 0} (words : ImportWords) (token : List ℕ) (records : R) (keeping : Keeping HistoryPaths) (asked : Question R)
    (before after : Option (List ℕ)) (why : Failure) → AsksImport words token records asked →
    FailsToAsk words.office keeping asked before after why → FailsToImport words before after why ⊎ (IsUnkeptBy keeping why × (after ≡ before))
imports_fail words token records keeping (question.Serve _) before after why asks failed = absurd asks
imports_fail words token records keeping (question.List _ _) before after why asks failed = absurd asks
imports_fail words token records keeping (question.Register _ _) before after why asks failed = absurd asks
imports_fail words token records keeping (question.Import by path from asked) before after why asks (inl (inl unasked)) =
    inl (inl (inr (inr unasked.0), unasked.1))
imports_fail words token records keeping (question.Import by path from asked) before after why asks (inl (inr failed)) =
    inl (inr (subst (λ (p : List ℕ). StopsImport p before after why) asks.1 failed.2))
imports_fail words token records keeping (question.Import by path from asked) before after why asks (inr told) = inr told

pub serves_fail : {A H : Type 0} (words : ServeWords) (history : Option H) (result : Result A Failure) →
    (IsSome history → IsSome (named_history words.history)) →
    IfErr result (λ why. OrOfText history (IsUnusable why) why ⊎ FailsToListen words.listen.now why) →
    IfErr result (λ why. FailsToServe words why ⊎ IsUnkeptBy words.history why)
serves_fail words history (Ok done) so fails = tt
serves_fail words history (Err why) so (inl (inl unusable)) = inl (inr (inr (inl unusable)))
serves_fail words history (Err why) so (inl (inr told)) = inr (unkept_so why history words.history so told)
serves_fail words history (Err why) so (inr unheard) = inl (inr (inr (inr unheard)))

pub renews_fail : {A H : Type 0} (words : RenewTokenWords) (history : Option H) (result : Result A Failure) →
    (IsSome history → IsSome (named_history words.history)) → IfErr result (λ why. OrOfText history (IsUnrenewed why) why) →
    IfErr result (λ why. FailsToRenew words why ⊎ IsUnkeptBy words.history why)
renews_fail words history (Ok done) so fails = tt
renews_fail words history (Err why) so (inl unrenewed) = inl (inr (inr unrenewed))
renews_fail words history (Err why) so (inr told) = inr (unkept_so why history words.history so told)
