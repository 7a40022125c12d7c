-- A line that is said piece by piece.
use Rattle.std.proofs.Common.{◌≡◌, ◌⊎◌, ℕ, List, ◌++◌, Option, Result, Err, ap, inr, subst, sym, ◌∙◌, append_assoc}
use Rattle.std.specs.Prelude.{codes}
use Rattle.std.specs.Io.KnownBytes.{Appends}
use Rattle.permit_import.specs.declared.refused.RefusalWord.TheVariants.{Store}
use Rattle.permit_args.specs.declared.plan.PlanFault.{PlanFault}
use Rattle.permit_subcommands.specs.Failures.{failure_line, failure_status, plain}
use Rattle.permit_subcommands.specs.Printing.{Prints}
use Rattle.permit_subcommands.specs.declared.failure.Failure.{Failure}
use Rattle.permit_subcommands.specs.declared.failure.Failure.TheVariants.{Output}
use Rattle.permit_subcommands.proofs.Printed.{front_of_first, prints_both}
use Rattle.permit_cli.specs.Telling.{Complains, SaysNoPlan}

-- a line of two pieces and its end
pub line_said : (line front word end : List ℕ) (before after : Option (List ℕ)) (result : Result (Unit {0}) Failure) → line ≡ front ++ word →
    Prints (front ++ (word ++ end)) before after result → Prints (line ++ end) before after result
line_said line front word end before after result is printed =
    subst (λ (l : List ℕ). Prints (l ++ end) before after result) (sym is) (rw append_assoc printed)

-- the line of a failure that is known
pub known_said : (why known : Failure) (before after : Option (List ℕ)) (result : Result (Unit {0}) Failure) → why ≡ known →
    Prints (failure_line known ++ codes "\n") before after result → Prints (failure_line why ++ codes "\n") before after result
known_said why known before after result is printed =
    subst (λ (f : Failure). Prints (failure_line f ++ codes "\n") before after result) (sym is) printed

regroup : (a b c d e : List ℕ) → (((a ++ b) ++ c) ++ d) ++ e ≡ (a ++ (b ++ c)) ++ (d ++ e)
regroup a b c d e = simp append_assoc

-- two numbers, each after a text
pub place_said : (front code shown between place end : List ℕ) (before middle after : Option (List ℕ)) (result : Result (Unit {0}) Failure) → shown ≡ code →
    Appends before middle (front ++ (shown ++ between)) → Prints (place ++ end) middle after result →
    Prints ((((front ++ code) ++ between) ++ place) ++ end) before after result
place_said front code shown between place end before middle after result is first second =
    subst (λ (n : List ℕ). Prints ((((front ++ n) ++ between) ++ place) ++ end) before after result) is
    (subst (λ (t : List ℕ). Prints t before after result) (sym (regroup front shown between place end))
    (prints_both (front ++ (shown ++ between)) (place ++ end) before middle after result first second))

pub place_unsaid : (front code shown between place end : List ℕ) (before after : Option (List ℕ)) (why : Failure) → shown ≡ code →
    Prints (front ++ (shown ++ between)) before after (Err why) → Prints ((((front ++ code) ++ between) ++ place) ++ end) before after (Err why)
place_unsaid front code shown between place end before after why is first =
    subst (λ (n : List ℕ). Prints ((((front ++ n) ++ between) ++ place) ++ end) before after (Err why)) is
    (subst (λ (t : List ℕ). Prints t before after (Err why)) (sym (regroup front shown between place end))
    (first.0, front_of_first (front ++ (shown ++ between)) (place ++ end) before after first.1))

-- ---- where words give no plan

-- what is said of a fault that is known
pub fault_said : (fault known : PlanFault) (before after : Option (List ℕ)) (status : ℕ) → fault ≡ known → SaysNoPlan known before after status →
    SaysNoPlan fault before after status
fault_said fault known before after status is said = subst (λ (f : PlanFault). SaysNoPlan f before after status) (sym is) said

-- help that can't be printed
pub unprinted : (why : Failure) (before after : Option (List ℕ)) (status : ℕ) → why ≡ Output → status ≡ failure_status why → Complains why before after →
    ((status ≡ 0) × (after ≡ before)) ⊎ ((status ≡ 1) × Complains Output before after)
unprinted why before after status failed ends said =
    inr (ends ∙ ap failure_status failed, subst (λ (f : Failure). Complains f before after) failed said)

-- want of memory
pub memory_said : (why : Failure) (before after : Option (List ℕ)) → why ≡ plain Store → Complains why before after → Complains (plain Store) before after
memory_said why before after lacking said = subst (λ (f : Failure). Complains f before after) lacking said
