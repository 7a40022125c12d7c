-- What is reported of a database's tables, and of an office that was brought further.
use Rattle.std.proofs.Common.{◌≡◌, ◌++◌, inl, ℕ, List, Option, Result, Ok, sym, subst}
use Rattle.permit_chronicle.specs.Evidence.{evidence_line, verified_line}
use Rattle.permit_history.specs.declared.evidence.Evidence.{Evidence}
use Rattle.permit_model.specs.Tables.{Desk}
use Rattle.permit_replay.specs.declared.opening.bringing.Brought.{Brought}
use Rattle.permit_subcommands.specs.Lines.{sound_line, upgraded_line}
use Rattle.permit_subcommands.specs.declared.failure.Failure.{Failure}
use Rattle.permit_cli.specs.Telling.{IsTold, MakesAndPrints, PrintsThen, replayed_line}
use Rattle.permit_database.specs.declared.outcome.Outcome.{Outcome}
use Rattle.permit_database.specs.declared.outcome.Outcome.TheVariants as outcome

-- a text that was made of a count of files is printed
pub upgraded_told : (o : Outcome) (files : ℕ) (text : List ℕ) (before after : Option (List ℕ)) (result : Result ℕ Failure) → o ≡ outcome.Upgraded files →
    text ≡ upgraded_line files → PrintsThen text (Ok 0) before after result → IsTold o before after result
upgraded_told o files text before after result is made printed = subst (λ (o : Outcome). IsTold o before after result) (sym is)
    (inl (subst (λ (text : List ℕ). PrintsThen text (Ok 0) before after result) made printed))

-- a text that was made of a desk is printed
pub sound_told : (o : Outcome) (desk : Desk) (text : List ℕ) (before after : Option (List ℕ)) (result : Result ℕ Failure) → o ≡ outcome.Sound desk →
    text ≡ sound_line desk → PrintsThen text (Ok 0) before after result → IsTold o before after result
sound_told o desk text before after result is made printed = subst (λ (o : Outcome). IsTold o before after result) (sym is)
    (inl (subst (λ (text : List ℕ). PrintsThen text (Ok 0) before after result) made printed))

-- the lines of a desk and of a history's evidence are printed
pub beside_told : (o : Outcome) (desk : Desk) (evidence : Evidence) (before after : Option (List ℕ)) (result : Result ℕ Failure) →
    o ≡ outcome.SoundBeside desk evidence → MakesAndPrints (sound_line desk ++ evidence_line evidence) (Ok 0) before after result → IsTold o before after result
beside_told o desk evidence before after result is printed = subst (λ (o : Outcome). IsTold o before after result) (sym is) printed

-- a text that was made of a count of lines is printed
pub verified_told : (o : Outcome) (lines : ℕ) (text : List ℕ) (before after : Option (List ℕ)) (result : Result ℕ Failure) → o ≡ outcome.Verified lines →
    text ≡ verified_line lines → PrintsThen text (Ok 0) before after result → IsTold o before after result
verified_told o lines text before after result is made printed = subst (λ (o : Outcome). IsTold o before after result) (sym is)
    (inl (subst (λ (text : List ℕ). PrintsThen text (Ok 0) before after result) made printed))

-- a text that was made of how far an office was brought is printed
pub replayed_told : (o : Outcome) (brought : Brought) (text : List ℕ) (before after : Option (List ℕ)) (result : Result ℕ Failure) → o ≡ outcome.Replayed brought →
    text ≡ replayed_line brought → PrintsThen text (Ok 0) before after result → IsTold o before after result
replayed_told o brought text before after result is made printed = subst (λ (o : Outcome). IsTold o before after result) (sym is)
    (inl (subst (λ (text : List ℕ). PrintsThen text (Ok 0) before after result) made printed))
