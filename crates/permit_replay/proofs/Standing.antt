-- An entry that makes a history is taken.
use Rattle.std.proofs.Common.{◌≡◌, refl, ap, ◌∙◌, ℕ, Bool, true, [], ◌∷◌, Option, None, Some, inl, inr}
use Rattle.std.specs.Prelude.{◌⊎◌, IsTrue, if◌then◌else◌}
use Rattle.std.proofs.lemmas.Bool.{eq-eqb, false≢true, le-ltb, lt-ltb}
use Rattle.permit_base.specs.declared.words.Edition.{Edition}
use Rattle.permit_base.specs.declared.words.Edition.TheVariants.{First}
use Rattle.permit_base.specs.declared.request.Request.{Request}
use Rattle.permit_model.specs.History.{History, edition, last_day}
use Rattle.permit_model.specs.Machine.{Outcome, IsAccepted, IsHistory, number_made, entry_of, outcome_by_reason}
use Rattle.permit_office.specs.Accepting.{outcome_if_there, outcome_in_time, outcome_of_party, outcome_unjudged}
use Rattle.permit_history.specs.declared.entry.Deed.{Deed}
use Rattle.permit_history.specs.declared.entry.Deed.TheVariants as deed
use Rattle.permit_replay.specs.declared.fault.Why.TheVariants as why
use Rattle.permit_replay.specs.Against.{is_same, against, against_reply, against_upgrade}
use Rattle.permit_replay.specs.Histories.{Unsaid, adds_entry, history_with, request_by}
use Rattle.permit_replay.proofs.Accepted.{numbered}

-- ---- a command

itself : (n : Option ℕ) → is_same n n ≡ true
itself None = refl
itself (Some m) = eq-eqb m m refl

-- there is no reason against what was accepted
pub accepted_stands : (h : History) (day caller : ℕ) (asked : Request) (number : Option ℕ) → IsAccepted h (numbered day caller asked number) asked
    → against_reply number (outcome_unjudged h day caller asked).reply ≡ None
accepted_stands h day caller asked number may =
    let outcome : outcome_unjudged h day caller asked ≡ outcome_by_reason h (entry_of h day caller asked) None =
    ap (outcome_of_party h day caller asked) may.caller_there
    ∙ ap (outcome_in_time h day caller asked) (le-ltb day (last_day h) may.in_time)
    ∙ ap (outcome_if_there h day caller asked) may.record_there
    ∙ ap (outcome_by_reason h (entry_of h day caller asked)) may.admitted in
    let same : is_same (number_made h asked) number ≡ true = ap (is_same (number_made h asked)) may.numbered ∙ itself (number_made h asked) in
    ap (λ (o : Outcome). against_reply number o.reply) outcome ∙ ap (λ (b : Bool). if b then None else Some why.Number) same

-- ---- the other entries

again : (e : Edition) → e ≡ First → (against_upgrade e ≡ None) ⊎ (against_upgrade e ≡ Some why.FirstEdition)
again e first = inr (ap against_upgrade first)

pub stands : (unsaid : Unsaid) (h : History) (day : ℕ) (done : Deed) → IsTrue (adds_entry done) → IsHistory (history_with unsaid h day done)
    → (against unsaid h day done ≡ None) ⊎ (against unsaid h day done ≡ Some why.FirstEdition)
stands unsaid h day (deed.Begin tables) adds is = absurd (false≢true adds)
stands unsaid h day (deed.RenewToken party digest) adds is = absurd (false≢true adds)
stands unsaid [] day (deed.Found name digest) adds is =
    inl (ap (λ (b : Bool). if b then None else Some why.NoFounding) (lt-ltb 0 day is.0))
stands unsaid [] day deed.Upgrade adds is = absurd is
stands unsaid [] day (deed.Accepted caller act) adds is = absurd is
stands unsaid (first ∷ []) day (deed.Found name digest) adds is = absurd is.0
stands unsaid (first ∷ []) day deed.Upgrade adds is =
    inl (ap (λ (b : Bool). if b then None else Some why.UpgradeDay) (eq-eqb day first.day is.0.same_day))
stands unsaid (first ∷ []) day (deed.Accepted caller act) adds is = inr refl
stands unsaid (last ∷ other ∷ before) day (deed.Found name digest) adds is = absurd is.0
stands unsaid (last ∷ other ∷ before) day deed.Upgrade adds is = again (edition (last ∷ other ∷ before)) is.0.once
stands unsaid (last ∷ other ∷ before) day (deed.Accepted caller act) adds is =
    inl (accepted_stands (last ∷ other ∷ before) day caller (request_by unsaid.token_of act) _ is.0)
