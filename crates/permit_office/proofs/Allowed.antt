-- A command that no policy judges, against the machine's step under a policy that allows everything.
use Rattle.std.proofs.Common.{◌≡◌, ℕ, Bool, true, List, refl, sym, ◌∙◌, ap}
use Rattle.std.specs.Prelude.{Option, None, Some, option_map, is_some, if◌then◌else◌, IsTrue, nat_lt}
use Rattle.std.proofs.lemmas.Bool.{false≢true}
use Rattle.permit_base.specs.declared.refusal.Refusal.TheVariants as refusal
use Rattle.permit_base.specs.declared.request.Request.{Request}
use Rattle.permit_base.specs.declared.request.Request.TheVariants.{AddParty, AddParcel, Transfer, Declare, ReadParcel, File, ReadFile, ListFiles, Register}
use Rattle.permit_base.specs.declared.request.Request.TheVariants.{OnFile}
use Rattle.permit_base.specs.Actions.{action_of}
use Rattle.permit_base.specs.declared.words.Stage.TheVariants.{New, Office}
use Rattle.permit_model.specs.History.{History, last_day}
use Rattle.permit_model.specs.Caller.{Party, who}
use Rattle.permit_model.specs.Parcels.{Parcel, parcel_numbered}
use Rattle.permit_model.specs.Files.{CaseFile, case_numbered}
use Rattle.permit_model.specs.Facts.{Facts, office_facts, parcel_facts, file_facts}
use Rattle.permit_model.specs.Policy.{Policy, allows, decision}
use Rattle.permit_model.specs.Machine.{Outcome, is_command, refused, outcome_of_command, outcome_if_allowed, outcome_by_facts, outcome_by_request, outcome_by_caller, step_as}
use Rattle.permit_office.specs.Accepting.{outcome_if_there, outcome_on_record, outcome_of_party, outcome_unjudged}
use Rattle.permit_office.proofs.Stepping.{caller_there}

module _ (policy : Policy) (all : (facts : Facts) → allows policy facts ≡ true) (h : History) (day : ℕ) (caller : Party) where
  -- whatever the facts are, the command is allowed
  allowed : (asked : Request) → outcome_if_allowed policy h day caller asked ≡ outcome_of_command h day caller.id asked → (facts : Facts)
      → outcome_of_command h day caller.id asked ≡ outcome_by_facts policy h day caller asked (Some facts)
  allowed asked same facts =
      sym (ap (λ (b : Bool). if b then outcome_if_allowed policy h day caller asked else refused h (refusal.Denied (decision policy facts).rule)) (all facts) ∙ same)

  -- a record that is there, or isn't
  on_record : {A : Type 0} (asked : Request) → outcome_if_allowed policy h day caller asked ≡ outcome_of_command h day caller.id asked
      → (facts : A → Facts) (o : Option A)
      → outcome_if_there h day caller.id asked (is_some o) ≡ outcome_by_facts policy h day caller asked (option_map facts o)
  on_record asked same facts None = refl
  on_record asked same facts (Some record_there) = allowed asked same (facts record_there)

  by_request : (asked : Request) → IsTrue (is_command asked) → outcome_on_record h day caller.id asked ≡ outcome_by_request policy h day caller asked
  by_request (AddParty name role token) command = allowed (AddParty name role token) refl (office_facts caller.role (action_of (AddParty name role token)))
  by_request (AddParcel lot address owner) command =
      allowed (AddParcel lot address owner) refl (office_facts caller.role (action_of (AddParcel lot address owner)))
  by_request (Transfer parcel to) command =
      on_record (Transfer parcel to) refl (λ (p : Parcel). parcel_facts h caller parcel Office (action_of (Transfer parcel to))) (parcel_numbered h parcel)
  by_request (Declare parcel) command =
      on_record (Declare parcel) refl (λ (p : Parcel). parcel_facts h caller parcel Office (action_of (Declare parcel))) (parcel_numbered h parcel)
  by_request (File parcel kind valuation description) command =
      on_record (File parcel kind valuation description) refl
      (λ (p : Parcel). parcel_facts h caller parcel New (action_of (File parcel kind valuation description))) (parcel_numbered h parcel)
  by_request (OnFile file command) is =
      on_record (OnFile file command) refl (λ (one : CaseFile). file_facts h day caller one (action_of (OnFile file command))) (case_numbered h file)
  by_request (ReadParcel parcel) command = absurd (false≢true command)
  by_request (ReadFile file) command = absurd (false≢true command)
  by_request (ListFiles filter) command = absurd (false≢true command)
  by_request (Register kind) command = absurd (false≢true command)

  pub as_allowed : (digest : List ℕ) (asked : Request) → IsTrue (is_command asked) → who h digest ≡ Some caller
      → outcome_unjudged h day caller.id asked ≡ step_as policy h digest asked day
  as_allowed digest asked command known =
      ap (outcome_of_party h day caller.id asked) (caller_there h digest caller (sym known))
      ∙ ap (λ (o : Outcome). if nat_lt day (last_day h) then refused h refusal.Clock else o) (by_request asked command)
      ∙ sym (ap (outcome_by_caller policy h day asked) known)
