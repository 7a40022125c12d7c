-- The command on a file that an action and a body make.
use Rattle.std.specs.Prelude.{ℕ, List, Option, Some, None, option_map, codes}
use Rattle.permit_base.specs.Limits.{is_object_number, is_days, is_paper_number}
use Rattle.permit_base.specs.Texts.{is_printable}
use Rattle.permit_base.specs.Words.{step_word, all_steps}
use Rattle.permit_base.specs.declared.words.Step.{Step}
use Rattle.permit_base.specs.declared.words.Action.{Action}
use Rattle.permit_base.specs.declared.words.Action.TheVariants as action
use Rattle.permit_base.specs.declared.request.Command.{Command}
use Rattle.permit_base.specs.declared.request.Command.TheVariants as command
use Rattle.permit_routes.specs.Bodies.{◌>>=◌, object_of, number_at, text_at, word_at}

-- the only key is party
abbrev pub party_in : List ℕ → Option ℕ
party_in body = object_of 1 body >>= number_at is_object_number (codes "party")

-- the only key is text
abbrev pub text_alone : List ℕ → Option (List ℕ)
text_alone body = object_of 1 body >>= text_at is_printable (codes "text")

-- the only key is step
abbrev pub step_in : List ℕ → Option Step
step_in body = object_of 1 body >>= word_at step_word all_steps (codes "step")

-- the only key is paper
abbrev pub paper_in : List ℕ → Option ℕ
paper_in body = object_of 1 body >>= number_at is_paper_number (codes "paper")

-- the keys are days and text
abbrev pub days_and_text : List ℕ → Option (ℕ × List ℕ)
days_and_text body =
    object_of 2 body >>= λ d.
    (number_at is_days (codes "days") d >>= λ days.
    (text_at is_printable (codes "text") d >>= λ text. Some (days, text)))

-- the keys are text and conditions
abbrev pub text_and_conditions : List ℕ → Option (List ℕ × List ℕ)
text_and_conditions body =
    object_of 2 body >>= λ d.
    (text_at is_printable (codes "text") d >>= λ text.
    (text_at is_printable (codes "conditions") d >>= λ conditions. Some (text, conditions)))

-- the command of an action that has no keys
abbrev pub bare_command : Action → Option Command
bare_command action.StartReview = Some command.StartReview
bare_command action.ApprovePlans = Some command.ApprovePlans
bare_command action.Issue = Some command.Issue
bare_command action.GrantExtension = Some command.GrantExtension
bare_command action.BeginWork = Some command.BeginWork
bare_command action.Lift = Some command.Lift
bare_command action.Certify = Some command.Certify
bare_command action.AddParty = None
bare_command action.AddStaff = None
bare_command action.AddParcel = None
bare_command action.Transfer = None
bare_command action.Declare = None
bare_command action.ReadParcel = None
bare_command action.File = None
bare_command action.Read = None
bare_command action.List = None
bare_command action.AssignReviewer = None
bare_command action.AssignInspector = None
bare_command action.NameContractor = None
bare_command action.Return = None
bare_command action.Resubmit = None
bare_command action.Reject = None
bare_command action.AskExtension = None
bare_command action.RefuseExtension = None
bare_command action.RequestInspection = None
bare_command action.ApproveStep = None
bare_command action.Notice = None
bare_command action.ClearNotice = None
bare_command action.Stop = None
bare_command action.Revoke = None
bare_command action.Temporary = None

-- the command of an action whose body has the key text alone, or no key
abbrev pub text_command : Action → List ℕ → Option Command
text_command action.Return body = option_map command.Return (text_alone body)
text_command action.Resubmit body = option_map command.Resubmit (text_alone body)
text_command action.Reject body = option_map command.Reject (text_alone body)
text_command action.RefuseExtension body = option_map command.RefuseExtension (text_alone body)
text_command action.Notice body = option_map command.Notice (text_alone body)
text_command action.Revoke body = option_map command.Revoke (text_alone body)
text_command other body = object_of 0 body >>= λ d. bare_command other

-- the command that an action and a body make
abbrev pub command_of : Action → List ℕ → Option Command
command_of action.AssignReviewer body = option_map command.AssignReviewer (party_in body)
command_of action.AssignInspector body = option_map command.AssignInspector (party_in body)
command_of action.NameContractor body = option_map command.NameContractor (party_in body)
command_of action.AskExtension body = option_map (λ d. command.AskExtension d.0 d.1) (days_and_text body)
command_of action.Temporary body = option_map (λ d. command.Temporary d.0 d.1) (days_and_text body)
command_of action.RequestInspection body = option_map command.RequestInspection (step_in body)
command_of action.ApproveStep body = option_map command.ApproveStep (step_in body)
command_of action.ClearNotice body = option_map command.ClearNotice (paper_in body)
command_of action.Stop body = option_map (λ d. command.Stop d.0 d.1) (text_and_conditions body)
command_of other body = text_command other body
