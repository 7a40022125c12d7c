-- The parts of a path: the number of a parcel or a file, and the word of an action, a stage or a register.
use Rattle.std.specs.Prelude.{ℕ, List, Bool, true, false, Option, option_and_then, codes}
use Rattle.matchit.specs.Params.{named}
use Rattle.permit_base.specs.Limits.{only_if}
use Rattle.permit_base.specs.Stages.{is_file_stage}
use Rattle.permit_base.specs.Words.{action_word, all_actions, stage_word, all_stages, register_word, all_registers, named as spelled}
use Rattle.permit_base.specs.declared.words.Stage.{Stage}
use Rattle.permit_base.specs.declared.words.RegisterKind.{RegisterKind}
use Rattle.permit_base.specs.declared.words.Action.{Action}
use Rattle.permit_base.specs.declared.words.Action.TheVariants as action
use Rattle.permit_routes.specs.Ids.{id_in}

-- the parts that a path's parameters took, by their names
abbrev pub Parts : Type 0
Parts = List (List ℕ × List ℕ)

abbrev pub id_of : Parts → Option ℕ
id_of parts = option_and_then id_in (named (codes "id") parts)

abbrev pub action_of : Parts → Option Action
action_of parts = option_and_then (spelled action_word all_actions) (named (codes "action") parts)

-- a stage that a file can be in
abbrev pub stage_of : Parts → Option Stage
stage_of parts = option_and_then (only_if is_file_stage) (option_and_then (spelled stage_word all_stages) (named (codes "stage") parts))

abbrev pub register_of : Parts → Option RegisterKind
register_of parts = option_and_then (spelled register_word all_registers) (named (codes "name") parts)

-- the actions on a file that is there, and change it
abbrev pub is_command : Action → Bool
is_command action.AddParty = false
is_command action.AddStaff = false
is_command action.AddParcel = false
is_command action.Transfer = false
is_command action.Declare = false
is_command action.ReadParcel = false
is_command action.File = false
is_command action.Read = false
is_command action.List = false
is_command action.AssignReviewer = true
is_command action.AssignInspector = true
is_command action.NameContractor = true
is_command action.StartReview = true
is_command action.Return = true
is_command action.Resubmit = true
is_command action.ApprovePlans = true
is_command action.Reject = true
is_command action.Issue = true
is_command action.AskExtension = true
is_command action.GrantExtension = true
is_command action.RefuseExtension = true
is_command action.BeginWork = true
is_command action.RequestInspection = true
is_command action.ApproveStep = true
is_command action.Notice = true
is_command action.ClearNotice = true
is_command action.Stop = true
is_command action.Lift = true
is_command action.Revoke = true
is_command action.Temporary = true
is_command action.Certify = true
