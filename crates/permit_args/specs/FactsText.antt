-- Facts in one word: ROLE,RELATIONS,ACTION,STAGE,STOPPED,TIMING.
use Rattle.std.specs.Prelude.{ℕ, Bool, true, false, ◌==◌, List, [], ◌∷◌, Option, None, Some, option_and_then, unwrap_or, Result, Ok, Err, codes, bytes_eq, if◌then◌else◌}
use Rattle.std.specs.Result.{result_err, result_ok}
use Rattle.std.specs.List.{slice_split}
use Rattle.permit_base.specs.Words.{named, action_word, all_actions, all_relations, all_roles, all_stages, all_timings, relation_word, role_word}
use Rattle.permit_base.specs.Words.{stage_word, timing_word}
use Rattle.permit_base.specs.declared.words.Action.{Action}
use Rattle.permit_base.specs.declared.words.Relation.{Relation}
use Rattle.permit_base.specs.declared.words.Relation.TheVariants.{Applicant, Contractor, Owner, AssignedReviewer, AssignedInspector, Conflict}
use Rattle.permit_base.specs.declared.words.Relations.{Relations}
use Rattle.permit_base.specs.declared.words.Role.{Role}
use Rattle.permit_base.specs.declared.words.Stage.{Stage}
use Rattle.permit_base.specs.declared.words.Stage.TheVariants.{Filed}
use Rattle.permit_base.specs.declared.words.Timing.TheVariants.{Untimed}
use Rattle.permit_base.specs.declared.words.Timing.{Timing}
use Rattle.permit_model.specs.Facts.{Facts, holds, no_relations}
use Rattle.permit_args.specs.declared.facts.FactsFault.{FactsFault}
use Rattle.permit_args.specs.declared.facts.FactsFault.TheVariants as fault

-- the texts between the letters of this kind
abbrev pub pieces : ℕ → List ℕ → List (List ℕ)
pieces letter text = slice_split (λ b. b == letter) text

-- yes or no, which a hyphen says too
abbrev pub truth_in : List ℕ → Option Bool
truth_in text =
    if bytes_eq text (codes "yes") then Some true
    else (if bytes_eq text (codes "no") then Some false else (if bytes_eq text (codes "-") then Some false else None))

-- the set with one relation more
abbrev pub with_relation : Relations → Relation → Relations
with_relation set Applicant = record set { applicant = true }
with_relation set Contractor = record set { contractor = true }
with_relation set Owner = record set { owner = true }
with_relation set AssignedReviewer = record set { assigned_reviewer = true }
with_relation set AssignedInspector = record set { assigned_inspector = true }
with_relation set Conflict = record set { conflict = true }

-- the relation that a word says isn't there
abbrev pub absent_in : List ℕ → Option Relation
absent_in text =
    if bytes_eq text (codes "not-applicant") then Some Applicant
    else (if bytes_eq text (codes "not-contractor") then Some Contractor
    else (if bytes_eq text (codes "not-owner") then Some Owner
    else (if bytes_eq text (codes "not-assigned-reviewer") then Some AssignedReviewer
    else (if bytes_eq text (codes "not-assigned-inspector") then Some AssignedInspector
    else (if bytes_eq text (codes "not-conflict") then Some Conflict else None)))))

-- the relations that were named, and those that are there, with a word more; none where it names no relation, or one that was named
abbrev pub word_more : Option Relation → Option Relation → Relations → Relations → Option (Relations × Relations)
word_more (Some r) absent seen set = if holds seen r then None else Some (with_relation seen r, with_relation set r)
word_more None (Some r) seen set = if holds seen r then None else Some (with_relation seen r, set)
word_more None None seen set = None

-- the set with the relations of these words more
abbrev pub set_from : Relations → Relations → List (List ℕ) → Option Relations
set_from seen set [] = Some set
set_from seen set (word ∷ words) =
    option_and_then (λ pair. set_from pair.0 pair.1 words) (word_more (named relation_word all_relations word) (absent_in word) seen set)

-- the first of what is read of some texts, each of which has to be read; or what came before
abbrev pub first_from : {A : Type 0} → (List ℕ → Option A) → Option A → List (List ℕ) → Option A
first_from read first [] = first
first_from read first (text ∷ texts) = option_and_then (λ x. first_from read (Some (unwrap_or first x)) texts) (read text)

-- the words of relations joined by +
abbrev pub alternative_in : List ℕ → Option Relations
alternative_in text = set_from no_relations no_relations (pieces 43 text)

-- a hyphen for none, or the first of alternatives between slashes
abbrev pub relations_in : List ℕ → Option Relations
relations_in text = if bytes_eq text (codes "-") then Some no_relations else first_from alternative_in None (pieces 47 text)

-- the same of stages, and of timings
abbrev pub stage_in : List ℕ → Option Stage
stage_in text = if bytes_eq text (codes "-") then Some Filed else first_from (named stage_word all_stages) None (pieces 47 text)

abbrev pub timing_in : List ℕ → Option Timing
timing_in text = if bytes_eq text (codes "-") then Some Untimed else first_from (named timing_word all_timings) None (pieces 47 text)

-- the facts of these parts, or the first of them that isn't there
abbrev pub facts_by : Option Role → Option Relations → Option Action → Option Stage → Option Bool → Option Timing → Result Facts FactsFault
facts_by (Some role) (Some relations) (Some action) (Some stage) (Some stopped) (Some timing) =
    Ok (record { role = role; relations = relations; action = action; stage = stage; stopped = stopped; timing = timing })
facts_by None _ _ _ _ _ = Err fault.Role
facts_by _ None _ _ _ _ = Err fault.Relations
facts_by _ _ None _ _ _ = Err fault.Action
facts_by _ _ _ None _ _ = Err fault.Stage
facts_by _ _ _ _ None _ = Err fault.Stopped
facts_by _ _ _ _ _ None = Err fault.Timing

-- six parts, each a word of its kind; else the number of parts is wrong, or the first part that is no such word
abbrev pub facts_read : List (List ℕ) → Result Facts FactsFault
facts_read (role ∷ relations ∷ action ∷ stage ∷ stopped ∷ timing ∷ []) =
    facts_by (named role_word all_roles role) (relations_in relations) (named action_word all_actions action)
    (stage_in stage) (truth_in stopped) (timing_in timing)
facts_read _ = Err fault.Count

-- the facts of these parts, where they are facts
abbrev pub facts_in : List (List ℕ) → Option Facts
facts_in parts = result_ok (facts_read parts)

-- what is wrong with these parts, where they are no facts
abbrev pub fault_in : List (List ℕ) → Option FactsFault
fault_in parts = result_err (facts_read parts)

-- what is taken in place of the part that is wrong
abbrev pub facts_reason : FactsFault → List ℕ
facts_reason fault.Count = codes "--facts takes ROLE,RELATIONS,ACTION,STAGE,STOPPED,TIMING: six words between commas"
facts_reason fault.Role = codes "--facts: ROLE is public, clerk, reviewer, inspector or official"
facts_reason fault.Relations = codes "--facts: RELATIONS is - or, joined by + and each once, applicant, contractor, owner, assigned-reviewer, assigned-inspector or conflict"
facts_reason fault.Action = codes "--facts: ACTION is add-party, add-staff, add-parcel, transfer, declare, read-parcel, file, read, list, assign-reviewer, assign-inspector, name-contractor, start-review, return, resubmit, approve-plans, reject, issue, ask-extension, grant-extension, refuse-extension, begin-work, request-inspection, approve-step, notice, clear-notice, stop, lift, revoke, temporary or certify"
facts_reason fault.Stage = codes "--facts: STAGE is filed, review, returned, approved, rejected, issued, working, revoked, finaled, certified, abandoned, lapsed, new or office"
facts_reason fault.Stopped = codes "--facts: STOPPED is yes or no"
facts_reason fault.Timing = codes "--facts: TIMING is none, past, near or ahead"
