-- The work on a file after an admitted command: each column of the row stays sound.
use Rattle.std.proofs.Common.{◌≡◌, ◌≤◌, ◌<◌, ℕ, zero, suc, ◌+◌, Bool, true, false, not, ◌==◌, List, [], ◌∷◌, length, refl, sym, ◌∙◌, ap, arith}
use Rattle.std.specs.Prelude.{Option, None, Some, is_some, is_none, filter, ◌&&◌, ◌||◌, slice_get, unwrap_or}
use Rattle.std.proofs.lemmas.Bool.{eqb-true, ne_eqb, lt-ltb, ltb-false, and_from, and_parts}
use Rattle.permit_base.specs.Limits.{is_between}
use Rattle.permit_base.specs.declared.words.Edition.{Edition}
use Rattle.permit_base.specs.declared.words.Edition.TheVariants as edition
use Rattle.permit_base.specs.declared.words.Kind.{Kind}
use Rattle.permit_base.specs.declared.words.Kind.TheVariants.{Construct, Enlarge, Alter, Repair, Move as ToMove, Demolish, Occupancy}
use Rattle.permit_base.specs.declared.words.Step.{Step}
use Rattle.permit_base.specs.declared.words.Step.TheVariants.{Final}
use Rattle.permit_base.specs.declared.words.Stage.{Stage}
use Rattle.permit_base.specs.declared.words.Stage.TheVariants as stage
use Rattle.permit_base.specs.declared.request.Command.{Command}
use Rattle.permit_base.specs.declared.request.Command.TheVariants.{Issue, AskExtension, GrantExtension, RefuseExtension, RequestInspection, ApproveStep}
use Rattle.permit_base.specs.declared.request.Command.TheVariants.{Notice, ClearNotice, Stop, Lift, Temporary, Certify}
use Rattle.permit_core.specs.declared.people.People.{People}
use Rattle.permit_core.specs.Views.{row_stage}
use Rattle.permit_core.specs.RowTests.{row_tests}
use Rattle.permit_core.specs.RowAfter.{row_after}
use Rattle.permit_model.specs.Codes.{is_step}
use Rattle.permit_model.specs.Days.{is_past, longest_permit_extension, longest_temporary}
use Rattle.permit_model.specs.Effects.{effects}
use Rattle.permit_model.specs.Steps.{required_steps, has_certificates}
use Rattle.permit_model.specs.Admission.{ask_limit}
use Rattle.permit_model.specs.Tables.{State, Paper, next_in_row}
use Rattle.permit_model.specs.SoundState.{is_stored, is_completed, is_certified, is_for, is_finished, request_dated, IsSoundState}
use Rattle.permit_model.specs.Within.{is_command_within}
use Rattle.permit_model.specs.Sound.{if_any, is_begun, may_be_stopped, is_occupied, is_done_in, longest_ask, has_sound_request, has_sound_certificate}
use Rattle.permit_model.specs.Sound.{has_sound_notices}
use Rattle.permit_model.proofs.Fronts.{AllPass, same_step, is_it}
use Rattle.permit_model.proofs.SoundLists.{between, any_more, passed_not, between_later}
use Rattle.permit_model.proofs.SoundWork.{ends_final, longest_of_all, limit_kept, least_days}
use Rattle.permit_model.proofs.Stages.{stoppable_from, timed_from}
use Rattle.permit_office.proofs.RowStages.{was_in, Move, FiledToReview, ApprovedToIssued, IssuedToWorking}
use Rattle.permit_office.proofs.RowStages.{IssuedToRevoked, WorkingToRevoked, stage_from, stage_to, moved, kept_by}

-- the stage before is none of these
nowhere : (admits : Stage → Bool) (s was : Stage) → s ≡ was → admits was ≡ false → admits s ≡ true → ⊥
nowhere admits s was same out e = let bad : true ≡ false = sym e ∙ ap admits same ∙ out in cc

among : (admits : Stage → Bool) (s was : Stage) → s ≡ was → admits was ≡ true → admits s ≡ true
among admits s was same here = ap admits same ∙ here

-- ---- stop work orders

abbrev StoppedIn : State → Type 0
StoppedIn s = s.stopped ≡ true → may_be_stopped s.stage ≡ true

stops_moved : (m : Move) → may_be_stopped (stage_from m) ≡ true → may_be_stopped (stage_to m) ≡ true
stops_moved ApprovedToIssued q = refl
stops_moved IssuedToWorking q = refl
stops_moved IssuedToRevoked q = refl
stops_moved WorkingToRevoked q = refl
stops_moved _ q = cc

stopped_more : (day : ℕ) (command : Command) (s : State) (people : People) → is_stored s.stage ≡ true → AllPass (row_tests day s people command) →
    StoppedIn s → StoppedIn (row_after day command s)
stopped_more day Certify s people stored p h = λ e. let bad : true ≡ false = sym e ∙ p.1.0 in cc
stopped_more day (ApproveStep Final) s people stored p h = λ e. refl
stopped_more day (Stop text conditions) s people stored p h = λ e. stoppable_from s.stage (is_past day s.deadline) stored p.0
stopped_more day Lift s people stored p h = λ e. stoppable_from s.stage (is_past day s.deadline) stored p.0
stopped_more day command s people stored p h = λ e.
    kept_by (λ x. may_be_stopped x ≡ true) stops_moved s.stage (unwrap_or ((effects command).stage) s.stage)
    (moved day command s people stored p refl) (h e)

-- ---- requests

abbrev RequestIn : State → Type 0
RequestIn s = is_some s.request ≡ true → is_begun s.stage ≡ true

begun_moved : (m : Move) → is_begun (stage_from m) ≡ true → is_begun (stage_to m) ≡ true
begun_moved IssuedToWorking q = refl
begun_moved IssuedToRevoked q = refl
begun_moved WorkingToRevoked q = refl
begun_moved _ q = cc

request_more : (day : ℕ) (command : Command) (s : State) (people : People) → is_stored s.stage ≡ true → AllPass (row_tests day s people command) →
    RequestIn s → RequestIn (row_after day command s)
request_more day (RequestInspection step) s people stored p h = λ e. among is_begun s.stage stage.Working (was_in day s stage.Working refl p.0) refl
request_more day (ApproveStep step) s people stored p h = λ e. cc
request_more day (Notice text) s people stored p h = λ e. cc
request_more day Certify s people stored p h = λ e.
    absurd (nowhere is_begun s.stage stage.Finaled (was_in day s stage.Finaled refl p.0) refl (h e))
request_more day command s people stored p h = λ e.
    kept_by (λ x. is_begun x ≡ true) begun_moved s.stage (unwrap_or ((effects command).stage) s.stage)
    (moved day command s people stored p refl) (h e)

requested_more : (last day : ℕ) (command : Command) (s : State) → s.filed ≤ day → last ≤ day → if_any (is_between s.filed last) s.requested ≡ true →
    if_any (is_between s.filed day) (row_after day command s).requested ≡ true
requested_more last day (RequestInspection step) s late later h = between s.filed day day late (omega arith)
requested_more last day (ApproveStep step) s late later h = refl
requested_more last day (Notice text) s late later h = refl
requested_more last day _ s late later h =
    any_more (is_between s.filed last) (is_between s.filed day) s.requested (λ n. between_later s.filed last day n later) h

-- ---- asks

abbrev pub AskIn : State → Type 0
AskIn s = if_any (is_between 1 (longest_ask s.stage)) s.ask ≡ true

ask_moved : (m : Move) → longest_ask (stage_from m) ≤ longest_ask (stage_to m)
ask_moved FiledToReview = omega arith
ask_moved _ = omega arith

-- an ask may be as long after the issue as any
pub ask_late : (s : State) → AskIn s → if_any (is_between 1 longest_permit_extension) s.ask ≡ true
ask_late s h = any_more (is_between 1 (longest_ask s.stage)) (is_between 1 longest_permit_extension) s.ask
    (λ n. between_later 1 (longest_ask s.stage) longest_permit_extension n (longest_of_all s.stage)) h

ask_more : (day : ℕ) (command : Command) (s : State) (people : People) → is_stored s.stage ≡ true → AllPass (row_tests day s people command) →
    is_command_within command ≡ true → AskIn s → AskIn (row_after day command s)
ask_more day Issue s people stored p within h = refl
ask_more day (AskExtension days text) s people stored p within h =
    let same : row_stage day s ≡ s.stage = timed_from s.stage (is_past day s.deadline) p.0 in
    let small : days ≤ ask_limit (row_stage day s) = ltb-false (ask_limit (row_stage day s)) days p.1.0 in
    between 1 (longest_ask s.stage) days (least_days days text within) (omega (arith, small, ap ask_limit same, limit_kept s.stage))
ask_more day GrantExtension s people stored p within h = refl
ask_more day (RefuseExtension text) s people stored p within h = refl
ask_more day (ApproveStep Final) s people stored p within h = ask_late s h
ask_more day Certify s people stored p within h = ask_late s h
ask_more day command s people stored p within h =
    kept_by (λ x. if_any (is_between 1 (longest_ask x)) s.ask ≡ true)
    (λ m. any_more (is_between 1 (longest_ask (stage_from m))) (is_between 1 (longest_ask (stage_to m))) s.ask
    (λ n. between_later 1 (longest_ask (stage_from m)) (longest_ask (stage_to m)) n (ask_moved m)))
    s.stage (unwrap_or ((effects command).stage) s.stage) (moved day command s people stored p refl) h

-- ---- temporary certificates

ends_more : (last day : ℕ) (command : Command) (s : State) (people : People) → AllPass (row_tests day s people command) →
    is_command_within command ≡ true → s.filed ≤ day → last ≤ day → if_any (is_between (s.filed + 1) (last + longest_temporary)) s.temporary ≡ true →
    if_any (is_between (s.filed + 1) (day + longest_temporary)) (row_after day command s).temporary ≡ true
ends_more last day (Temporary days text) s people p within late later h =
    between (s.filed + 1) (day + longest_temporary) (day + days) (omega (arith, late, least_days days text within))
    (omega (arith, ltb-false longest_temporary days p.1.1.0))
ends_more last day _ s people p within late later h =
    any_more (is_between (s.filed + 1) (last + longest_temporary)) (is_between (s.filed + 1) (day + longest_temporary)) s.temporary
    (λ n. between_later (s.filed + 1) (last + longest_temporary) (day + longest_temporary) n (omega (arith, later))) h

abbrev CertificateIn : State → Type 0
CertificateIn s = is_some s.temporary ≡ true → (is_occupied s.stage && has_certificates s.kind) ≡ true

occupied_moved : (m : Move) → is_occupied (stage_from m) ≡ true → is_occupied (stage_to m) ≡ true
occupied_moved IssuedToWorking q = refl
occupied_moved IssuedToRevoked q = refl
occupied_moved WorkingToRevoked q = refl
occupied_moved _ q = cc

certificate_more : (day : ℕ) (command : Command) (s : State) (people : People) → is_stored s.stage ≡ true → AllPass (row_tests day s people command) →
    CertificateIn s → CertificateIn (row_after day command s)
certificate_more day (ApproveStep Final) s people stored p h = λ e. (and_parts (is_occupied s.stage) (has_certificates s.kind) (h e)).1
certificate_more day (Temporary days text) s people stored p h = λ e.
    and_from _ _ (among is_occupied s.stage stage.Working (was_in day s stage.Working refl p.0) refl) (passed_not (has_certificates s.kind) p.1.1.1.1.0)
certificate_more day Certify s people stored p h = λ e. (and_parts (is_occupied s.stage) (has_certificates s.kind) (h e)).1
certificate_more day command s people stored p h = λ e.
    let was = and_parts (is_occupied s.stage) (has_certificates s.kind) (h e) in
    and_from _ _ (kept_by (λ x. is_occupied x ≡ true) occupied_moved s.stage (unwrap_or ((effects command).stage) s.stage)
    (moved day command s people stored p refl) was.0) was.1

-- ---- notices

abbrev NoticesIn : State → Type 0
NoticesIn s = 0 < s.notices → is_begun s.stage ≡ true

notices_more : (day : ℕ) (command : Command) (s : State) (people : People) → is_stored s.stage ≡ true → AllPass (row_tests day s people command) →
    NoticesIn s → NoticesIn (row_after day command s)
notices_more day (ApproveStep Final) s people stored p h = λ e. absurd (omega (arith, ltb-false 0 s.notices p.1.1.1.1.0, e))
notices_more day (Notice text) s people stored p h = λ e. among is_begun s.stage stage.Working (was_in day s stage.Working refl p.0) refl
notices_more day (ClearNotice paper) s people stored p h = λ e. among is_begun s.stage stage.Working (was_in day s stage.Working refl p.0) refl
notices_more day Certify s people stored p h = λ e.
    absurd (nowhere is_begun s.stage stage.Finaled (was_in day s stage.Finaled refl p.0) refl (h e))
notices_more day command s people stored p h = λ e.
    kept_by (λ x. is_begun x ≡ true) begun_moved s.stage (unwrap_or ((effects command).stage) s.stage)
    (moved day command s people stored p refl) (h e)

-- ---- steps done

required_end : (e : Edition) (kind : Kind) → ends_final (required_steps e kind) ≡ true
required_end edition.First Construct = refl
required_end edition.Second Construct = refl
required_end edition.First Enlarge = refl
required_end edition.Second Enlarge = refl
required_end edition.First Alter = refl
required_end edition.Second Alter = refl
required_end e Repair = refl
required_end e ToMove = refl
required_end e Demolish = refl
required_end e Occupancy = refl

some_steps : (steps : List Step) → ends_final steps ≡ true → 0 < length steps
some_steps [] e = cc
some_steps (step ∷ later) e = omega arith

-- after a step that doesn't finish the work there is another
more_steps : (steps : List Step) (n : ℕ) (step : Step) → ends_final steps ≡ true → slice_get steps n ≡ Some step → is_step step Final ≡ false →
    suc n < length steps
more_steps [] n step ends there other = cc
more_steps (first ∷ []) zero step ends there other =
    let same : first ≡ step = ap (λ o. unwrap_or o first) there in
    let bad : true ≡ false = sym ends ∙ ap (λ s. is_step s Final) same ∙ other in cc
more_steps (first ∷ []) (suc n) step ends there other = cc
more_steps (first ∷ next ∷ later) zero step ends there other = omega arith
more_steps (first ∷ next ∷ later) (suc n) step ends there other = omega (arith, more_steps (next ∷ later) n step ends there other)

abbrev required : State → ℕ
required s = length (required_steps s.edition s.kind)

abbrev DoneIn : State → Type 0
DoneIn s = is_done_in s.stage (required s) s.done ≡ true

done_moved : (m : Move) (most done : ℕ) → 0 < most → is_done_in (stage_from m) most done ≡ true → is_done_in (stage_to m) most done ≡ true
done_moved IssuedToWorking most done some q = lt-ltb done most (omega (arith, eqb-true done 0 q, some))
done_moved IssuedToRevoked most done some q = lt-ltb done most (omega (arith, eqb-true done 0 q, some))
done_moved _ most done some q = q

for_step : (step : Step) (next : Option Step) → is_for (Some step) next ≡ true → next ≡ Some step
for_step step None h = cc
for_step step (Some next) h = ap Some (same_step next step h)

-- the step that is approved is the next one, and there is another after it
step_done : (day : ℕ) (s : State) (step : Step) → s.stage ≡ stage.Working → is_for s.request (next_in_row s) ≡ true → s.request ≡ Some step →
    is_step step Final ≡ false → is_done_in s.stage (required s) (s.done + 1) ≡ true
step_done day s step was for_next asked other =
    let next : next_in_row s ≡ Some step = for_step step (next_in_row s) (ap (λ o. is_for o (next_in_row s)) (sym asked) ∙ for_next) in
    let more : suc s.done < required s = more_steps (required_steps s.edition s.kind) s.done step (required_end s.edition s.kind) next other in
    ap (λ x. is_done_in x (required s) (s.done + 1)) was ∙ lt-ltb (s.done + 1) (required s) (omega (arith, more))

-- a finaled file is finished
finished : (s : State) → IsSoundState s → is_completed s.stage ≡ true → is_finished s ≡ true
finished s g e =
    let over = (and_parts _ (not (is_completed s.stage) || is_finished s) (and_parts _ (not (is_certified s.stage) || not s.stopped) g).0).1 in
    rw e at over

done_more : (day : ℕ) (command : Command) (s : State) (people : People) → is_stored s.stage ≡ true → AllPass (row_tests day s people command) →
    IsSoundState (row_after day command s) → is_for s.request (next_in_row s) ≡ true → DoneIn s → DoneIn (row_after day command s)
done_more day (ApproveStep Final) s people stored p g for_next h =
    (and_parts (s.done + 1 == required s) (s.notices == 0) (finished (row_after day (ApproveStep Final) s) g refl)).0
done_more day (ApproveStep step) s people stored p g for_next h =
    step_done day s step (was_in day s stage.Working refl p.0) for_next (is_it s.request step p.1.1.1.0) refl
done_more day Certify s people stored p g for_next h =
    ap (λ x. is_done_in x (required s) s.done) (sym (was_in day s stage.Finaled refl p.0)) ∙ h
done_more day command s people stored p g for_next h =
    kept_by (λ x. is_done_in x (required s) s.done ≡ true)
    (λ m. done_moved m (required s) s.done (some_steps (required_steps s.edition s.kind) (required_end s.edition s.kind)))
    s.stage (unwrap_or ((effects command).stage) s.stage) (moved day command s people stored p refl) h

-- ---- all of it

where_true : (a b : Bool) → (a ≡ true → b ≡ true) → (not a || b) ≡ true
where_true true b e = e refl
where_true false b e = refl

of_true : (a b : Bool) → (not a || b) ≡ true → a ≡ true → b ≡ true
of_true true b h e = h
of_true false b h e = cc

if_some : {A : Type 0} (o : Option A) (b : Bool) → (is_some o ≡ true → b ≡ true) → (is_none o || b) ≡ true
if_some None b e = refl
if_some (Some x) b e = e refl

of_some : {A : Type 0} (o : Option A) (b : Bool) → (is_none o || b) ≡ true → is_some o ≡ true → b ≡ true
of_some None b h e = cc
of_some (Some x) b h e = h

only_where : (n : ℕ) (b : Bool) → (0 < n → b ≡ true) → ((n == 0) || b) ≡ true
only_where zero b e = refl
only_where (suc n) b e = let other : (suc n == 0) ≡ false = ne_eqb (suc n) 0 (omega arith) in rw other (e (omega arith))

of_more : (n : ℕ) (b : Bool) → ((n == 0) || b) ≡ true → 0 < n → b ≡ true
of_more zero b h e = absurd (omega (arith, e))
of_more (suc n) b h e = let other : (suc n == 0) ≡ false = ne_eqb (suc n) 0 (omega arith) in rw other at h

-- the work on a file that has the papers, of a desk with the last day
abbrev pub is_sound_work_on : ℕ → List Paper → State → Bool
is_sound_work_on last papers s =
    is_done_in s.stage (length (required_steps s.edition s.kind)) s.done && has_sound_request last s
    && (not s.stopped || may_be_stopped s.stage) && if_any (is_between 1 (longest_ask s.stage)) s.ask
    && has_sound_certificate last s && has_sound_notices papers s

-- on a later day it is sound as before
pub work_later : (last day : ℕ) (papers : List Paper) (s : State) → last ≤ day → is_sound_work_on last papers s ≡ true →
    is_sound_work_on day papers s ≡ true
work_later last day papers s later sound =
    let notices = and_parts _ (has_sound_notices papers s) sound in
    let certificate = and_parts _ (has_sound_certificate last s) notices.0 in
    let ask = and_parts _ (if_any (is_between 1 (longest_ask s.stage)) s.ask) certificate.0 in
    let stopped = and_parts _ (not s.stopped || may_be_stopped s.stage) ask.0 in
    let request = and_parts (is_done_in s.stage (required s) s.done) (has_sound_request last s) stopped.0 in
    let requested = and_parts _ (if_any (is_between s.filed last) s.requested) request.1 in
    let ends = and_parts (if_any (is_between (s.filed + 1) (last + longest_temporary)) s.temporary)
    (is_none s.temporary || (is_occupied s.stage && has_certificates s.kind)) certificate.1 in
    let later_request : has_sound_request day s ≡ true =
    and_from _ _ requested.0
    (any_more (is_between s.filed last) (is_between s.filed day) s.requested (λ n. between_later s.filed last day n later) requested.1) in
    let later_certificate : has_sound_certificate day s ≡ true =
    and_from _ _ (any_more (is_between (s.filed + 1) (last + longest_temporary)) (is_between (s.filed + 1) (day + longest_temporary)) s.temporary
    (λ n. between_later (s.filed + 1) (last + longest_temporary) (day + longest_temporary) n (omega (arith, later))) ends.0) ends.1 in
    and_from _ _ (and_from _ _ (and_from _ _ (and_from _ _ (and_from _ _ request.0 later_request) stopped.1) ask.1) later_certificate) notices.1

pub work_more : (last day : ℕ) (papers after : List Paper) (command : Command) (s : State) (people : People) → is_stored s.stage ≡ true →
    AllPass (row_tests day s people command) → IsSoundState (row_after day command s) → is_command_within command ≡ true → s.filed ≤ day → last ≤ day →
    ((row_after day command s).notices == length (filter (λ (p : Paper). p.is_open) after)) ≡ true → is_sound_work_on last papers s ≡ true →
    is_sound_work_on day after (row_after day command s) ≡ true
work_more last day papers after command s people stored p g within late later counted sound =
    let u = row_after day command s in
    let notices = and_parts _ (has_sound_notices papers s) sound in
    let certificate = and_parts _ (has_sound_certificate last s) notices.0 in
    let ask = and_parts _ (if_any (is_between 1 (longest_ask s.stage)) s.ask) certificate.0 in
    let stopped = and_parts _ (not s.stopped || may_be_stopped s.stage) ask.0 in
    let request = and_parts (is_done_in s.stage (required s) s.done) (has_sound_request last s) stopped.0 in
    let requested = and_parts _ (if_any (is_between s.filed last) s.requested) request.1 in
    let begun = and_parts _ (is_none s.request || is_begun s.stage) requested.0 in
    let dated = and_parts (is_for s.request (next_in_row s)) (request_dated s) begun.0 in
    let ends = and_parts (if_any (is_between (s.filed + 1) (last + longest_temporary)) s.temporary)
    (is_none s.temporary || (is_occupied s.stage && has_certificates s.kind)) certificate.1 in
    let noticed = and_parts _ ((s.notices == 0) || is_begun s.stage) notices.1 in
    let state = and_parts _ (not (is_completed u.stage) || is_finished u) (and_parts _ (not (is_certified u.stage) || not u.stopped) g).0 in
    let state_dated = and_parts _ (request_dated u) state.0 in
    let state_request = and_parts _ (is_for u.request (next_in_row u)) state_dated.0 in
    let later_request : has_sound_request day u ≡ true =
    and_from _ _ (and_from _ _ (and_from _ _ state_request.1 state_dated.1)
    (if_some u.request (is_begun u.stage)
    (request_more day command s people stored p (of_some s.request (is_begun s.stage) begun.1))))
    (requested_more last day command s late later requested.1) in
    let later_certificate : has_sound_certificate day u ≡ true =
    and_from _ _ (ends_more last day command s people p within late later ends.0)
    (if_some u.temporary (is_occupied u.stage && has_certificates u.kind)
    (certificate_more day command s people stored p (of_some s.temporary (is_occupied s.stage && has_certificates s.kind) ends.1))) in
    let later_notices : has_sound_notices after u ≡ true =
    and_from _ _ counted (only_where u.notices (is_begun u.stage)
    (notices_more day command s people stored p (of_more s.notices (is_begun s.stage) noticed.1))) in
    and_from _ _ (and_from _ _ (and_from _ _ (and_from _ _ (and_from _ _ (done_more day command s people stored p g dated.0 request.0) later_request)
    (where_true u.stopped (may_be_stopped u.stage)
    (stopped_more day command s people stored p (of_true s.stopped (may_be_stopped s.stage) stopped.1))))
    (ask_more day command s people stored p within ask.1)) later_certificate) later_notices
