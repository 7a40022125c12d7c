-- The scripts of the worked examples, whose values are written on the functions of this crate.
use Rattle.std.specs.Prelude.{ℕ, false, List, [], ◌∷◌, ◌++◌, map, length, Option, None, Some, codes}
use Rattle.permit_base.specs.declared.words.Role.TheVariants.{Public, Clerk, Reviewer, Inspector}
use Rattle.permit_base.specs.declared.words.Role.{Role}
use Rattle.permit_base.specs.declared.words.Edition.TheVariants.{First}
use Rattle.permit_base.specs.declared.words.Kind.TheVariants.{Construct, Alter, Repair}
use Rattle.permit_base.specs.declared.words.Step.TheVariants.{Footing, Slab, Frame, Lath, Final}
use Rattle.permit_base.specs.declared.words.Stage.TheVariants as stage
use Rattle.permit_base.specs.declared.refusal.Refusal.TheVariants as refusal
use Rattle.permit_base.specs.declared.request.Filter.TheVariants.{All}
use Rattle.permit_base.specs.declared.request.Command.{Command}
use Rattle.permit_base.specs.declared.request.Command.TheVariants.{AssignReviewer, AssignInspector, NameContractor, StartReview, Return, Resubmit, ApprovePlans}
use Rattle.permit_base.specs.declared.request.Command.TheVariants.{Reject, Issue, AskExtension, GrantExtension, RefuseExtension, BeginWork, RequestInspection}
use Rattle.permit_base.specs.declared.request.Command.TheVariants.{ApproveStep, Notice, ClearNotice, Stop, Lift, Revoke, Temporary}
use Rattle.permit_base.specs.declared.request.Request.{Request}
use Rattle.permit_base.specs.declared.request.Request.TheVariants.{AddParty, AddParcel, Transfer, Declare, ReadParcel, File, ReadFile, ListFiles, Register}
use Rattle.permit_base.specs.declared.request.Request.TheVariants.{OnFile}
use Rattle.permit_model.specs.History.{Founding, Accepted, Entry, History}
use Rattle.permit_model.specs.Caller.{party_numbered}
use Rattle.permit_model.specs.Machine.{Reply, Done, FileShown, Listed, RegisterShown, Refused, Outcome, outcome_by_caller}
use Rattle.permit_model.specs.StandardPolicy.{standard_policy}
use Rattle.permit_base.specs.declared.words.Step.{Step}
use Rattle.permit_base.specs.declared.words.Stage.{Stage}
use Rattle.permit_base.specs.declared.words.Timing.{Timing}
use Rattle.permit_base.specs.declared.words.Kind.{Kind}
use Rattle.permit_base.specs.declared.words.PaperSort.{PaperSort}
use Rattle.permit_base.specs.declared.refusal.Reason.{Reason}
use Rattle.permit_model.specs.Tables.{State, tables}
use Rattle.permit_base.specs.declared.words.Relation.TheVariants as relation
use Rattle.permit_base.specs.declared.words.Action.TheVariants as action
use Rattle.permit_model.specs.Caller.{Party}
use Rattle.permit_base.specs.declared.words.Effect.TheVariants.{Allow, Deny}
use Rattle.permit_model.specs.Policy.{Policy, OneOf, Both}
use Rattle.permit_model.specs.Opened.{opened, allowed_by}
use Rattle.permit_model.specs.Routes.{routes_of}
use Rattle.permit_model.specs.HallRun.{Event, Put, Take, Collect}
use Rattle.permit_base.specs.declared.request.Asked.{Asked}
use Rattle.permit_base.specs.declared.request.Filter.{Filter}
use Rattle.permit_base.specs.declared.words.RegisterKind.{RegisterKind}
use Rattle.permit_model.specs.Register.{register_text}

-- ---- the office in which the examples begin

-- the founding by party 1, an official, on 19700
abbrev pub founded : History
founded = record { caller = 1; day = 19700; deed = Founding (codes "Chief") (codes "0"); number = Some 1 } ∷ []

-- a command of party 1 on the founding day, and the number of what it made
abbrev pub done_first : Request → ℕ → Entry
done_first request number = record { caller = 1; day = 19700; deed = Accepted request; number = Some number }

-- 2 a clerk, 3 a reviewer, 4 and 7 inspectors, 5 and 6 of the public; parcel 1 of party 5, parcel 2 of party 6
abbrev pub opening : History
opening =
    done_first (AddParcel (codes "A-2") (codes "2 Main St") 6) 2
    ∷ done_first (AddParcel (codes "A-1") (codes "1 Main St") 5) 1
    ∷ done_first (AddParty (codes "Ivy") Inspector (codes "g")) 7
    ∷ done_first (AddParty (codes "Pat") Public (codes "f")) 6
    ∷ done_first (AddParty (codes "Sam") Public (codes "e")) 5
    ∷ done_first (AddParty (codes "Ian") Inspector (codes "d")) 4
    ∷ done_first (AddParty (codes "Rae") Reviewer (codes "c")) 3
    ∷ done_first (AddParty (codes "Cal") Clerk (codes "b")) 2
    ∷ founded

-- ---- playing a script

-- a party asks on a day
pub record Turn : Type 0 where
  pub party : ℕ
  pub day : ℕ
  pub request : Request

-- a turn is a step under the standard policy
abbrev pub turn : History → Turn → Outcome
turn h t = outcome_by_caller standard_policy h t.day t.request (party_numbered h t.party)

-- the replies to turns, in order
abbrev pub replies : List Turn → History → List Reply
replies [] h = []
replies (t ∷ ts) h = (turn h t).reply ∷ replies ts (turn h t).history

-- the history after turns
abbrev pub after : List Turn → History → History
after [] h = h
after (t ∷ ts) h = after ts (turn h t).history

-- the party asks this on the day
abbrev pub asks : ℕ → ℕ → Request → Turn
asks party day request = record { party = party; day = day; request = request }

-- done, with no number
abbrev pub done : Reply
done = Done None

-- done, and what was made has this number
abbrev pub made : ℕ → Reply
made n = Done (Some n)

-- denied by the rule
abbrev pub denied : List ℕ → Reply
denied rule = Refused (refusal.Denied rule)

-- not admitted, for the reason
abbrev pub not_admitted : Reason → Reply
not_admitted why = Refused (refusal.NotAdmitted why)

-- a command on file 1
abbrev pub on_one : ℕ → ℕ → Command → Turn
on_one party day command = asks party day (OnFile 1 command)

-- what is read of a file: its stage, timing and deadline
abbrev pub shown : Reply → Option (Stage × Timing × Option ℕ)
shown (FileShown view papers) = Some (view.stage, view.timing, view.row.state.deadline)
shown _ = None

-- the row that is read of a file, without its number, valuation and description
abbrev pub state_shown : Reply → Option State
state_shown (FileShown view papers) = Some view.row.state
state_shown _ = None

-- the reply to one more turn
abbrev pub last_reply : List Turn → Turn → History → Reply
last_reply ts t h = (turn (after ts h) t).reply

-- what party 1 reads of file 1 on a day, after the turns
abbrev pub read_by_official : List Turn → ℕ → Reply
read_by_official ts day = last_reply ts (asks 1 day (ReadFile 1)) opening

-- its stage, timing and deadline
abbrev pub read_after : List Turn → ℕ → Option (Stage × Timing × Option ℕ)
read_after ts day = shown (read_by_official ts day)

-- its row
abbrev pub state_after : List Turn → ℕ → Option State
state_after ts day = state_shown (read_by_official ts day)

-- the sort, the days, the text and the terms of each paper
abbrev pub papers_after : List Turn → List (PaperSort × ℕ × List ℕ × List ℕ)
papers_after ts = map (λ p. (p.sort, p.days, p.text, p.terms)) (tables (after ts opening)).papers

-- the reply to a party's request under a policy
abbrev pub reply_under : Policy → History → ℕ → ℕ → Request → Reply
reply_under policy h party day request = (outcome_by_caller policy h day request (party_numbered h party)).reply

-- the numbers of the files of a listing
abbrev pub numbers : Reply → List ℕ
numbers (Listed files) = map (λ v. v.row.id) files
numbers _ = []

-- how many rows are opened for the party
abbrev pub rows_opened : Policy → History → ℕ → Option Party → Filter → ℕ
rows_opened policy h day None wanted = 0
rows_opened policy h day (Some caller) wanted = length (opened policy h day caller wanted)

-- how many rows a listing opens for the party with the number
abbrev pub opened_by_filter : Policy → History → ℕ → ℕ → Filter → ℕ
opened_by_filter policy h party day wanted = rows_opened policy h day (party_numbered h party) wanted

-- how many rows a listing of all files opens for the party with the number
abbrev pub opened_for : Policy → History → ℕ → ℕ → ℕ
opened_for policy h party day = opened_by_filter policy h party day All

-- how many selections a listing makes for a role
abbrev pub selections : Policy → Role → Filter → ℕ
selections policy role wanted = length (routes_of (allowed_by policy role action.List) wanted)

-- ---- files

-- a file of party 5 on parcel 1, reviewed by 3, its plans approved
abbrev pub approved_file : Kind → ℕ → List Turn
approved_file kind day =
    asks 5 day (File 1 kind 25000000 (codes "House"))
    ∷ on_one 2 day (AssignReviewer 3)
    ∷ on_one 5 day (NameContractor 6)
    ∷ on_one 3 day StartReview
    ∷ on_one 3 day ApprovePlans
    ∷ []

-- the same, with inspector 4, issued on 19800 and begun on 19810
abbrev pub begun_file : Kind → List Turn
begun_file kind = approved_file kind 19790 ++ on_one 2 19800 (AssignInspector 4) ∷ on_one 1 19800 Issue ∷ on_one 6 19810 BeginWork ∷ []

-- a step requested and approved
abbrev pub inspected : ℕ → Step → List Turn
inspected day step = on_one 6 day (RequestInspection step) ∷ on_one 4 day (ApproveStep step) ∷ []

-- party 5 files construction on parcel 1 on 19723
abbrev pub file_house : Turn
file_house = asks 5 19723 (File 1 Construct 25000000 (codes "House"))

-- the row of that file
abbrev pub house_state : State
house_state = record {
  parcel = 1;
  applicant = 5;
  contractor = None;
  reviewer = None;
  inspector = None;
  kind = Construct;
  edition = First;
  filed = 19723;
  stage = stage.Filed;
  deadline = Some 19903;
  done = 0;
  request = None;
  requested = None;
  ask = None;
  stopped = false;
  notices = 0;
  papers = 0;
  temporary = None;
}

-- a file of this row, valuation and description, as it is shown with a stage and a timing and without papers
abbrev pub file_shown : State → ℕ → List ℕ → Stage → Timing → Reply
file_shown state valuation description stage timing =
    FileShown (record { row = record { id = 1; state = state; valuation = valuation; description = description }; stage = stage; timing = timing }) []

-- the file as it is shown with a stage and a timing
abbrev pub house_shown : Stage → Timing → Reply
house_shown stage timing = file_shown house_state 25000000 (codes "House") stage timing

-- on the deadline day 91 days are asked, then 90, which are granted
abbrev pub extended_house : List Turn
extended_house = file_house ∷ on_one 5 19903 (AskExtension 91 (codes "Ill")) ∷ on_one 5 19903 (AskExtension 90 (codes "Ill")) ∷ on_one 1 19903 GrantExtension
    ∷ []

-- four asks before issuance, of which one is refused and one is closed by it
abbrev pub ask_turns : List Turn
ask_turns =
    file_house
    ∷ on_one 5 19730 (AskExtension 30 (codes "Ill")) ∷ on_one 1 19730 (RefuseExtension (codes "No")) ∷ on_one 5 19730 (AskExtension 60 (codes "Ill"))
    ∷ on_one 5 19730 (AskExtension 10 (codes "Ill"))
    ∷ on_one 2 19740 (AssignReviewer 3) ∷ on_one 3 19740 StartReview ∷ on_one 3 19740 ApprovePlans ∷ on_one 1 19740 Issue ∷ on_one 1 19740 GrantExtension ∷ []

-- 90 days are asked when the application is filed, and its plans are reviewed, returned, sent again and approved
abbrev pub reviewed_with_ask : List Turn
reviewed_with_ask =
    file_house ∷ on_one 5 19723 (AskExtension 90 (codes "Ill")) ∷ on_one 2 19730 (AssignReviewer 3) ∷ on_one 5 19730 (NameContractor 6)
    ∷ on_one 3 19730 StartReview ∷ on_one 3 19735 (Return (codes "No plan")) ∷ on_one 5 19740 (Resubmit (codes "Plan")) ∷ on_one 3 19745 ApprovePlans
    ∷ on_one 2 19745 (AssignInspector 4) ∷ []

-- the same, with the days granted
abbrev pub reviewed_and_granted : List Turn
reviewed_and_granted = reviewed_with_ask ++ on_one 1 19745 GrantExtension ∷ []

-- a permit issued on 19800
abbrev pub issued_file : List Turn
issued_file = approved_file Construct 19790 ++ on_one 1 19800 Issue ∷ []

-- the same, extended by 100 days
abbrev pub extended_file : List Turn
extended_file = issued_file ++ on_one 5 19800 (AskExtension 100 (codes "Ill")) ∷ on_one 1 19800 GrantExtension ∷ []

-- the same, with work begun on 19810
abbrev pub begun_extended_file : List Turn
begun_extended_file = extended_file ++ on_one 6 19810 BeginWork ∷ []

-- the same, with an inspection requested on 20000
abbrev pub requested_file : List Turn
requested_file = begun_extended_file ++ on_one 6 20000 (RequestInspection Footing) ∷ []

-- the same permit, with 100 days asked before work began and granted after it
abbrev pub late_grant : List Turn
late_grant = issued_file ++ on_one 5 19800 (AskExtension 100 (codes "Ill")) ∷ on_one 6 19810 BeginWork ∷ on_one 1 19820 GrantExtension ∷ []

-- an application that its reviewer returns
abbrev pub returned_file : List Turn
returned_file =
    file_house ∷ on_one 2 19723 (AssignReviewer 3) ∷ on_one 3 19730 StartReview ∷ on_one 3 19730 (Return (codes "No plan")) ∷ []

-- its plans are approved in vain, and it is resubmitted twice
abbrev pub resubmitted_file : List Turn
resubmitted_file = returned_file ++ on_one 3 19730 ApprovePlans ∷ on_one 5 19740 (Resubmit (codes "Plan")) ∷ on_one 5 19740 (Resubmit (codes "Plan")) ∷ []

-- the same, rejected twice
abbrev pub rejected_file : List Turn
rejected_file = resubmitted_file ++ on_one 3 19750 (Reject (codes "Too tall")) ∷ on_one 3 19750 (Reject (codes "Too tall")) ∷ []

-- the clerk transfers the parcel of a file in review to its reviewer
abbrev pub review_of_own : List Turn
review_of_own = file_house ∷ on_one 2 19723 (AssignReviewer 3) ∷ on_one 3 19723 StartReview ∷ asks 2 19723 (Transfer 1 3) ∷ []

-- party 7 declares an interest before the assignment, party 4 after it
abbrev pub interest_turns : List Turn
interest_turns =
    asks 7 19790 (Declare 1) ∷ approved_file Construct 19790
    ++ on_one 2 19790 (AssignInspector 7) ∷ on_one 2 19790 (AssignInspector 4) ∷ on_one 1 19800 Issue ∷ on_one 6 19810 BeginWork
    ∷ on_one 6 19820 (RequestInspection Footing) ∷ asks 4 19820 (Declare 1) ∷ on_one 4 19820 (ApproveStep Footing) ∷ []

-- a notice at the first inspection of a repair
abbrev pub notice_given : List Turn
notice_given = on_one 6 19820 (RequestInspection Frame) ∷ on_one 4 19820 (Notice (codes "Cracks")) ∷ []

-- the inspection requested again, and approved once the notice is cleared
abbrev pub notice_cleared : List Turn
notice_cleared =
    on_one 6 19830 (RequestInspection Frame) ∷ on_one 4 19830 (ApproveStep Frame) ∷ on_one 4 19830 (ClearNotice 1) ∷ on_one 4 19830 (ClearNotice 2)
    ∷ on_one 4 19830 (ApproveStep Frame) ∷ []

-- two notices at two inspections of a repair, of which the first is cleared twice
abbrev pub one_of_two_cleared : List Turn
one_of_two_cleared =
    notice_given ++ on_one 6 19821 (RequestInspection Frame) ∷ on_one 4 19821 (Notice (codes "Bolts"))
    ∷ on_one 4 19830 (ClearNotice 2) ∷ on_one 4 19830 (ClearNotice 2) ∷ []

-- the inspection requested again, and approved once the second notice is cleared as well
abbrev pub other_cleared : List Turn
other_cleared =
    on_one 6 19830 (RequestInspection Frame) ∷ on_one 4 19830 (ApproveStep Frame) ∷ on_one 4 19830 (ClearNotice 3) ∷ on_one 4 19830 (ApproveStep Frame) ∷ []

-- the step frame of a repair waits for its inspection
abbrev pub pending_repair : History
pending_repair = after (begun_file Repair ++ on_one 6 19820 (RequestInspection Frame) ∷ []) opening

-- the assigned inspector stops the work
abbrev pub stopped_file : List Turn
stopped_file = begun_file Construct ++ on_one 4 19820 (Stop (codes "Unsafe") (codes "Shore it")) ∷ []

-- an inspection is requested in vain, and the order is lifted
abbrev pub lifted_file : List Turn
lifted_file = stopped_file ++ on_one 6 19820 (RequestInspection Footing) ∷ on_one 1 19830 Lift ∷ []

-- all five steps approved
abbrev pub finaled_file : List Turn
finaled_file = begun_file Construct ++ inspected 19820 Footing ++ inspected 19821 Slab ++ inspected 19822 Frame ++ inspected 19823 Lath ++ inspected 19824 Final

-- two temporary certificates, and one that is too long
abbrev pub temporary_turns : List Turn
temporary_turns = on_one 1 19850 (Temporary 60 (codes "Floor 1")) ∷ on_one 1 19860 (Temporary 30 (codes "Floor 1"))
    ∷ on_one 1 19860 (Temporary 181 (codes "Floor 1")) ∷ []

-- a lapsed permit is revoked twice, stopped twice and released
abbrev pub revoking_turns : List Turn
revoking_turns =
    on_one 1 19981 (Revoke (codes "Void")) ∷ on_one 1 19981 (Revoke (codes "Void"))
    ∷ on_one 1 19981 (Stop (codes "Stop") (codes "Leave")) ∷ on_one 1 19981 (Stop (codes "Stop") (codes "Leave")) ∷ on_one 1 19981 Lift ∷ []

-- an ask is refused, a part occupied, a notice given on a later day than the inspection was requested, work stopped and
-- the permit revoked
abbrev pub paper_turns : List Turn
paper_turns =
    on_one 5 19811 (AskExtension 5 (codes "Ill")) ∷ on_one 1 19811 (RefuseExtension (codes "No")) ∷ on_one 1 19812 (Temporary 60 (codes "Floor 1"))
    ∷ on_one 6 19820 (RequestInspection Footing) ∷ on_one 4 19830 (Notice (codes "Cracks"))
    ∷ on_one 4 19831 (Stop (codes "Unsafe") (codes "Shore it")) ∷ on_one 1 19840 (Revoke (codes "Void")) ∷ []

-- ten days are asked at work, a step is approved, a notice given, and the inspection requested again; on a later day the
-- notice is cleared, people are named, a part is occupied, and the work stopped and released
abbrev pub worked_with_ask : List Turn
worked_with_ask =
    on_one 5 19815 (AskExtension 10 (codes "Ill")) ∷ inspected 19816 Frame
    ++ on_one 6 19820 (RequestInspection Lath) ∷ on_one 4 19820 (Notice (codes "Cracks")) ∷ on_one 6 19820 (RequestInspection Lath)
    ∷ on_one 4 19850 (ClearNotice 3) ∷ on_one 2 19850 (AssignInspector 4) ∷ on_one 5 19850 (NameContractor 6) ∷ on_one 1 19850 (Temporary 30 (codes "Floor 1"))
    ∷ on_one 4 19850 (Stop (codes "Unsafe") (codes "Shore it")) ∷ on_one 1 19850 Lift ∷ []

-- the days are granted, and 20 more asked and refused
abbrev pub answered_asks : List Turn
answered_asks = on_one 1 19850 GrantExtension ∷ on_one 5 19850 (AskExtension 20 (codes "Ill")) ∷ on_one 1 19850 (RefuseExtension (codes "No")) ∷ []

-- work begun on a day that no type allows, in place of many extensions
abbrev pub far_turns : List Turn
far_turns = approved_file Construct 199700 ++ on_one 1 199700 Issue ∷ on_one 6 199720 BeginWork ∷ []

-- a file in the stage working with the deadline 199900
abbrev pub far_file : History
far_file = after far_turns opening

-- ---- parcels

-- the clerk transfers a parcel that isn't there, parcel 1 to nobody and to its owner, and twice to party 6; its former
-- owner would transfer it, and both owners read it
abbrev pub transfer_turns : List Turn
transfer_turns =
    asks 2 19723 (Transfer 99 99) ∷ asks 2 19723 (Transfer 1 99) ∷ asks 2 19723 (Transfer 1 5) ∷ asks 2 19723 (Transfer 1 6) ∷ asks 2 19723 (Transfer 1 6)
    ∷ asks 5 19723 (Transfer 1 5) ∷ asks 5 19723 (ReadParcel 1) ∷ asks 6 19723 (ReadParcel 1) ∷ []

-- an inspector declares an interest twice in one parcel, in another one and in one that isn't there; another inspector
-- declares one in the first, and its owner may not
abbrev pub declaring_turns : List Turn
declaring_turns =
    asks 7 19723 (Declare 1) ∷ asks 7 19723 (Declare 1) ∷ asks 7 19723 (Declare 2) ∷ asks 7 19723 (Declare 99) ∷ asks 4 19723 (Declare 1)
    ∷ asks 5 19723 (Declare 1) ∷ []

-- ---- listings

-- file 1 of party 5 on parcel 1, files 2 and 3 of party 6 on parcel 2, party 5 the contractor of file 2
abbrev pub three_files : History
three_files = after
    (file_house ∷ asks 6 19723 (File 2 Repair 100 (codes "Roof")) ∷ asks 6 19723 (File 2 Alter 100 (codes "Wall"))
    ∷ asks 6 19723 (OnFile 2 (NameContractor 5)) ∷ []) opening

-- file 1 of party 5 with the deadline 19903, file 2 of party 6 with the same and in review by 3, file 3 of party 6 with
-- the deadline 19933
abbrev pub staged_files : History
staged_files = after
    (file_house ∷ asks 6 19723 (File 2 Repair 100 (codes "Roof")) ∷ asks 2 19723 (OnFile 2 (AssignReviewer 3)) ∷ asks 3 19723 (OnFile 2 StartReview)
    ∷ asks 6 19753 (File 2 Alter 100 (codes "Wall")) ∷ []) opening

-- the numbers of the files that a party lists on a day, in these files
abbrev pub lists : ℕ → ℕ → Filter → List ℕ
lists party day wanted = numbers (turn staged_files (asks party day (ListFiles wanted))).reply

-- owners are denied, and assigned reviewers may list
abbrev pub own_denied : Policy
own_denied =
    record {
      name = codes "not-own";
      effect = Deny;
      role = None;
      relation = OneOf (relation.Owner ∷ []);
      action = None;
      stage = None;
      timing = None;
      stopped = None;
    }
    ∷ record {
      name = codes "mine";
      effect = Allow;
      role = None;
      relation = OneOf (relation.AssignedReviewer ∷ []);
      action = Some (action.List ∷ []);
      stage = None;
      timing = None;
      stopped = None;
    }
    ∷ []

-- party 3 is the reviewer of files 1 and 2 and owns the parcel of file 2
abbrev pub assigned_files : History
assigned_files = after
    (file_house ∷ asks 6 19723 (File 2 Repair 100 (codes "Roof")) ∷ asks 5 19723 (File 1 Alter 100 (codes "Wall"))
    ∷ on_one 2 19723 (AssignReviewer 3) ∷ asks 2 19723 (OnFile 2 (AssignReviewer 3)) ∷ asks 2 19723 (Transfer 2 3) ∷ []) opening

-- who is both the owner of its parcel and its contractor may list a file
abbrev pub owner_and_contractor : Policy
owner_and_contractor =
    record {
      name = codes "builders";
      effect = Allow;
      role = None;
      relation = Both relation.Owner relation.Contractor;
      action = Some (action.List ∷ []);
      stage = None;
      timing = None;
      stopped = None;
    }
    ∷ []

-- file 1 of party 5 with contractor 6, files 2 and 3 of party 6 on its own parcel, the latter with contractor 6
abbrev pub contracted_files : History
contracted_files = after
    (file_house ∷ asks 6 19723 (File 2 Repair 100 (codes "Roof")) ∷ asks 6 19723 (File 2 Alter 100 (codes "Wall"))
    ∷ on_one 5 19723 (NameContractor 6) ∷ asks 2 19723 (OnFile 3 (NameContractor 6)) ∷ []) opening

-- ---- parcels from a list

-- three records: a parcel, one whose owner isn't there, and the first lot again
abbrev pub parcel_list : ℕ → List Turn
parcel_list party =
    asks party 19723 (AddParcel (codes "B-1") (codes "1 High St") 5) ∷ asks party 19723 (AddParcel (codes "B-2") (codes "2 High St") 99)
    ∷ asks party 19723 (AddParcel (codes "B-1") (codes "Other") 5) ∷ []

-- ---- registers

-- the text of a register that is shown
abbrev pub text_shown : ℕ → Reply → List ℕ
text_shown day (RegisterShown kind files) = register_text kind day files
text_shown day _ = []

-- the text of a register that a party asks for on a day
abbrev pub register_by : History → ℕ → RegisterKind → ℕ → List ℕ
register_by h party kind day = text_shown day (turn h (asks party day (Register kind))).reply

-- the text of a register that party 1 asks for after the turns
abbrev pub register_after : List Turn → RegisterKind → ℕ → List ℕ
register_after ts kind day = register_by (after ts opening) 1 kind day

-- the end of a line
abbrev pub line_end : List ℕ
line_end = 10 ∷ []

-- the official approves the pending step
abbrev pub by_official : Turn
by_official = on_one 1 19820 (ApproveStep Frame)

-- the assigned inspector approves it
abbrev pub by_inspector : Turn
by_inspector = on_one 4 19820 (ApproveStep Frame)

-- ---- tokens

-- the founding with the digest of the founder's token, as outside tools give it
abbrev pub founded_with_token : History
founded_with_token = record {
  caller = 1;
  day = 19700;
  deed = Founding (codes "Chief")
      (codes "71c480df93d6ae2f1efad1447c66c9525e316218cf51fc8d9ed832f2daf18b73");
  number = Some 1;
} ∷ []

-- the founder asks this on the founding day
abbrev pub founder_asks : Request → Asked × ℕ
founder_asks request = (record { token = codes "abcdefghijklmnopqrstuvwxyz"; request = request }, 19700)

-- the requests of the opening, each by its token; a token that is taken, one of no party, and one that may not
abbrev pub opening_requests : List (Asked × ℕ)
opening_requests =
    founder_asks (AddParty (codes "Cal") Clerk (codes "clerk00000000002"))
    ∷ founder_asks (AddParty (codes "Rae") Reviewer (codes "reviewer00000003"))
    ∷ founder_asks (AddParty (codes "Ian") Inspector (codes "inspector0000004"))
    ∷ founder_asks (AddParty (codes "Sam") Public (codes "public0000000005"))
    ∷ founder_asks (AddParty (codes "Pat") Public (codes "public0000000006"))
    ∷ founder_asks (AddParty (codes "Ivy") Inspector (codes "inspector0000007"))
    ∷ founder_asks (AddParty (codes "Ivo") Inspector (codes "inspector0000007"))
    ∷ founder_asks (AddParcel (codes "A-1") (codes "1 Main St") 5)
    ∷ founder_asks (AddParcel (codes "A-2") (codes "2 Main St") 6)
    ∷ (record { token = codes "0000000000000000"; request = ReadFile 1 }, 19700)
    ∷ (record { token = codes "public0000000005"; request = AddParcel (codes "A-3") (codes "3 Main St") 6 }, 19700)
    ∷ founder_asks (ReadFile 99)
    ∷ founder_asks (ListFiles All)
    ∷ []

-- ---- the hall

-- the same history, where the founder has that token
abbrev pub with_founders_token : History → History
with_founders_token [] = []
with_founders_token (founding ∷ []) = founded_with_token
with_founders_token (entry ∷ before ∷ rest) = entry ∷ with_founders_token (before ∷ rest)

-- the repair with its pending frame, where the founder has that token
abbrev pub pending_with_token : History
pending_with_token = with_founders_token pending_repair

-- the approval of the frame, by token
abbrev pub approves : List ℕ → Asked
approves token = record { token = token; request = OnFile 1 (ApproveStep Frame) }

-- the official approves the pending step
abbrev pub asked_by_official : Asked
asked_by_official = approves (codes "abcdefghijklmnopqrstuvwxyz")

-- the assigned inspector approves it
abbrev pub asked_by_inspector : Asked
asked_by_inspector = approves (codes "d")

-- the third put, the first collect and the third take do nothing
abbrev pub hall_events : List (Event Asked)
hall_events = Put 0 asked_by_official ∷ Put 1 asked_by_inspector ∷ Put 0 asked_by_official ∷ Collect 0 ∷ Take 19820 ∷ Take 19820 ∷ Take 19820 ∷ Collect 1
    ∷ Collect 0 ∷ []

-- the entry of the approval that is done
abbrev pub frame_approved : Entry
frame_approved = record { caller = 1; day = 19820; deed = Accepted (OnFile 1 (ApproveStep Frame)); number = None }
