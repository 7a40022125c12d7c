-- The standard policy, as read from its text.
use Rattle.std.specs.Prelude.{List, [], ◌∷◌, None, Some, codes}
use Rattle.permit_base.specs.declared.words.Role.TheVariants.{Public, Clerk, Reviewer, Inspector, Official}
use Rattle.permit_base.specs.declared.words.Relation.TheVariants as relation
use Rattle.permit_base.specs.declared.words.Timing.TheVariants.{Past}
use Rattle.permit_base.specs.declared.words.Stage.TheVariants.{New}
use Rattle.permit_base.specs.declared.words.Action.{Action}
use Rattle.permit_base.specs.declared.words.Action.TheVariants as action
use Rattle.permit_base.specs.declared.words.Effect.TheVariants.{Allow, Deny}
use Rattle.permit_model.specs.Policy.{Policy, Any, OneOf}

-- what nobody may do on a parcel of its interest, nor staff on a file or a parcel of its own
abbrev pub judging_actions : List Action
judging_actions = action.StartReview ∷ action.Return ∷ action.ApprovePlans ∷ action.Reject ∷ action.Issue ∷ action.ApproveStep ∷ action.Notice
    ∷ action.ClearNotice ∷ action.Temporary ∷ action.Certify ∷ []

-- the twelve rules
abbrev pub standard_policy : Policy
standard_policy =
    record {
      name = codes "no-conflict";
      effect = Deny;
      role = None;
      relation = OneOf (relation.Conflict ∷ []);
      action = Some judging_actions;
      stage = None;
      timing = None;
      stopped = None;
    }
    ∷ record {
      name = codes "own-work";
      effect = Deny;
      role = Some (Clerk ∷ Reviewer ∷ Inspector ∷ Official ∷ []);
      relation = OneOf (relation.Applicant ∷ relation.Contractor ∷ relation.Owner ∷ []);
      action = Some judging_actions;
      stage = None;
      timing = None;
      stopped = None;
    }
    ∷ record {
      name = codes "official-all";
      effect = Allow;
      role = Some (Official ∷ []);
      relation = Any;
      action = None;
      stage = None;
      timing = None;
      stopped = None;
    }
    ∷ record {
      name = codes "clerk-desk";
      effect = Allow;
      role = Some (Clerk ∷ []);
      relation = Any;
      action = Some (action.AddParty ∷ action.AddParcel ∷ action.Transfer ∷ action.ReadParcel ∷ action.Read ∷ action.List ∷ action.AssignReviewer
          ∷ action.AssignInspector ∷ action.NameContractor ∷ []);
      stage = None;
      timing = None;
      stopped = None;
    }
    ∷ record {
      name = codes "reviewer-acts";
      effect = Allow;
      role = Some (Reviewer ∷ []);
      relation = OneOf (relation.AssignedReviewer ∷ []);
      action = Some (action.Read ∷ action.List ∷ action.StartReview ∷ action.Return ∷ action.ApprovePlans ∷ action.Reject ∷ []);
      stage = None;
      timing = None;
      stopped = None;
    }
    ∷ record {
      name = codes "inspector-acts";
      effect = Allow;
      role = Some (Inspector ∷ []);
      relation = OneOf (relation.AssignedInspector ∷ []);
      action = Some (action.Read ∷ action.List ∷ action.ApproveStep ∷ action.Notice ∷ action.ClearNotice ∷ action.Stop ∷ []);
      stage = None;
      timing = None;
      stopped = None;
    }
    ∷ record {
      name = codes "closed-to-public";
      effect = Deny;
      role = Some (Public ∷ []);
      relation = Any;
      action = None;
      stage = None;
      timing = Some (Past ∷ []);
      stopped = None;
    }
    ∷ record {
      name = codes "party-reads";
      effect = Allow;
      role = None;
      relation = OneOf (relation.Applicant ∷ relation.Contractor ∷ relation.Owner ∷ []);
      action = Some (action.Read ∷ action.List ∷ action.ReadParcel ∷ []);
      stage = None;
      timing = None;
      stopped = None;
    }
    ∷ record {
      name = codes "applicant-acts";
      effect = Allow;
      role = Some (Public ∷ []);
      relation = OneOf (relation.Applicant ∷ []);
      action = Some (action.NameContractor ∷ action.Resubmit ∷ action.AskExtension ∷ []);
      stage = None;
      timing = None;
      stopped = None;
    }
    ∷ record {
      name = codes "holder-acts";
      effect = Allow;
      role = Some (Public ∷ []);
      relation = OneOf (relation.Applicant ∷ relation.Contractor ∷ []);
      action = Some (action.BeginWork ∷ action.RequestInspection ∷ []);
      stage = None;
      timing = None;
      stopped = None;
    }
    ∷ record {
      name = codes "public-files";
      effect = Allow;
      role = Some (Public ∷ []);
      relation = Any;
      action = Some (action.File ∷ []);
      stage = Some (New ∷ []);
      timing = None;
      stopped = None;
    }
    ∷ record {
      name = codes "staff-declares";
      effect = Allow;
      role = Some (Clerk ∷ Reviewer ∷ Inspector ∷ []);
      relation = Any;
      action = Some (action.Declare ∷ []);
      stage = None;
      timing = None;
      stopped = None;
    }
    ∷ []
