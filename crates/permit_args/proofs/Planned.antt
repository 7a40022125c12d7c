-- The plan that a subcommand finds is the only one that its words can have.
use Rattle.std.proofs.Common.{◌≡◌, ◌∙◌, List, [], ◌∷◌, Option, None, Some, Result, Ok, Err, IfErr, IfOk, ap, false, inl, inr, length, map, refl, string_bytes, subst, sym, true}
use Rattle.std.specs.Bool.{◌==◌}
use Rattle.clap.specs.Words.{Row, Text, is_simple_and_free}
use Rattle.permit_args.specs.Blames.{Blames}
use Rattle.permit_args.specs.Faults.{IsFoundIn, IsNoPlan, IsParserFault, IsUnread, Refuses}
use Rattle.permit_args.specs.Plans.{IsActOf, IsBeginningOf, IsCheckDbOf, IsCheckPolicyOf, IsHistoryOf, IsImportOf, IsInitOf, IsListOf, IsRegisterOf, IsRenewalOf, IsReplayOf, IsServeOf, IsUpgradeOf}
use Rattle.permit_args.specs.Plans.{reader_of, subcommand_in, subcommand_of, IsFoundAs, IsPlanBy, IsPlanFor, IsPlanIn, IsPlanOf}
use Rattle.permit_args.specs.declared.plan.Plan.{Plan}
use Rattle.permit_args.specs.declared.plan.Plan.TheVariants as plan
use Rattle.permit_args.specs.declared.plan.PlanFault.{PlanFault}
use Rattle.permit_args.specs.declared.plan.PlanFault.TheVariants.{Help, Words, Memory}
use Rattle.permit_args.specs.declared.plan.Subcommand.{Subcommand}
use Rattle.permit_args.specs.declared.plan.Subcommand.TheVariants as named
use Rattle.permit_args.proofs.Simple.{act_simple, begin_history_simple, check_db_simple, check_policy_simple, history_simple, import_simple, init_simple, list_simple, program_simple}
use Rattle.permit_args.proofs.Simple.{register_simple, renew_token_simple, replay_simple, serve_simple, upgrade_simple}
use Rattle.permit_args.proofs.Unread.{none_among}

-- what reads the words is simple
pub simple_reader : (o : Option Subcommand) → is_simple_and_free (reader_of o) ≡ true
simple_reader None = program_simple
simple_reader (Some named.CheckPolicy) = check_policy_simple
simple_reader (Some named.Init) = init_simple
simple_reader (Some named.Act) = act_simple
simple_reader (Some named.List) = list_simple
simple_reader (Some named.Register) = register_simple
simple_reader (Some named.Import) = import_simple
simple_reader (Some named.Serve) = serve_simple
simple_reader (Some named.Upgrade) = upgrade_simple
simple_reader (Some named.CheckDb) = check_db_simple
simple_reader (Some named.RenewToken) = renew_token_simple
simple_reader (Some named.History) = history_simple
simple_reader (Some named.Replay) = replay_simple
simple_reader (Some named.BeginHistory) = begin_history_simple

-- ---- what a subcommand finds

-- nothing of this kind is found
abbrev NoneIs : {A : Type 0} → (A → Type 0) → Type 0
NoneIs {A} IsOf = (x : A) → IsOf x → ⊥

-- the subcommand finds nothing
abbrev FindsNone : Subcommand → List Row → Type 0
FindsNone named.CheckPolicy rows = NoneIs (IsCheckPolicyOf rows)
FindsNone named.Init rows = NoneIs (IsInitOf rows)
FindsNone named.Act rows = NoneIs (IsActOf rows)
FindsNone named.List rows = NoneIs (IsListOf rows)
FindsNone named.Register rows = NoneIs (IsRegisterOf rows)
FindsNone named.Import rows = NoneIs (IsImportOf rows)
FindsNone named.Serve rows = NoneIs (IsServeOf rows)
FindsNone named.Upgrade rows = NoneIs (IsUpgradeOf rows)
FindsNone named.CheckDb rows = NoneIs (IsCheckDbOf rows)
FindsNone named.RenewToken rows = NoneIs (IsRenewalOf rows)
FindsNone named.History rows = NoneIs (IsHistoryOf rows)
FindsNone named.Replay rows = NoneIs (IsReplayOf rows)
FindsNone named.BeginHistory rows = NoneIs (IsBeginningOf rows)

module _ (s : Subcommand) (rows : List Row) where
  of_own : (t : Subcommand) → Some t ≡ Some s → FindsNone s rows → FindsNone t rows
  of_own t own none = let same : s ≡ t = cc in subst (λ x. FindsNone x rows) same none

  none_in : (p : Plan) → FindsNone s rows → IsPlanIn s rows p → ⊥
  none_in plan.Name none is = is.found
  none_in (plan.CheckPolicy x) none is = of_own named.CheckPolicy is.own none x is.found
  none_in (plan.Init x) none is = of_own named.Init is.own none x is.found
  none_in (plan.Act x) none is = of_own named.Act is.own none x is.found
  none_in (plan.List x) none is = of_own named.List is.own none x is.found
  none_in (plan.Register x) none is = of_own named.Register is.own none x is.found
  none_in (plan.Import x) none is = of_own named.Import is.own none x is.found
  none_in (plan.Serve x) none is = of_own named.Serve is.own none x is.found
  none_in (plan.Upgrade x) none is = of_own named.Upgrade is.own none x is.found
  none_in (plan.CheckDb x) none is = of_own named.CheckDb is.own none x is.found
  none_in (plan.RenewToken x) none is = of_own named.RenewToken is.own none x is.found
  none_in (plan.History x) none is = of_own named.History is.own none x is.found
  none_in (plan.Replay x) none is = of_own named.Replay is.own none x is.found
  none_in (plan.BeginHistory x) none is = of_own named.BeginHistory is.own none x is.found

  -- where the subcommand finds nothing, it finds no plan
  refused_as : {A : Type 0} (IsOf : A → Type 0) (fault : PlanFault) → (NoneIs IsOf → FindsNone s rows)
      → Refuses IsOf (Blames (Some s) rows) fault → Refuses (IsPlanIn s rows) (Blames (Some s) rows) fault
  refused_as IsOf (Help text) none refused = refused
  refused_as IsOf (Words text) none refused = (λ p. none_in p (none refused.0), refused.1)
  refused_as IsOf Memory none refused = tt

  pub refused_plan : {A : Type 0} (o : Subcommand) (IsOf : A → Type 0) (fault : PlanFault) → o ≡ s → (NoneIs IsOf → FindsNone s rows)
      → Refuses IsOf (Blames (Some s) rows) fault → Refuses (IsPlanIn o rows) (Blames (Some o) rows) fault
  refused_plan o IsOf fault is none refused =
      subst (λ x. Refuses (IsPlanIn x rows) (Blames (Some x) rows) fault) (sym is) (refused_as IsOf fault none refused)

-- ---- the plan of the words

-- where there are words, their texts are not none
pub some_mapped : {A B : Type 0} (f : A → B) (xs : List A) → false ≡ (length xs == 0) → map f xs ≡ [] → ⊥
some_mapped f [] some none = let bad : false ≡ true = some in cc
some_mapped f (x ∷ xs) some none = cc

module _ (words : List Text) (s : Subcommand) (e : subcommand_in words ≡ Some s) where
  -- a plan of the words is one by their subcommand
  by_subcommand : (p : Plan) (o : Option Subcommand) → subcommand_of p ≡ o → IsPlanFor o words p → (subcommand_of p ≡ Some s) × IsPlanBy s words p
  by_subcommand p None own is = let bad : Some s ≡ None = sym e ∙ ap subcommand_in is in cc
  by_subcommand p (Some t) own is =
      let both : Some t ≡ Some s = sym is.named ∙ e in
      let same : t ≡ s = cc in
      subst (λ x. (subcommand_of p ≡ Some x) × IsPlanBy x words p) same (own, is)

  -- what the subcommand finds is the plan of the words
  pub planned : {rows : List Row} (r : Result Plan PlanFault) → IsFoundIn (reader_of (Some s)) words rows → IfOk r (IsPlanIn s rows) → IfOk r (IsPlanOf words)
  planned (Ok p) found is = subst (λ o. IsPlanFor o words p) (sym is.own) (record {
    named = e;
    taken = found.taken;
    found = subst (λ r. IsFoundAs r p) found.found is.found;
  })
  planned (Err fault) found is = tt

  no_plan : {rows : List Row} → IsFoundIn (reader_of (Some s)) words rows → ((p : Plan) → IsPlanIn s rows p → ⊥) → (p : Plan) → IsPlanOf words p → ⊥
  no_plan found none p is =
      let by = by_subcommand p (subcommand_of p) refl is in
      none p (record { own = by.0; found = subst (λ r. IsFoundAs r p) (sym found.found) by.1.found })

  -- where the subcommand refuses what it finds, there is no plan
  pub unplanned : {rows : List Row} (r : Result Plan PlanFault) → IsFoundIn (reader_of (Some s)) words rows
      → IfErr r (Refuses (IsPlanIn s rows) (Blames (Some s) rows)) → IfErr r (IsNoPlan words)
  unplanned (Ok p) found refused = tt
  unplanned (Err (Help text)) found refused = absurd refused
  unplanned (Err (Words text)) found refused = (
    subst (λ o. IsUnread o words (Words text)) (sym e) (inr (record {
      taken = found.taken;
      blames = subst (λ r. Blames (Some s) r (string_bytes text)) found.found refused.1;
    })),
    no_plan found refused.0,
  )
  unplanned (Err Memory) found refused = tt

  -- where the library refuses the words, there is no plan
  pub unplanned_by_parser : (fault : PlanFault) → IsParserFault (reader_of (Some s)) words fault → IsNoPlan words fault
  unplanned_by_parser (Help text) is = subst (λ o. IsUnread o words (Help text)) (sym e) is
  unplanned_by_parser (Words text) is = (
    subst (λ o. IsUnread o words (Words text)) (sym e) (inl is),
    λ p plan. none_among is.0 _ is.1 (by_subcommand p (subcommand_of p) refl plan).1.taken,
  )
  unplanned_by_parser Memory is = tt

module _ (words : List Text) (e : subcommand_in words ≡ None) (some : words ≡ [] → ⊥) where
  unnamed : (p : Plan) (o : Option Subcommand) → IsPlanFor o words p → ⊥
  unnamed p None is = some is
  unnamed p (Some s) is = let bad : None ≡ Some s = sym e ∙ is.named in cc

  -- where no subcommand is named, there is no plan
  pub unplanned_unnamed : (fault : PlanFault) → IsUnread None words fault → IsNoPlan words fault
  unplanned_unnamed (Help text) unread = subst (λ o. IsUnread o words (Help text)) (sym e) unread
  unplanned_unnamed (Words text) unread =
      (subst (λ o. IsUnread o words (Words text)) (sym e) unread, λ p is. unnamed p (subcommand_of p) is)
  unplanned_unnamed Memory unread = tt
