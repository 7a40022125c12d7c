use Rattle.std.proofs.Common.{rules, ◌≡◌, Bool, [], ◌∷◌, ◌++◌, Some, None, ◌∙◌}
use Rattle.permit_sql.specs.Named.{fits_file_rule}
use Rattle.permit_sql.specs.First.{first_broken, names_rules, days_rules, work_rules}
use Rattle.permit_sql.specs.declared.fault.FileRule.{FileRule}
use Rattle.permit_sql.specs.declared.fault.FileRule.TheVariants.{Papers}
use Rattle.permit_sql.proofs.Naming.{broken_in, broken_past}
use Rattle.permit_sql.proofs.row_rules.file_rule.Goals as goal

pub returns-in-Some-clause-exact : goal.returns-in-Some-clause-exact
returns-in-Some-clause-exact c =
    broken_in (λ rule. fits_file_rule c.args.roles.now c.args.parcels c.args.last rule c.args.state.now) names_rules (days_rules ++ work_rules ++ Papers ∷ [])
    c.in-Some.rule (c.in-Some.ensures.exact c.args.last)

pub returns-in-Some-days_rule-clause-exact : goal.returns-in-Some-days_rule-clause-exact
returns-in-Some-days_rule-clause-exact c =
    let holds : FileRule → Bool = λ rule. fits_file_rule c.args.roles.now c.args.parcels c.args.last rule c.args.state.now in
    let told = c.names_rule.ensures.exact c.args.last in
    let names : None ≡ first_broken holds names_rules = search rules in
    broken_in holds days_rules (work_rules ++ Papers ∷ []) c.in-Some-days_rule.rule (c.in-Some-days_rule.ensures.exact c.args.roles.now c.args.parcels)
    ∙ broken_past holds names_rules (days_rules ++ work_rules ++ Papers ∷ []) names

pub returns-in-Some-work_rule-clause-exact : goal.returns-in-Some-work_rule-clause-exact
returns-in-Some-work_rule-clause-exact c =
    let holds : FileRule → Bool = λ rule. fits_file_rule c.args.roles.now c.args.parcels c.args.last rule c.args.state.now in
    let told = c.names_rule.ensures.exact c.args.last in
    let names : None ≡ first_broken holds names_rules = search rules in
    let told_days = c.days_rule.ensures.exact c.args.roles.now c.args.parcels in
    let days : None ≡ first_broken holds days_rules = search rules in
    broken_in holds work_rules (Papers ∷ []) c.in-Some-work_rule.rule
    (c.in-Some-work_rule.ensures.exact c.args.roles.now c.args.parcels c.args.last)
    ∙ broken_past holds days_rules (work_rules ++ Papers ∷ []) days ∙ broken_past holds names_rules (days_rules ++ work_rules ++ Papers ∷ []) names

pub returns-then-papers-gt-MOST_PAPERS-clause-exact : goal.returns-then-papers-gt-MOST_PAPERS-clause-exact
returns-then-papers-gt-MOST_PAPERS-clause-exact c =
    let holds : FileRule → Bool = λ rule. fits_file_rule c.args.roles.now c.args.parcels c.args.last rule c.args.state.now in
    let told = c.names_rule.ensures.exact c.args.last in
    let names : None ≡ first_broken holds names_rules = search rules in
    let told_days = c.days_rule.ensures.exact c.args.roles.now c.args.parcels in
    let days : None ≡ first_broken holds days_rules = search rules in
    let told_work = c.work_rule.ensures.exact c.args.roles.now c.args.parcels c.args.last in
    let work : None ≡ first_broken holds work_rules = search rules in
    let papers : Some Papers ≡ first_broken holds (Papers ∷ []) = search rules in
    papers ∙ broken_past holds work_rules (Papers ∷ []) work
    ∙ broken_past holds days_rules (work_rules ++ Papers ∷ []) days ∙ broken_past holds names_rules (days_rules ++ work_rules ++ Papers ∷ []) names

pub returns-clause-exact : goal.returns-clause-exact
returns-clause-exact c =
    let holds : FileRule → Bool = λ rule. fits_file_rule c.args.roles.now c.args.parcels c.args.last rule c.args.state.now in
    let told = c.names_rule.ensures.exact c.args.last in
    let names : None ≡ first_broken holds names_rules = search rules in
    let told_days = c.days_rule.ensures.exact c.args.roles.now c.args.parcels in
    let days : None ≡ first_broken holds days_rules = search rules in
    let told_work = c.work_rule.ensures.exact c.args.roles.now c.args.parcels c.args.last in
    let work : None ≡ first_broken holds work_rules = search rules in
    let papers : None ≡ first_broken holds (Papers ∷ []) = search rules in
    papers ∙ broken_past holds work_rules (Papers ∷ []) work
    ∙ broken_past holds days_rules (work_rules ++ Papers ∷ []) days ∙ broken_past holds names_rules (days_rules ++ work_rules ++ Papers ∷ []) names
