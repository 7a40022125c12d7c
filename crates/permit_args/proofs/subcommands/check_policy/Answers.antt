use Rattle.std.proofs.Common.{Some, codes, inl, inr}
use Rattle.clap.specs.Words.{found_of, rows_of}
use Rattle.permit_args.specs.Blames.{Blames, BlamesCheck, BlamesForm}
use Rattle.permit_args.specs.Plans.{IsCheckOf, IsCheckPolicyOf, IsFormOf}
use Rattle.permit_args.specs.declared.plan.Subcommand.TheVariants as named
use Rattle.permit_args.proofs.Unread.{passed_on, refused_part, refused_without}
use Rattle.permit_args.proofs.subcommands.check_policy.Goals as goal

pub returns-in_err-required-clause-refused : goal.returns-in_err-required-clause-refused
returns-in_err-required-clause-refused c = passed_on _ _ _ c.from_residual.ensures.1 (
    refused_without (codes "policy") (rows_of (found_of c.args.matches.now)) (IsCheckPolicyOf (rows_of (found_of c.args.matches.now))) (Blames (Some named.CheckPolicy) (rows_of (found_of c.args.matches.now))) _ c.in_err-required.ensures.refused
    (λ x is. (x.policy.now, is.policy)) (λ line h. inl h))

pub returns-in_err-check-clause-refused : goal.returns-in_err-check-clause-refused
returns-in_err-check-clause-refused c = passed_on _ _ _ c.from_residual-in_err-check.ensures.1 (
    refused_part (IsCheckPolicyOf (rows_of (found_of c.args.matches.now))) (Blames (Some named.CheckPolicy) (rows_of (found_of c.args.matches.now))) (IsCheckOf (rows_of (found_of c.args.matches.now))) (BlamesCheck (rows_of (found_of c.args.matches.now))) _ c.in_err-check.ensures.refused
    (λ x is. (x.check, is.check)) (λ none line h. inr (inl h)))

pub returns-in_err-form-clause-refused : goal.returns-in_err-form-clause-refused
returns-in_err-form-clause-refused c = passed_on _ _ _ c.from_residual-in_err-form.ensures.1 (
    refused_part (IsCheckPolicyOf (rows_of (found_of c.args.matches.now))) (Blames (Some named.CheckPolicy) (rows_of (found_of c.args.matches.now))) (IsFormOf (rows_of (found_of c.args.matches.now))) (BlamesForm (rows_of (found_of c.args.matches.now))) _ c.in_err-form.ensures.refused
    (λ x is. (x.form, is.form)) (λ none line h. inr (inr h)))
