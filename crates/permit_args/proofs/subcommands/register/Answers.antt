use Rattle.std.proofs.Common.{◌∙◌, ◌≡◌, Some, codes, inl, inr, sym}
use Rattle.clap.specs.Words.{found_of, rows_of}
use Rattle.permit_base.specs.Words.{register_word}
use Rattle.permit_base.specs.declared.words.RegisterKind.{RegisterKind}
use Rattle.permit_args.specs.Blames.{Blames, BlamesOffice}
use Rattle.permit_args.specs.Plans.{IsOfficeOf, IsRegisterOf}
use Rattle.permit_args.specs.declared.places.Place.TheVariants as place
use Rattle.permit_args.specs.declared.plan.Subcommand.TheVariants as named
use Rattle.permit_args.proofs.Unread.{passed_on, refused_at, refused_part, refused_without}
use Rattle.permit_args.proofs.subcommands.register.Goals as goal

pub returns-in_err-name-clause-refused : goal.returns-in_err-name-clause-refused
returns-in_err-name-clause-refused c = passed_on _ _ _ c.from_residual.ensures.1 (
    refused_without (codes "name") (rows_of (found_of c.args.matches.now)) (IsRegisterOf (rows_of (found_of c.args.matches.now))) (Blames (Some named.Register) (rows_of (found_of c.args.matches.now))) _ c.in_err-name.ensures.refused
    (λ x is. (register_word x.kind, is.name)) (λ line h. inr (inl h)))

pub returns-in_err-office-clause-refused : goal.returns-in_err-office-clause-refused
returns-in_err-office-clause-refused c = passed_on _ _ _ c.from_residual-in_err-office.ensures.1 (
    refused_part (IsRegisterOf (rows_of (found_of c.args.matches.now))) (Blames (Some named.Register) (rows_of (found_of c.args.matches.now))) (IsOfficeOf (rows_of (found_of c.args.matches.now))) (BlamesOffice (rows_of (found_of c.args.matches.now))) _ c.in_err-office.ensures.refused
    (λ x is. (x.office, is.office)) (λ none line h. inl h))

pub returns-in_err-kind-clause-refused : goal.returns-in_err-kind-clause-refused
returns-in_err-kind-clause-refused c = passed_on _ _ _ c.from_residual-in_err-kind.ensures.1 (
    refused_at place.Register (rows_of (found_of c.args.matches.now)) c.in_ok-name.name.now (IsRegisterOf (rows_of (found_of c.args.matches.now))) (Blames (Some named.Register) (rows_of (found_of c.args.matches.now))) (λ (kind : RegisterKind). register_word kind ≡ c.in_ok-name.name.now) _ c.in_err-kind.ensures.refused
    (λ x is. (x.kind, let same : Some (register_word x.kind) ≡ Some c.in_ok-name.name.now = sym is.name ∙ c.in_ok-name.ensures.value in cc)) c.in_ok-name.ensures.value (λ taken. taken) (λ line h. inr (inr h)))
