use Rattle.std.proofs.Common.{Some, codes, inl, inr}
use Rattle.clap.specs.Words.{found_of, rows_of}
use Rattle.permit_base.specs.Limits.{most_records}
use Rattle.permit_args.specs.Blames.{Blames, BlamesKeeping, BlamesToken}
use Rattle.permit_args.specs.Plans.{ArePathsOf, IsCountOf, IsKeepingOf, IsRenewalOf, IsTokenOf}
use Rattle.permit_args.specs.declared.places.Place.TheVariants as place
use Rattle.permit_args.specs.declared.places.RecordKind.TheVariants as kind
use Rattle.permit_args.specs.declared.plan.Subcommand.TheVariants as named
use Rattle.permit_args.proofs.Unread.{passed_on, refused_at, refused_part, refused_without}
use Rattle.permit_args.proofs.Values.{counted, some_counted, some_found}
use Rattle.permit_args.proofs.subcommands.renew_token.Goals as goal

pub returns-clause-found : goal.returns-clause-found
returns-clause-found c = record {
  db = c.in_ok-required.ensures.value;
  party = some_counted _ _ _ _ c.in_ok-text.ensures.value c.in_ok-number.ensures.number;
  token = c.in_ok-token.ensures.found;
  history = c.in_ok-keeping.ensures.found;
  why = c.is_given.ensures;
}

pub returns-in_err-text-clause-refused : goal.returns-in_err-text-clause-refused
returns-in_err-text-clause-refused c = passed_on _ _ _ c.from_residual.ensures.1 (
    refused_without (codes "party") (rows_of (found_of c.args.matches.now)) (IsRenewalOf (rows_of (found_of c.args.matches.now))) (Blames (Some named.RenewToken) (rows_of (found_of c.args.matches.now))) _ c.in_err-text.ensures.refused
    (λ x is. some_found _ _ _ is.party) (λ line h. inr (inl h)))

pub returns-in_err-required-clause-refused : goal.returns-in_err-required-clause-refused
returns-in_err-required-clause-refused c = passed_on _ _ _ c.from_residual-in_err-required.ensures.1 (
    refused_without (codes "db") (rows_of (found_of c.args.matches.now)) (IsRenewalOf (rows_of (found_of c.args.matches.now))) (Blames (Some named.RenewToken) (rows_of (found_of c.args.matches.now))) _ c.in_err-required.ensures.refused
    (λ x is. (x.db.now, is.db)) (λ line h. inl h))

pub returns-in_err-number-clause-refused : goal.returns-in_err-number-clause-refused
returns-in_err-number-clause-refused c = passed_on _ _ _ c.from_residual-in_err-number.ensures.1 (
    refused_at (place.Record kind.Party) (rows_of (found_of c.args.matches.now)) c.in_ok-text.text.now (IsRenewalOf (rows_of (found_of c.args.matches.now))) (Blames (Some named.RenewToken) (rows_of (found_of c.args.matches.now))) (IsCountOf most_records c.in_ok-text.text.now) _ c.in_err-number.ensures.refused
    (λ x is. (x.party, counted _ _ _ _ c.in_ok-text.ensures.value is.party)) c.in_ok-text.ensures.value (λ taken. taken) (λ line h. inr (inr (inl h))))

pub returns-in_err-token-clause-refused : goal.returns-in_err-token-clause-refused
returns-in_err-token-clause-refused c = passed_on _ _ _ c.from_residual-in_err-token.ensures.1 (
    refused_part (IsRenewalOf (rows_of (found_of c.args.matches.now))) (Blames (Some named.RenewToken) (rows_of (found_of c.args.matches.now))) (IsTokenOf (rows_of (found_of c.args.matches.now))) (BlamesToken (rows_of (found_of c.args.matches.now))) _ c.in_err-token.ensures.refused
    (λ x is. (x.token, is.token)) (λ none line h. inr (inr (inr (inl h)))))

pub returns-in_err-keeping-clause-refused : goal.returns-in_err-keeping-clause-refused
returns-in_err-keeping-clause-refused c = passed_on _ _ _ c.from_residual-in_err-keeping.ensures.1 (
    refused_part (IsRenewalOf (rows_of (found_of c.args.matches.now))) (Blames (Some named.RenewToken) (rows_of (found_of c.args.matches.now)))
    (IsKeepingOf (ArePathsOf (rows_of (found_of c.args.matches.now))) (rows_of (found_of c.args.matches.now))) (BlamesKeeping (rows_of (found_of c.args.matches.now))) _ c.in_err-keeping.ensures.refused
    (λ x is. (x.history, is.history)) (λ none line h. inr (inr (inr (inr h)))))
