use Rattle.std.proofs.Common.{codes, inl, inr}
use Rattle.clap.specs.Words.{found_of, rows_of}
use Rattle.permit_args.specs.Blames.{BlamesOffice, BlamesToken}
use Rattle.permit_args.specs.Plans.{IsOfficeOf, IsTokenOf}
use Rattle.permit_args.proofs.Unread.{passed_on, refused_part, refused_without}
use Rattle.permit_args.proofs.found.office.Goals as goal

pub returns-in_err-required-clause-refused : goal.returns-in_err-required-clause-refused
returns-in_err-required-clause-refused c = passed_on _ _ _ c.from_residual.ensures.1 (
    refused_without (codes "db") (rows_of (found_of c.args.matches.now)) (IsOfficeOf (rows_of (found_of c.args.matches.now))) (BlamesOffice (rows_of (found_of c.args.matches.now))) _ c.in_err-required.ensures.refused
    (λ x is. (x.db.now, is.db)) (λ line h. inl h))

pub returns-in_err-required-2-clause-refused : goal.returns-in_err-required-2-clause-refused
returns-in_err-required-2-clause-refused c = passed_on _ _ _ c.from_residual-in_err-required-2.ensures.1 (
    refused_without (codes "policy") (rows_of (found_of c.args.matches.now)) (IsOfficeOf (rows_of (found_of c.args.matches.now))) (BlamesOffice (rows_of (found_of c.args.matches.now))) _ c.in_err-required-2.ensures.refused
    (λ x is. (x.policy.now, is.policy)) (λ line h. inr (inl h)))

pub returns-in_err-token-clause-refused : goal.returns-in_err-token-clause-refused
returns-in_err-token-clause-refused c = passed_on _ _ _ c.from_residual-in_err-token.ensures.1 (
    refused_part (IsOfficeOf (rows_of (found_of c.args.matches.now))) (BlamesOffice (rows_of (found_of c.args.matches.now))) (IsTokenOf (rows_of (found_of c.args.matches.now))) (BlamesToken (rows_of (found_of c.args.matches.now))) _ c.in_err-token.ensures.refused
    (λ x is. (x.token, is.token)) (λ none line h. inr (inr h)))
