use Rattle.std.proofs.Common.{Some, codes, inl, inr}
use Rattle.clap.specs.Words.{found_of, rows_of}
use Rattle.permit_args.specs.Blames.{Blames, BlamesPlace, BlamesVerify}
use Rattle.permit_args.specs.Plans.{IsHistoryOf, IsRecordOf, IsVerifyOf}
use Rattle.permit_args.specs.declared.places.Place.TheVariants as place
use Rattle.permit_args.specs.declared.places.RecordKind.TheVariants as kind
use Rattle.permit_args.specs.declared.plan.Subcommand.TheVariants as named
use Rattle.permit_args.proofs.Unread.{passed_on, refused_part, refused_without}
use Rattle.permit_args.proofs.subcommands.history.Goals as goal

pub returns-in_err-required-clause-refused : goal.returns-in_err-required-clause-refused
returns-in_err-required-clause-refused c = passed_on _ _ _ c.from_residual.ensures.1 (
    refused_without (codes "history") (rows_of (found_of c.args.matches.now)) (IsHistoryOf (rows_of (found_of c.args.matches.now))) (Blames (Some named.History) (rows_of (found_of c.args.matches.now))) _ c.in_err-required.ensures.refused
    (λ x is. (x.history.now, is.history)) (λ line h. inl h))

pub returns-in_err-record-clause-refused : goal.returns-in_err-record-clause-refused
returns-in_err-record-clause-refused c = passed_on _ _ _ c.from_residual-in_err-record.ensures.1 (
    refused_part (IsHistoryOf (rows_of (found_of c.args.matches.now))) (Blames (Some named.History) (rows_of (found_of c.args.matches.now))) (IsRecordOf (codes "file") (rows_of (found_of c.args.matches.now))) (BlamesPlace (place.Record kind.File) (rows_of (found_of c.args.matches.now))) _ c.in_err-record.ensures.refused
    (λ x is. (x.file, is.file)) (λ none line h. inr (inl h)))

pub returns-in_err-record-2-clause-refused : goal.returns-in_err-record-2-clause-refused
returns-in_err-record-2-clause-refused c = passed_on _ _ _ c.from_residual-in_err-record-2.ensures.1 (
    refused_part (IsHistoryOf (rows_of (found_of c.args.matches.now))) (Blames (Some named.History) (rows_of (found_of c.args.matches.now))) (IsRecordOf (codes "parcel") (rows_of (found_of c.args.matches.now))) (BlamesPlace (place.Record kind.Parcel) (rows_of (found_of c.args.matches.now))) _ c.in_err-record-2.ensures.refused
    (λ x is. (x.parcel, is.parcel)) (λ none line h. inr (inr (inl h))))

pub returns-in_err-record-3-clause-refused : goal.returns-in_err-record-3-clause-refused
returns-in_err-record-3-clause-refused c = passed_on _ _ _ c.from_residual-in_err-record-3.ensures.1 (
    refused_part (IsHistoryOf (rows_of (found_of c.args.matches.now))) (Blames (Some named.History) (rows_of (found_of c.args.matches.now))) (IsRecordOf (codes "party") (rows_of (found_of c.args.matches.now))) (BlamesPlace (place.Record kind.Party) (rows_of (found_of c.args.matches.now))) _ c.in_err-record-3.ensures.refused
    (λ x is. (x.party, is.party)) (λ none line h. inr (inr (inr (inl h)))))

pub returns-in_err-verify-clause-refused : goal.returns-in_err-verify-clause-refused
returns-in_err-verify-clause-refused c = passed_on _ _ _ c.from_residual-in_err-verify.ensures.1 (
    refused_part (IsHistoryOf (rows_of (found_of c.args.matches.now))) (Blames (Some named.History) (rows_of (found_of c.args.matches.now))) (IsVerifyOf (rows_of (found_of c.args.matches.now))) (BlamesVerify (rows_of (found_of c.args.matches.now))) _ c.in_err-verify.ensures.refused
    (λ x is. (x.verify, is.verify)) (λ none line h. inr (inr (inr (inr h)))))
