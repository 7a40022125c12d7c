use Rattle.std.proofs.Common.{ap, sym, ◌∙◌}
use Rattle.clap.specs.Words.{first_of, found_of, rows_of}
use Rattle.permit_base.specs.Limits.{most_records}
use Rattle.permit_args.specs.Blames.{BlamesPlace}
use Rattle.permit_args.specs.Lines.{record_name}
use Rattle.permit_args.specs.Plans.{IsCountOf, IsRecordOf}
use Rattle.permit_args.specs.declared.places.Place.TheVariants as place
use Rattle.permit_args.proofs.Unread.{passed_on, refused_at}
use Rattle.permit_args.proofs.Values.{optional_counted}
use Rattle.permit_args.proofs.found.record.Goals as goal

pub returns-in_err-number-in-Some-clause-refused : goal.returns-in_err-number-in-Some-clause-refused
returns-in_err-number-in-Some-clause-refused c =
    let there = ap (λ name. first_of name (rows_of (found_of c.args.matches.now))) (sym c.option.ensures) ∙ c.in-Some.ensures in
    passed_on _ _ _ c.from_residual.ensures.1 (
    refused_at (place.Record c.args.kind) (rows_of (found_of c.args.matches.now)) c.in-Some.text.now
    (IsRecordOf (record_name c.args.kind) (rows_of (found_of c.args.matches.now))) (BlamesPlace (place.Record c.args.kind) (rows_of (found_of c.args.matches.now)))
    (IsCountOf most_records c.in-Some.text.now) _ c.in_err-number-in-Some.ensures.refused
    (λ x is. optional_counted most_records _ c.in-Some.text.now x there is) there (λ taken. taken) (λ line h. h))
