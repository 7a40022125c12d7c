use Rattle.std.proofs.Common.{ap, sym}
use Rattle.sqlite_value.specs.Order.{column}
use Rattle.permit_sql_rows.proofs.Stated.{state_is, not_some}
use Rattle.permit_sql_rows.proofs.decode.fields_in.Goals as goal

pub returns-clause-read : goal.returns-clause-read
returns-clause-read c = λ upgrade is more named under e.
    let s = is.state in
    let at = λ (n : _). ap (λ r. column r n) e in
    state_is s _ _ _ _ _ _ _ _ _ _ _ _ _ _ _ _ _ _
    (c.in_ok-parcel_number.ensures.read s.parcel (at 1)) (c.in_ok-party_number.ensures.read s.applicant (at 2))
    (c.in_ok-party_or_zero.ensures.read s.contractor named.contractor (at 3))
    (c.in_ok-party_or_zero-2.ensures.read s.reviewer named.reviewer (at 4)) (c.in_ok-party_or_zero-3.ensures.read s.inspector named.inspector (at 5))
    (c.in_ok-kind.ensures.read s.kind (at 6)) (sym under) (c.in_ok-day.ensures.read s.filed (at 9))
    (c.in_ok-stage.ensures.read s.stage (at 10)) (c.in_ok-number_or_minus_one.ensures.read s.deadline (at 11))
    (c.in_ok-small_number.ensures.read s.done (at 12)) (c.in_ok-step_or_minus_one.ensures.read s.request (at 13))
    (c.in_ok-day_or_minus_one.ensures.read s.requested (at 14)) (c.in_ok-days_or_zero.ensures.read s.ask named.ask (at 15))
    (c.in_ok-truth.ensures.read s.stopped (at 16)) (c.in_ok-short_number.ensures.read s.notices (at 17))
    (c.in_ok-short_number-2.ensures.read s.papers (at 18)) (c.in_ok-number_or_minus_one-2.ensures.read s.temporary (at 19))

pub returns-clause-back : goal.returns-clause-back
returns-clause-back c = record {
  parcel = c.in_ok-parcel_number.ensures.back;
  applicant = c.in_ok-party_number.ensures.back;
  contractor = c.in_ok-party_or_zero.ensures.back.0;
  reviewer = c.in_ok-party_or_zero-2.ensures.back.0;
  inspector = c.in_ok-party_or_zero-3.ensures.back.0;
  kind = c.in_ok-kind.ensures.back;
  filed = c.in_ok-day.ensures.back;
  stage = c.in_ok-stage.ensures.back;
  deadline = c.in_ok-number_or_minus_one.ensures.back;
  done = c.in_ok-small_number.ensures.back;
  request = c.in_ok-step_or_minus_one.ensures.back;
  requested = c.in_ok-day_or_minus_one.ensures.back;
  ask = c.in_ok-days_or_zero.ensures.back.0;
  stopped = c.in_ok-truth.ensures.back;
  notices = c.in_ok-short_number.ensures.back;
  papers = c.in_ok-short_number-2.ensures.back;
  temporary = c.in_ok-number_or_minus_one-2.ensures.back;
}

pub returns-clause-named : goal.returns-clause-named
returns-clause-named c = λ upgrade id under. record {
  edition = under;
  contractor = c.in_ok-party_or_zero.ensures.back.1;
  reviewer = c.in_ok-party_or_zero-2.ensures.back.1;
  inspector = c.in_ok-party_or_zero-3.ensures.back.1;
  ask = c.in_ok-days_or_zero.ensures.back.1;
}

pub returns-in_err-parcel_number-clause-some : goal.returns-in_err-parcel_number-clause-some
returns-in_err-parcel_number-clause-some c = λ is more good e. not_some _ c.in_err-parcel_number.was
    (c.parcel_number.ensures.some is.state.parcel good.parcel (ap (λ r. column r 1) e))

pub returns-in_err-party_number-clause-some : goal.returns-in_err-party_number-clause-some
returns-in_err-party_number-clause-some c = λ is more good e. not_some _ c.in_err-party_number.was
    (c.party_number.ensures.some is.state.applicant good.applicant (ap (λ r. column r 2) e))

pub returns-in_err-party_or_zero-clause-some : goal.returns-in_err-party_or_zero-clause-some
returns-in_err-party_or_zero-clause-some c = λ is more good e. not_some _ c.in_err-party_or_zero.was
    (c.party_or_zero.ensures.some is.state.contractor good.contractor (ap (λ r. column r 3) e))

pub returns-in_err-party_or_zero-2-clause-some : goal.returns-in_err-party_or_zero-2-clause-some
returns-in_err-party_or_zero-2-clause-some c = λ is more good e. not_some _ c.in_err-party_or_zero-2.was
    (c.party_or_zero-2.ensures.some is.state.reviewer good.reviewer (ap (λ r. column r 4) e))

pub returns-in_err-party_or_zero-3-clause-some : goal.returns-in_err-party_or_zero-3-clause-some
returns-in_err-party_or_zero-3-clause-some c = λ is more good e. not_some _ c.in_err-party_or_zero-3.was
    (c.party_or_zero-3.ensures.some is.state.inspector good.inspector (ap (λ r. column r 5) e))

pub returns-in_err-kind-clause-some : goal.returns-in_err-kind-clause-some
returns-in_err-kind-clause-some c = λ is more good e. not_some _ c.in_err-kind.was (c.kind.ensures.some is.state.kind (ap (λ r. column r 6) e))

pub returns-in_err-day-clause-some : goal.returns-in_err-day-clause-some
returns-in_err-day-clause-some c = λ is more good e. not_some _ c.in_err-day.was (c.day.ensures.some is.state.filed good.filed (ap (λ r. column r 9) e))

pub returns-in_err-stage-clause-some : goal.returns-in_err-stage-clause-some
returns-in_err-stage-clause-some c = λ is more good e. not_some _ c.in_err-stage.was (c.stage.ensures.some is.state.stage (ap (λ r. column r 10) e))

pub returns-in_err-number_or_minus_one-clause-some : goal.returns-in_err-number_or_minus_one-clause-some
returns-in_err-number_or_minus_one-clause-some c = λ is more good e. not_some _ c.in_err-number_or_minus_one.was
    (c.number_or_minus_one.ensures.some is.state.deadline good.deadline (ap (λ r. column r 11) e))

pub returns-in_err-small_number-clause-some : goal.returns-in_err-small_number-clause-some
returns-in_err-small_number-clause-some c = λ is more good e. not_some _ c.in_err-small_number.was
    (c.small_number.ensures.some is.state.done good.done (ap (λ r. column r 12) e))

pub returns-in_err-step_or_minus_one-clause-some : goal.returns-in_err-step_or_minus_one-clause-some
returns-in_err-step_or_minus_one-clause-some c = λ is more good e. not_some _ c.in_err-step_or_minus_one.was
    (c.step_or_minus_one.ensures.some is.state.request (ap (λ r. column r 13) e))

pub returns-in_err-day_or_minus_one-clause-some : goal.returns-in_err-day_or_minus_one-clause-some
returns-in_err-day_or_minus_one-clause-some c = λ is more good e. not_some _ c.in_err-day_or_minus_one.was
    (c.day_or_minus_one.ensures.some is.state.requested good.requested (ap (λ r. column r 14) e))

pub returns-in_err-days_or_zero-clause-some : goal.returns-in_err-days_or_zero-clause-some
returns-in_err-days_or_zero-clause-some c = λ is more good e. not_some _ c.in_err-days_or_zero.was
    (c.days_or_zero.ensures.some is.state.ask good.ask (ap (λ r. column r 15) e))

pub returns-in_err-truth-clause-some : goal.returns-in_err-truth-clause-some
returns-in_err-truth-clause-some c = λ is more good e. not_some _ c.in_err-truth.was (c.truth.ensures.some is.state.stopped (ap (λ r. column r 16) e))

pub returns-in_err-short_number-clause-some : goal.returns-in_err-short_number-clause-some
returns-in_err-short_number-clause-some c = λ is more good e. not_some _ c.in_err-short_number.was
    (c.short_number.ensures.some is.state.notices good.notices (ap (λ r. column r 17) e))

pub returns-in_err-short_number-2-clause-some : goal.returns-in_err-short_number-2-clause-some
returns-in_err-short_number-2-clause-some c = λ is more good e. not_some _ c.in_err-short_number-2.was
    (c.short_number-2.ensures.some is.state.papers good.papers (ap (λ r. column r 18) e))

pub returns-in_err-number_or_minus_one-2-clause-some : goal.returns-in_err-number_or_minus_one-2-clause-some
returns-in_err-number_or_minus_one-2-clause-some c = λ is more good e. not_some _ c.in_err-number_or_minus_one-2.was
    (c.number_or_minus_one-2.ensures.some is.state.temporary good.temporary (ap (λ r. column r 19) e))
