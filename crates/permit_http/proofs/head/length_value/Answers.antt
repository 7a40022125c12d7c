use Rattle.std.proofs.Common.{ap, sym, ◌∙◌}
use Rattle.std.specs.Result.{result_ok}
use Rattle.permit_http.proofs.Lengths.{length_reads, length_digits, length_yes}
use Rattle.permit_http.proofs.head.length_value.Goals as goal

pub returns-in-Ok : goal.returns-in-Ok
returns-in-Ok c =
    let is = sym c.is_length.ensures ∙ c.if-not-is_length.false in
    let parsed = rw c.in-Ok.ensures.cases.0 at c.parse.ensures.value.0 in
    c.ok.ensures.value ∙ ap result_ok (length_reads c.args.value.now c.parse.result is parsed) ∙ length_yes c.args.value.now is

pub returns-in-Err : goal.returns-in-Err
returns-in-Err c =
    let is = sym c.is_length.ensures ∙ c.if-not-is_length.false in
    absurd (c.in-Err.ensures.cases.0 (length_digits c.args.value.now is))
