use Rattle.std.proofs.Common.{sym, ap, ◌∙◌}
use Rattle.std.specs.Prelude.{option_and_then, slice_get}
use Rattle.clap.specs.Words.{found_of}
use Rattle.permit_args.proofs.Seconds.{got, second_is}
use Rattle.permit_args.proofs.found.second.Goals as goal

pub returns-in_err-get_raw : goal.returns-in_err-get_raw
returns-in_err-get_raw c =
    second_is (found_of c.args.matches.now) c.args.name.now c.get_raw.result c.from_residual.result c.get_raw.ensures
    (c.from_residual.ensures ∙ sym (ap (option_and_then (λ s. slice_get s.now 1)) c.in_err-get_raw.was))

pub returns : goal.returns
returns c =
    let values = c.in_ok-get_raw.field-0.now in
    second_is (found_of c.args.matches.now) c.args.name.now c.get_raw.result c.copied.result c.get_raw.ensures
    (c.copied.ensures ∙ got c.get.result values 1 c.get.ensures.lookup.0 c.get.ensures.lookup.1
    ∙ sym (ap (option_and_then (λ s. slice_get s.now 1)) c.in_ok-get_raw.was))
