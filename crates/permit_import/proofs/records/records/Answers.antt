use Rattle.std.proofs.Common.{◌∙◌, sym, ap, refl, inr, option_map}
use Rattle.csv.specs.Reading.{Reached, strip_bom}
use Rattle.permit_import.proofs.records.records.Goals as goal

pub returns : goal.returns
unfolding Reached
returns g c =
    let fr = c.from_reader.ensures in
    let e = c.flexible.ensures in
    let h = c.has_headers.ensures in
    record {
      trim = rw (e, h) at fr.trim ∙ c.new.ensures.trim;
      ready = inr (inr (rw (e, h) at fr.has_headers, fr.headers));
      config = rw (e, h) at fr.config ∙ c.new.ensures.config;
      reached = λ bytes k. (strip_bom bytes, fr.source ∙ ap (option_map strip_bom) k, (sym fr.state, refl));
    }
