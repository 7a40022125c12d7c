use Rattle.std.proofs.Common.{◌∙◌, rules, tests}
use Rattle.std.proofs.lemmas.Iterator.{YieldsList-from_slice}
use Rattle.std.proofs.lemmas.Iterator.Consumers.{count_from_yields_List, YieldsList-from_filter}
use Rattle.std.proofs.lemmas.List.Sums.{length-filter}
use Rattle.permit_base.specs.declared.words.Edition.TheVariants.{First}
use Rattle.permit_model.specs.Codes.{is_edition}
use Rattle.permit_store.specs.Plain.{KeptFile}
use Rattle.permit_store.proofs.plain.load.count_first.Goals as goal

pub returns : goal.returns
returns c =
    count_from_yields_List c.filter.result _ c.count.ensures.ran
    (YieldsList-from_filter _ (λ (k : KeptFile). is_edition k.row.state.edition First) (YieldsList-from_slice c.args.files.now (cc))
    c.filter.ensures.closure (λ x r q k. search (rules, tests)))
    ∙ length-filter (λ (k : KeptFile). is_edition k.row.state.edition First) c.args.files.now
