use Rattle.std.proofs.Common.{◌∙◌, sym}
use Rattle.std.specs.List.{filter_map}
use Rattle.permit_base.specs.Words.{named}
use Rattle.permit_policy.proofs.Texts.{texts, word_read, missing_less}
use Rattle.permit_policy.proofs.lists.read_words.Goals as goal

pub loop-i-preserved : goal.loop-i-preserved
loop-i-preserved g c =
    let read = named g.W.Word.spelling g.W.Word.every in
    let vs = c.args.values.now in
    let step = word_read read vs c.loop-i.i c.index-values-i.result c.text_of.result.now c.in-Some.word c.loop-i-test.true c.index-values-i.is c.text_of.ensures c.in-Some.ensures in
    record {
      checked = sym step.checked ∙ c.loop-i.invariant.checked;
      missing = missing_less read vs c.loop-i.i c.in-Some.word c.loop-i.words.items c.push.new.self.items
          (filter_map read (texts vs)) step c.in_ok-push-in-Some.ensures.items c.loop-i.invariant.missing;
    }
