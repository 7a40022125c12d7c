use Rattle.std.proofs.Common.{◌+◌, List, take, drop, sym, subst, ◌∙◌, rules, arith}
use Rattle.std.proofs.lemmas.List.{take_all}
use Rattle.std.proofs.lemmas.Result.{on_ok_weaker, on_err_weaker}
use Rattle.permit_core.specs.Taking.{TookAll, StoppedIn}
use Rattle.permit_model.specs.Tables.{FileView}
use Rattle.permit_report.specs.Taken.{TakesFile}
use Rattle.permit_report.proofs.Takes.{took_more, take_next, taken_apart, holds, stopped, whole, whole_front, whole_between, front_between}
use Rattle.permit_report.proofs.writer.register.Goals as goal

pub loop-file-preserved : goal.loop-file-preserved
loop-file-preserved g c =
    let next = took_more (TakesFile g.W.Write.contents)
    (take c.loop-file.file-index c.args.files.now) c.new-writer.result c.loop-file.writer c.write_line.new.self c.file-item.result c.loop-file.invariant
    (rw c.if-not-write_line.false at c.write_line.ensures) in
    let P : List FileView → Type 0 = λ fs. TookAll (TakesFile g.W.Write.contents) fs c.new-writer.result c.write_line.new.self in
    subst P (sym (take_next c.args.files.now c.loop-file.file-index c.file-item.result c.loop-file-test.true c.file-item.is)) next

pub returns-then-not-write_line-clause-front : goal.returns-then-not-write_line-clause-front
returns-then-not-write_line-clause-front g c =
    let apart = taken_apart c.args.files.now c.loop-file.file-index c.file-item.result c.loop-file-test.true c.file-item.is in
    let ends : StoppedIn (TakesFile g.W.Write.contents) c.args.files.now c.new-writer.result c.write_line.new.self = (
      take c.loop-file.file-index c.args.files.now,
      c.file-item.result,
      drop (c.loop-file.file-index + 1) c.args.files.now,
      apart,
      c.loop-file.writer,
      c.loop-file.invariant,
      rw c.if-not-write_line.true at c.write_line.ensures,
    ) in
    let is = stopped g.W.Write.contents c.args.kind c.args.day c.args.files.now c.new-writer.result c.write_line.new.self c.new-writer.ensures.begun ends in
    let named = is.1 ∙ c.new-writer.ensures.same_reference in
    front_between g.W.Write.contents _ _ _ _ _ c.new-writer.ensures.nothing_out is.0 (search rules)

pub returns-clause-whole : goal.returns-clause-whole
returns-clause-whole g c =
    let all = take_all c.loop-file.file-index c.args.files.now (omega arith) in
    let P : List FileView → Type 0 = λ fs. TookAll (TakesFile g.W.Write.contents) fs c.new-writer.result c.loop-file.writer in
    let took = subst P all c.loop-file.invariant in
    let named = (holds g.W.Write.contents c.args.files.now c.new-writer.result c.loop-file.writer took).same ∙ c.new-writer.ensures.same_reference in
    on_ok_weaker c.finish.result (λ ended.
    whole_between g.W.Write.contents _ _ _ _ _ c.new-writer.ensures.nothing_out
    (whole g.W.Write.contents c.args.kind c.args.day c.args.files.now c.new-writer.result c.loop-file.writer _ c.new-writer.ensures.begun took ended)
    (search rules)) c.finish.ensures.whole

pub returns-clause-front : goal.returns-clause-front
returns-clause-front g c =
    let all = take_all c.loop-file.file-index c.args.files.now (omega arith) in
    let P : List FileView → Type 0 = λ fs. TookAll (TakesFile g.W.Write.contents) fs c.new-writer.result c.loop-file.writer in
    let took = subst P all c.loop-file.invariant in
    let named = (holds g.W.Write.contents c.args.files.now c.new-writer.result c.loop-file.writer took).same ∙ c.new-writer.ensures.same_reference in
    on_err_weaker c.finish.result (λ ended.
    front_between g.W.Write.contents _ _ _ _ _ c.new-writer.ensures.nothing_out
    (whole_front g.W.Write.contents c.args.kind c.args.day c.args.files.now c.new-writer.result c.loop-file.writer _ c.new-writer.ensures.begun took ended)
    (search rules)) c.finish.ensures.front
