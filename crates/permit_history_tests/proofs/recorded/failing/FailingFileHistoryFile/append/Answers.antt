use Rattle.std.proofs.Common.{◌∙◌, [], refl, sym, ap}
use Rattle.std.proofs.lemmas.List.{append-nil}
use Rattle.permit_history_tests.proofs.recorded.failing.FailingFileHistoryFile.append.Goals as goal

pub returns-then-fails-clause-part : goal.returns-then-fails-clause-part
returns-then-fails-clause-part c clean =
    record { part = []; allowed = (c.args.bytes.now, refl); grown = ap (λ v. v.items) c.fails.ensures ∙ sym (append-nil c.args.self.now.bytes.items) }
