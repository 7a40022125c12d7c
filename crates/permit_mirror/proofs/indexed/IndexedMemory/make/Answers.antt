use Rattle.permit_mirror.proofs.Changed.{covers_changed}
use Rattle.permit_mirror.proofs.indexed.IndexedMemory.make.Goals as goal

pub returns-clause-made : goal.returns-clause-made
returns-clause-made g c = λ t h fits. (
  c.make.ensures.made t h.0 fits,
  covers_changed c.args.self.now.index c.advance.new.self t c.args.change.now c.args.day h.1 c.requires.ready.1 c.advance.ensures fits,
)
