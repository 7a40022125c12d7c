use Rattle.std.proofs.Common.{◌≡◌, ◌∙◌, ap, inr}
use Rattle.permit_mirror.proofs.mirrored.MirroredStore.commit.Goals as goal
use Rattle.permit_mirror.proofs.mirrored.MirroredStore.commit.Goals.{in-Ok-made, in-Err-made}

pub returns-clause-crash : goal.returns-clause-crash
returns-clause-crash g c = λ t fits.
    let same : c.match-made.self.kept ≡ c.commit-made.new.self =
    elim c.match-made.branch [ in-Ok-made w ↦ ap (λ s. s.kept) w.self-is | in-Err-made w ↦ ap (λ s. s.kept) w.self-is ]
    in (c.settle.new.self.kept, c.settle.ensures.crash t, inr (rw (c.counted-2.ensures.stores.0 ∙ same) (c.commit-made.ensures.crash t fits)))
