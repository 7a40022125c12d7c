use Rattle.permit_mirror.proofs.load.Mirrored+S+Indexed+PlainStore.load.Goals as goal

pub returns-in-Ok-load-clause-held : goal.returns-in-Ok-load-clause-held
returns-in-Ok-load-clause-held g c = λ t h sound. c.new.ensures.held t (c.in-Ok.ensures.kept t h)
    (λ readable. c.in-Ok-load.ensures.held t (c.in-Ok.ensures.held readable.0 t h sound) sound)
