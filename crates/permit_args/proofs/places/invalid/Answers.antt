use Rattle.permit_args.proofs.places.invalid.Goals as goal

pub returns-in-Ok : goal.returns-in-Ok
returns-in-Ok c = rw (← c.name-name.ensures, ← c.taken-taken.ensures, ← c.example-example.ensures) c.in-Ok.ensures.ok
