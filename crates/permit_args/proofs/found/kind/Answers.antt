use Rattle.permit_args.proofs.Unread.{refuses_by}
use Rattle.permit_args.proofs.found.kind.Goals as goal

pub returns-in-None-clause-refused : goal.returns-in-None-clause-refused
returns-in-None-clause-refused c = refuses_by _ _ _ c.invalid.ensures (λ kind word. let bad = c.in-None.ensures.reads kind word in cc)
