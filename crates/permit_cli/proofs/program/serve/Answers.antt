use Rattle.std.proofs.Common.{inl, refl}
use Rattle.permit_args.specs.Keepings.{named_history}
use Rattle.permit_cli.specs.Streams.{printed}
use Rattle.permit_cli.proofs.Doings.{says_no_opening}
use Rattle.permit_cli.proofs.program.serve.Goals as goal

pub returns-in-Err-clause-first : goal.returns-in-Err-clause-first
returns-in-Err-clause-first g c =
    let held = printed c.args.err.now in
    (held, inl refl, says_no_opening (named_history c.args.words.now.history) held)
