use Rattle.std.proofs.Common.{map, string_bytes}
use Rattle.clap.specs.Words.{app_of, kind_of}
use Rattle.permit_args.proofs.Unread.{parser_fault, simple_of}
use Rattle.permit_args.proofs.words.matches.Goals as goal

pub returns-in-Ok-clause-found : goal.returns-in-Ok-clause-found
returns-in-Ok-clause-found c = λ simple. record {
  taken = c.in-Ok.ensures.kinds simple;
  found = (c.in-Ok.ensures.matches (simple_of (app_of c.args.command) simple)).0;
}

pub returns-in-Err-clause-refused : goal.returns-in-Err-clause-refused
returns-in-Err-clause-refused c = λ simple.
    parser_fault (app_of c.args.command) (map string_bytes c.args.words.now) (kind_of c.in-Err.error) c.fault.result (c.in-Err.ensures.kinds simple) c.fault.ensures
