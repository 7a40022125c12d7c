-- What was printed to a stream of the program, where that is known.
use Rattle.std.specs.Prelude.{ℕ, List, Option, None, Some}
use Rattle.permit_cli.specs.declared.stream.Stream.{Stream}
use Rattle.permit_cli.specs.declared.stream.Stream.TheVariants.{Output, Errors, Memory, Sink}

abbrev pub printed : Stream → Option (List ℕ)
printed (Output stream) = None
printed (Errors stream) = None
printed (Memory bytes) = Some bytes.items
printed Sink = None
