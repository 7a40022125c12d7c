use Rattle.std.proofs.Common.{◌≡◌, drop, map}
use Rattle.httparse.specs.Spans.{header_bytes}
use Rattle.permit_http.specs.Head.{closes}
use Rattle.permit_http.proofs.head.asks_to_close.Given as goal

abbrev pub invariant-loop-header : goal.invariant-loop-header
invariant-loop-header l =
    closes (map (header_bytes l.bytes) l.headers) ≡ closes (map (header_bytes l.bytes) (drop l.header-index l.headers))
