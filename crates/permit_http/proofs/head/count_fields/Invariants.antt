use Rattle.std.proofs.Common.{◌≡◌, ◌≤◌, ◌+◌, length, drop, map}
use Rattle.httparse.specs.Spans.{header_bytes}
use Rattle.permit_http.specs.Head.{values_named}
use Rattle.permit_http.proofs.head.count_fields.Given as goal

abbrev pub invariant-loop-header : goal.invariant-loop-header
invariant-loop-header l = record {
  counted : l.count + length (values_named l.name (map (header_bytes l.bytes) (drop l.header-index l.headers)))
      ≡ length (values_named l.name (map (header_bytes l.bytes) l.headers));
  few : l.count ≤ l.header-index;
}
