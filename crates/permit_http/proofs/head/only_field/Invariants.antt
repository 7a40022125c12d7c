use Rattle.std.proofs.Common.{◌≡◌, ◌++◌, drop, map, length}
use Rattle.std.specs.Option.{option_map, ForSome}
use Rattle.httparse.specs.Spans.{header_bytes, span_bytes, IsWithin}
use Rattle.permit_http.specs.Head.{values_named}
use Rattle.permit_http.proofs.Named.{listed}
use Rattle.permit_http.proofs.head.only_field.Given as goal

abbrev pub invariant-loop-header : goal.invariant-loop-header
invariant-loop-header l = record {
  found : values_named l.name (map (header_bytes l.bytes) l.headers)
      ≡ listed (option_map (λ v. span_bytes l.bytes v) l.found) ++ values_named l.name (map (header_bytes l.bytes) (drop l.header-index l.headers));
  within : ForSome l.found (λ v. IsWithin (length l.bytes) v);
}
