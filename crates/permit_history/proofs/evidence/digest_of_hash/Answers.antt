use Rattle.std.proofs.Common.{◌≡◌, None, Some, length, rules}
use Rattle.std.specs.Prelude.{IsTrue}
use Rattle.hex.specs.Hex.{IsBytes}
use Rattle.permit_base.proofs.Letters.{IsUtf8-digest}
use Rattle.permit_base.specs.Texts.{is_digest}
use Rattle.permit_history.proofs.HexLetters.{is_digest-encoded}
use Rattle.permit_history.proofs.evidence.digest_of_hash.Goals as goal

pub unreachable-requires-in_default-from_utf8 : goal.unreachable-requires-in_default-from_utf8
unreachable-requires-in_default-from_utf8 c =
    let long : length c.finalize-bytes.result ≡ 32 = search rules in
    let small : IsBytes c.finalize-bytes.result = λ i. search (rules, c.finalize-bytes.type_inv) in
    let letters : IsTrue (is_digest c.encode_to_slice.new.output) = rw c.in-Ok.ensures.written (is_digest-encoded c.finalize-bytes.result long small) in
    c.in_default-from_utf8.ensures.cases.0 (IsUtf8-digest _ letters)

pub unreachable-requires-in-None : goal.unreachable-requires-in-None
unreachable-requires-in-None c =
    let long : length c.finalize-bytes.result ≡ 32 = search rules in
    let small : IsBytes c.finalize-bytes.result = λ i. search (rules, c.finalize-bytes.type_inv) in
    let letters : IsTrue (is_digest c.in-Ok-from_utf8.text.now) =
    rw (c.in-Ok-from_utf8.ensures.cases.0, c.in-Ok.ensures.written) (is_digest-encoded c.finalize-bytes.result long small) in
    let read : None ≡ Some c.in-Ok-from_utf8.text.now = rw letters at c.in-None.ensures.exact in cc
