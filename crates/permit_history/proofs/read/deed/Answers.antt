use Rattle.std.proofs.Common.{◌≡◌, codes, bytes_eq, false, sym}
use Rattle.permit_history.proofs.read.deed.Goals as goal

pub returns-else-eq-4 : goal.returns-else-eq-4
returns-else-eq-4 c =
    let founded : bytes_eq c.args.word.now (codes "found") ≡ false = sym c.if-eq.ensures in
    let upgraded : bytes_eq c.args.word.now (codes "upgrade") ≡ false = sym c.if-eq-2.ensures in
    let renewed : bytes_eq c.args.word.now (codes "renew-token") ≡ false = sym c.if-eq-3.ensures in
    let begun : bytes_eq c.args.word.now (codes "begin") ≡ false = sym c.if-eq-4.ensures in
    rw (founded, upgraded, renewed, begun) c.accepted.ensures
