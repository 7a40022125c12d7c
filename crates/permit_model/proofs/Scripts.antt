-- A script leads from a history to a history, and the examples begin with one.
use Rattle.std.proofs.Common.{◌≡◌, ℕ, Bool, cond, ◌==◌, List, [], ◌∷◌, refl, arith}
use Rattle.std.specs.Prelude.{Option, Some, is_some, IsTrue, find}
use Rattle.hex.specs.Hex.{encode_with}
use Rattle.sha2.specs.Sha256.{first_words, schedule, rounds, compress, hash_after, digest_bytes, sha256}
use Rattle.permit_model.specs.History.{History}
use Rattle.permit_model.specs.Caller.{Party, parties, party_numbered}
use Rattle.permit_model.specs.Machine.{IsHistory}
use Rattle.permit_model.specs.StandardPolicy.{standard_policy}
use Rattle.permit_model.specs.Examples.{opening, Turn, turn, after}
use Rattle.permit_model.proofs.Histories.{by_caller_keeps}

found_at : (q p : Party) (id : ℕ) (b c : Bool) (rest by_number : Option Party) → (q.id == p.id) ≡ c → cond b (Some q) rest ≡ Some p →
    (rest ≡ Some p → IsTrue (is_some by_number)) → IsTrue (is_some (cond c (Some q) by_number))
found_at q p id b c rest by_number e found ih = grind arith

-- a party that is found is there
found : (ps : List Party) (id : ℕ) (p : Party) → find (λ q. q.id == id) ps ≡ Some p → IsTrue (is_some (find (λ q. q.id == p.id) ps))
found [] id p e = cc
found (q ∷ ps) id p e = found_at q p id (q.id == id) (q.id == p.id) (find (λ r. r.id == id) ps) (find (λ r. r.id == p.id) ps) refl e (found ps id p)

-- a script leads from a history to a history
pub script_keeps : (ts : List Turn) (h : History) → IsHistory h → IsHistory (after ts h)
script_keeps [] h is = is
script_keeps (t ∷ ts) h is = script_keeps ts (turn h t).history (by_caller_keeps standard_policy h t.day t.request is (party_numbered h t.party)
    (found (parties h) t.party))

-- the opening is a history: SHA-256 and the spelling of a digest are opened, so that no digest is found twice
pub opening_is : IsHistory opening
unfolding sha256 digest_bytes hash_after compress rounds schedule first_words encode_with
opening_is = grind arith
