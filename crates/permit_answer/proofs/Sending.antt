-- What is sent for a list, and for a member of an object.
use Rattle.std.proofs.Common.{◌≡◌, ℕ, suc, ◌+◌, ◌<◌, ◌≤◌, List, [], ◌∷◌, map, length, take, get_or, Some, refl, sym, ap, subst}
use Rattle.serde.specs.Event.{Log, Logs, seq_begins, seq_ends, map_ends, WritesEach}
use Rattle.serde.proofs.Events.{WritesEach-more, WritesSeq-ends}
use Rattle.serde_json.specs.Data.{Data, array, Members, no_members, member}
use Rattle.serde_json.specs.Events.{items_len, SendsValue, SendsItems, SendsMembers}
use Rattle.serde_json.specs.View.{items_of}
use Rattle.permit_answer.specs.Sent.{SendsMember}

items_length : {A : Type 0} (value : A → Data) (xs : List A) → items_len (items_of (map value xs)) ≡ length xs
items_length value [] = refl
items_length value (x ∷ xs) = ap suc (items_length value xs)

items_sent : {A : Type 0} (value : A → Data) (xs : List A) (first last new : Log) → WritesEach (λ x. SendsValue (value x)) xs first last →
    Logs last new seq_ends
    → SendsItems (items_of (map value xs)) first new
items_sent value [] first last new each ended = subst (λ log. Logs log new seq_ends) each ended
items_sent value (x ∷ xs) first last new each ended = (each.0, each.1, items_sent value xs each.0 last new each.2 ended)

-- a list whose items are sent in turn, between its marks
pub array_sent : {A : Type 0} (value : A → Data) (xs ys : List A) (i n : ℕ) (old first last new : Log) → ys ≡ xs → n ≡ length xs → length ys ≤ i
    → Logs old first (seq_begins (Some n)) → WritesEach (λ x. SendsValue (value x)) (take i ys) first last → Logs last new seq_ends
    → SendsValue (array (items_of (map value xs))) old new
array_sent value xs ys i n old first last new same len all begun each ended =
    let sent = WritesSeq-ends (λ x. SendsValue (value x)) xs ys i n old first last new same len all begun each ended in
    (sent.0, subst (λ m. Logs old sent.0 (seq_begins (Some m))) (sym (items_length value xs)) sent.2, items_sent value xs sent.0 sent.1 new sent.3 sent.4)

-- one item more of those that were sent
pub each_more : {A : Type 0} (value : A → Data) (xs : List A) (i : ℕ) (x : A) (old mid new : Log) → WritesEach (λ y. SendsValue (value y)) (take i xs) old mid
    → SendsValue (value x) mid new → i < length xs → x ≡ get_or xs i x → WritesEach (λ y. SendsValue (value y)) (take (i + 1) xs) old new
each_more value xs i x old mid new each one lt is = WritesEach-more (λ y. SendsValue (value y)) xs i x old mid new lt is each one

-- the members that are left of an object, and its end
pub record SendsRest (others : Members) (old new : Log) : Type 0 where
  pub all : SendsMembers others old new

-- a member before others
pub before : (key : List ℕ) (value : Data) {said : Data} {others : Members} {old mid new : Log} → SendsMember key said old mid → said ≡ value →
    SendsRest others mid new
    → SendsRest (member key value others) old new
before key value {said} {others} {old} {mid} {new} one same rest =
    record { all = (one.named, mid, one.first, subst (λ v. SendsValue v one.named mid) same one.then, rest.all) }

pub nothing_left : {old new : Log} → Logs old new map_ends → SendsRest no_members old new
nothing_left ended = record { all = ended }
