-- What two policies decide differently, share by share and cell by cell.
use Rattle.std.proofs.Common.{◌≡◌, ◌≢◌, ◌⊎◌, inl, inr, refl, ap, sym, ◌∙◌, arith, subst, Bool, true, false, not, cond, ◌&&◌, ◌==◌, ℕ, ◌+◌, ◌<◌, ◌≤◌, List, [], ◌∷◌, ◌++◌, length, get_or, take, sum_by, bit_and, add-zero, map, drop, append_assoc}
use Rattle.std.specs.List.{flat_map}
use Rattle.std.proofs.lemmas.List.{at_drop_more, map-append}
use Rattle.permit_base.specs.declared.words.Role.{Role}
use Rattle.permit_base.specs.declared.words.Action.{Action}
use Rattle.permit_policy.specs.declared.changes.Changes.{Changes}
use Rattle.std.proofs.Common.{All, AllPairs}
use mathlib.Core.Bool.{beq}
use Rattle.std.proofs.lemmas.Bool.Decides.{eqb_tells}
use Rattle.std.proofs.lemmas.List.Sums.{sum_by-cons, sum_by_more}
use Rattle.std.proofs.lemmas.List.Elements.{All-cons, All-nil, All-head, All-tail, All-get_or, All-weaker}
use Rattle.permit_base.specs.declared.words.Relations.{Relations}
use Rattle.permit_model.specs.Opened.{Cell, same_truth}
use Rattle.permit_model.specs.Policy.{Decision, is_allow}
use Rattle.permit_policy.specs.Masks.{only_where, cell_number, has_set}
use Rattle.permit_policy.specs.Groups.{differ, held, in_cell, is_cell, AllHaveFacts, Decided, GathersIn, GathersSets, HasFacts, IsApart, Tells}
use Rattle.permit_policy.specs.Shares.{shared, TellsShare}
use Rattle.permit_policy.specs.Changes.{in_both, in_others, in_pairs, request_of, AreDifferences, GathersPairs, GathersShare}
use Rattle.permit_policy.specs.declared.groups.Group.{Group}
use Rattle.permit_policy.specs.declared.shares.Share.{Share}
use Rattle.permit_policy.proofs.Bits.{set_in_and}
use Rattle.permit_policy.proofs.CellNumbers.{cell_below, cell_of}
use Rattle.permit_policy.proofs.RegionLaws.{number_back}
use Rattle.permit_policy.proofs.Gathering.{gathers_then}

-- ---- two shares

-- the same, said otherwise
gathers_as : (here : Cell) (given same : Relations → ℕ) (Told Same : Decided → Decided → Type 0) (old new : List Group)
    → ((set : Relations) → same set ≡ given set) → ((now before : Decided) → Same now before → Told now before)
    → GathersIn here given Told old new → GathersIn here same Same old new
gathers_as here given same Told Same old new sum said g = record {
  held = λ cell set h. let e = ap (in_cell here cell) (sum set) in let now = g.held cell set (omega arith) in omega arith;
  told = λ now before t all. g.told now before (said now before t) all;
  full = g.full;
  apart = g.apart;
}

unlike : (a b x : Bool) → beq a b ≡ false → only_where (not (same_truth a b) && x) 1 ≡ only_where x 1
unlike a b x n = grind arith

both_hold : (a b : Bool) → (a && b) ≡ true → (a ≡ true) × (b ≡ true)
both_hold a b e = grind arith

-- two shares that are decided differently give the sets that both have
pub pair_unlike : (here : Cell) (by was : Share) (old new : List Group) → beq (is_allow by.decision.effect) (is_allow was.decision.effect) ≡ false
    → GathersSets (bit_and by.sets was.sets) here by.decision was.decision old new → GathersShare here by (was ∷ []) old new
pair_unlike here by was old new n g =
    gathers_as here _ _ _ _ old new
    (λ set. sum_by-cons (in_both by set) was [] ∙ add-zero _ ∙ unlike _ _ (has_set by.sets set && has_set was.sets set) n
    ∙ ap (λ b. only_where b 1) (sym (set_in_and by.sets was.sets set)))
    (λ now before said set e.
    let parts = both_hold (has_set by.sets set) (has_set was.sets set) (sym (set_in_and by.sets was.sets set) ∙ e) in
    (said.0 set parts.0, All-head (TellsShare (before here)) was [] said.1 set parts.1)) g

-- ---- share after share

sum_step : (f : Share → ℕ) (xs : List Share) (i : ℕ) (x : Share) → i < length xs → x ≡ get_or xs i x → sum_by f (take (i + 1) xs) ≡ sum_by f (take i xs) + f x
sum_step f xs i x h e = sum_by_more f xs i x h ∙ ap (λ y. sum_by f (take i xs) + f y) (sym e)

pub others_next : (here : Cell) (by : Share) (was : List Share) (i : ℕ) (x : Share) (old mid new : List Group) → i < length was → x ≡ get_or was i x
    → GathersIn here (in_others by (take i was)) (λ now before. TellsShare (now here) by × All (TellsShare (before here)) was) old mid
    → GathersShare here by (x ∷ []) mid new
    → GathersIn here (in_others by (take (i + 1) was)) (λ now before. TellsShare (now here) by × All (TellsShare (before here)) was) old new
others_next here by was i x old mid new h e a b =
    gathers_then here _ _ _ _ _ _ old mid new
    (λ set. sum_step (in_both by set) was i x h e ∙ ap (λ n. sum_by (in_both by set) (take i was) + n) (sym (sum_by-cons (in_both by set) x [] ∙ add-zero _)))
    (λ now before said.
    let P : Share → Type 0 = TellsShare (before here) in
    (said, (said.0, All-cons P x [] (subst P (sym e) (All-get_or P was i x h said.1)) (All-nil P)))) a b

pub pairs_next : (here : Cell) (by was : List Share) (i : ℕ) (x : Share) (old mid new : List Group) → i < length by → x ≡ get_or by i x
    → GathersIn here (in_pairs (take i by) was) (λ now before. All (TellsShare (now here)) by × All (TellsShare (before here)) was) old mid
    → GathersShare here x was mid new
    → GathersIn here (in_pairs (take (i + 1) by) was) (λ now before. All (TellsShare (now here)) by × All (TellsShare (before here)) was) old new
pairs_next here by was i x old mid new h e a b =
    gathers_then here _ _ _ _ _ _ old mid new
    (λ set. sum_step (λ share. in_others share was set) by i x h e)
    (λ now before said.
    let P : Share → Type 0 = TellsShare (now here) in
    (said, (subst P (sym e) (All-get_or P by i x h said.0), said.1))) a b

-- ---- all shares of two policies

-- two shares that have the set are counted, if it is decided differently
counted : (p q d e : Bool) → (p ≡ true → q ≡ true → e ≡ d) → only_where (e && (p && q)) 1 ≡ only_where p (only_where d (only_where q 1))
counted p q d e h = grind arith

in_both_told : (by : Share) (set : Relations) (was : Share) (a b : Decision) → (has_set by.sets set ≡ true → a ≡ by.decision) → (has_set was.sets set ≡ true → b ≡ was.decision)
    → in_both by set was ≡ only_where (has_set by.sets set) (only_where (differ a b) (only_where (has_set was.sets set) 1))
in_both_told by set was a b f g =
    counted (has_set by.sets set) (has_set was.sets set) (differ a b) (differ by.decision was.decision) (λ p q. ap (λ x. differ x was.decision) (sym (f p)) ∙ ap (differ a) (sym (g q)))

no_where : (p d : Bool) → 0 ≡ only_where p (only_where d 0)
no_where p d = grind arith

sum_where : (p d : Bool) (m n : ℕ) → only_where p (only_where d m) + only_where p (only_where d n) ≡ only_where p (only_where d (m + n))
sum_where p d m n = grind arith

-- of the others those that have the set are counted, if it is decided differently
others_told : (by : Share) (set : Relations) (was : List Share) (a b : Decision) → (has_set by.sets set ≡ true → a ≡ by.decision)
    → All (λ share. has_set share.sets set ≡ true → b ≡ share.decision) was
    → in_others by was set ≡ only_where (has_set by.sets set) (only_where (differ a b) (shared was set))
others_told by set [] a b f g = no_where (has_set by.sets set) (differ a b)
others_told by set (x ∷ xs) a b f g =
    let p = has_set by.sets set in
    let d = differ a b in
    let P : Share → Type 0 = λ share. has_set share.sets set ≡ true → b ≡ share.decision in
    let h : Share → ℕ = λ share. cond (has_set share.sets set) 1 0 in
    sum_by-cons (in_both by set) x xs
    ∙ ap (λ n. n + in_others by xs set) (in_both_told by set x a b f (All-head P x xs g))
    ∙ ap (λ n. only_where p (only_where d (h x)) + n) (others_told by set xs a b f (All-tail P x xs g))
    ∙ sum_where p d (h x) (shared xs set)
    ∙ ap (λ n. only_where p (only_where d n)) (sym (sum_by-cons h x xs))

one_where : (d : Bool) → 0 ≡ only_where d 0
one_where d = grind arith

more_where : (p d : Bool) (n m : ℕ) → m ≡ 1 → only_where p (only_where d m) + only_where d n ≡ only_where d (only_where p 1 + n)
more_where p d n m e = grind arith

-- each set is counted as often as it is in a share, if it is decided differently
pub pairs_told : (by : List Share) (set : Relations) (was : List Share) (a b : Decision) → shared was set ≡ 1
    → All (λ share. has_set share.sets set ≡ true → a ≡ share.decision) by
    → All (λ share. has_set share.sets set ≡ true → b ≡ share.decision) was
    → in_pairs by was set ≡ only_where (differ a b) (shared by set)
pairs_told [] set was a b one f g = one_where (differ a b)
pairs_told (x ∷ xs) set was a b one f g =
    let d = differ a b in
    let P : Share → Type 0 = λ share. has_set share.sets set ≡ true → a ≡ share.decision in
    let h : Share → ℕ = λ share. cond (has_set share.sets set) 1 0 in
    sum_by-cons (λ share. in_others share was set) x xs
    ∙ ap (λ n. n + in_pairs xs was set) (others_told x set was a b (All-head P x xs f) g)
    ∙ ap (λ n. only_where (has_set x.sets set) (only_where d (shared was set)) + n) (pairs_told xs set was a b one (All-tail P x xs f) g)
    ∙ more_where (has_set x.sets set) d (shared xs set) (shared was set) one
    ∙ ap (only_where d) (sym (sum_by-cons h x xs))

-- ---- cell after cell

told_at : (decide : Relations → Decision) (shares : List Share) (set : Relations) → All (TellsShare decide) shares → All (λ share. has_set share.sets set ≡ true → decide set ≡ share.decision) shares
told_at decide shares set all = All-weaker (TellsShare decide) (λ share. has_set share.sets set ≡ true → decide set ≡ share.decision) (λ share t. t set) shares all

-- what was gathered of the cells before the number, of which each later one is still empty
pub record Covers (now before : Decided) (number : ℕ) (groups : List Group) : Type 0 where
  pub done : (cell : Cell) (set : Relations) → cell_number cell < number → held groups cell set ≡ only_where (differ (now cell set) (before cell set)) 1
  pub left : (cell : Cell) (set : Relations) → number ≤ cell_number cell → held groups cell set ≡ 0
  pub told : All (Tells now before) groups
  pub full : AllHaveFacts groups
  pub apart : AllPairs IsApart groups

pub covers_none : (now before : Decided) (groups : List Group) → groups ≡ [] → Covers now before 0 groups
covers_none now before groups e =
    let P : List Group → Type 0 = Covers now before 0 in
    subst P (sym e) (record {
      done = λ cell set h. absurd (omega arith);
      left = λ cell set h. refl;
      told = All-nil (Tells now before);
      full = All-nil (λ (group : Group). HasFacts group.region);
      apart = λ i j d h k. absurd (omega arith);
    })

pub covers_all : (now before : Decided) (number : ℕ) (groups : List Group) → 112 ≤ number → Covers now before number groups → AreDifferences now before groups
covers_all now before number groups h c = record {
  once = λ cell set. let known = cell_below cell in c.done cell set (omega arith);
  told = c.told;
  full = c.full;
  apart = c.apart;
}

below_by : (m n : ℕ) → m + 1 ≤ n → (((m == n) ≡ true) × (m ≡ n)) ⊎ (((m == n) ≡ false) × (m ≢ n)) → (m == n) ≡ false
below_by m n h k = grind arith

pub below_other : (m n : ℕ) → m + 1 ≤ n → (m == n) ≡ false
below_other m n h = below_by m n h (eqb_tells m n)

where_other : (b : Bool) (n : ℕ) → b ≡ false → only_where b n ≡ 0
where_other b n e = rw e refl

where_same : (b : Bool) (n : ℕ) → b ≡ true → only_where b n ≡ n
where_same b n e = rw e refl

pub at_most : (b : Bool) → only_where b 1 ≤ 1
at_most b = grind arith

-- what another cell holds stays as it was
pub held_elsewhere : (here cell : Cell) (given : Relations → ℕ) (Told : Decided → Decided → Type 0) (old new : List Group) (set : Relations) → is_cell here cell ≡ false
    → held old cell set ≤ 1 → GathersIn here given Told old new → held new cell set ≡ held old cell set
held_elsewhere here cell given Told old new set e h g =
    let none = where_other (is_cell here cell) (given set) e in
    let now = g.held cell set (omega arith) in omega arith

-- an empty cell holds what is given
pub held_here : (here cell : Cell) (given : Relations → ℕ) (Told : Decided → Decided → Type 0) (old new : List Group) (set : Relations) → is_cell here cell ≡ true
    → held old cell set ≡ 0 → given set ≤ 1 → GathersIn here given Told old new → held new cell set ≡ given set
held_here here cell given Told old new set e h k g =
    let same = where_same (is_cell here cell) (given set) e in
    let now = g.held cell set (omega arith) in omega arith

-- one cell more
pub covers_next : (now before : Decided) (number : ℕ) (here : Cell) (by was : List Share) (old new : List Group)
    → number < 112 → ((cell : Cell) → cell_number cell ≡ number → here ≡ cell)
    → ((set : Relations) → shared by set ≡ 1) → ((set : Relations) → shared was set ≡ 1)
    → All (TellsShare (now here)) by → All (TellsShare (before here)) was
    → Covers now before number old → GathersPairs here by was old new → Covers now before (number + 1) new
covers_next now before number here by was old new lt numbered once once' told told' c g =
    let at : cell_number here ≡ number = ap cell_number (numbered (cell_of number) (number_back number lt)) ∙ number_back number lt in
    let one : (set : Relations) → in_pairs by was set ≡ only_where (differ (now here set) (before here set)) 1 =
    λ set. pairs_told by set was (now here set) (before here set) (once' set) (told_at (now here) by set told) (told_at (before here) was set told') ∙ ap (only_where _) (once set) in
    record {
      done = λ cell set h. elim (eqb_tells number (cell_number cell)) [
        | inl e ↦
            let P : Cell → Type 0 = λ x. held new cell set ≡ only_where (differ (now x set) (before x set)) 1 in
            let few = at_most (differ (now here set) (before here set)) in
            let given = one set in
            subst P (numbered cell (sym e.1))
            (held_here here cell _ _ old new set (ap (λ n. n == cell_number cell) at ∙ e.0) (c.left cell set (omega arith)) (omega arith) g ∙ given)
        | inr e ↦
            let kept = c.done cell set (omega arith) in
            let few = at_most (differ (now cell set) (before cell set)) in
            held_elsewhere here cell _ _ old new set (ap (λ n. n == cell_number cell) at ∙ e.0) (omega arith) g ∙ kept
      ];
      left = λ cell set h.
          let none = c.left cell set (omega arith) in
          held_elsewhere here cell _ _ old new set (ap (λ n. n == cell_number cell) at ∙ below_other number (cell_number cell) h) (omega arith) g ∙ none;
      told = g.told now before (told, told') c.told;
      full = g.full c.full;
      apart = g.apart c.apart;
    }

-- ---- request after request

-- one action more
pub actions_next : (role : Role) (actions : List Action) (i : ℕ) (d : Action) (all more : List Changes) (one : Changes) (whole : List (Role × Action))
    → i < length actions → request_of one ≡ (role, get_or actions i d) → more ≡ all ++ one ∷ []
    → map request_of all ++ map (λ (action : Action). (role, action)) (drop i actions) ≡ whole
    → map request_of more ++ map (λ (action : Action). (role, action)) (drop (i + 1) actions) ≡ whole
actions_next role actions i d all more one whole h e m k =
    let f : Action → Role × Action = λ action. (role, action) in
    ap (λ xs. map request_of xs ++ map f (drop (i + 1) actions)) m
    ∙ ap (λ xs. xs ++ map f (drop (i + 1) actions)) (map-append request_of all (one ∷ []))
    ∙ append_assoc (map request_of all) (request_of one ∷ []) (map f (drop (i + 1) actions))
    ∙ ap (λ x. map request_of all ++ (x ∷ map f (drop (i + 1) actions))) e
    ∙ ap (λ xs. map request_of all ++ xs) (sym (at_drop_more (map f) actions i d h))
    ∙ k

-- one role more
pub roles_next : (f : Role → List (Role × Action)) (roles : List Role) (i : ℕ) (d : Role) (keys more whole : List (Role × Action))
    → i < length roles → more ≡ keys ++ f (get_or roles i d) → keys ++ flat_map f (drop i roles) ≡ whole → more ++ flat_map f (drop (i + 1) roles) ≡ whole
roles_next f roles i d keys more whole h m k =
    ap (λ xs. xs ++ flat_map f (drop (i + 1) roles)) m
    ∙ append_assoc keys (f (get_or roles i d)) (flat_map f (drop (i + 1) roles))
    ∙ ap (λ xs. keys ++ xs) (sym (at_drop_more (flat_map f) roles i d h))
    ∙ k
