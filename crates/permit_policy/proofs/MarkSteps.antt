-- Marks of several passes, one after the other.
use Rattle.std.proofs.Common.{◌≡◌, ◌≢◌, ◌⊎◌, inl, inr, ap, sym, ◌∙◌, arith, Bool, true, false, ◌==◌, ℕ, ◌+◌, ◌<◌, ◌≤◌, List, ◌++◌, length, take}
use Rattle.std.proofs.Common.{drop, get_or}
use Rattle.std.proofs.Math.Seq.{take-append_seam}
use Rattle.std.proofs.lemmas.Bool.Decides.{eqb_tells}
use Rattle.permit_base.specs.declared.words.Role.{Role}
use Rattle.permit_base.specs.declared.words.Role.TheVariants as role
use Rattle.permit_base.specs.declared.words.Action.{Action}
use Rattle.permit_base.specs.declared.words.Action.TheVariants as action
use Rattle.permit_base.specs.Words.{all_roles, all_actions}
use Rattle.permit_model.specs.Codes.{role_code, action_code}
use Rattle.permit_model.specs.Facts.{Facts}
use Rattle.permit_model.specs.Policy.{Policy}
use Rattle.permit_model.specs.Opened.{Cell, cell_facts}
use Rattle.permit_policy.specs.Masks.{cell_number}
use Rattle.permit_policy.specs.Dead.{IsLive}
use Rattle.permit_policy.specs.Marks.{is_marked, Marks, cell_of_facts, IsIn, IsOf, HasRole}
use Rattle.permit_policy.proofs.CellNumbers.{cell_below}

-- ---- passes

pub marks_none : (policy : Policy) (Seen : Facts → Type 0) (marks : List Bool) → ((facts : Facts) → Seen facts → ⊥) → Marks policy Seen marks marks
marks_none policy Seen marks none = record { kept = λ k e. e; sound = λ k e. inl e; whole = λ facts s k d. absurd (none facts s) }

sound_then : (policy : Policy) (Old Mid : Type 0) (k : ℕ) → (Mid → Old ⊎ IsLive policy k) → Mid ⊎ IsLive policy k → Old ⊎ IsLive policy k
sound_then policy Old Mid k f h = grind arith

whole_then : (policy : Policy) (First Second : Type 0) (facts : Facts) (mid new : List Bool) (k : ℕ) → (First → is_marked mid k ≡ true) →
    (is_marked mid k ≡ true → is_marked new k ≡ true)
    → (Second → is_marked new k ≡ true) → First ⊎ Second → is_marked new k ≡ true
whole_then policy First Second facts mid new k f g h h2 = grind arith

-- one pass, and then another
pub marks_then : (policy : Policy) (First Second Both : Facts → Type 0) (old mid new : List Bool) → Marks policy First old mid → Marks policy Second mid new
    → ((facts : Facts) → Both facts → First facts ⊎ Second facts) → Marks policy Both old new
marks_then policy First Second Both old mid new a b split = grind (arith, sound_then, whole_then)

-- fewer facts
pub marks_of : (policy : Policy) (Seen Fewer : Facts → Type 0) (old new : List Bool) → Marks policy Seen old new →
    ((facts : Facts) → Fewer facts → Seen facts) → Marks policy Fewer old new
marks_of policy Seen Fewer old new a f = record { kept = a.kept; sound = a.sound; whole = λ facts s k d. a.whole facts (f facts s) k d }

-- ---- the facts of a pass

pub same_facts : (r : Role) (a : Action) (cell : Cell) (facts : Facts) → IsIn r a cell facts → facts ≡ cell_facts r a cell facts.relations
same_facts r a cell facts seen = grind arith

before_or_at : (m n : ℕ) → m < n + 1 → (((m == n) ≡ true) × (m ≡ n)) ⊎ (((m == n) ≡ false) × (m ≢ n)) → (m < n) ⊎ (m ≡ n)
before_or_at m n h h2 = grind arith

abbrev pub InCellsBefore : Role → Action → ℕ → Facts → Type 0
InCellsBefore r a n facts = IsOf r a facts × (cell_number (cell_of_facts facts) < n)

cell_by : (r : Role) (a : Action) (n : ℕ) (here : Cell) (facts : Facts) → ((cell : Cell) → cell_number cell ≡ n → here ≡ cell) → IsOf r a facts
    → (cell_number (cell_of_facts facts) < n) ⊎ (cell_number (cell_of_facts facts) ≡ n) → InCellsBefore r a n facts ⊎ IsIn r a here facts
cell_by r a n here facts numbered s (inl lt) = inl (s, lt)
cell_by r a n here facts numbered s (inr e) = inr (s.0, s.1, sym (numbered (cell_of_facts facts) e))

pub next_cell : (r : Role) (a : Action) (n : ℕ) (here : Cell) → ((cell : Cell) → cell_number cell ≡ n → here ≡ cell)
    → (facts : Facts) → InCellsBefore r a (n + 1) facts → InCellsBefore r a n facts ⊎ IsIn r a here facts
next_cell r a n here numbered facts s =
    let m = cell_number (cell_of_facts facts) in
    cell_by r a n here facts numbered s.0 (before_or_at m n s.1 (eqb_tells m n))

pub all_cells : (r : Role) (a : Action) (n : ℕ) → 112 ≤ n → (facts : Facts) → IsOf r a facts → InCellsBefore r a n facts
all_cells r a n h facts s = let known = cell_below (cell_of_facts facts) in let lt : cell_number (cell_of_facts facts) < n = omega arith in (s, lt)

action_back : (a : Action) → get_or all_actions (action_code a) action.AddParty ≡ a
action_back a = grind arith

action_below : (a : Action) → action_code a < 31
action_below a = grind arith

role_back : (r : Role) → get_or all_roles (role_code r) role.Public ≡ r
role_back r = grind arith

role_below : (r : Role) → role_code r < 5
role_below r = grind arith

abbrev pub ByActionsBefore : Role → ℕ → Facts → Type 0
ByActionsBefore r n facts = HasRole r facts × (action_code facts.action < n)

action_by : (r : Role) (n : ℕ) (here : Action) (facts : Facts) → here ≡ get_or all_actions n action.AddParty → HasRole r facts
    → (action_code facts.action < n) ⊎ (action_code facts.action ≡ n) → ByActionsBefore r n facts ⊎ IsOf r here facts
action_by r n here facts at s h = grind (arith, action_back)

pub next_action : (r : Role) (n : ℕ) (here : Action) → here ≡ get_or all_actions n action.AddParty
    → (facts : Facts) → ByActionsBefore r (n + 1) facts → ByActionsBefore r n facts ⊎ IsOf r here facts
next_action r n here at facts s = let m = action_code facts.action in action_by r n here facts at s.0 (before_or_at m n s.1 (eqb_tells m n))

pub by_all_actions : (r : Role) (n : ℕ) → 31 ≤ n → (facts : Facts) → HasRole r facts → ByActionsBefore r n facts
by_all_actions r n h facts s = let known = action_below facts.action in let lt : action_code facts.action < n = omega arith in (s, lt)

abbrev pub ByRolesBefore : ℕ → Facts → Type 0
ByRolesBefore n facts = role_code facts.role < n

role_by : (n : ℕ) (here : Role) (facts : Facts) → here ≡ get_or all_roles n role.Public
    → (role_code facts.role < n) ⊎ (role_code facts.role ≡ n) → ByRolesBefore n facts ⊎ HasRole here facts
role_by n here facts at h = grind (arith, role_back)

pub next_role : (n : ℕ) (here : Role) → here ≡ get_or all_roles n role.Public → (facts : Facts) → ByRolesBefore (n + 1) facts →
    ByRolesBefore n facts ⊎ HasRole here facts
next_role n here at facts s = let m = role_code facts.role in role_by n here facts at (before_or_at m n s (eqb_tells m n))

pub by_all_roles : (n : ℕ) → 5 ≤ n → (facts : Facts) → ByRolesBefore n facts
by_all_roles n h facts = let known = role_below facts.role in omega arith

-- what a Vec holds once its slice was written
pub taken : (n : ℕ) (new old : List Bool) → length new ≡ n → take n (new ++ drop (length new) old) ≡ new
taken n new old e = ap (λ k. take k (new ++ drop (length new) old)) (sym e) ∙ take-append_seam new (drop (length new) old)
