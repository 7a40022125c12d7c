-- The selections of a listing find each file that is listed, and none that the filter doesn't want.
use Rattle.std.proofs.Common.{◌≡◌, ◌≤◌, ◌<◌, ◌⊎◌, inl, inr, ℕ, ◌+◌, Bool, true, false, ◌&&◌, ◌||◌, cond, ◌++◌, map, refl, sym, ◌∙◌, ap, subst, arith}
use Rattle.std.specs.Prelude.{if◌then◌else◌, filter, ◌==◌}
use Rattle.std.specs.List.{list_any}
use Rattle.std.proofs.lemmas.Bool.{eqb-true}
use Rattle.permit_base.specs.declared.words.Role.{Role}
use Rattle.permit_base.specs.declared.words.Relation.{Relation}
use Rattle.permit_base.specs.declared.words.Relation.TheVariants.{Applicant, Contractor, Owner, AssignedReviewer, AssignedInspector, Conflict}
use Rattle.permit_base.specs.declared.words.Relations.{Relations}
use Rattle.permit_base.specs.declared.words.Action.{Action}
use Rattle.permit_base.specs.declared.words.Action.TheVariants as action
use Rattle.permit_base.specs.declared.request.Filter.{Filter}
use Rattle.permit_base.specs.declared.route.By.TheVariants as by
use Rattle.permit_base.specs.Words.{all_relations}
use Rattle.permit_model.specs.Codes.{relation_code, is_relation}
use Rattle.permit_model.specs.Search.{how_many}
use Rattle.permit_model.specs.History.{History}
use Rattle.permit_model.specs.Caller.{Party}
use Rattle.permit_model.specs.Files.{CaseFile}
use Rattle.permit_model.specs.BaseStage.{base_stage}
use Rattle.permit_model.specs.Facts.{holds, no_relations, stage_on, timing_of, relations_to_file, file_facts}
use Rattle.permit_model.specs.Policy.{Policy, allows}
use Rattle.permit_model.specs.Tables.{state_of}
use Rattle.permit_model.specs.Listing.{meets, is_listed}
use Rattle.permit_model.specs.Opened.{Cell, cell_facts, allowed_by, only, Pair, all_pairs, both_of, allowed_as_two, has_both}
use Rattle.permit_model.specs.Routes.{routes_of, is_by, is_found}
use Rattle.permit_model.proofs.PolicyFacts.{narrowed}
use Rattle.permit_model.proofs.SoundStates.{base_stored, anchored, stands_in}
use Rattle.permit_model.proofs.Selecting.{how_many-map, how_many-append, how_many-filter, how_many-most, some_counted, any_counted, any_weaker}
use Rattle.permit_model.proofs.FoundFiles.{found_file, ways, times, times_open, day_cell, times_in, IsKept, left_of, right_of, finders}

-- ---- relations

-- the relation of a code
abbrev pub relation_coded : ℕ → Relation
relation_coded code =
    if code == 0 then Applicant else if code == 1 then Contractor else if code == 2 then Owner else if code == 3 then AssignedReviewer else if code == 4 then AssignedInspector else Conflict

relation_back : (r : Relation) → relation_coded (relation_code r) ≡ r
relation_back r = grind arith

same_relation : (a b : Relation) → is_relation a b ≡ true → a ≡ b
same_relation a b e = sym (relation_back a) ∙ ap relation_coded (eqb-true (relation_code a) (relation_code b) e) ∙ relation_back b

relation_listed : (r : Relation) → list_any (is_relation r) all_relations ≡ true
relation_listed r = grind arith

-- what one relation passes, one of the list passes
one_there : (q : Relation → Bool) (r : Relation) → q r ≡ true → list_any q all_relations ≡ true
one_there q r e = any_weaker (is_relation r) q (λ s f. ap q (sym (same_relation r s f)) ∙ e) all_relations (relation_listed r)

-- ---- pairs

-- whether it is this pair, whichever comes first
abbrev pub is_pair : Relation → Relation → Pair → Bool
is_pair a b pair = (is_relation a pair.0 && is_relation b pair.1) || (is_relation b pair.0 && is_relation a pair.1)

pair_listed : (a b : Relation) → (list_any (is_pair a b) all_pairs || is_relation a b) ≡ true
pair_listed a b = grind arith

both_same : (a : Relation) → both_of (a, a) ≡ only a
both_same a = grind arith

both_swap : (a b : Relation) → both_of (b, a) ≡ both_of (a, b)
both_swap a b = grind arith

-- the pair is selected, and these relations have it
abbrev pub TwoHold : (Relations → Bool) → Relations → Pair → Type 0
TwoHold may set pair = (allowed_as_two may pair && has_both set pair) ≡ true

two_hold : (may : Relations → Bool) (set : Relations) (a b : Relation) → may (both_of (a, b)) ≡ true → may (only a) ≡ false → may (only b) ≡ false →
    holds set a ≡ true → holds set b ≡ true → TwoHold may set (a, b)
two_hold may set a b both first second e f = rw (both, first, second, e, f) refl

pair_is : (a b : Relation) (pair : Pair) (x y : Bool) → is_relation a pair.0 ≡ x → is_relation b pair.1 ≡ y → (x && y) ≡ true → pair ≡ (a, b)
pair_is a b pair x y e f h = grind arith

either_pair : (a b : Relation) (pair : Pair) (P : Pair → Type 0) → P (a, b) → P (b, a) → (x y : Bool) → (is_relation a pair.0 && is_relation b pair.1) ≡ x →
    (is_relation b pair.0 && is_relation a pair.1) ≡ y → (x || y) ≡ true → P pair
either_pair a b pair P here there x y e f h = grind arith

-- two relations that are one would be allowed alone
pair_by : (may : Relations → Bool) (set : Relations) (a b : Relation) → may (both_of (a, b)) ≡ true → may (only a) ≡ false → may (only b) ≡ false →
    holds set a ≡ true → holds set b ≡ true →
    (x y : Bool) → list_any (is_pair a b) all_pairs ≡ x → is_relation a b ≡ y → (x || y) ≡ true →
    list_any (λ pair. allowed_as_two may pair && has_both set pair) all_pairs ≡ true
pair_by may set a b both first second e f true y listed same h =
    any_weaker (is_pair a b) (λ pair. allowed_as_two may pair && has_both set pair)
    (λ pair found. either_pair a b pair (TwoHold may set) (two_hold may set a b both first second e f)
    (two_hold may set b a (ap may (both_swap a b) ∙ both) second first f e)
    (is_relation a pair.0 && is_relation b pair.1) (is_relation b pair.0 && is_relation a pair.1) refl refl found) all_pairs listed
pair_by may set a b both first second e f false true listed same h =
    let one : both_of (a, b) ≡ only a = ap (λ r. both_of (a, r)) (sym (same_relation a b same)) ∙ both_same a in
    let bad : true ≡ false = sym both ∙ ap may one ∙ first in cc
pair_by may set a b both first second e f false false listed same h = cc

-- ---- how many selections hold of relations

-- by one relation, and by two
abbrev pub single_times : (Relations → Bool) → Relations → ℕ
single_times may set = how_many (λ r. may (only r) && holds set r) all_relations

abbrev pub double_times : (Relations → Bool) → Relations → ℕ
double_times may set = how_many (λ pair. allowed_as_two may pair && has_both set pair) all_pairs

times_else : (may : Relations → Bool) (set : Relations) → may no_relations ≡ false → times may set ≡ single_times may set + double_times may set
times_else may set closed =
    let ones = filter (λ r. may (only r)) all_relations in
    let twos = filter (allowed_as_two may) all_pairs in
    let all : ways may ≡ map by.One ones ++ map (λ (pair : Pair). by.Two pair.0 pair.1) twos = rw closed refl in
    let parts = how_many-append (λ b. is_by b set) (map by.One ones) (map (λ (pair : Pair). by.Two pair.0 pair.1) twos) in
    let first : how_many (λ b. is_by b set) (map by.One ones) ≡ single_times may set = how_many-map by.One (λ b. is_by b set) ones
    ∙ how_many-filter (λ r. may (only r)) (λ r. holds set r) all_relations in
    let second : how_many (λ b. is_by b set) (map (λ (pair : Pair). by.Two pair.0 pair.1) twos) ≡ double_times may set =
    how_many-map (λ (pair : Pair). by.Two pair.0 pair.1) (λ b. is_by b set) twos ∙ how_many-filter (allowed_as_two may) (λ pair. has_both set pair) all_pairs in
    ap (how_many (λ b. is_by b set)) all ∙ parts ∙ ap (λ n. n + how_many (λ b. is_by b set) (map (λ (pair : Pair). by.Two pair.0 pair.1) twos)) first
    ∙ ap (λ n. single_times may set + n) second

most_by : (may : Relations → Bool) (set : Relations) (b : Bool) → may no_relations ≡ b → times may set ≤ 21
most_by may set true free = omega (arith, times_open may set free)
most_by may set false closed =
    omega (
      arith,
      times_else may set closed,
      how_many-most (λ r. may (only r) && holds set r) all_relations,
      how_many-most (λ pair. allowed_as_two may pair && has_both set pair) all_pairs,
    )

-- at most each of the six relations and of the fifteen pairs
pub times_most : (may : Relations → Bool) (set : Relations) → times may set ≤ 21
times_most may set = most_by may set (may no_relations) refl

positive_one : (may : Relations → Bool) (set : Relations) (r : Relation) → may no_relations ≡ false → holds set r ≡ true → may (only r) ≡ true →
    0 < times may set
positive_one may set r closed held alone =
    let hit : (may (only r) && holds set r) ≡ true = rw (alone, held) refl in
    omega (arith, times_else may set closed, some_counted (λ s. may (only s) && holds set s) all_relations (one_there (λ s. may (only s) && holds set s) r hit))

positive_two : (may : Relations → Bool) (set : Relations) (a b : Relation) → may no_relations ≡ false → holds set a ≡ true → holds set b ≡ true →
    may (both_of (a, b)) ≡ true → (x y : Bool) → may (only a) ≡ x → may (only b) ≡ y → 0 < times may set
positive_two may set a b closed e f both true y first second = positive_one may set a closed e first
positive_two may set a b closed e f both false true first second = positive_one may set b closed f second
positive_two may set a b closed e f both false false first second =
    omega (
      arith,
      times_else may set closed,
      some_counted (λ pair. allowed_as_two may pair && has_both set pair) all_pairs
          (pair_by may set a b both first second e f (list_any (is_pair a b) all_pairs) (is_relation a b) refl refl (pair_listed a b)),
    )

-- what is allowed to none of these relations, to one of them alone, or to two of them alone
abbrev pub IsNarrowed : (Relations → Bool) → Relations → Type 0
IsNarrowed may set =
    (may no_relations ≡ true)
    ⊎ ((r : Relation) × (holds set r ≡ true) × (may (only r) ≡ true))
    ⊎ ((a b : Relation) × (has_both set (a, b) ≡ true) × (may (both_of (a, b)) ≡ true))

positive_by : (may : Relations → Bool) (set : Relations) → (b : Bool) → may no_relations ≡ b → IsNarrowed may set → 0 < times may set
positive_by may set true free narrow = omega (arith, times_open may set free)
positive_by may set false closed (inl free) = let bad : false ≡ true = sym closed ∙ free in cc
positive_by may set false closed (inr (inl one)) = positive_one may set one.0 closed one.1 one.2
positive_by may set false closed (inr (inr two)) =
    positive_two may set two.0 two.1 closed (left_of (holds set two.0) (holds set two.1) two.2) (right_of (holds set two.0) (holds set two.1) two.2) two.3
    (may (only two.0)) (may (only two.1)) refl refl

-- what is allowed to these relations is selected by some of them
pub allowed_selected : (policy : Policy) (role : Role) (act : Action) (cell : Cell) (set : Relations) → allowed_by policy role act cell set ≡ true →
    0 < times (allowed_by policy role act cell) set
allowed_selected policy role act cell set h =
    positive_by (allowed_by policy role act cell) set (allowed_by policy role act cell no_relations) refl (narrowed policy (cell_facts role act cell set) set h)

-- ---- files

-- the row of each file is kept as selections need
pub kept_file : (file : CaseFile) → IsKept (state_of file)
kept_file file = (base_stored file.acts, stands_in (base_stage file.acts) file.filing.filed file.acts (anchored file.acts))

-- how many selections of a listing find the row of a file
pub finders_of_file : (policy : Policy) (h : History) (day : ℕ) (caller : Party) (wanted : Filter) (file : CaseFile) →
    how_many (λ r. is_found r caller.id day (found_file h caller.id file)) (routes_of (allowed_by policy caller.role action.List) wanted)
    ≡ times_in (allowed_by policy caller.role action.List) wanted (day_cell day (state_of file)) (relations_to_file h caller.id file)
finders_of_file policy h day caller wanted file = finders (allowed_by policy caller.role action.List) wanted caller.id day (found_file h caller.id file)
    (kept_file file)

-- whether some selection of the listing finds the row of the file
abbrev pub is_selected : Policy → History → ℕ → Party → Filter → CaseFile → Bool
is_selected policy h day caller wanted file = list_any (λ r. is_found r caller.id day (found_file h caller.id file))
    (routes_of (allowed_by policy caller.role action.List) wanted)

gate_opens : (b : Bool) (n : ℕ) → 0 < cond b n 0 → b ≡ true
gate_opens b n h = grind arith

-- a row that is found is one that the filter wants
pub found_meets : (policy : Policy) (h : History) (day : ℕ) (caller : Party) (wanted : Filter) (file : CaseFile) →
    is_selected policy h day caller wanted file ≡ true → meets wanted (stage_on day file) (timing_of day file) ≡ true
found_meets policy h day caller wanted file found =
    gate_opens (meets wanted (stage_on day file) (timing_of day file))
    (times (allowed_by policy caller.role action.List (day_cell day (state_of file))) (relations_to_file h caller.id file))
    (subst (λ n. 0 < n) (finders_of_file policy h day caller wanted file)
    (some_counted (λ r. is_found r caller.id day (found_file h caller.id file)) (routes_of (allowed_by policy caller.role action.List) wanted) found))

-- the row of a file that is listed is found
pub none_missed : (policy : Policy) (h : History) (day : ℕ) (caller : Party) (wanted : Filter) (file : CaseFile) →
    is_listed policy h day caller wanted file ≡ true → is_selected policy h day caller wanted file ≡ true
none_missed policy h day caller wanted file listed =
    let cell = day_cell day (state_of file) in
    let set = relations_to_file h caller.id file in
    let may = allowed_by policy caller.role action.List cell in
    let wants : meets wanted (stage_on day file) (timing_of day file) ≡ true =
    left_of (meets wanted (stage_on day file) (timing_of day file)) (allows policy (file_facts h day caller file action.List)) listed in
    let allow : may set ≡ true = right_of (meets wanted (stage_on day file) (timing_of day file))
    (allows policy (file_facts h day caller file action.List)) listed in
    let count : how_many (λ r. is_found r caller.id day (found_file h caller.id file)) (routes_of (allowed_by policy caller.role action.List) wanted)
    ≡ times may set =
    finders_of_file policy h day caller wanted file ∙ ap (λ b. cond b (times may set) 0) wants in
    any_counted (λ r. is_found r caller.id day (found_file h caller.id file)) (routes_of (allowed_by policy caller.role action.List) wanted)
    (subst (λ n. 0 < n) (sym count) (allowed_selected policy caller.role action.List cell set allow))
