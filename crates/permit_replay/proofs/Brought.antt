-- A store that is brought from a prefix of a text to its end.
use Rattle.std.proofs.Common.{◌≡◌, ◌<◌, ◌≤◌, inr, refl, sym, ap, ◌∙◌, subst, ℕ, ◌+◌, List, [], ◌∷◌, ◌++◌, length, drop, take, get_or, Option, Some, zero, suc, arith, append_assoc, append-nil, length-append}
use Rattle.std.specs.Prelude.{IfSome, Ok}
use Rattle.std.specs.Io.BufRead.{drop_through}
use Rattle.std.proofs.lemmas.List.{length-take-le, take-append-drop, take_all, take_more}
use Rattle.permit_model.specs.Tables.{Tables, tables}
use Rattle.permit_model.specs.History.{History}
use Rattle.permit_replay.specs.Alike.{AreAlike, unordered}
use Rattle.permit_store.specs.Frames.{StoreView}
use Rattle.permit_history.specs.declared.entry.Entry.{Entry}
use Rattle.permit_history.specs.Text.{AnswersLine, GivesInTurn, next_line}
use Rattle.permit_replay.specs.Histories.{Unsaid, HasToken, HaveTokens, history_with, history_by}
use Rattle.permit_replay.specs.Holding.{HoldsHistory}
use Rattle.permit_replay.proofs.Lines.{next_in_turn}
use Rattle.permit_replay.proofs.Reading.{some_at, told_more, tokens_parted}
use Rattle.permit_replay.specs.Bringing.{GivesFrom, HasLines, IsBrought, IsOnTheWay, Stands, StandsBehind, StandsWithin, in_both}
use Rattle.permit_replay.specs.Opening.{TellTables}
use Rattle.permit_replay.specs.Placing.{AreUpgraded, IsPlaceIn, IsWhere, StandsLast}
use Rattle.permit_replay.specs.Prefixes.{IsTextOf}
use Rattle.permit_replay.specs.declared.opening.placing.Place.{Place}

-- ---- what a store holds

pub alike_back : (t u : Tables) → AreAlike t u → AreAlike u t
alike_back t u alike = record {
  desk = sym alike.desk;
  upgrade = sym alike.upgrade;
  parties = sym alike.parties;
  parcels = sym alike.parcels;
  interests = λ parcel party. sym (alike.interests parcel party);
  files = sym alike.files;
  papers = λ file. sym (alike.papers file);
}

pub stands_found : (begins : Unsaid → Type 0) (entries : List Entry) (t : Tables) (store : StoreView) → TellTables begins entries t → AreUpgraded begins entries → store.holds t
    → Stands begins (unordered store).holds entries
stands_found begins entries t store tells upgraded held unsaid have = record {
  history = (tells unsaid have).0;
  upgraded = upgraded unsaid have;
  held = (t, held, alike_back (tables (history_by unsaid entries)) t (tells unsaid have).1);
}

-- ---- an entry that the store follows

pub stands_more : (begins : Unsaid → Type 0) (old new : StoreView) (entries : List Entry) (entry : Entry) → Stands begins (unordered old).holds entries
    → ((h : History) → HoldsHistory (unordered old).holds h → (unsaid : Unsaid) → HasToken unsaid entry.deed
    → HoldsHistory (unordered new).holds (history_with unsaid h entry.day entry.deed))
    → Stands begins (unordered new).holds (entries ++ entry ∷ [])
stands_more begins old new entries entry stands follows unsaid have =
    let parts = tokens_parted begins unsaid entries entry have in
    subst (HoldsHistory (unordered new).holds) (sym (told_more unsaid entries entry))
    (follows (history_by unsaid entries) (stands unsaid parts.0) unsaid parts.1)

-- the tables that are alike to these
abbrev pub alike_to : (Tables → Type 0) → Tables → Type 0
alike_to holds u = (t : Tables) × holds t × AreAlike t u

pub stands_wider : (begins : Unsaid → Type 0) (old new : Tables → Type 0) (entries : List Entry) → ((t : Tables) → old t → new t) → Stands begins (alike_to old) entries
    → Stands begins (alike_to new) entries
stands_wider begins old new entries wider stands unsaid have = record {
  history = (stands unsaid have).history;
  upgraded = (stands unsaid have).upgraded;
  held = wider_held (stands unsaid have).held;
}
  where
    wider_held : alike_to old (tables (history_by unsaid entries)) → alike_to new (tables (history_by unsaid entries))
    wider_held (t, held, alike) = (t, wider t held, alike)

-- ---- entries in turn

pub one_further : (done xs : List Entry) (i : ℕ) (x : Entry) → i < length xs → x ≡ get_or xs i x → (done ++ take i xs) ++ x ∷ [] ≡ done ++ take (i + 1) xs
one_further done xs i x low is =
    append_assoc done (take i xs) (x ∷ [])
    ∙ ap (λ es. done ++ es) (sym (take_more xs i x low ∙ ap (λ y. take i xs ++ y ∷ []) (sym is)))

-- ---- lines that wait

-- one more of them
pub waits : (begins : Unsaid → Type 0) (least : ℕ) (entries waiting : List Entry) (entry : Entry) (store : StoreView) → StandsBehind begins least entries waiting store
    → StandsBehind begins least (entries ++ entry ∷ []) (waiting ++ entry ∷ []) store
waits begins least entries waiting entry store (done, parted, enough, stands) =
    (done, ap (λ es. es ++ entry ∷ []) parted ∙ append_assoc done waiting (entry ∷ []), enough, stands)

-- they are done
pub all_done : (begins : Unsaid → Type 0) (least : ℕ) (entries waiting : List Entry) (old new : StoreView)
    → ((done : List Entry) → Stands begins (unordered old).holds done → Stands begins (unordered new).holds (done ++ waiting))
    → StandsBehind begins least entries waiting old → StandsBehind begins least entries [] new
all_done begins least entries waiting old new follows (done, parted, enough, stands) =
    (done ++ waiting, parted ∙ sym (append-nil (done ++ waiting)), omega (arith, enough, length-append done waiting), follows done stands)

-- none of them wait any longer
pub stands_all : (begins : Unsaid → Type 0) (least : ℕ) (entries all waiting : List Entry) (memory store : StoreView)
    → StandsBehind begins least entries waiting (in_both memory store)
    → waiting ≡ [] → entries ≡ all → Stands begins (unordered store).holds all
stands_all begins least entries all waiting memory store (done, parted, enough, stands) none is =
    subst (λ es. Stands begins (unordered store).holds es) (sym (parted ∙ ap (λ es. done ++ es) none ∙ append-nil done) ∙ is)
    (stands_wider begins (in_both memory store).holds store.holds done (λ u held. held.1) stands)

-- ---- on the way

-- a store that holds what it held before some lines were done
pub within_behind : (begins : Unsaid → Type 0) (least : ℕ) (entries all rest waiting : List Entry) (memory old new : StoreView)
    → StandsBehind begins least entries waiting (in_both memory old) → all ≡ entries ++ rest → ((u : Tables) → old.holds u → new.holds u)
    → StandsWithin begins least new all
within_behind begins least entries all rest waiting memory old new (done, parted, enough, stands) is wider = (
  done,
  waiting ++ rest,
  is ∙ ap (λ es. es ++ rest) parted ∙ append_assoc done waiting rest,
  enough,
  stands_wider begins (in_both memory old).holds new.holds done (λ u held. wider u held.1) stands,
)

-- a store that still has the tables of its prefix
pub within_first : (begins : Unsaid → Type 0) (count : ℕ) (entries : List Entry) (t : Tables) (store : StoreView) → StandsLast begins count entries t → store.holds t
    → StandsWithin begins count store entries
within_first begins count entries t store stood held = (
  take count entries,
  drop count entries,
  sym (take-append-drop count entries),
  omega (arith, length-take-le count entries stood.few),
  stands_found begins (take count entries) t store stood.tells stood.upgraded held,
)

have_first : (unsaid : Unsaid) (entries later : List Entry) → HaveTokens unsaid (entries ++ later) → HaveTokens unsaid entries
have_first unsaid [] later have = tt
have_first unsaid (entry ∷ entries) later have = (have.0, have_first unsaid entries later have.1)

pub on_the_way : (begins : Unsaid → Type 0) (bytes : List ℕ) (count : ℕ) (entries : List Entry) (left : List ℕ) (t : Tables) (store : StoreView)
    → IsTextOf begins bytes entries left → StandsLast begins count entries t → StandsWithin begins count store entries → IsOnTheWay begins bytes t store
on_the_way begins bytes count entries left t store text stood (first, rest, parted, enough, stands) = inr (
  first,
  rest,
  left,
  subst (λ es. IsTextOf begins bytes es left) parted text,
  (λ unsaid have. stands unsaid (have.0, have_first unsaid first rest have.1)),
  (count, subst (λ es. StandsLast begins count es t) parted stood, enough),
)

-- ---- the second reading

-- one entry more is skipped
pub one_skipped : (here : List ℕ) (entries : List Entry) (left : List ℕ) (n next : ℕ) → next ≡ n + 1 → n < length entries → GivesInTurn here (drop n entries) left
    → GivesInTurn (drop_through 10 here) (drop next entries) left
one_skipped here [] left n next is less given = absurd (omega (arith, less))
one_skipped here (entry ∷ later) left n zero is less given = absurd (omega (arith, is))
one_skipped here (entry ∷ later) left zero (suc next) is less given =
    let none : zero ≡ next = omega (arith, is) in subst (λ m. GivesInTurn (drop_through 10 here) (drop m later) left) none given.1
one_skipped here (entry ∷ later) left (suc n) (suc next) is less given =
    one_skipped here later left n next (omega (arith, is)) (omega (arith, less)) given

-- some of the later entries were read, and these and the ones before them are done but for those that wait
pub record IsMidway (begins : Unsaid → Type 0) (remaining : Option (List ℕ)) (done later waiting : List Entry) (left : List ℕ) (line last : ℕ) (store : StoreView) : Type 0 where
  pub first : List Entry
  pub rest : List Entry
  pub given : GivesFrom remaining rest left
  pub parted : later ≡ first ++ rest
  pub to_go : length rest + line ≡ last
  pub behind : StandsBehind begins (length done) (done ++ first) waiting store

pub midway_more : (begins : Unsaid → Type 0) (o p : Option (List ℕ)) (done later waiting more : List Entry) (left : List ℕ) (line next last : ℕ) (old new : StoreView) (entry : Entry)
    → IsMidway begins o done later waiting left line last old → line < last → next ≡ line + 1
    → ((bytes : List ℕ) → o ≡ Some bytes → AnswersLine (Ok entry) (next_line bytes)) → ((bytes : List ℕ) → o ≡ Some bytes → p ≡ Some (drop_through 10 bytes))
    → ((entries : List Entry) → StandsBehind begins (length done) entries waiting old → StandsBehind begins (length done) (entries ++ entry ∷ []) more new)
    → IsMidway begins p done later more left next last new
midway_more begins o p done later waiting more left line next last old new entry midway less is answers drops follows =
    let given = midway.given in
    let turn = next_in_turn given.0 midway.rest left entry given.2 (omega (arith, midway.to_go, less)) (answers given.0 given.1) in
    record {
      first = midway.first ++ entry ∷ [];
      rest = turn.0;
      given = (drop_through 10 given.0, drops given.0 given.1, turn.2);
      parted = midway.parted ∙ ap (λ es. midway.first ++ es) turn.1 ∙ sym (append_assoc midway.first (entry ∷ []) turn.0);
      to_go = omega (arith, midway.to_go, ap length turn.1, is);
      behind = subst (λ es. StandsBehind begins (length done) es more new) (append_assoc done midway.first (entry ∷ [])) (follows (done ++ midway.first) midway.behind);
    }

none_left : (rest : List Entry) → length rest ≡ 0 → rest ≡ []
none_left [] none = refl
none_left (entry ∷ rest) none = absurd (omega (arith, none))

-- past the last line they are all of the entries
pub midway_last : (begins : Unsaid → Type 0) (remaining : Option (List ℕ)) (done later waiting : List Entry) (left : List ℕ) (line last : ℕ) (store : StoreView)
    (midway : IsMidway begins remaining done later waiting left line last store) → last ≤ line → done ++ midway.first ≡ done ++ later
midway_last begins remaining done later waiting left line last store midway past =
    let none = none_left midway.rest (omega (arith, midway.to_go, past)) in
    ap (λ es. done ++ es) (sym (midway.parted ∙ ap (λ es. midway.first ++ es) none ∙ append-nil midway.first))

pub midway_within : (begins : Unsaid → Type 0) (remaining : Option (List ℕ)) (done later waiting : List Entry) (left : List ℕ) (line last : ℕ) (memory old new : StoreView)
    → IsMidway begins remaining done later waiting left line last (in_both memory old) → ((u : Tables) → old.holds u → new.holds u)
    → StandsWithin begins (length done) new (done ++ later)
midway_within begins remaining done later waiting left line last memory old new midway wider =
    within_behind begins (length done) (done ++ midway.first) (done ++ later) midway.rest waiting memory old new midway.behind
    (ap (λ es. done ++ es) midway.parted ∙ sym (append_assoc done midway.first midway.rest)) wider

-- ---- its place

pub where_some : (begins : Unsaid → Type 0) (o : Option ℕ) (count : ℕ) (entries : List Entry) (t : Tables) → o ≡ Some count → IsWhere begins o entries t
    → StandsLast begins count entries t
where_some begins o count entries t is there = subst (λ p. IsWhere begins p entries t) is there

-- at the last line already
pub stands_there : (begins : Unsaid → Type 0) (count : ℕ) (entries : List Entry) (t : Tables) (store : StoreView) → StandsLast begins count entries t
    → length entries ≤ count → store.holds t → Stands begins (unordered store).holds entries
stands_there begins count entries t store stood all held =
    subst (λ es. Stands begins (unordered store).holds es) (take_all count entries all)
    (stands_found begins (take count entries) t store stood.tells stood.upgraded held)

pub brought_from : (begins : Unsaid → Type 0) (bytes : List ℕ) (t : Tables) (old new store : StoreView) (place : Place) (count : ℕ) (found : IsPlaceIn begins bytes old new place)
    → StandsLast begins count found.entries t → Stands begins (unordered store).holds found.entries
    → IsBrought begins bytes t store (record { stood = count; lines = place.lines; length = place.length })
brought_from begins bytes t old new store place count found stood stands = record {
  entries = found.entries;
  left = found.left;
  text = found.text;
  stood = stood;
  lines = found.lines;
  size = found.size;
  stands = stands;
}

pub lines_of : (begins : Unsaid → Type 0) (bytes : List ℕ) (old new : StoreView) (place : Place) → IsPlaceIn begins bytes old new place
    → HasLines begins bytes place.lines place.length
lines_of begins bytes old new place found =
    record { entries = found.entries; left = found.left; text = found.text; lines = found.lines; size_is = found.size }
