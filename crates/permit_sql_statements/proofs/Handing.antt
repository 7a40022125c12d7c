-- The rows of all files that were handed out, and those among them that are looked for.
use Rattle.std.proofs.Common.{◌≡◌, Option, inl, inr, ℕ, Bool, true, false, List, [], ◌∷◌, ◌++◌, filter, map, Result, Ok, Err, refl, sym, ap, ap₂, subst, ◌∙◌}
use Rattle.std.proofs.Common.{append-nil}
use Rattle.std.specs.Prelude.{IsTrue, ◌||◌}
use Rattle.std.proofs.lemmas.List.Elements.{filter-append}
use Rattle.std.proofs.lemmas.List.Sorted.{IsPermutation-refl}
use Rattle.sqlite_value.specs.Order.{Row}
use Rattle.sqlite_resolve.specs.declared.compiled.Compiled.{Compiled}
use Rattle.sqlite.specs.Clock.{timed}
use Rattle.sqlite.specs.Effect.{Database}
use Rattle.sqlite.specs.Listing.{understood, reads_listing, IsSourceOf}
use Rattle.sqlite.specs.State.{State, IsStatement, IsUnchanged, Begins}
use Rattle.sqlite.proofs.Callers.{command_of, EndsIn, IsPlain, begins_shown}
use Rattle.sqlite_keyed.proofs.ListLemmas.{IsPermutation-filter, filter_same}
use Rattle.permit_base.specs.declared.route.Route.{Route}
use Rattle.permit_model.specs.Tables.{Tables}
use Rattle.permit_model.specs.Routes.{Found, found_by, is_found}
use Rattle.permit_store.specs.Handing.{AreAmong, AreFound, AreHanded, IsLeft, found_by_any, is_found_by_any}
use Rattle.permit_sql_rows.specs.Kept.{Keeps, Shows}
use Rattle.permit_sql_rows.specs.Rows.{int, shown_found}
use Rattle.permit_sql_statements.specs.declared.texts.TheConstants.{READ_FOUND}
use Rattle.permit_sql_statements.specs.Gave.{AreReadAs, Gave}
use Rattle.permit_sql_statements.proofs.FoundShown.{found_shown}
use Rattle.permit_sql_statements.proofs.KeptLemmas.{shown_open}
use Rattle.permit_sql_statements.proofs.QueryTexts.{read_found_is, read_found_plain}
use Rattle.permit_sql_statements.proofs.Selecting.{AreNamed, all_found}

-- where rows begin those that show what is found, what they were read as begins that
read_back : (upgrade : Option ℕ) (rows more : List Row) (given all : List Found) → AreReadAs upgrade rows given → AreNamed upgrade all → rows ++ more ≡ map shown_found all → (rest : List Found)
    × (all ≡ given ++ rest) × (more ≡ map shown_found rest)
read_back upgrade [] more [] all are named is = (all, refl, is)
read_back upgrade [] more (g ∷ given) all are named is = absurd are
read_back upgrade (r ∷ rows) more [] all are named is = absurd are
read_back upgrade (r ∷ rows) more (g ∷ given) [] are named is = absurd cc
read_back upgrade (r ∷ rows) more (g ∷ given) (f ∷ all) are named is =
    let first : r ≡ shown_found f = cc in
    let others : rows ++ more ≡ map shown_found all = cc in
    let later = read_back upgrade rows more given all are.1 named.1 others in
    (later.0, ap₂ ◌∷◌ (sym (are.0 f named.0 first)) later.1, later.2)

none_left : (rest : List Found) → [] ≡ map shown_found rest → rest ≡ []
none_left [] is = refl
none_left (f ∷ rest) is = absurd cc

none_read : (upgrade : Option ℕ) (rows : List Row) (given : List Found) → rows ≡ [] → AreReadAs upgrade rows given → given ≡ []
none_read upgrade [] [] is are = refl
none_read upgrade [] (g ∷ given) is are = absurd are
none_read upgrade (r ∷ rows) given is are = absurd cc

-- the text is plain in a database that keeps the tables
pub found_plain : (t : Tables) (db : Database) → Keeps t db → IsPlain (understood db.schema READ_FOUND.now)
found_plain t db k = subst (λ s. IsPlain (understood s READ_FOUND.now)) (sym k.schema.is) (read_found_plain k.schema.order)

-- ---- what was handed out

module _ (t : Tables) (caller : ℕ) where
  abbrev params : Row
  params = int caller ∷ []

  -- the text does not recur
  ends : (old : State) (k : Keeps t old.now) (c : Compiled) (db : Database) (it : IsStatement old READ_FOUND.now params c) →
      IsSourceOf (reads_listing old.now.schema READ_FOUND.now) old.now db → EndsIn c.command db (timed params c.formats it.now)
  ends old k c db it source =
      let known = ap (λ s. understood s READ_FOUND.now) (sym k.schema.is) ∙ it.is in
      let is = sym (ap command_of known) ∙ read_found_is k.schema.order in
      subst (λ command. EndsIn command db (timed params c.formats it.now)) (sym is) tt

  -- where the rows begin an answer, what was handed out begins all files
  begun : (old : State) (rows : List Row) (given : List Found) → Keeps t old.now → IsTrue old.is_open → Begins READ_FOUND.now params old rows →
      AreReadAs t.upgrade rows given → (rest : List Found) × AreFound t (given ++ rest) (all_found t caller)
  begun old rows given k opened begins read =
      let same : IsUnchanged old old = (
        record { was_open = opened; is_open = opened; now_is = refl; committed_is = refl; mode = refl },
        record { changes = refl; last_rowid = refl },
        refl,
      ) in
      let all = begins_shown READ_FOUND.now params old old rows begins same (ends old k) in
      let it = found_shown t caller old old k (rows ++ all.0) all.1 in
      let left = read_back t.upgrade rows all.0 given it.given read it.named it.shown in
      (left.0, subst (λ l. AreFound t l (all_found t caller)) left.1 it.are)

  pub handed_all : {E : Type 0} (result : Result Bool E) (old new : State) (given : List Found) → Shows t old
      → Gave t.upgrade result READ_FOUND.now params old new given → AreHanded t result given (all_found t caller)
  handed_all (Ok true) old new given shows gave =
      let k = shows (shown_open READ_FOUND.now params old new gave.rows gave.are) in
      let it = found_shown t caller old new k gave.rows gave.are in
      let left = read_back t.upgrade gave.rows [] given it.given gave.shown it.named (append-nil gave.rows ∙ it.shown) in
      (left.0, none_left left.0 left.2, subst (λ l. AreFound t l (all_found t caller)) left.1 it.are)
  handed_all (Ok false) old new given shows gave =
      let it = begun old gave.rows given (shows gave.are.0) gave.are.0 gave.are.1 gave.shown in
      (it.0, tt, it.1)
  handed_all (Err e) old new given shows gave = elim gave.are [
    | inl none ↦ (
      all_found t caller,
      tt,
      subst (λ l. AreFound t (l ++ all_found t caller) (all_found t caller)) (sym (none_read t.upgrade gave.rows given none gave.shown))
          (record { same = IsPermutation-refl _; order = λ _. refl }),
    )
    | inr some ↦ let it = begun old gave.rows given (shows some.0) some.0 some.1 gave.shown in (it.0, tt, it.1)
  ]

-- what was handed out under the count of the tables
pub gave_under : {E : Type 0} {result : Result Bool E} {sql : List ℕ} {params : Row} {old new : State} {given : List Found} (a b : Option ℕ) → a ≡ b →
    Gave b result sql params old new given → Gave a result sql params old new given
gave_under {E} {result} {sql} {params} {old} {new} {given} a b same = subst (λ u. Gave u result sql params old new given) (sym same)

-- ---- those that are looked for

module _ {E : Type 0} (t : Tables) (result : Result Bool E) where
  -- of all rows, those that pass a test
  pub handed_sifted : (test : Found → Bool) (given found : List Found) → AreHanded t result given found →
      AreHanded t result (filter test given) (filter test found)
  handed_sifted test given found (rest, left, are) = (
    filter test rest,
    go result left,
    subst (λ l. AreFound t l (filter test found)) (filter-append test given rest)
        (record { same = IsPermutation-filter test _ _ are.same; order = λ up. ap (filter test) (are.order up) }),
  )
    where
      go : (r : Result Bool E) → IsLeft r rest → IsLeft r (filter test rest)
      go (Ok true) none = ap (filter test) none
      go (Ok false) left = tt
      go (Err e) left = tt

  pub handed_among : (given found : List Found) → AreHanded t result given found → AreAmong result given found
  handed_among given found (rest, left, are) = (rest, left, are.same)

or_false : (b : Bool) → (b || false) ≡ b
or_false true = refl
or_false false = refl

-- any of one selection
pub found_by_one : (route : Route) (caller day : ℕ) (t : Tables) → found_by_any (route ∷ []) caller day t ≡ found_by route caller day t
found_by_one route caller day t = filter_same (is_found_by_any (route ∷ []) caller day) (is_found route caller day)
    (λ found. or_false (is_found route caller day found)) (all_found t caller)
