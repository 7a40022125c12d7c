-- The rows of an answer as they were read and handed out.
use Rattle.std.proofs.Common.{◌≡◌, Option, ℕ, Bool, true, List, [], ◌∷◌, ◌++◌, Ok, refl, sym, subst}
use Rattle.sqlite_value.specs.Order.{Row}
use Rattle.sqlite.specs.Clock.{timed}
use Rattle.sqlite.specs.Effect.{Database}
use Rattle.sqlite.specs.Listing.{understood, reads_listing, IsSourceOf}
use Rattle.sqlite.specs.State.{State, IsUnchanged, Shown, ShowsRows, Begins}
use Rattle.sqlite.proofs.Callers.{IsPlain, unchanged_then}
use Rattle.permit_core.specs.Taking.{TookAll}
use Rattle.permit_model.specs.Routes.{Found}
use Rattle.permit_sql_rows.specs.Kept.{IsNamed}
use Rattle.permit_sql_rows.specs.Rows.{shown_found}
use Rattle.permit_sql_statements.specs.Gave.{AreReadAs}

pub read_more : (upgrade : Option ℕ) (rows : List Row) (given : List Found) (row : Row) (found : Found) → AreReadAs upgrade rows given →
    ((is : Found) → IsNamed upgrade is.row.id is.row.state → row ≡ shown_found is → found ≡ is) → AreReadAs upgrade (rows ++ row ∷ []) (given ++ found ∷ [])
read_more upgrade [] [] row found are is = (is, tt)
read_more upgrade [] (g ∷ given) row found are is = absurd are
read_more upgrade (r ∷ rows) [] row found are is = absurd are
read_more upgrade (r ∷ rows) (g ∷ given) row found are is = (are.0, read_more upgrade rows given row found are.1 is)

-- ---- an answer to the state in which it was asked for

pub begins_since : (sql : List ℕ) (params : Row) (old was : State) (rows : List Row) → was.now ≡ old.now → Begins sql params was rows →
    Begins sql params old rows
unfolding Begins
begins_since sql params old was rows same h = (
  h.0,
  record { is = subst (λ (d : Database). understood d.schema sql ≡ Ok h.0) same h.1.is; whole = h.1.whole; given = h.1.given; now = h.1.now },
  h.2,
  h.3,
  subst (λ (d : Database). IsSourceOf (reads_listing d.schema sql) d h.3) same h.4,
  h.5,
)

pub shown_since : (sql : List ℕ) (params : Row) (old was new : State) (rows : List Row) → IsPlain (understood old.now.schema sql) → IsUnchanged old was →
    Shown sql params was new rows → Shown sql params old new rows
unfolding Shown
shown_since sql params old was new rows plain same h =
    let known = subst (λ (d : Database). understood d.schema sql ≡ Ok h.0) same.0.now_is h.1.is in
    let none = (subst IsPlain known plain).0 in
    let full = timed params h.0.formats h.1.now in
    let it = subst (ShowsRows was new sql h.0 full rows) none h.2 in (
      h.0,
      record { is = known; whole = h.1.whole; given = h.1.given; now = h.1.now },
      subst (ShowsRows old new sql h.0 full rows) (sym none) (
        it.0,
        subst (λ (d : Database). IsSourceOf (reads_listing d.schema sql) d it.0) same.0.now_is it.1,
        it.2,
        unchanged_then old was new same it.3,
      ),
    )

-- ---- the rows that were handed out so far

pub took_more : {T : Type 0} (took : T → Found → T → Bool → Type 0) (given : List Found) (g : Found) (a b d : T) → TookAll took given a b → took b g d true →
    TookAll took (given ++ g ∷ []) a d
took_more took [] g a b d is h = (d, subst (λ x. took x g d true) is h, refl)
took_more took (f ∷ fs) g a b d all h = (all.0, all.1, took_more took fs g all.0 b d all.2 h)
