use Rattle.std.proofs.Common.{◌≡◌, List, [], ◌∷◌, ◌++◌, Bool, true, false, Ok, refl, sym, ap, subst, ◌∙◌, append-nil, append_assoc, true≢false}
use Rattle.std.specs.Prelude.{IsTrue}
use Rattle.permit_core.specs.Taking.{TookAll}
use Rattle.permit_model.specs.Tables.{Tables}
use Rattle.permit_model.specs.Routes.{Found, found_by}
use Rattle.permit_store.specs.Handing.{AreFound, AreHanded, Took}
use Rattle.permit_store.specs.declared.store.StoreError.{StoreError}
use Rattle.permit_sql_statements.specs.declared.select.FoundList.{FoundList}
use Rattle.permit_sql_statements.proofs.select.select_found.Goals as goal

abbrev Keeps : FoundList → Found → FoundList → Bool → Type 0
Keeps before found after more = IsTrue more → after.rows.items ≡ before.rows.items ++ found ∷ []

-- the list keeps what it took
kept : (given : List Found) (old new : FoundList) → TookAll Keeps given old new → new.rows.items ≡ old.rows.items ++ given
kept [] old new is = ap (λ (l : FoundList). l.rows.items) is ∙ sym (append-nil old.rows.items)
kept (found ∷ given) old new (mid, one, more) = kept given mid new more ∙ ap (λ l. l ++ given) (one refl) ∙ append_assoc old.rows.items (found ∷ []) given

-- where it took them all, these are the rows that are found
all_kept : (t : Tables) (given found : List Found) (old new : FoundList) (whole : Bool) → whole ≡ true → old.rows.items ≡ []
    → Took {E = StoreError} Keeps given old new (Ok whole) → AreHanded {E = StoreError} t (Ok whole) given found → AreFound t new.rows.items found
all_kept t given found old new false is none took handed = absurd (true≢false (sym is))
all_kept t given found old new true is none took (rest, left, are) =
    let same : new.rows.items ≡ given = kept given old new took ∙ ap (λ l. l ++ given) none in
    subst (λ l. AreFound t l found) (ap (λ l. given ++ l) left ∙ append-nil given ∙ sym same) are

pub returns-then-is_whole-clause-found : goal.returns-then-is_whole-clause-found
returns-then-is_whole-clause-found g c t clean there same =
    let it = c.in_ok-is_whole.ensures.handed in
    all_kept t it.0 (found_by c.args.route.now c.args.caller c.args.day t) _ c.each_found.new.taker c.in_ok-is_whole.is_whole c.if-is_whole.true
    c.new.ensures.items it.1 (it.3 t clean there same)
