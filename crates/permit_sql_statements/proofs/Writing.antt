-- Statements that are written down, and run.
use Rattle.std.proofs.Common.{◌≡◌, ℕ, List, [], ◌∷◌, ◌++◌, Result, Ok, Err, refl, ap, subst, ◌∙◌, append_assoc}
use Rattle.std.specs.List.{flat_map}
use Rattle.std.proofs.lemmas.List.Concat.{flat_map-cons}
use Rattle.sqlite_trees.specs.declared.store.Store.{Ghosts}
use Rattle.sqlite.specs.Effect.{Database}
use Rattle.sqlite.specs.Held.{Held, state}
use Rattle.permit_model.specs.Tables.{Tables}
use Rattle.permit_store.specs.Changes.{Fits, changed}
use Rattle.permit_store.specs.declared.change.Change.{Change}
use Rattle.permit_sql_rows.specs.Kept.{Keeps}
use Rattle.permit_sql_statements.specs.Changing.{NamesRow, change_statements}
use Rattle.permit_sql_statements.specs.Statements.{Statement, RanAll}
use Rattle.permit_sql_statements.specs.Written.{Writes, written_in}
use Rattle.permit_sql_statements.specs.declared.step.Step.{Step}
use Rattle.permit_sql_statements.proofs.Leading.{lead_all, lead_change}

-- two statements, one after the other
pub writes_two : {A E : Type 0} (a b : Statement) (old mid new : Step) (r : Result A E) → written_in mid ≡ written_in old ++ a ∷ []
    → Writes (b ∷ []) mid new r → Writes (a ∷ b ∷ []) old new r
writes_two a b old mid new (Ok x) one two = two ∙ ap (λ l. l ++ b ∷ []) one ∙ append_assoc (written_in old) (a ∷ []) (b ∷ [])
writes_two a b old mid new (Err e) one two = tt

append_none : (xs : List Statement) → xs ++ [] ≡ xs
append_none [] = refl
append_none (x ∷ xs) = ap (λ l. x ∷ l) (append_none xs)

pub one_step : (step : Step) → flat_map written_in (step ∷ []) ≡ written_in step
one_step step = flat_map-cons written_in step [] ∙ append_none (written_in step)

-- a change that fits, as the one step of a transaction
pub step_made : {S : Type 0} (g : Ghosts S) (old : Held S) (db : Database) (t : Tables) → Keeps t (state g old).now → (change : Change) (day : ℕ)
    → NamesRow change → Fits t change day → (step : Step) → written_in step ≡ change_statements (changed t change day).desk change
    → RanAll g (flat_map written_in (step ∷ [])) old db → Keeps (changed t change day) db
step_made g old db t k change day named fits step written ran =
    lead_all g (change_statements (changed t change day).desk change) t (changed t change day) (lead_change g t change day named fits) old db k
    (subst (λ l. RanAll g l old db) (one_step step ∙ written) ran)
