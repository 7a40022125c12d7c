-- How the rows that a listing's selections find become its files.
use Rattle.std.specs.Prelude.{◌≡◌, ◌<◌, ℕ, ◌%◌, ◌^◌, Bool, List, [], ◌∷◌, ◌++◌, length, map, filter, IsTrue, ⊤, IsPermutation}
use Rattle.std.specs.List.{flat_map, AllByRecursion}
use Rattle.permit_base.specs.declared.request.Filter.{Filter}
use Rattle.permit_base.specs.declared.route.Route.{Route}
use Rattle.permit_base.specs.declared.words.Action.TheVariants as action
use Rattle.permit_core.specs.Views.{row_stage, row_timing}
use Rattle.permit_model.specs.Caller.{Party}
use Rattle.permit_model.specs.Facts.{Facts}
use Rattle.permit_model.specs.Policy.{Policy, allows}
use Rattle.permit_model.specs.Opened.{allowed_by}
use Rattle.permit_model.specs.Tables.{FileView, tables}
use Rattle.permit_model.specs.Routes.{Found, relations_found}
use Rattle.permit_policy.specs.Selections.{selections_of}
use Rattle.permit_store.specs.Frames.{StoreView, OverHistory}
use Rattle.permit_store.specs.Handing.{found_by_any}
use Rattle.permit_office.specs.declared.listing.FileList.{FileList}
use Rattle.permit_office.specs.Reach.{HandedMore}

-- the facts on a file that is found
abbrev pub found_facts : Party → ℕ → Found → Facts
found_facts caller day found = record {
  role = caller.role;
  relations = relations_found caller.id found;
  action = action.List;
  stage = row_stage day found.row.state;
  stopped = found.row.state.stopped;
  timing = row_timing day found.row.state;
}

-- whether the caller may list the file, by what it is to the file in full
abbrev pub may_list : Policy → Party → ℕ → Found → Bool
may_list policy caller day found = allows policy (found_facts caller day found)

-- the file as it is shown on the day
abbrev pub view_found : ℕ → Found → FileView
view_found day found = record { row = found.row; stage = row_stage day found.row.state; timing = row_timing day found.row.state }

-- the files among these that the caller may list
abbrev pub views_found : Policy → Party → ℕ → List Found → List FileView
views_found policy caller day found = map (view_found day) (filter (may_list policy caller day) found)

-- a file is added to those of before, where the answer is true
abbrev pub Adds : FileList → FileView → FileList → Bool → Type 0
Adds before view after more = IsTrue more → after.files.items ≡ before.files.items ++ view ∷ []

-- the selections of a listing for the caller
abbrev pub selections_for : Policy → Party → Filter → List (List Route)
selections_for policy caller wanted = selections_of (allowed_by policy caller.role action.List) wanted

-- Rows were handed out, these are the files among them that may be listed and so many they were; and the rows are those that
-- the selections find, in any order.
pub record Gathers (policy : Policy) (caller : Party) (day : ℕ) (selections : List (List Route)) (old new : StoreView) (views : List FileView)
    (count : ℕ) : Type 0 where
  pub given : List Found
  pub files : views ≡ views_found policy caller day given
  pub read : count ≡ length given % 2 ^ 32
  pub handed : HandedMore (length given) old.handed new.handed
  pub found : OverHistory old new (λ h. IsPermutation given (flat_map (λ s. found_by_any s caller.id day (tables h)) selections))

-- the numbers of the files rise
abbrev pub AreRising : List FileView → Type 0
AreRising [] = ⊤
AreRising (view ∷ views) = AllByRecursion (λ later. view.row.id < later.row.id) views × AreRising views
