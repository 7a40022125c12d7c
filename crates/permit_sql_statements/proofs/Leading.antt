-- Where statements lead, one after another.
use Rattle.std.proofs.Common.{◌≡◌, ℕ, true, List, [], ◌∷◌, ◌++◌, None, refl, sym, subst, ◌∙◌}
use Rattle.sqlite.specs.declared.types.Value.TheVariants.{Text}
use Rattle.sqlite_trees.specs.declared.store.Store.{Ghosts}
use Rattle.sqlite.specs.Effect.{Database}
use Rattle.sqlite.specs.Held.{Held, state}
use Rattle.permit_model.specs.Renewal.{against_renewal, with_renewed}
use Rattle.permit_model.specs.Tables.{Tables}
use Rattle.permit_store.specs.Changes.{Fits, changed}
use Rattle.permit_store.specs.declared.change.Change.{Change}
use Rattle.permit_store.specs.declared.change.Change.TheVariants.{NewParty, NewParcel, NewOwner, NewInterest, NewFile, NewRow}
use Rattle.permit_sql_rows.specs.Kept.{Keeps}
use Rattle.permit_sql_rows.specs.Rows.{int}
use Rattle.permit_sql_statements.specs.Changing.{Lead, NamesRow, change_statements}
use Rattle.permit_sql_statements.specs.Renewing.{renewal_statements}
use Rattle.permit_sql_statements.specs.Statements.{Statement, Ran, RanAll}
use Rattle.permit_sql_statements.proofs.Committing.{change_made}
use Rattle.permit_sql_statements.proofs.Renewing.{renewal_ran}

ran_split : {S : Type 0} (g : Ghosts S) (a b : List Statement) (old last : Held S) → Ran g (a ++ b) old last
    → (mid : Held S) × Ran g a old mid × Ran g b mid last
ran_split g [] b old last ran = (old, refl, ran)
ran_split g (s ∷ more) b old last ran =
    let rest = ran_split g more b ran.0 last ran.3 in (rest.0, (ran.0, ran.1, ran.2, rest.1), rest.2)

pub lead_none : {S : Type 0} (g : Ghosts S) (t : Tables) → Lead g [] t t
lead_none g t = record { upgrade = refl; made = λ old last k ran. subst (λ h. Keeps t (state g h).now) (sym ran) k }

pub lead_both : {S : Type 0} (g : Ghosts S) (a b : List Statement) (t u v : Tables) → Lead g a t u → Lead g b u v → Lead g (a ++ b) t v
lead_both g a b t u v one two = record {
  upgrade = two.upgrade ∙ one.upgrade;
  made = λ old last k ran. let parts = ran_split g a b old last ran in two.made parts.0 last (one.made old parts.0 k parts.1) parts.2;
}

-- as a transaction
pub lead_all : {S : Type 0} (g : Ghosts S) (statements : List Statement) (t u : Tables) → Lead g statements t u → (old : Held S) (db : Database)
    → Keeps t (state g old).now → RanAll g statements old db → Keeps u db
lead_all g statements t u lead old db k ran = subst (Keeps u) (sym ran.is) (lead.made (record old { in_transaction = true }) ran.last k ran.ran)

pub upgrade_stays : (t : Tables) (change : Change) (day : ℕ) → (changed t change day).upgrade ≡ t.upgrade
upgrade_stays t (NewParty name role digest) day = refl
upgrade_stays t (NewParcel lot address owner) day = refl
upgrade_stays t (NewOwner parcel owner) day = refl
upgrade_stays t (NewInterest parcel party) day = refl
upgrade_stays t (NewFile s valuation description) day = refl
upgrade_stays t (NewRow file s effect) day = refl

pub lead_change : {S : Type 0} (g : Ghosts S) (t : Tables) (change : Change) (day : ℕ) → NamesRow change → Fits t change day
    → Lead g (change_statements (changed t change day).desk change) t (changed t change day)
lead_change g t change day named fits = record {
  upgrade = upgrade_stays t change day;
  made = λ old last k ran. change_made g old last t k day (changed t change day).desk change named refl fits ran;
}

pub lead_renewal : {S : Type 0} (g : Ghosts S) (t : Tables) (party : ℕ) (digest : List ℕ) → against_renewal t.parties party digest ≡ None
    → Lead g (renewal_statements (int party ∷ Text digest ∷ [])) t (with_renewed party digest t)
lead_renewal g t party digest none = record {
  upgrade = refl;
  made = λ old last k ran. renewal_ran g old last t k party digest none ran;
}
