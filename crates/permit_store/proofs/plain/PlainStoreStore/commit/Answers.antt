use Rattle.std.proofs.Common.{◌≡◌, ◌≤◌, le_refl, ap}
use Rattle.std.specs.Prelude.{Result, Ok, Err, IsErr}
use Rattle.permit_model.specs.Tables.{Tables}
use Rattle.permit_store.specs.Counts.{next_count}
use Rattle.permit_store.specs.Frames.{StoreView, IsCommit}
use Rattle.permit_store.proofs.plain.PlainStoreStore.commit.Goals as goal

-- a commit that failed
commit_failed : {A E : Type 0} (old new : StoreView) (result : Result A E) → IsErr result → ((t : Tables) → old.holds t → new.holds t) → old.doubt ≤ new.doubt
    → new.failed ≡ next_count old.failed → new.commits ≡ next_count old.commits → new.handed ≡ old.handed → IsCommit old new result
commit_failed old new (Ok answer) e kept doubt failed commits handed = cc
commit_failed old new (Err error) e kept doubt failed commits handed = record {
  kept = kept;
  one = λ _. tt;
  doubt = doubt;
  failed = failed;
  commits = commits;
  handed = handed;
}

pub returns-clause-made : goal.returns-clause-made
returns-clause-made c = λ t k fits. c.make.ensures.made t (c.prepare.ensures.kept t k) fits

pub returns-in_default-clause-commit : goal.returns-in_default-clause-commit
returns-in_default-clause-commit c =
    rw c.fail.ensures.counted
    (commit_failed _ _ c.fail.result c.fail.ensures.error (λ t k. c.prepare.ensures.kept t k) (le_refl _) (ap next_count c.prepare.ensures.failed)
    c.prepare.ensures.commits c.prepare.ensures.handed)
