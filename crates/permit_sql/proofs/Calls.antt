-- The calls of a store over SQLite leave what the trait says.
use Rattle.std.proofs.Common.{◌≡◌, ◌≤◌, ℕ, List, [], ◌∷◌, Result, Ok, Err, ap, sym, ◌∙◌, subst, arith}
use Rattle.std.specs.Prelude.{IsTrue, IfSome, Option, None, Some, OnOk, OnErr, ⊤, pos, slice_index_or}
use Rattle.sqlite.specs.declared.types.Value.{Value}
use Rattle.sqlite.specs.declared.types.Value.TheVariants.{Null, Int}
use Rattle.sqlite_value.specs.Order.{Row}
use Rattle.sqlite_trees.specs.View.{doubt}
use Rattle.sqlite_trees.specs.declared.store.Store.{Ghosts}
use Rattle.sqlite.specs.Effect.{Database}
use Rattle.sqlite.specs.State.{State, HasCleanDisk}
use Rattle.sqlite.specs.Held.{Held, state}
use Rattle.permit_base.specs.declared.words.Edition.{Edition}
use Rattle.permit_base.specs.declared.words.Edition.TheVariants.{Second}
use Rattle.permit_model.specs.Tables.{Tables, Desk, edition_by}
use Rattle.permit_store.specs.Counts.{next_count, failed_after}
use Rattle.permit_store.specs.Frames.{HasOneDesk, Reads, IsCommit}
use Rattle.permit_sql_rows.specs.Schema.{upgrade_tree}
use Rattle.permit_sql_rows.specs.Rows.{upgrade_row}
use Rattle.permit_sql_rows.specs.Kept.{KeepsUnder, Keeps, Shows}
use Rattle.permit_sql_statements.specs.Frames.{FailureLeavesTables, IsOpenAfter, IsRead, KeepsDoubt}
use Rattle.permit_sql.specs.Seen.{seen}

-- ---- what a database keeps is of one desk

-- the number of a value
abbrev number_of : Value → ℕ
number_of (Int (pos n)) = n
number_of _ = 0

-- the number in a place of the first row
abbrev number_at : ℕ → List Row → ℕ
number_at place rows = number_of (slice_index_or (slice_index_or rows 0 []) place Null)

-- the desk in its row
abbrev desk_in : Edition → List Row → Desk
desk_in edition rows = record { edition = edition; last = number_at 3 rows; parties = number_at 4 rows; parcels = number_at 5 rows; files = number_at 6 rows }

-- tables that a database keeps have one desk
pub one_desk : (edition : Edition) (t u : Tables) (db : Database) → KeepsUnder edition t db → KeepsUnder edition u db → t.desk ≡ u.desk
one_desk edition t u db one other =
    ap (λ e. record t.desk { edition = e }) one.now
    ∙ ap (desk_in edition) (sym one.rows.desk ∙ other.rows.desk)
    ∙ ap (λ e. record u.desk { edition = e }) (sym other.now)

-- and one count of files at the upgrade
abbrev count_in : List Row → Option ℕ
count_in rows = Some (number_at 2 rows)

upgrade_read : (t : Tables) (db : Database) → Keeps t db → t.upgrade ≡ count_in (db.trees (upgrade_tree db.schema))
upgrade_read t db k = go t.upgrade (k.keyed.edition) k.rows.upgrade
  where
    go : (o : Option ℕ) → t.desk.edition ≡ edition_by o → IfSome o (λ files. db.trees (upgrade_tree db.schema) ≡ upgrade_row files ∷ []) →
        o ≡ count_in (db.trees (upgrade_tree db.schema))
    go None told here = absurd (let e = sym k.now ∙ told in cc)
    go (Some files) told here = ap count_in (sym here)

pub one_upgrade : (t u : Tables) (db : Database) → Keeps t db → Keeps u db → t.upgrade ≡ u.upgrade
one_upgrade t u db one other = upgrade_read t db one ∙ sym (upgrade_read u db other)

-- an open connection with a clean disk shows the tables of one desk
seen_one : (s : State) (upgrade : Option ℕ) (handed failed commits : ℕ) → HasCleanDisk s → IsTrue s.is_open →
    HasOneDesk (seen s upgrade handed failed commits)
seen_one s upgrade handed failed commits clean open_ t u one other = one_desk Second t u s.now ((one clean).1 open_) ((other clean).1 open_)

-- ---- calls

-- after a success on a clean disk
one_desk_after : {S A E : Type 0} (g : Ghosts S) (new store : Held S) (upgrade : Option ℕ) (handed failed commits : ℕ) (got r : Result A E) → r ≡ got →
    store ≡ new → IsOpenAfter g new got → HasCleanDisk (state g store) → OnOk r (HasOneDesk (seen (state g store) upgrade handed failed commits))
one_desk_after {S} {A} {E} g new store upgrade handed failed commits got r same conn opened =
    subst (λ x. HasCleanDisk (state g store) → OnOk x (HasOneDesk (seen (state g store) upgrade handed failed commits))) (sym same)
    (subst (λ h. HasCleanDisk (state g h) → OnOk got (HasOneDesk (seen (state g h) upgrade handed failed commits))) (sym conn)
    (λ clean. go got clean (opened clean)))
  where
    go : (x : Result A E) → HasCleanDisk (state g new) → OnOk x (IsTrue (state g new).is_open) →
        OnOk x (HasOneDesk (seen (state g new) upgrade handed failed commits))
    go (Ok a) clean up = seen_one (state g new) upgrade handed failed commits clean up
    go (Err e) clean up = tt

-- ---- a call of the connection, and what the store then holds and counts

module _ {S A E : Type 0} (g : Ghosts S) where
  -- it reads: what it shows stays, and a failure counts
  pub read_counted : (handed : ℕ) {old new store : Held S} {got r : Result A E} {upgrade upgrade' : Option ℕ} {count handed' failed failed' commits commits' : ℕ} →
      IsRead g old new got → r ≡ got → store ≡ new → upgrade' ≡ upgrade → handed' ≡ count → failed' ≡ failed_after got failed → commits' ≡ commits →
      Reads ⊤ count (seen (state g old) upgrade handed failed commits) (seen (state g store) upgrade' handed' failed' commits') r
  read_counted handed {old} {new} {store} {got} {r} {upgrade} {upgrade'} {count} {handed'} {failed} {failed'} {commits} {commits'} read same conn kept hands fails stay = record {
    kept = λ t held. subst (λ h. HasCleanDisk (state g h) → (t.upgrade ≡ upgrade') × Shows t (state g h)) (sym conn) (λ clean.
        let was = held (omega (arith, read.doubt, clean)) in (was.0 ∙ sym kept, read.kept t clean was.1));
    one = λ clean _. one_desk_after g new store upgrade' handed' failed' commits' got r same conn read.opened clean;
    doubt = subst (λ h. KeepsDoubt g old h) (sym conn) read.doubt;
    failed = fails ∙ ap (λ x. failed_after x failed) (sym same);
    commits = stay;
    handed = hands;
  }

  -- it commits: a failure leaves what was shown, and counts
  pub commit_counted : (old : Held S) (handed : ℕ) {new store : Held S} {got r : Result A E} {upgrade upgrade' : Option ℕ} {handed' failed failed' commits commits' : ℕ} →
      r ≡ got → store ≡ new → FailureLeavesTables g old new got → IsOpenAfter g new got → KeepsDoubt g old new → upgrade' ≡ upgrade →
      handed' ≡ handed → failed' ≡ failed_after got failed → commits' ≡ next_count commits →
      IsCommit (seen (state g old) upgrade handed failed commits) (seen (state g store) upgrade' handed' failed' commits') r
  commit_counted old handed {new} {store} {got} {r} {upgrade} {upgrade'} {handed'} {failed} {failed'} {commits} {commits'} same conn stays opened doubts kept hands fails more = record {
    kept = λ t held. subst (λ x. OnErr x (HasCleanDisk (state g store) → (t.upgrade ≡ upgrade') × Shows t (state g store))) (sym same)
        (subst (λ h. OnErr got (HasCleanDisk (state g h) → (t.upgrade ≡ upgrade') × Shows t (state g h))) (sym conn)
        (go got (λ clean. held (omega (arith, doubts, clean))) (λ clean h. stays t clean h.1)));
    one = one_desk_after g new store upgrade' handed' failed' commits' got r same conn opened;
    doubt = subst (λ h. KeepsDoubt g old h) (sym conn) doubts;
    failed = fails ∙ ap (λ x. failed_after x failed) (sym same);
    commits = more;
    handed = hands;
  }
    where
      go : {t : Tables} (x : Result A E) → (HasCleanDisk (state g new) → (t.upgrade ≡ upgrade) × Shows t (state g old)) →
          (HasCleanDisk (state g new) → (t.upgrade ≡ upgrade) × Shows t (state g old) → OnErr x (Shows t (state g new))) →
          OnErr x (HasCleanDisk (state g new) → (t.upgrade ≡ upgrade') × Shows t (state g new))
      go (Ok a) held stays = tt
      go (Err e) held stays = λ clean. let was = held clean in (was.0 ∙ sym kept, stays clean was)

-- what is shown of the tables made is held, where they had as many files at the upgrade
pub held_after : {A E : Type 0} (r : Result A E) (old new : State) (upgrade upgrade' : Option ℕ) (t u : Tables) → u.upgrade ≡ t.upgrade → upgrade' ≡ upgrade →
    doubt old.is_clean ≤ doubt new.is_clean → (HasCleanDisk old → (t.upgrade ≡ upgrade) × Shows t old) →
    (HasCleanDisk new → Shows t old → OnOk r (Shows u new)) → OnOk r (HasCleanDisk new → (u.upgrade ≡ upgrade') × Shows u new)
held_after (Ok x) old new upgrade upgrade' t u stays kept doubts held made = λ clean.
    let was = held (omega (arith, doubts, clean)) in (stays ∙ was.0 ∙ sym kept, made clean was.1)
held_after (Err e) old new upgrade upgrade' t u stays kept doubts held made = tt
