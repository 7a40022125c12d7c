-- Tables that no call of a store distinguishes.
use Rattle.std.specs.Prelude.{◌≡◌, ℕ, ◌==◌, filter}
use Rattle.permit_model.specs.Tables.{Tables}
use Rattle.permit_store.specs.Frames.{StoreView}
use Rattle.permit_store.specs.Interests.{DeclareSame}

-- They are the same, but for the order of the interests and how often each is there, and for the order in which papers of
-- different files come.
pub record AreAlike (t u : Tables) : Type 0 where
  pub desk : t.desk ≡ u.desk
  pub upgrade : t.upgrade ≡ u.upgrade
  pub parties : t.parties ≡ u.parties
  pub parcels : t.parcels ≡ u.parcels
  pub interests : DeclareSame t.interests u.interests
  pub files : t.files ≡ u.files
  pub papers : (file : ℕ) → filter (λ p. p.file == file) t.papers ≡ filter (λ p. p.file == file) u.papers

-- what contracts see of a store that holds all tables which are alike to those that this one holds
abbrev pub unordered : StoreView → StoreView
unordered store = record {
  holds = λ u. (t : Tables) × store.holds t × AreAlike t u;
  doubt = store.doubt;
  handed = store.handed;
  failed = store.failed;
  commits = store.commits;
}
