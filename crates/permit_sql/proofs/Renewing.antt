-- What is looked up before a party's token is renewed, and what a renewal leaves of typed tables.
use Rattle.std.proofs.Common.{◌≡◌, ℕ, suc, ◌==◌, Bool, true, false, cond, not, List, [], ◌∷◌, map, filter, find, length, None, Some, Result, Ok, Err, refl, sym, ap, subst, ◌∙◌, arith}
use Rattle.std.specs.Prelude.{is_some, bytes_eq, IsTrue, IsErr, Option, option_map, if◌then◌else◌}
use Rattle.std.specs.List.{AllByRecursion}
use Rattle.std.proofs.lemmas.Bool.Decides.{nat_tests}
use Rattle.std.proofs.lemmas.List.{length-map}
use Rattle.sqlite.specs.declared.types.Value.TheVariants.{Text}
use Rattle.sqlite_value.specs.Order.{Row}
use Rattle.sqlite_trees.specs.Tree.{Trees}
use Rattle.sqlite_trees.specs.declared.store.Store.{Ghosts}
use Rattle.sqlite.specs.Effect.{Database}
use Rattle.sqlite.specs.State.{State, HasCleanDisk, Shown, Survives}
use Rattle.sqlite.specs.Held.{Held, state}
use Rattle.sqlite.proofs.StateLemmas.{survives_then}
use Rattle.permit_base.specs.Digests.{digest_of}
use Rattle.permit_base.specs.declared.refusal.Reason.TheVariants as reason
use Rattle.permit_base.specs.declared.refusal.Refusal.{Refusal}
use Rattle.permit_base.specs.declared.refusal.Refusal.TheVariants as refused
use Rattle.permit_base.specs.Texts.{is_digest}
use Rattle.permit_base.specs.declared.words.Role.{Role}
use Rattle.permit_model.specs.Caller.{Party, parties}
use Rattle.permit_model.specs.Search.{when}
use Rattle.permit_model.specs.History.{History}
use Rattle.permit_model.specs.Machine.{IsHistory}
use Rattle.permit_model.specs.Tables.{Tables, tables}
use Rattle.permit_model.specs.Renewal.{renewed, with_digest, with_renewed, against_renewal}
use Rattle.permit_model.specs.Sound.{IsSoundTables}
use Rattle.permit_store.specs.Renewing.{Renews}
use Rattle.permit_store.specs.declared.store.StoreError.{StoreError}
use Rattle.permit_sql_rows.specs.Rows.{int, shown_party}
use Rattle.permit_sql_rows.specs.Kept.{Keeps, Shows}
use Rattle.permit_sql_rows.specs.Typed.{IsParty}
use Rattle.permit_sql_statements.specs.declared.texts.TheConstants.{READ_PARTY, FIND_PARTY}
use Rattle.permit_sql_statements.proofs.ReadLemmas.{party_shown, digest_shown}
use Rattle.permit_sql_statements.specs.Frames.{IsRead, ReadOutlasts}
use Rattle.permit_sql_statements.specs.Renewing.{IsRenewal}
use Rattle.permit_sql.specs.Seen.{IsLeft}
use Rattle.permit_sql.specs.Found.{AreTyped, IsNumbered, KeepsSound}
use Rattle.permit_store.proofs.Renewals.{number_alike, tables_renewed}
use Rattle.permit_store.proofs.RenewedHistories.{renewed_follows}
use Rattle.permit_sql.proofs.SoundRenewal.{sound_renewed}

-- ---- look-ups

there_is : (n : ℕ) → not (suc n == 0) ≡ true
there_is n = grind (arith, nat_tests)

-- a row is shown where one is found
some_shown : {A : Type 0} (f : A → Row) (test : A → Bool) (xs : List A) → not (length (map f (filter test xs)) == 0) ≡ is_some (find test xs)
some_shown f test [] = refl
some_shown {A} f test (x ∷ xs) = go (test x) (some_shown f test xs)
  where
    go : (b : Bool) → not (length (map f (filter test xs)) == 0) ≡ is_some (find test xs) →
        not (length (map f (cond b (x ∷ filter test xs) (filter test xs))) == 0) ≡ is_some (cond b (Some x) (find test xs))
    go true more = there_is (length (map f (filter test xs)))
    go false more = more

module _ (old new : State) (t : Tables) (rows : List Row) (has : Bool) (k : Keeps t old.now) (is : has ≡ not (length rows == 0)) where
  pub party_told : (id : ℕ) → Shown READ_PARTY.now (int id ∷ []) old new rows → has ≡ is_some (find (λ (p : Party). p.id == id) t.parties)
  party_told id shown =
      is ∙ ap (λ l. not (length l == 0)) (party_shown old new t rows k id shown) ∙ some_shown shown_party (λ (p : Party). p.id == id) t.parties

  pub digest_told : (digest : List ℕ) → Shown FIND_PARTY.now (Text digest ∷ []) old new rows →
      has ≡ is_some (find (λ (p : Party). bytes_eq p.digest digest) t.parties)
  digest_told digest shown =
      is ∙ ap (λ l. not (length l == 0)) (digest_shown old new t rows k digest shown)
      ∙ some_shown shown_party (λ (p : Party). bytes_eq p.digest digest) t.parties

-- what the role and the party that were found say of a renewal
module _ (ps : List Party) (id : ℕ) (digest : List ℕ) where
  told_by : (there taken : Bool) → is_some (find (λ p. p.id == id) ps) ≡ there → is_some (find (λ p. bytes_eq p.digest digest) ps) ≡ taken
      → against_renewal ps id digest ≡ (if there then when taken (refused.NotAdmitted reason.Taken) else Some refused.Record)
  told_by there taken e f = rw (e, f) refl

  role_there : (r : Option Role) → r ≡ option_map (λ (p : Party). p.role) (find (λ p. p.id == id) ps) → is_some (find (λ p. p.id == id) ps) ≡ is_some r
  role_there r is = by (find (λ p. p.id == id) ps) is
    where
      by : (o : Option Party) → r ≡ option_map (λ (p : Party). p.role) o → is_some o ≡ is_some r
      by None e = ap is_some (sym e)
      by (Some p) e = ap is_some (sym e)

  -- no party has the number
  pub none_there : (r : Option Role) → r ≡ option_map (λ (p : Party). p.role) (find (λ p. p.id == id) ps) → is_some r ≡ false
      → against_renewal ps id digest ≡ Some refused.Record
  none_there r is none = told_by false _ (role_there r is ∙ none) refl

  -- one has, and one has the digest
  pub one_has_it : (r : Option Role) (holder : Option Party) → r ≡ option_map (λ (p : Party). p.role) (find (λ p. p.id == id) ps) → is_some r ≡ true
      → holder ≡ find (λ p. bytes_eq p.digest digest) ps → is_some holder ≡ true
      → against_renewal ps id digest ≡ Some (refused.NotAdmitted reason.Taken)
  one_has_it r holder is there found some = told_by true true (role_there r is ∙ there) (ap is_some (sym found) ∙ some)

  -- one has, and none has the digest
  pub none_has_it : (r : Option Role) (holder : Option Party) → r ≡ option_map (λ (p : Party). p.role) (find (λ p. p.id == id) ps) → is_some r ≡ true
      → holder ≡ find (λ p. bytes_eq p.digest digest) ps → is_some holder ≡ false → against_renewal ps id digest ≡ None
  none_has_it r holder is there found none = told_by true false (role_there r is ∙ there) (ap is_some (sym found) ∙ none)

-- a renewal that failed leaves what is held
pub renews_failed : (holds : Tables → Type 0) (id : ℕ) (digest : List ℕ) (t : Tables) (r : Result (Result (Unit {0}) Refusal) StoreError) → IsErr r → holds t
    → Renews holds id digest t r
renews_failed holds id digest t (Ok done) fails held = absurd cc
renews_failed holds id digest t (Err e) fails held = held

-- what is shown of a renewal is held, since it leaves the count of files at the upgrade
pub renews_held : (s : State) (upgrade upgrade' : Option ℕ) (id : ℕ) (digest : List ℕ) (t : Tables) (r : Result (Result (Unit {0}) Refusal) StoreError)
    → t.upgrade ≡ upgrade → upgrade' ≡ upgrade → Renews (λ u. Shows u s) id digest t r
    → Renews (λ u. HasCleanDisk s → (u.upgrade ≡ upgrade') × Shows u s) id digest t r
renews_held s upgrade upgrade' id digest t (Ok (Ok done)) was kept shown = (shown.0, λ clean. (was ∙ sym kept, shown.1))
renews_held s upgrade upgrade' id digest t (Ok (Err why)) was kept shown = (shown.0, λ clean. (was ∙ sym kept, shown.1))
renews_held s upgrade upgrade' id digest t (Err e) was kept shown = λ clean. (was ∙ sym kept, shown)

-- two reads, of which the first left the connection open, and a renewal after them
module _ {S A B E F : Type 0} (g : Ghosts S) (old mid now : Held S) (one : Result A E) (two : Result B F) (first : IsRead g old mid one)
    (up : HasCleanDisk (state g mid) → IsTrue (state g mid).is_open) (second : IsRead g mid now two) (outlasts : ReadOutlasts g mid now) (t : Tables)
    (k : Keeps t (state g old).now) where
  kept_first : HasCleanDisk (state g now) → Keeps t (state g mid).now
  kept_first clean =
      let late : HasCleanDisk (state g mid) = omega (arith, second.doubt, clean) in first.kept t late (λ _. k) (up late)

  pub reads_survive : (R : Trees → Type 0) → Survives (state g old) (state g now) R
  reads_survive R =
      survives_then (state g old) (state g mid) (state g now) _ _ R (λ _ db none. absurd none) (λ _ db none. absurd none) (first.crash t k)
      (outlasts t kept_first)

  pub renewal_survives : {C G : Type 0} (new : Held S) (r : Result C G) (party : ℕ) (digest : List ℕ) → (HasCleanDisk (state g now) → IsTrue (state g now).is_open)
      → IsRenewal g party digest now new r → (HasCleanDisk (state g now) → against_renewal t.parties party digest ≡ None)
      → Survives (state g old) (state g new) (λ trees. IsLeft trees (with_renewed party digest t))
  renewal_survives new r party digest still renewal none =
      survives_then (state g old) (state g now) (state g new) (λ _. ⊥) _ _ (λ _ db never. absurd never)
      (λ clean trees made.
      let late : HasCleanDisk (state g now) = omega (arith, renewal.doubt, clean) in
      made t (none late) (second.kept t late (λ _. kept_first late) (still late)))
      (reads_survive (λ _. ⊥)) renewal.crash

-- ---- typed tables

module _ (party : ℕ) (digest : List ℕ) (good : IsTrue (is_digest digest)) where
  typed_by : (p : Party) (b : Bool) → IsParty p → IsParty (cond b (record p { digest = digest }) p)
  typed_by p true typed = record { id = typed.id; name = typed.name; utf8 = typed.utf8; digest = good }
  typed_by p false typed = typed

  typed_parties : (ps : List Party) → AllByRecursion IsParty ps → AllByRecursion IsParty (map (with_digest party digest) ps)
  typed_parties [] typed = tt
  typed_parties (p ∷ ps) typed = (typed_by p (p.id == party) typed.0, typed_parties ps typed.1)

  numbers_stay : (n : ℕ) (ps : List Party) → IsNumbered (λ (p : Party). p.id) n ps → IsNumbered (λ (p : Party). p.id) n (map (with_digest party digest) ps)
  numbers_stay n [] up = tt
  numbers_stay n (p ∷ ps) up = (number_alike party digest p ∙ up.0, numbers_stay (suc n) ps up.1)

  pub typed_renewed : (t : Tables) → AreTyped t → AreTyped (with_renewed party digest t)
  typed_renewed t typed = record {
    desk = typed.desk;
    parties = typed_parties t.parties typed.parties;
    parcels = typed.parcels;
    interests = typed.interests;
    files = typed.files;
    papers = typed.papers;
    party_numbers = numbers_stay 1 t.parties typed.party_numbers;
    parcel_numbers = typed.parcel_numbers;
    file_numbers = typed.file_numbers;
    party_count = length-map t.parties (with_digest party digest) ∙ typed.party_count;
    parcel_count = typed.parcel_count;
    file_count = typed.file_count;
  }

-- ---- sound tables and histories

pub sound_after : (party : ℕ) (digest : List ℕ) → IsTrue (is_digest digest) → (new : Database) (t : Tables) → AreTyped t → IsSoundTables t →
    Keeps (with_renewed party digest t) new → KeepsSound new
sound_after party digest good new t typed sound made =
    (with_renewed party digest t, typed_renewed party digest good t typed, sound_renewed party digest t good sound, made)

-- the tables of a history turn into those of the history in which the party had the token
pub history_after : (party : ℕ) (token : List ℕ) (new : Database) (h : History) → IsHistory h → against_renewal (parties h) party (digest_of token) ≡ None →
    Keeps (with_renewed party (digest_of token) (tables h)) new → IsHistory (renewed party token h) × Keeps (tables (renewed party token h)) new
history_after party token new h is none made =
    (renewed_follows party token h is none, subst (λ t. Keeps t new) (sym (tables_renewed party token h)) made)
