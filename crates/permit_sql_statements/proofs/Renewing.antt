-- What setting a party's digest makes of the tables.
use Rattle.std.proofs.Common.{◌≡◌, ◌≤◌, ℕ, suc, pos, Bool, true, false, cond, eqb, List, [], ◌∷◌, map, filter, find, length, Option, Some, None, Ok, refl, sym, ap, subst}
use Rattle.std.proofs.Common.{◌∙◌, arith, IsPermutation}
use Rattle.std.specs.Prelude.{bytes_eq, is_some, if◌then◌else◌}
use Rattle.std.proofs.lemmas.Bool.Decides.{nat_tests}
use Rattle.std.proofs.lemmas.Slice.Eq.{bytes_eq-Decides}
use Rattle.sqlite_tied.specs.Compute.{everything}
use Rattle.sqlite.specs.Listing.{understood}
use Rattle.sqlite.specs.declared.types.Value.TheVariants.{Null, Text}
use Rattle.sqlite_value.specs.Order.{Row}
use Rattle.sqlite_trees.specs.Tree.{put_row, without_rowid}
use Rattle.sqlite_trees.specs.declared.store.Store.{Ghosts}
use Rattle.sqlite_sql.specs.Term.{lit, col}
use Rattle.sqlite_sql.specs.Query.{Query, inner, end}
use Rattle.sqlite_sql.specs.Program.{overlay}
use Rattle.sqlite_schema.specs.declared.command.Command.TheVariants.{Update}
use Rattle.sqlite_rules.specs.Cast.{cast_row}
use Rattle.sqlite.specs.Effect.{Database}
use Rattle.sqlite.specs.State.{State, Executes}
use Rattle.sqlite.specs.Held.{Held, state}
use Rattle.sqlite.proofs.Callers.{command_of, IsPlain}
use Rattle.permit_base.specs.declared.refusal.Refusal.{Refusal}
use Rattle.permit_model.specs.Search.{when}
use Rattle.permit_model.specs.Caller.{Party}
use Rattle.permit_model.specs.Tables.{Tables}
use Rattle.permit_model.specs.Renewal.{with_digest, with_renewed, against_renewal}
use Rattle.permit_sql_rows.specs.Schema.{Order, schema_in, party_table}
use Rattle.permit_sql_rows.specs.Rows.{int, party_row}
use Rattle.permit_sql_rows.specs.Kept.{AreKeyed, Keeps}
use Rattle.permit_sql_statements.specs.declared.texts.TheConstants.{SET_DIGEST}
use Rattle.permit_sql_statements.specs.Renewing.{renewal_statements}
use Rattle.permit_sql_statements.specs.Statements.{Ran, RanAll}
use Rattle.permit_sql_statements.proofs.Lookups.{plain_query, equals, one_test, eq_is, finds_one}
use Rattle.permit_sql_statements.proofs.QueryTexts.{alone}
use Rattle.permit_sql_statements.proofs.Effects.{cast_int, cast_null, Leaves, sets}
use Rattle.permit_sql_statements.proofs.Permuted.{put_changed, not_found, only_found}
use Rattle.permit_sql_statements.proofs.Keeping.{second_after, keeps_parties, as_many}
use Rattle.permit_sql_statements.proofs.Commits.{found_number}

-- ---- the text

abbrev pub set_digest_query : Query
set_digest_query = plain_query (inner 1 end) (equals (col 1 0) (col 0 0) ∷ []) (col 1 0 ∷ col 1 0 ∷ lit Null ∷ col 1 2 ∷ col 1 3 ∷ col 0 1 ∷ []) []

pub set_digest_is : (o : Order) → command_of (understood (schema_in o) SET_DIGEST.now) ≡ Update 1 (alone set_digest_query)
unfolding understood everything
set_digest_is o = refl

pub set_digest_plain : (o : Order) → IsPlain (understood (schema_in o) SET_DIGEST.now)
unfolding understood everything
set_digest_plain o = (refl, refl)

-- a party's row is stored as it is
cast_party : (p : Party) → cast_row party_table (party_row p) ≡ party_row p
cast_party p = simp (cast_int, cast_null)

-- the row of the party with the number is put in place of the one that it had
sets_digest : (old new : State) (count : ℕ) (t : Tables) (k : Keeps t old.now) → (id : ℕ) (digest : List ℕ) (p : Party) →
    filter (λ (x : Party). eqb x.id id) t.parties ≡ p ∷ [] → p.id ≡ id → Executes SET_DIGEST.now (int id ∷ Text digest ∷ []) old new (Ok count)
    → Leaves k.schema.order old.now new.now party_table × (new.now.trees 1 ≡ put_row (party_row (record p { digest = digest })) (without_rowid (pos id) (old.now.trees 1)))
sets_digest old new count t k id digest p there same h =
    let params = int id ∷ Text digest ∷ [] in
    let it = sets k.schema.order SET_DIGEST.now 1 party_table set_digest_query (set_digest_is k.schema.order) (set_digest_plain k.schema.order) params old new count
    k.schema.is refl (λ tally x. x) h in
    let set : Party → Row = λ x. int x.id ∷ party_row (record x { digest = digest }) in
    let found = finds_one party_row set 1 set_digest_query.filter set_digest_query.project (overlay old.now.trees []) params t.parties (λ x. eqb x.id id)
    (λ x. one_test _ ∙ eq_is x.id id) (λ x. refl)
    k.rows.parties (k.keyed.parties id) it.found (it.answer.answer Null) in
    it.one (pos id) (party_row (record p { digest = digest })) (cast_party (record p { digest = digest }))
    (found ∙ ap (map set) there ∙ ap (λ n. (int n ∷ party_row (record p { digest = digest })) ∷ []) same)

-- ---- the keys

module _ (id : ℕ) (digest : List ℕ) where
  abbrev HasDigest : List ℕ → Party → Bool
  HasDigest words p = bytes_eq p.digest words

  number_kept : (p : Party) → (with_digest id digest p).id ≡ p.id
  number_kept p = go (eqb p.id id)
    where
      go : (b : Bool) → (cond b (record p { digest = digest }) p).id ≡ p.id
      go true = refl
      go false = refl

  -- of words that nobody had there is at most the party with the number
  new_words : (words : List ℕ) (ps : List Party) → filter (HasDigest words) ps ≡ [] →
      length (filter (HasDigest words) (map (with_digest id digest) ps)) ≤ length (filter (λ (p : Party). eqb p.id id) ps)
  new_words words [] none = omega arith
  new_words words (p ∷ ps) none = go (HasDigest words p) refl (eqb p.id id) none (new_words words ps)
    where
      go : (has : Bool) → HasDigest words p ≡ has → (is : Bool) → cond has (p ∷ filter (HasDigest words) ps) (filter (HasDigest words) ps) ≡ [] →
          (filter (HasDigest words) ps ≡ [] →
          length (filter (HasDigest words) (map (with_digest id digest) ps)) ≤ length (filter (λ (q : Party). eqb q.id id) ps)) →
          length (filter (HasDigest words) (cond is (record p { digest = digest }) p ∷ map (with_digest id digest) ps))
          ≤ length (cond is (p ∷ filter (λ (q : Party). eqb q.id id) ps) (filter (λ (q : Party). eqb q.id id) ps))
      go true e is none more = absurd (let bad = none in cc)
      go false e true none more = one (bytes_eq digest words) (more none)
        where
          one : (b : Bool) → length (filter (HasDigest words) (map (with_digest id digest) ps)) ≤ length (filter (λ (q : Party). eqb q.id id) ps) →
              length (cond b (record p { digest = digest } ∷ filter (HasDigest words) (map (with_digest id digest) ps))
              (filter (HasDigest words) (map (with_digest id digest) ps)))
              ≤ suc (length (filter (λ (q : Party). eqb q.id id) ps))
          one true few = omega (arith, few)
          one false few = omega (arith, few)
      go false e false none more = rw e (more none)

  -- of other words there are no more than there were
  other_words : (words : List ℕ) (ps : List Party) → bytes_eq digest words ≡ false →
      length (filter (HasDigest words) (map (with_digest id digest) ps)) ≤ length (filter (HasDigest words) ps)
  other_words words [] other = omega arith
  other_words words (p ∷ ps) other = go (eqb p.id id) (HasDigest words p) refl (other_words words ps other)
    where
      go : (is has : Bool) → HasDigest words p ≡ has →
          length (filter (HasDigest words) (map (with_digest id digest) ps)) ≤ length (filter (HasDigest words) ps) →
          length (filter (HasDigest words) (cond is (record p { digest = digest }) p ∷ map (with_digest id digest) ps))
          ≤ length (cond has (p ∷ filter (HasDigest words) ps) (filter (HasDigest words) ps))
      go true true e few = rw other (omega (arith, few))
      go true false e few = rw other few
      go false true e few = rw e (omega (arith, few))
      go false false e few = rw e few

  keyed_renewal : (t : Tables) → AreKeyed t → find (HasDigest digest) t.parties ≡ None → AreKeyed (with_renewed id digest t)
  keyed_renewal t k free = record {
    upgraded = k.upgraded;
    edition = k.edition;
    parties = λ n. as_many (λ (p : Party). eqb p.id n) (with_digest id digest) (λ p. ap (λ m. eqb m n) (number_kept p)) t.parties (k.parties n);
    digests = λ words. once words (bytes_eq digest words) refl;
    parcels = k.parcels;
    lots = k.lots;
    files = k.files;
    named = k.named;
    papers = k.papers;
    counted = k.counted;
  }
    where
      once : (words : List ℕ) (b : Bool) → bytes_eq digest words ≡ b → length (filter (HasDigest words) (map (with_digest id digest) t.parties)) ≤ 1
      once words true e =
          let same : digest ≡ words = (bytes_eq-Decides digest words).0 e in
          let few = new_words words t.parties (subst (λ w. filter (HasDigest w) t.parties ≡ []) same (not_found (HasDigest digest) t.parties free)) in
          let one = k.parties id in
          omega (arith, few, one)
      once words false e = let few = other_words words t.parties e in let one = k.digests words in omega (arith, few, one)

-- ---- the statement

-- there is no reason against it where the party is there, and nobody has the digest
against_none : (a b : Option Party) (taken missing : Refusal) → (if is_some a then when (is_some b) taken else Some missing) ≡ None →
    ((p : Party) × (a ≡ Some p)) × (b ≡ None)
against_none None b taken missing none = absurd (let bad = none in cc)
against_none (Some p) None taken missing none = ((p, refl), refl)
against_none (Some p) (Some q) taken missing none = absurd (let bad = none in cc)

given : (id : ℕ) (digest : List ℕ) (p : Party) → p.id ≡ id → with_digest id digest p ≡ record p { digest = digest }
given id digest p e = let is : eqb p.id id ≡ true = grind (arith, nat_tests) in ap (λ c. cond c (record p { digest = digest }) p) is

pub renewal_ran : {S : Type 0} (g : Ghosts S) (old last : Held S) (t : Tables) → Keeps t (state g old).now → (id : ℕ) (digest : List ℕ) →
    against_renewal t.parties id digest ≡ None → Ran g (renewal_statements (int id ∷ Text digest ∷ [])) old last
    → Keeps (with_renewed id digest t) (state g last).now
renewal_ran g old last t k id digest none ran =
    let begun = state g old in
    let one = ran in
    let a = state g one.0 in
    let free = against_none _ _ _ _ none in
    let p = free.0.0 in
    let only = only_found (λ (q : Party). eqb q.id id) t.parties p free.0.1 (k.keyed.parties id) in
    let number = found_number (λ (q : Party). q.id) id t.parties p free.0.1 in
    let set = sets_digest begun a one.1 t k id digest p only number one.2 in
    let xs = map (with_digest id digest) t.parties in
    let here = given id digest p number in
    let there = put_changed (λ (q : Party). q.id) party_row (λ q. refl) id (with_digest id digest) p t.parties (begun.now.trees 1)
    (λ y apart. ap (λ c. cond c (record y { digest = digest }) y) apart) (ap (λ (q : Party). q.id) here ∙ number) only k.rows.parties in
    let row = subst (IsPermutation (map party_row xs)) (ap (λ q. put_row (party_row q) (without_rowid (pos id) (begun.now.trees 1))) here ∙ sym set.1) there in
    let rows = keeps_parties begun.now a.now t k.schema k.rows xs set.0 row in
    let same : (state g last).now ≡ a.now = ap (λ (h : Held _). (state g h).now) one.3 in
    subst (Keeps (with_renewed id digest t)) (sym same) (record {
      schema = second_after begun.now a.now k.schema set.0.schema;
      now = k.now;
      keyed = keyed_renewal id digest t k.keyed free.1;
      rows = rows;
    })

-- as a transaction
pub renewal_made : {S : Type 0} (g : Ghosts S) (old : Held S) (db : Database) (t : Tables) → Keeps t (state g old).now → (id : ℕ) (digest : List ℕ) →
    against_renewal t.parties id digest ≡ None → RanAll g (renewal_statements (int id ∷ Text digest ∷ [])) old db → Keeps (with_renewed id digest t) db
renewal_made g old db t k id digest none ran =
    subst (Keeps (with_renewed id digest t)) (sym ran.is) (renewal_ran g (record old { in_transaction = true }) ran.last t k id digest none ran.ran)
