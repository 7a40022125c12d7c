-- What the texts that read mean.
use Rattle.std.proofs.Common.{◌≡◌, refl, sym, subst, List, [], ◌∷◌, ◌++◌, ℕ, zero, suc, pos, false}
use Rattle.sqlite_tied.specs.Compute.{everything}
use Rattle.sqlite.specs.Listing.{understood, reads_listing}
use Rattle.sqlite.specs.declared.types.Value.TheVariants.{Int}
use Rattle.sqlite_value.specs.declared.keys.Collation.TheVariants.{Binary}
use Rattle.sqlite_value.specs.Keys.{ascending}
use Rattle.sqlite_sql.specs.Term.{Term, lit, col}
use Rattle.sqlite_sql.specs.Query.{Query, Join, inner, left, counted, end}
use Rattle.sqlite_schema.specs.declared.program.Program.{Program}
use Rattle.sqlite_schema.specs.declared.command.Command.{Command}
use Rattle.sqlite_schema.specs.declared.command.Command.TheVariants.{Select}
use Rattle.sqlite.proofs.Callers.{command_of, IsPlain}
use Rattle.permit_sql_rows.specs.Schema.{Order, schema_in}
use Rattle.permit_sql_statements.specs.declared.texts.TheConstants.{READ_DESK, READ_PARTY, FIND_PARTY, READ_PARCEL, FIND_PARCEL, FIND_INTEREST}
use Rattle.permit_sql_statements.specs.declared.texts.TheConstants.{READ_FILE, READ_FOUND, READ_INTERESTS, READ_PAPERS, FIND_NOTICE}
use Rattle.permit_base.specs.declared.words.Edition.TheVariants.{Second}
use Rattle.permit_sql_statements.specs.Frames.{IsPlainIn}
use Rattle.permit_sql_statements.proofs.Lookups.{plain_query, equals}

abbrev pub alone : Query → Program
alone q = record { lets = []; body = q }

-- a text is plain where it is so in each order
pub plain_second : (sql : List ℕ) → ((o : Order) → IsPlain (understood (schema_in o) sql)) → IsPlainIn Second sql
plain_second sql plain s office = subst (λ x. IsPlain (understood x sql)) (sym office.is) (plain office.order)

abbrev pub columns_of : ℕ → ℕ → List Term
columns_of zero at = []
columns_of (suc n) at = col 1 at ∷ columns_of n (suc at)

abbrev pub names_of : Command → List (List ℕ)
names_of (Select q names) = names
names_of _ = []

abbrev pub read_desk_query : Query
read_desk_query = plain_query (inner 0 end) ([]) (col 1 0 ∷ columns_of 5 2) ([])

pub read_desk_is : (o : Order) → command_of (understood (schema_in o) READ_DESK.now)
    ≡ Select (alone read_desk_query) (names_of (command_of (understood (schema_in o) READ_DESK.now)))
unfolding understood everything
read_desk_is o = refl

pub read_desk_plain : (o : Order) → IsPlain (understood (schema_in o) READ_DESK.now)
unfolding understood everything
read_desk_plain o = (refl, refl)

pub read_desk_unlisted : (o : Order) → reads_listing (schema_in o) READ_DESK.now ≡ false
unfolding understood everything
read_desk_unlisted o = refl

abbrev pub read_party_query : Query
read_party_query = plain_query (inner 1 end) (equals (col 1 0) (col 0 0) ∷ []) (col 1 0 ∷ columns_of 3 2) ([])

pub read_party_is : (o : Order) → command_of (understood (schema_in o) READ_PARTY.now)
    ≡ Select (alone read_party_query) (names_of (command_of (understood (schema_in o) READ_PARTY.now)))
unfolding understood everything
read_party_is o = refl

pub read_party_plain : (o : Order) → IsPlain (understood (schema_in o) READ_PARTY.now)
unfolding understood everything
read_party_plain o = (refl, refl)

pub read_party_unlisted : (o : Order) → reads_listing (schema_in o) READ_PARTY.now ≡ false
unfolding understood everything
read_party_unlisted o = refl

abbrev pub find_party_query : Query
find_party_query = plain_query (inner 1 end) (equals (col 1 4) (col 0 0) ∷ []) (col 1 0 ∷ columns_of 3 2) ([])

pub find_party_is : (o : Order) → command_of (understood (schema_in o) FIND_PARTY.now)
    ≡ Select (alone find_party_query) (names_of (command_of (understood (schema_in o) FIND_PARTY.now)))
unfolding understood everything
find_party_is o = refl

pub find_party_plain : (o : Order) → IsPlain (understood (schema_in o) FIND_PARTY.now)
unfolding understood everything
find_party_plain o = (refl, refl)

pub find_party_unlisted : (o : Order) → reads_listing (schema_in o) FIND_PARTY.now ≡ false
unfolding understood everything
find_party_unlisted o = refl

abbrev pub read_parcel_query : Query
read_parcel_query = plain_query (inner 3 end) (equals (col 1 0) (col 0 0) ∷ []) (col 1 0 ∷ columns_of 3 2) ([])

pub read_parcel_is : (o : Order) → command_of (understood (schema_in o) READ_PARCEL.now)
    ≡ Select (alone read_parcel_query) (names_of (command_of (understood (schema_in o) READ_PARCEL.now)))
unfolding understood everything
read_parcel_is o = refl

pub read_parcel_plain : (o : Order) → IsPlain (understood (schema_in o) READ_PARCEL.now)
unfolding understood everything
read_parcel_plain o = (refl, refl)

pub read_parcel_unlisted : (o : Order) → reads_listing (schema_in o) READ_PARCEL.now ≡ false
unfolding understood everything
read_parcel_unlisted o = refl

abbrev pub find_parcel_query : Query
find_parcel_query = plain_query (inner 3 end) (equals (col 1 2) (col 0 0) ∷ []) (col 1 0 ∷ columns_of 3 2) ([])

pub find_parcel_is : (o : Order) → command_of (understood (schema_in o) FIND_PARCEL.now)
    ≡ Select (alone find_parcel_query) (names_of (command_of (understood (schema_in o) FIND_PARCEL.now)))
unfolding understood everything
find_parcel_is o = refl

pub find_parcel_plain : (o : Order) → IsPlain (understood (schema_in o) FIND_PARCEL.now)
unfolding understood everything
find_parcel_plain o = (refl, refl)

pub find_parcel_unlisted : (o : Order) → reads_listing (schema_in o) FIND_PARCEL.now ≡ false
unfolding understood everything
find_parcel_unlisted o = refl

abbrev pub find_interest_query : Query
find_interest_query = plain_query (inner 5 end) (equals (col 1 1) (col 0 0) ∷ equals (col 1 2) (col 0 1) ∷ []) (lit (Int (pos 1)) ∷ []) ([])

pub find_interest_is : (o : Order) → command_of (understood (schema_in o) FIND_INTEREST.now)
    ≡ Select (alone find_interest_query) (names_of (command_of (understood (schema_in o) FIND_INTEREST.now)))
unfolding understood everything
find_interest_is o = refl

pub find_interest_plain : (o : Order) → IsPlain (understood (schema_in o) FIND_INTEREST.now)
unfolding understood everything
find_interest_plain o = (refl, refl)

pub find_interest_unlisted : (o : Order) → reads_listing (schema_in o) FIND_INTEREST.now ≡ false
unfolding understood everything
find_interest_unlisted o = refl

abbrev pub read_interests_query : Query
read_interests_query = plain_query (inner 5 end) [] (columns_of 2 1) ([])

pub read_interests_is : (o : Order) → command_of (understood (schema_in o) READ_INTERESTS.now)
    ≡ Select (alone read_interests_query) (names_of (command_of (understood (schema_in o) READ_INTERESTS.now)))
unfolding understood everything
read_interests_is o = refl

pub read_interests_plain : (o : Order) → IsPlain (understood (schema_in o) READ_INTERESTS.now)
unfolding understood everything
read_interests_plain o = (refl, refl)

pub read_interests_unlisted : (o : Order) → reads_listing (schema_in o) READ_INTERESTS.now ≡ false
unfolding understood everything
read_interests_unlisted o = refl

abbrev pub read_file_query : Query
read_file_query = plain_query (inner 7 end) (equals (col 1 0) (col 0 0) ∷ []) (col 1 0 ∷ columns_of 19 2) ([])

pub read_file_is : (o : Order) → command_of (understood (schema_in o) READ_FILE.now)
    ≡ Select (alone read_file_query) (names_of (command_of (understood (schema_in o) READ_FILE.now)))
unfolding understood everything
read_file_is o = refl

pub read_file_plain : (o : Order) → IsPlain (understood (schema_in o) READ_FILE.now)
unfolding understood everything
read_file_plain o = (refl, refl)

pub read_file_unlisted : (o : Order) → reads_listing (schema_in o) READ_FILE.now ≡ false
unfolding understood everything
read_file_unlisted o = refl

-- each file beside its parcel, with one interest of the caller in it, if there is one
abbrev pub its_parcel : List Term
its_parcel = equals (col 2 0) (col 1 2) ∷ []

abbrev pub its_interest : List Term
its_interest = equals (col 3 1) (col 1 2) ∷ equals (col 3 2) (col 0 0) ∷ []

abbrev pub one_interest : Join
one_interest = counted 1 (inner 5 end) its_interest end

abbrev pub read_found_query : Query
read_found_query = plain_query (inner 7 (left 3 its_parcel one_interest)) [] (col 1 0 ∷ (columns_of 19 2 ++ col 2 4 ∷ col 3 0 ∷ []))
    ((col 1 0, ascending Binary) ∷ [])

pub read_found_is : (o : Order) → command_of (understood (schema_in o) READ_FOUND.now)
    ≡ Select (alone read_found_query) (names_of (command_of (understood (schema_in o) READ_FOUND.now)))
unfolding understood everything
read_found_is o = refl

pub read_found_plain : (o : Order) → IsPlain (understood (schema_in o) READ_FOUND.now)
unfolding understood everything
read_found_plain o = (refl, refl)

pub read_found_unlisted : (o : Order) → reads_listing (schema_in o) READ_FOUND.now ≡ false
unfolding understood everything
read_found_unlisted o = refl

abbrev pub read_papers_query : Query
read_papers_query = plain_query (inner 8 end) (equals (col 1 1) (col 0 0) ∷ []) (columns_of 9 1) ((col 1 2, ascending Binary) ∷ [])

pub read_papers_is : (o : Order) → command_of (understood (schema_in o) READ_PAPERS.now)
    ≡ Select (alone read_papers_query) (names_of (command_of (understood (schema_in o) READ_PAPERS.now)))
unfolding understood everything
read_papers_is o = refl

pub read_papers_plain : (o : Order) → IsPlain (understood (schema_in o) READ_PAPERS.now)
unfolding understood everything
read_papers_plain o = (refl, refl)

pub read_papers_unlisted : (o : Order) → reads_listing (schema_in o) READ_PAPERS.now ≡ false
unfolding understood everything
read_papers_unlisted o = refl

abbrev pub find_notice_query : Query
find_notice_query = plain_query (inner 8 end) (equals (col 1 1) (col 0 0) ∷ equals (col 1 9) (lit (Int (pos 1))) ∷ equals (col 1 2) (col 0 1) ∷ [])
    (lit (Int (pos 1)) ∷ []) ([])

pub find_notice_is : (o : Order) → command_of (understood (schema_in o) FIND_NOTICE.now)
    ≡ Select (alone find_notice_query) (names_of (command_of (understood (schema_in o) FIND_NOTICE.now)))
unfolding understood everything
find_notice_is o = refl

pub find_notice_plain : (o : Order) → IsPlain (understood (schema_in o) FIND_NOTICE.now)
unfolding understood everything
find_notice_plain o = (refl, refl)

pub find_notice_unlisted : (o : Order) → reads_listing (schema_in o) FIND_NOTICE.now ≡ false
unfolding understood everything
find_notice_unlisted o = refl
