-- What the texts that write mean.
use Rattle.std.proofs.Common.{◌≡◌, refl, List, [], ◌∷◌, pos}
use Rattle.sqlite_tied.specs.Compute.{everything}
use Rattle.sqlite.specs.Listing.{understood}
use Rattle.sqlite.specs.declared.types.Value.TheVariants.{Null, Int}
use Rattle.sqlite_sql.specs.Term.{Term, lit, col}
use Rattle.sqlite_sql.specs.Query.{Query, inner, end}
use Rattle.sqlite_schema.specs.declared.command.Command.TheVariants.{Insert, Update}
use Rattle.sqlite_schema.specs.declared.command.Source.TheVariants.{Values}
use Rattle.sqlite.proofs.Callers.{command_of, IsPlain}
use Rattle.permit_sql_rows.specs.Schema.{Order, schema_in}
use Rattle.permit_sql_statements.specs.declared.texts.TheConstants.{ADD_PARTY, ADD_PARCEL, ADD_INTEREST, ADD_FILE, ADD_PAPER, FOUND_DESK, WRITE_DESK, SET_OWNER}
use Rattle.permit_sql_statements.specs.declared.texts.TheConstants.{WRITE_FILE, CLOSE_NOTICE, ADD_UPGRADE, SET_VERSION}
use Rattle.permit_sql_statements.proofs.Lookups.{plain_query, equals}
use Rattle.permit_sql_statements.proofs.QueryTexts.{alone}

abbrev pub add_party_terms : List Term
add_party_terms = col 0 0 ∷ lit Null ∷ col 0 1 ∷ col 0 2 ∷ col 0 3 ∷ []

pub add_party_is : (o : Order) → command_of (understood (schema_in o) ADD_PARTY.now) ≡ Insert 1 (Values add_party_terms 5)
unfolding understood everything
add_party_is o = refl

pub add_party_plain : (o : Order) → IsPlain (understood (schema_in o) ADD_PARTY.now)
unfolding understood everything
add_party_plain o = (refl, refl)

abbrev pub add_parcel_terms : List Term
add_parcel_terms = col 0 0 ∷ lit Null ∷ col 0 1 ∷ col 0 2 ∷ col 0 3 ∷ []

pub add_parcel_is : (o : Order) → command_of (understood (schema_in o) ADD_PARCEL.now) ≡ Insert 2 (Values add_parcel_terms 5)
unfolding understood everything
add_parcel_is o = refl

pub add_parcel_plain : (o : Order) → IsPlain (understood (schema_in o) ADD_PARCEL.now)
unfolding understood everything
add_parcel_plain o = (refl, refl)

abbrev pub add_interest_terms : List Term
add_interest_terms = lit Null ∷ col 0 0 ∷ col 0 1 ∷ []

pub add_interest_is : (o : Order) → command_of (understood (schema_in o) ADD_INTEREST.now) ≡ Insert 3 (Values add_interest_terms 3)
unfolding understood everything
add_interest_is o = refl

pub add_interest_plain : (o : Order) → IsPlain (understood (schema_in o) ADD_INTEREST.now)
unfolding understood everything
add_interest_plain o = (refl, refl)

abbrev pub add_file_terms : List Term
add_file_terms = col 0 0 ∷ lit Null ∷ col 0 1 ∷ col 0 2 ∷ col 0 3 ∷ col 0 4 ∷ col 0 5 ∷ col 0 6 ∷ col 0 7 ∷ col 0 8 ∷ col 0 9 ∷ col 0 10 ∷ col 0 11 ∷ col 0 12
    ∷ col 0 13 ∷ col 0 14 ∷ col 0 15 ∷ col 0 16 ∷ col 0 17 ∷ col 0 18 ∷ col 0 19 ∷ []

pub add_file_is : (o : Order) → command_of (understood (schema_in o) ADD_FILE.now) ≡ Insert 4 (Values add_file_terms 21)
unfolding understood everything
add_file_is o = refl

pub add_file_plain : (o : Order) → IsPlain (understood (schema_in o) ADD_FILE.now)
unfolding understood everything
add_file_plain o = (refl, refl)

abbrev pub add_paper_terms : List Term
add_paper_terms = lit Null ∷ col 0 0 ∷ col 0 1 ∷ col 0 2 ∷ col 0 3 ∷ col 0 4 ∷ col 0 5 ∷ col 0 6 ∷ col 0 7 ∷ col 0 8 ∷ []

pub add_paper_is : (o : Order) → command_of (understood (schema_in o) ADD_PAPER.now) ≡ Insert 5 (Values add_paper_terms 10)
unfolding understood everything
add_paper_is o = refl

pub add_paper_plain : (o : Order) → IsPlain (understood (schema_in o) ADD_PAPER.now)
unfolding understood everything
add_paper_plain o = (refl, refl)

abbrev pub found_desk_terms : List Term
found_desk_terms = lit (Int (pos 1)) ∷ lit Null ∷ lit (Int (pos 2)) ∷ col 0 0 ∷ lit (Int (pos 1)) ∷ lit (Int (pos 0)) ∷ lit (Int (pos 0)) ∷ []

pub found_desk_is : (o : Order) → command_of (understood (schema_in o) FOUND_DESK.now) ≡ Insert 0 (Values found_desk_terms 7)
unfolding understood everything
found_desk_is o = refl

pub found_desk_plain : (o : Order) → IsPlain (understood (schema_in o) FOUND_DESK.now)
unfolding understood everything
found_desk_plain o = (refl, refl)

abbrev pub add_upgrade_terms : List Term
add_upgrade_terms = lit (Int (pos 1)) ∷ lit Null ∷ col 0 0 ∷ []

pub add_upgrade_is : (o : Order) → command_of (understood (schema_in o) ADD_UPGRADE.now) ≡ Insert 6 (Values add_upgrade_terms 3)
unfolding understood everything
add_upgrade_is o = refl

pub add_upgrade_plain : (o : Order) → IsPlain (understood (schema_in o) ADD_UPGRADE.now)
unfolding understood everything
add_upgrade_plain o = (refl, refl)

abbrev pub set_version_query : Query
set_version_query = plain_query (inner 0 end) (equals (col 1 0) (lit (Int (pos 1))) ∷ [])
    (col 1 0 ∷ col 1 0 ∷ lit Null ∷ lit (Int (pos 2)) ∷ col 1 3 ∷ col 1 4 ∷ col 1 5 ∷ col 1 6 ∷ []) []

pub set_version_is : (o : Order) → command_of (understood (schema_in o) SET_VERSION.now) ≡ Update 0 (alone set_version_query)
unfolding understood everything
set_version_is o = refl

pub set_version_plain : (o : Order) → IsPlain (understood (schema_in o) SET_VERSION.now)
unfolding understood everything
set_version_plain o = (refl, refl)

abbrev pub write_desk_query : Query
write_desk_query = plain_query (inner 0 end) (equals (col 1 0) (lit (Int (pos 1))) ∷ [])
    (col 1 0 ∷ col 1 0 ∷ lit Null ∷ col 1 2 ∷ col 0 0 ∷ col 0 1 ∷ col 0 2 ∷ col 0 3 ∷ []) []

pub write_desk_is : (o : Order) → command_of (understood (schema_in o) WRITE_DESK.now) ≡ Update 0 (alone write_desk_query)
unfolding understood everything
write_desk_is o = refl

pub write_desk_plain : (o : Order) → IsPlain (understood (schema_in o) WRITE_DESK.now)
unfolding understood everything
write_desk_plain o = (refl, refl)

abbrev pub set_owner_query : Query
set_owner_query = plain_query (inner 3 end) (equals (col 1 0) (col 0 0) ∷ []) (col 1 0 ∷ col 1 0 ∷ lit Null ∷ col 1 2 ∷ col 1 3 ∷ col 0 1 ∷ []) []

pub set_owner_is : (o : Order) → command_of (understood (schema_in o) SET_OWNER.now) ≡ Update 2 (alone set_owner_query)
unfolding understood everything
set_owner_is o = refl

pub set_owner_plain : (o : Order) → IsPlain (understood (schema_in o) SET_OWNER.now)
unfolding understood everything
set_owner_plain o = (refl, refl)

abbrev pub write_file_query : Query
write_file_query = plain_query (inner 7 end) (equals (col 1 0) (col 0 0) ∷ [])
    (col 1 0 ∷ col 1 0 ∷ lit Null ∷ col 1 2 ∷ col 1 3 ∷ col 0 1 ∷ col 0 2 ∷ col 0 3 ∷ col 0 4 ∷ col 1 8 ∷ col 1 9 ∷ col 0 5 ∷ col 0 6 ∷ col 0 7 ∷ col 0 8
    ∷ col 0 9 ∷ col 0 10 ∷ col 0 11 ∷ col 0 12 ∷ col 0 13 ∷ col 0 14 ∷ col 0 15 ∷ []) []

pub write_file_is : (o : Order) → command_of (understood (schema_in o) WRITE_FILE.now) ≡ Update 4 (alone write_file_query)
unfolding understood everything
write_file_is o = refl

pub write_file_plain : (o : Order) → IsPlain (understood (schema_in o) WRITE_FILE.now)
unfolding understood everything
write_file_plain o = (refl, refl)

abbrev pub close_notice_query : Query
close_notice_query = plain_query (inner 8 end) (equals (col 1 1) (col 0 0) ∷ equals (col 1 2) (col 0 1) ∷ [])
    (col 1 0 ∷ col 1 0 ∷ col 1 1 ∷ col 1 2 ∷ col 1 3 ∷ col 1 4 ∷ col 1 5 ∷ col 1 6 ∷ col 1 7 ∷ col 1 8 ∷ lit (Int (pos 0)) ∷ []) []

pub close_notice_is : (o : Order) → command_of (understood (schema_in o) CLOSE_NOTICE.now) ≡ Update 5 (alone close_notice_query)
unfolding understood everything
close_notice_is o = refl

pub close_notice_plain : (o : Order) → IsPlain (understood (schema_in o) CLOSE_NOTICE.now)
unfolding understood everything
close_notice_plain o = (refl, refl)
