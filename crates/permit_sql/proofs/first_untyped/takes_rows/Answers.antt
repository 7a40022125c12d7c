use Rattle.permit_base.specs.declared.words.Edition.TheVariants.{Second}
use Rattle.permit_sql.proofs.WholeMeanings.{each_party_plain, each_parcel_plain, each_interest_plain, each_file_plain, each_paper_plain}
use Rattle.permit_sql.proofs.first_untyped.takes_rows.Goals as goal

pub takes_all-requires-clause-plain : goal.takes_all-requires-clause-plain
takes_all-requires-clause-plain g c = each_party_plain Second

pub takes_all-requires-in-Parcel-clause-plain : goal.takes_all-requires-in-Parcel-clause-plain
takes_all-requires-in-Parcel-clause-plain g c = each_parcel_plain Second

pub takes_all-requires-in-Interest-clause-plain : goal.takes_all-requires-in-Interest-clause-plain
takes_all-requires-in-Interest-clause-plain g c = each_interest_plain Second

pub takes_all-requires-in-File-clause-plain : goal.takes_all-requires-in-File-clause-plain
takes_all-requires-in-File-clause-plain g c = each_file_plain Second

pub takes_all-requires-in-Paper-clause-plain : goal.takes_all-requires-in-Paper-clause-plain
takes_all-requires-in-Paper-clause-plain g c = each_paper_plain Second
