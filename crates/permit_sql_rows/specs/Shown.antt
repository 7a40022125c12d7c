-- The rows that show a value of their table's type.
use Rattle.std.specs.Prelude.{◌≡◌, ℕ, Option, IfSome}
use Rattle.sqlite_value.specs.Order.{Row}
use Rattle.permit_model.specs.Caller.{Party}
use Rattle.permit_model.specs.Parcels.{Parcel}
use Rattle.permit_model.specs.Tables.{FileRow, Paper}
use Rattle.permit_model.specs.Routes.{Found}
use Rattle.permit_sql_rows.specs.Kept.{IsNamed}
use Rattle.permit_sql_rows.specs.Rows.{shown_party, shown_parcel, shown_file, shown_found, shown_paper}
use Rattle.permit_sql_rows.specs.Typed.{firsts, IsObject, IsParty, IsParcel, IsFile, IsPaper}

abbrev pub ShowsParty : Row → Type 0
ShowsParty row = (p : Party) × IsParty p × (firsts 4 0 row ≡ shown_party p)

abbrev pub ShowsParcel : Row → Type 0
ShowsParcel row = (p : Parcel) × IsParcel p × (firsts 4 0 row ≡ shown_parcel p)

abbrev pub ShowsPaper : Row → Type 0
ShowsPaper row = (p : Paper) × IsPaper p × (firsts 9 0 row ≡ shown_paper p)

-- a file, where there were so many at the upgrade
abbrev pub ShowsFile : Option ℕ → Row → Type 0
ShowsFile upgrade row = (f : FileRow) × IsFile f × IsNamed upgrade f.id f.state × (firsts 20 0 row ≡ shown_file f)

abbrev pub ShowsFound : Option ℕ → Row → Type 0
ShowsFound upgrade row =
    (f : Found) × IsFile f.row × IfSome f.owner IsObject × IsNamed upgrade f.row.id f.row.state × (firsts 22 0 row ≡ shown_found f)
