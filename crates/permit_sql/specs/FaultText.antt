-- The words of a fault: the row's table, its number where it has one, and what is wrong.
use Rattle.std.specs.Prelude.{ℕ, List, ◌++◌, codes, decimal, Option, Some, None}
use Rattle.permit_sql.specs.declared.fault.Fault.{Fault}
use Rattle.permit_sql.specs.declared.fault.Fault.TheVariants as fault
use Rattle.permit_sql.specs.declared.fault.DeskRule.{DeskRule}
use Rattle.permit_sql.specs.declared.fault.DeskRule.TheVariants as desk
use Rattle.permit_sql.specs.declared.fault.UpgradeRule.{UpgradeRule}
use Rattle.permit_sql.specs.declared.fault.UpgradeRule.TheVariants as upgrade
use Rattle.permit_sql.specs.declared.fault.PartyRule.{PartyRule}
use Rattle.permit_sql.specs.declared.fault.PartyRule.TheVariants as party
use Rattle.permit_sql.specs.declared.fault.ParcelRule.{ParcelRule}
use Rattle.permit_sql.specs.declared.fault.ParcelRule.TheVariants as parcel
use Rattle.permit_sql.specs.declared.fault.InterestRule.{InterestRule}
use Rattle.permit_sql.specs.declared.fault.InterestRule.TheVariants as interest
use Rattle.permit_sql.specs.declared.fault.FileRule.{FileRule}
use Rattle.permit_sql.specs.declared.fault.FileRule.TheVariants as file
use Rattle.permit_sql.specs.declared.fault.PaperRule.{PaperRule}
use Rattle.permit_sql.specs.declared.fault.PaperRule.TheVariants as paper

-- ---- what is wrong

abbrev pub desk_words : DeskRule → List ℕ
desk_words desk.Row = codes "there isn't one row, of number 1 and version 2"
desk_words desk.Last = codes "last isn't from 1 to 100000"
desk_words desk.Parties = codes "parties isn't how many there are"
desk_words desk.Parcels = codes "parcels isn't how many there are"
desk_words desk.Files = codes "files isn't how many there are"
desk_words desk.Records = codes "there is no party, or there are more than 99999 of a table"

abbrev pub upgrade_words : UpgradeRule → List ℕ
upgrade_words upgrade.Row = codes "there isn't one row, of number 1"
upgrade_words upgrade.Files = codes "files isn't from 0 to the files of the desk"

abbrev pub party_words : PartyRule → List ℕ
party_words party.Number = codes "its number isn't the next one"
party_words party.Name = codes "the name isn't a text within its limits"
party_words party.Role = codes "the role isn't the code of one"
party_words party.Digest = codes "the digest isn't 64 of the letters 0 to 9 and a to f"
party_words party.Official = codes "it isn't an official"

abbrev pub parcel_words : ParcelRule → List ℕ
parcel_words parcel.Number = codes "its number isn't the next one"
parcel_words parcel.Lot = codes "the lot isn't a text within its limits"
parcel_words parcel.Address = codes "the address isn't a text within its limits"
parcel_words parcel.Owner = codes "the owner isn't there"

abbrev pub interest_words : InterestRule → List ℕ
interest_words interest.Parcel = codes "the parcel isn't there"
interest_words interest.Party = codes "the party isn't there"

abbrev pub file_words : FileRule → List ℕ
file_words file.Number = codes "its number isn't the next one"
file_words file.Parcel = codes "the parcel isn't there"
file_words file.Applicant = codes "the applicant isn't there"
file_words file.Contractor = codes "the contractor isn't there"
file_words file.Reviewer = codes "the reviewer isn't a party with that role"
file_words file.Inspector = codes "the inspector isn't a party with that role"
file_words file.Kind = codes "the kind isn't the code of one"
file_words file.Valuation = codes "the valuation isn't from 0 to 9999999999999"
file_words file.Description = codes "the description isn't a text within its limits"
file_words file.Filed = codes "filed isn't from 1 to the last day"
file_words file.Stage = codes "the stage isn't the code of one that is kept"
file_words file.NoDeadline = codes "a deadline is there in a stage without one, or the other way"
file_words file.EarlyDeadline = codes "the deadline is below filed + 180"
file_words file.LateDeadline = codes "the deadline is above 200000"
file_words file.Done = codes "done isn't a number of steps that its stage may have"
file_words file.Request = codes "the request isn't for the next step"
file_words file.RequestStage = codes "a request is there outside of working and revoked"
file_words file.Requested = codes "requested isn't a request's day, from filed to the last day"
file_words file.Ask = codes "the ask isn't of as many days as its stage allows"
file_words file.Stopped = codes "stopped isn't 0, or 1 in a stage that may be stopped"
file_words file.Temporary = codes "temporary isn't from filed + 1 to the last day + 180"
file_words file.TemporaryStage = codes "temporary is there in a stage or a kind that has none"
file_words file.Notices = codes "notices isn't how many open notices it has"
file_words file.NoticesStage = codes "notices are open outside of working and revoked"
file_words file.Papers = codes "papers isn't how many it has, 9999 at most"

abbrev pub paper_words : PaperRule → List ℕ
paper_words paper.File = codes "the file isn't there"
paper_words paper.Number = codes "its number isn't the next one"
paper_words paper.Uncounted = codes "its number is above the papers of its file"
paper_words paper.Twice = codes "there is another with its number"
paper_words paper.EarlyDay = codes "the day is before that of the filing or of the paper before it"
paper_words paper.LateDay = codes "the day is after the last day"
paper_words paper.Author = codes "the author isn't there"
paper_words paper.Sort = codes "the sort isn't the code of one"
paper_words paper.Days = codes "the days aren't those that its sort may name"
paper_words paper.Text = codes "the text isn't one that its sort may have"
paper_words paper.Terms = codes "the terms aren't those that its sort may have"
paper_words paper.Open = codes "open isn't 0, or 1 of a notice"
paper_words paper.Rowid = codes "a rowid comes twice"

-- ---- the row

-- a row of a table, with its number where it has one
abbrev pub row_text : List ℕ → Option ℕ → List ℕ → List ℕ
row_text table (Some number) rule = table ++ codes " " ++ decimal number ++ codes ": " ++ rule
row_text table None rule = table ++ codes ": " ++ rule

-- a row of a table with two numbers, where it has both
abbrev pub pair_text : List ℕ → Option ℕ → Option ℕ → List ℕ → List ℕ
pair_text table (Some one) (Some other) rule = table ++ codes " " ++ decimal one ++ codes " " ++ decimal other ++ codes ": " ++ rule
pair_text table (Some one) None rule = table ++ codes ": " ++ rule
pair_text table None other rule = table ++ codes ": " ++ rule

abbrev pub fault_text : Fault → List ℕ
fault_text (fault.Desk rule) = row_text (codes "desk") None (desk_words rule)
fault_text (fault.Upgrade rule) = row_text (codes "upgrade") None (upgrade_words rule)
fault_text (fault.Party number rule) = row_text (codes "party") number (party_words rule)
fault_text (fault.Parcel number rule) = row_text (codes "parcel") number (parcel_words rule)
fault_text (fault.Interest of_parcel of_party rule) = pair_text (codes "interest") of_parcel of_party (interest_words rule)
fault_text (fault.File number rule) = row_text (codes "file") number (file_words rule)
fault_text (fault.Paper of_file number rule) = pair_text (codes "paper") of_file number (paper_words rule)
