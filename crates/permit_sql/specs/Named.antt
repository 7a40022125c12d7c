-- What the rules say that an open names where they are broken.
use Rattle.std.specs.Prelude.{ℕ, Bool, true, false, not, ◌&&◌, ◌||◌, ◌==◌, ◌+◌, nat_le, List, [], ◌∷◌, length, filter, Option, None, Some, is_none, suc, if◌then◌else◌}
use Rattle.std.specs.List.{list_all, list_any}
use Rattle.permit_base.specs.declared.words.Role.{Role}
use Rattle.permit_base.specs.declared.words.Role.TheVariants.{Reviewer, Inspector, Official}
use Rattle.permit_base.specs.Limits.{is_between, is_cents, most_papers, latest_day, latest_deadline}
use Rattle.permit_base.specs.Texts.{is_printable, is_lot, is_digest}
use Rattle.permit_model.specs.Days.{term, longest_temporary}
use Rattle.permit_model.specs.Steps.{required_steps, has_certificates}
use Rattle.permit_model.specs.Caller.{Party}
use Rattle.permit_model.specs.Parcels.{Parcel, Interest}
use Rattle.permit_model.specs.Numbering.{is_numbered}
use Rattle.permit_model.specs.Tables.{Desk, State, FileRow, Paper, Tables, next_in_row, is_notice}
use Rattle.permit_model.specs.SoundState.{is_stored, deadline_stands, is_for, request_dated}
use Rattle.permit_model.specs.Sound.{if_any, has_party, has_party_of, has_parcel, has_file, papers_in, has_few_records, is_begun, may_be_stopped, is_occupied}
use Rattle.permit_model.specs.Sound.{is_done_in, longest_ask, has_sound_days, has_sound_text, has_sound_terms}
use Rattle.permit_sql.specs.Tested.{has_role_at, is_ended}
use Rattle.permit_sql.specs.declared.tally.Tally.{Tally}
use Rattle.permit_sql.specs.declared.fault.Fault.{Fault}
use Rattle.permit_sql.specs.declared.fault.Fault.TheVariants as fault
use Rattle.permit_sql.specs.declared.fault.DeskRule.{DeskRule}
use Rattle.permit_sql.specs.declared.fault.DeskRule.TheVariants as desk
use Rattle.permit_sql.specs.declared.fault.UpgradeRule.{UpgradeRule}
use Rattle.permit_sql.specs.declared.fault.UpgradeRule.TheVariants as upgrade
use Rattle.permit_sql.specs.declared.fault.PartyRule.{PartyRule}
use Rattle.permit_sql.specs.declared.fault.PartyRule.TheVariants as party
use Rattle.permit_sql.specs.declared.fault.ParcelRule.{ParcelRule}
use Rattle.permit_sql.specs.declared.fault.ParcelRule.TheVariants as parcel
use Rattle.permit_sql.specs.declared.fault.InterestRule.{InterestRule}
use Rattle.permit_sql.specs.declared.fault.InterestRule.TheVariants as interest
use Rattle.permit_sql.specs.declared.fault.FileRule.{FileRule}
use Rattle.permit_sql.specs.declared.fault.FileRule.TheVariants as file
use Rattle.permit_sql.specs.declared.fault.PaperRule.{PaperRule}
use Rattle.permit_sql.specs.declared.fault.PaperRule.TheVariants as paper

-- ---- what is tested of typed rows, rule by rule; a rule that typed rows can't break holds

-- of the desk
abbrev pub fits_desk_rule : Desk → DeskRule → Bool
fits_desk_rule d desk.Last = nat_le 1 d.last
fits_desk_rule d desk.Records = has_few_records d
fits_desk_rule d _ = true

-- of an interest, by the counts of parcels and parties
abbrev pub fits_interest_rule : (parcels parties : ℕ) → InterestRule → Interest → Bool
fits_interest_rule parcels parties interest.Parcel i = nat_le i.parcel parcels
fits_interest_rule parcels parties interest.Party i = nat_le i.party parties

-- of a file, by the roles of the parties, the count of parcels and the last day
abbrev pub fits_file_rule : List Role → (parcels last : ℕ) → FileRule → State → Bool
fits_file_rule roles parcels last file.Parcel s = nat_le s.parcel parcels
fits_file_rule roles parcels last file.Applicant s = nat_le s.applicant (length roles)
fits_file_rule roles parcels last file.Contractor s = if_any (λ id. nat_le id (length roles)) s.contractor
fits_file_rule roles parcels last file.Reviewer s = if_any (has_role_at roles Reviewer) s.reviewer
fits_file_rule roles parcels last file.Inspector s = if_any (has_role_at roles Inspector) s.inspector
fits_file_rule roles parcels last file.Filed s = is_between 1 last s.filed
fits_file_rule roles parcels last file.EarlyDeadline s = if_any (nat_le (s.filed + term)) s.deadline
fits_file_rule roles parcels last file.LateDeadline s = if_any (λ day. nat_le day latest_deadline) s.deadline
fits_file_rule roles parcels last file.Requested s = if_any (is_between s.filed last) s.requested
fits_file_rule roles parcels last file.Temporary s = if_any (is_between (s.filed + 1) (last + longest_temporary)) s.temporary
fits_file_rule roles parcels last file.Done s = is_done_in s.stage (length (required_steps s.edition s.kind)) s.done
fits_file_rule roles parcels last file.RequestStage s = is_none s.request || is_begun s.stage
fits_file_rule roles parcels last file.Stopped s = not s.stopped || may_be_stopped s.stage
fits_file_rule roles parcels last file.Ask s = if_any (is_between 1 (longest_ask s.stage)) s.ask
fits_file_rule roles parcels last file.TemporaryStage s = is_none s.temporary || (is_occupied s.stage && has_certificates s.kind)
fits_file_rule roles parcels last file.NoticesStage s = (s.notices == 0) || is_begun s.stage
fits_file_rule roles parcels last file.Papers s = nat_le s.papers most_papers
fits_file_rule roles parcels last _ s = true

-- of a paper without those before it, by the count of parties and the last day
abbrev pub fits_paper_rule : (parties last : ℕ) → PaperRule → Paper → Bool
fits_paper_rule parties last paper.Author p = nat_le p.author parties
fits_paper_rule parties last paper.LateDay p = nat_le p.day last
fits_paper_rule parties last paper.Days p = has_sound_days p
fits_paper_rule parties last paper.Text p = has_sound_text p
fits_paper_rule parties last paper.Terms p = has_sound_terms p
fits_paper_rule parties last paper.Open p = not p.is_open || is_notice p.sort
fits_paper_rule parties last _ p = true

-- ---- what the rules say of tables

-- of the desk
abbrev pub holds_of_desk : Tables → DeskRule → Bool
holds_of_desk t desk.Row = true
holds_of_desk t desk.Last = is_between 1 latest_day t.desk.last
holds_of_desk t desk.Parties = t.desk.parties == length t.parties
holds_of_desk t desk.Parcels = t.desk.parcels == length t.parcels
holds_of_desk t desk.Files = t.desk.files == length t.files
holds_of_desk t desk.Records = has_few_records t.desk

-- of the upgrade
abbrev pub holds_of_upgrade : Tables → UpgradeRule → Bool
holds_of_upgrade t upgrade.Row = true
holds_of_upgrade t upgrade.Files = if_any (λ count. nat_le count t.desk.files) t.upgrade

-- of a party
abbrev pub holds_of_party : Tables → PartyRule → Party → Bool
holds_of_party t party.Number p = is_numbered (λ (q : Party). q.id) t.parties
holds_of_party t party.Name p = is_printable p.name
holds_of_party t party.Role p = true
holds_of_party t party.Digest p = is_digest p.digest
holds_of_party t party.Official p = not (p.id == 1) || has_party_of t Official 1

-- of a parcel
abbrev pub holds_of_parcel : Tables → ParcelRule → Parcel → Bool
holds_of_parcel t parcel.Number p = is_numbered (λ (q : Parcel). q.id) t.parcels
holds_of_parcel t parcel.Lot p = is_lot p.lot
holds_of_parcel t parcel.Address p = is_printable p.address
holds_of_parcel t parcel.Owner p = has_party t p.owner

-- of an interest
abbrev pub holds_of_interest : Tables → InterestRule → Interest → Bool
holds_of_interest t interest.Parcel i = has_parcel t i.parcel
holds_of_interest t interest.Party i = has_party t i.party

-- of a file
abbrev pub holds_of_file : Tables → FileRule → FileRow → Bool
holds_of_file t file.Number f = is_numbered (λ (g : FileRow). g.id) t.files
holds_of_file t file.Parcel f = has_parcel t f.state.parcel
holds_of_file t file.Applicant f = has_party t f.state.applicant
holds_of_file t file.Contractor f = if_any (has_party t) f.state.contractor
holds_of_file t file.Reviewer f = if_any (has_party_of t Reviewer) f.state.reviewer
holds_of_file t file.Inspector f = if_any (has_party_of t Inspector) f.state.inspector
holds_of_file t file.Kind f = true
holds_of_file t file.Valuation f = is_cents f.valuation
holds_of_file t file.Description f = is_printable f.description
holds_of_file t file.Filed f = is_between 1 t.desk.last f.state.filed
holds_of_file t file.Stage f = is_stored f.state.stage
holds_of_file t file.NoDeadline f = deadline_stands f.state
holds_of_file t file.EarlyDeadline f = if_any (nat_le (f.state.filed + term)) f.state.deadline
holds_of_file t file.LateDeadline f = if_any (λ day. nat_le day latest_deadline) f.state.deadline
holds_of_file t file.Done f = is_done_in f.state.stage (length (required_steps f.state.edition f.state.kind)) f.state.done
holds_of_file t file.Request f = is_for f.state.request (next_in_row f.state)
holds_of_file t file.RequestStage f = is_none f.state.request || is_begun f.state.stage
holds_of_file t file.Requested f = request_dated f.state && if_any (is_between f.state.filed t.desk.last) f.state.requested
holds_of_file t file.Ask f = if_any (is_between 1 (longest_ask f.state.stage)) f.state.ask
holds_of_file t file.Stopped f = not f.state.stopped || may_be_stopped f.state.stage
holds_of_file t file.Temporary f = if_any (is_between (f.state.filed + 1) (t.desk.last + longest_temporary)) f.state.temporary
holds_of_file t file.TemporaryStage f = is_none f.state.temporary || (is_occupied f.state.stage && has_certificates f.state.kind)
holds_of_file t file.Notices f = f.state.notices == length (filter (λ p. p.is_open) (papers_in t f.id))
holds_of_file t file.NoticesStage f = (f.state.notices == 0) || is_begun f.state.stage
holds_of_file t file.Papers f = (f.state.papers == length (papers_in t f.id)) && nat_le f.state.papers most_papers

-- the number of the first paper that hasn't the next number
abbrev pub first_gap : ℕ → List Paper → Option ℕ
first_gap next [] = None
first_gap next (p ∷ ps) = if p.number == next then first_gap (next + 1) ps else Some p.number

-- the number of the first paper whose day is earlier than the one before it
abbrev pub first_fall : ℕ → List Paper → Option ℕ
first_fall day [] = None
first_fall day (p ∷ ps) = if nat_le day p.day then first_fall p.day ps else Some p.number

-- whether there is a number, which is this one
abbrev pub is_that : Option ℕ → ℕ → Bool
is_that None n = false
is_that (Some m) n = m == n

-- of a paper; a rule on all papers of a file is broken by the first that is out of their order
abbrev pub holds_of_paper : Tables → PaperRule → Paper → Bool
holds_of_paper t paper.File p = has_file t p.file
holds_of_paper t paper.Number p = not (is_that (first_gap 1 (papers_in t p.file)) p.number)
holds_of_paper t paper.Uncounted p = list_all (λ f. not (f.id == p.file) || nat_le p.number f.state.papers) t.files
holds_of_paper t paper.Twice p = true
holds_of_paper t paper.EarlyDay p = list_all (λ f. not (f.id == p.file) || not (is_that (first_fall f.state.filed (papers_in t f.id)) p.number)) t.files
holds_of_paper t paper.LateDay p = nat_le p.day t.desk.last
holds_of_paper t paper.Author p = has_party t p.author
holds_of_paper t paper.Sort p = true
holds_of_paper t paper.Days p = has_sound_days p
holds_of_paper t paper.Text p = has_sound_text p
holds_of_paper t paper.Terms p = has_sound_terms p
holds_of_paper t paper.Open p = not p.is_open || is_notice p.sort
holds_of_paper t paper.Rowid p = true

-- the number is the named one, where one is named
abbrev pub is_it : Option ℕ → ℕ → Bool
is_it None id = true
is_it (Some n) id = id == n

-- a row with the number breaks the rule, so that what is named is false of the tables
abbrev pub breaks : Tables → Fault → Bool
breaks t (fault.Desk rule) = not (holds_of_desk t rule)
breaks t (fault.Upgrade rule) = not (holds_of_upgrade t rule)
breaks t (fault.Party number rule) = list_any (λ p. is_it number p.id && not (holds_of_party t rule p)) t.parties
breaks t (fault.Parcel number rule) = list_any (λ p. is_it number p.id && not (holds_of_parcel t rule p)) t.parcels
breaks t (fault.Interest of_parcel of_party rule) =
    list_any (λ i. is_it of_parcel i.parcel && is_it of_party i.party && not (holds_of_interest t rule i)) t.interests
breaks t (fault.File number rule) = list_any (λ f. is_it number f.id && not (holds_of_file t rule f)) t.files
breaks t (fault.Paper of_file number rule) = list_any (λ p. is_it of_file p.file && is_it number p.number && not (holds_of_paper t rule p)) t.papers

-- ---- what a tally says

-- what is wrong where the paper isn't the next one of its file
abbrev pub fault_at : Tally → Paper → Fault
fault_at u p =
    if p.number == u.number + 1 then (if nat_le u.day p.day then fault.File (Some p.file) file.Notices else fault.Paper (Some p.file) (Some p.number) paper.EarlyDay)
    else fault.Paper (Some p.file) (Some p.number) paper.Number

-- what is wrong of the file of the number where not all its papers or not all its open notices were read
abbrev pub fault_at_end : Tally → ℕ → Fault
fault_at_end u number = fault.File (Some number) (if u.number == u.papers then file.Notices else file.Papers)

-- it is wrong of the first such file, of files that are numbered from this number on
abbrev pub unended_from : ℕ → List Tally → Option Fault
unended_from number [] = None
unended_from number (u ∷ us) = if is_ended u then unended_from (suc number) us else Some (fault_at_end u number)
