-- When the tables are sound: eight conditions, each a test of the tables. What the office makes meets them, and tables that
-- fail one are damaged.
use Rattle.std.specs.Prelude.{ℕ, Bool, true, not, ◌&&◌, ◌||◌, ◌==◌, ◌+◌, nat_lt, nat_le, if◌then◌else◌, IsTrue, List, [], ◌∷◌, map, filter, find, length}
use Rattle.std.specs.Prelude.{Option, None, Some, is_some, is_none}
use Rattle.std.specs.List.{list_all}
use Rattle.permit_base.specs.declared.words.Role.{Role}
use Rattle.permit_base.specs.declared.words.Role.TheVariants.{Reviewer, Inspector, Official}
use Rattle.permit_base.specs.declared.words.Stage.{Stage}
use Rattle.permit_base.specs.Stages.{stage_facts}
use Rattle.permit_base.specs.declared.words.PaperSort.TheVariants as sort
use Rattle.permit_base.specs.Limits.{is_between, most_records, most_papers, is_cents, latest_day, latest_deadline}
use Rattle.permit_base.specs.Texts.{is_printable, is_lot, is_digest}
use Rattle.permit_model.specs.Codes.{is_edition, is_sort_among}
use Rattle.permit_model.specs.Days.{term, longest_review_extension, longest_permit_extension, longest_temporary}
use Rattle.permit_model.specs.Steps.{required_steps, has_certificates}
use Rattle.permit_model.specs.Caller.{Party, has_role}
use Rattle.permit_model.specs.Parcels.{Parcel, Interest}
use Rattle.permit_model.specs.Numbering.{is_numbered}
use Rattle.permit_model.specs.Tables.{Desk, State, FileRow, Paper, Tables, next_in_row, edition_by, edition_numbered, is_notice}
use Rattle.permit_model.specs.SoundState.{is_stored, is_completed, deadline_stands, is_for, request_dated}

-- ---- what is there

-- the party with the number
abbrev pub party_in : Tables → ℕ → Option Party
party_in t id = find (λ p. p.id == id) t.parties

-- whether there is such a party
abbrev pub has_party : Tables → ℕ → Bool
has_party t id = is_some (party_in t id)

-- whether there is such a party, of that role
abbrev pub has_party_of : Tables → Role → ℕ → Bool
has_party_of t role id = has_role role (party_in t id)

-- whether there is such a parcel
abbrev pub has_parcel : Tables → ℕ → Bool
has_parcel t id = is_some (find (λ (p : Parcel). p.id == id) t.parcels)

-- whether there is such a file
abbrev pub has_file : Tables → ℕ → Bool
has_file t id = is_some (find (λ (f : FileRow). f.id == id) t.files)

-- the papers of the file with the number
abbrev pub papers_in : Tables → ℕ → List Paper
papers_in t id = filter (λ p. p.file == id) t.papers

-- there is no number, or one that passes the test
abbrev pub if_any : (ℕ → Bool) → Option ℕ → Bool
if_any test None = true
if_any test (Some n) = test n

-- ---- the desk

-- the counts are those of the rows
abbrev pub is_counted : Tables → Bool
is_counted t = (t.desk.parties == length t.parties) && (t.desk.parcels == length t.parcels) && (t.desk.files == length t.files)

-- there is one party at least, and there are no more records than the most
abbrev pub has_few_records : Desk → Bool
has_few_records d = is_between 1 most_records d.parties && nat_le d.parcels most_records && nat_le d.files most_records

-- the second edition is in force where there was an upgrade, and there were no more files then than now
abbrev pub is_sound_upgrade : Tables → Bool
is_sound_upgrade t = is_edition t.desk.edition (edition_by t.upgrade) && if_any (λ count. nat_le count t.desk.files) t.upgrade

-- the last day is one that the office takes, and the counts and the upgrade are sound
abbrev pub is_sound_desk : Tables → Bool
is_sound_desk t = is_between 1 latest_day t.desk.last && is_counted t && has_few_records t.desk && is_sound_upgrade t

-- ---- numbering

-- parties, parcels and files are numbered from 1, without gaps
abbrev pub are_numbered : Tables → Bool
are_numbered t =
    is_numbered (λ (p : Party). p.id) t.parties && is_numbered (λ (p : Parcel). p.id) t.parcels && is_numbered (λ (f : FileRow). f.id) t.files

-- ---- parties

-- a party has a name, and the digest of a token
abbrev pub is_sound_party : Party → Bool
is_sound_party p = is_printable p.name && is_digest p.digest

-- each party is sound, and party 1 is an official
abbrev pub are_sound_parties : Tables → Bool
are_sound_parties t = list_all is_sound_party t.parties && has_party_of t Official 1

-- ---- parcels

-- a parcel has a lot and an address, and its owner is there
abbrev pub is_sound_parcel : Tables → Parcel → Bool
is_sound_parcel t p = is_lot p.lot && is_printable p.address && has_party t p.owner

-- the parcel of an interest and the party who declared it are there
abbrev pub is_sound_interest : Tables → Interest → Bool
is_sound_interest t i = has_parcel t i.parcel && has_party t i.party

-- each parcel and each interest is sound
abbrev pub are_sound_parcels : Tables → Bool
are_sound_parcels t = list_all (is_sound_parcel t) t.parcels && list_all (is_sound_interest t) t.interests

-- ---- filings, and the people of the files

-- the parcel and the applicant are there, the amount and the description are within their limits, and the file was filed
-- by the last day
abbrev pub is_sound_filing : Tables → FileRow → Bool
is_sound_filing t f =
    has_parcel t f.state.parcel && has_party t f.state.applicant && is_cents f.valuation && is_printable f.description
    && is_between 1 t.desk.last f.state.filed

-- the contractor, where one is named, is there, and so is a reviewer and an inspector of that role
abbrev pub has_sound_people : Tables → State → Bool
has_sound_people t s =
    if_any (has_party t) s.contractor && if_any (has_party_of t Reviewer) s.reviewer && if_any (has_party_of t Inspector) s.inspector

-- a file has the edition that its number gives: the one in force when it was filed
abbrev pub has_own_edition : Tables → FileRow → Bool
has_own_edition t f = is_edition f.state.edition (edition_numbered t.upgrade f.id)

-- each filing, its people and its edition are sound
abbrev pub are_sound_filings : Tables → Bool
are_sound_filings t = list_all (λ f. is_sound_filing t f && has_sound_people t f.state && has_own_edition t f) t.files

-- ---- stages and deadlines

-- the stage is a stored one, with a deadline in the six stages alone: from the filing's term to the latest
abbrev pub has_sound_stage : State → Bool
has_sound_stage s = is_stored s.stage && deadline_stands s && if_any (is_between (s.filed + term) latest_deadline) s.deadline

-- each file has a sound stage and deadline
abbrev pub are_sound_stages : Tables → Bool
are_sound_stages t = list_all (λ f. has_sound_stage f.state) t.files

-- ---- the work on the files

-- work began in the stage, or its permit was revoked
abbrev pub is_begun : Stage → Bool
is_begun s = (stage_facts s).begun

-- a stop work order may be in force in the stage
abbrev pub may_be_stopped : Stage → Bool
may_be_stopped s = (stage_facts s).stopped

-- a temporary certificate is kept in the stage
abbrev pub is_occupied : Stage → Bool
is_occupied s = (stage_facts s).occupied

-- whether so many steps may be done of those required: not all of them in begun work, all of them once the work is over,
-- and none before it begins
abbrev pub is_done_in : Stage → ℕ → ℕ → Bool
is_done_in s required done =
    if is_begun s then nat_lt done required else (if is_completed s then done == required else done == 0)

-- a request is for the next step of begun work, and was made between the filing and the last day
abbrev pub has_sound_request : ℕ → State → Bool
has_sound_request last s =
    is_for s.request (next_in_row s) && request_dated s && (is_none s.request || is_begun s.stage)
    && if_any (is_between s.filed last) s.requested

-- the most days of an ask that is kept in a stage: more once the permit was issued
abbrev pub longest_ask : Stage → ℕ
longest_ask s = if (stage_facts s).unissued then longest_review_extension else longest_permit_extension

-- a temporary certificate is for a kind that has certificates, and ends after the filing, so many days after the last day
-- at most
abbrev pub has_sound_certificate : ℕ → State → Bool
has_sound_certificate last s =
    if_any (is_between (s.filed + 1) (last + longest_temporary)) s.temporary
    && (is_none s.temporary || (is_occupied s.stage && has_certificates s.kind))

-- the open notices are counted, and there is one in begun work alone
abbrev pub has_sound_notices : List Paper → State → Bool
has_sound_notices papers s =
    (s.notices == length (filter (λ p. p.is_open) papers)) && ((s.notices == 0) || is_begun s.stage)

-- the work on a file is sound
abbrev pub has_sound_work : Tables → FileRow → Bool
has_sound_work t f =
    is_done_in f.state.stage (length (required_steps f.state.edition f.state.kind)) f.state.done && has_sound_request t.desk.last f.state
    && (not f.state.stopped || may_be_stopped f.state.stage) && if_any (is_between 1 (longest_ask f.state.stage)) f.state.ask
    && has_sound_certificate t.desk.last f.state && has_sound_notices (papers_in t f.id) f.state

-- the work on each file is sound
abbrev pub is_sound_work : Tables → Bool
is_sound_work t = list_all (has_sound_work t) t.files

-- ---- papers

-- no day is earlier than the one before it
abbrev pub never_fall : ℕ → List ℕ → Bool
never_fall first [] = true
never_fall first (day ∷ later) = nat_le first day && never_fall day later

-- the papers of a file are counted, numbered from 1, and in the order of their days, from that of the filing on
abbrev pub are_sound_papers_of : List Paper → State → Bool
are_sound_papers_of papers s =
    (s.papers == length papers) && nat_le s.papers most_papers && is_numbered (λ (p : Paper). p.number) papers && never_fall s.filed (map (λ p. p.day) papers)

-- an ask, a grant and a temporary certificate name their days, and no other paper does
abbrev pub has_sound_days : Paper → Bool
has_sound_days p =
    if is_sort_among (sort.Asked ∷ sort.Granted ∷ []) p.sort then is_between 1 longest_permit_extension p.days
    else (if is_sort_among (sort.Temporary ∷ []) p.sort then is_between 1 longest_temporary p.days else p.days == 0)

-- a permit, a grant, a lift and a certificate have no text, and each other paper has one
abbrev pub has_sound_text : Paper → Bool
has_sound_text p =
    if is_sort_among (sort.Permit ∷ sort.Granted ∷ sort.Lifted ∷ sort.Certificate ∷ []) p.sort then length p.text == 0 else is_printable p.text

-- a stop work order states its terms, and no other paper does
abbrev pub has_sound_terms : Paper → Bool
has_sound_terms p = if is_sort_among (sort.Stop ∷ []) p.sort then is_printable p.terms else length p.terms == 0

-- the file and the author of a paper are there, it was made by the last day, it says what its sort does, and only a notice
-- is open
abbrev pub is_sound_paper : Tables → Paper → Bool
is_sound_paper t p =
    has_file t p.file && has_party t p.author && nat_le p.day t.desk.last && has_sound_days p && has_sound_text p && has_sound_terms p
    && (not p.is_open || is_notice p.sort)

-- each paper is sound, and so are those of each file together
abbrev pub are_sound_papers : Tables → Bool
are_sound_papers t = list_all (is_sound_paper t) t.papers && list_all (λ f. are_sound_papers_of (papers_in t f.id) f.state) t.files

-- ---- all of it

-- the tables are sound
pub record IsSoundTables (t : Tables) : Type 0 where
  pub desk : IsTrue (is_sound_desk t)
  pub numbering : IsTrue (are_numbered t)
  pub parties : IsTrue (are_sound_parties t)
  pub parcels : IsTrue (are_sound_parcels t)
  pub filings : IsTrue (are_sound_filings t)
  pub stages : IsTrue (are_sound_stages t)
  pub work : IsTrue (is_sound_work t)
  pub papers : IsTrue (are_sound_papers t)
