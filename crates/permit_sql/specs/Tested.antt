-- What an open tests of tables whose rows are typed, so that they are sound.
use Rattle.std.specs.Prelude.{ℕ, Bool, false, not, ◌&&◌, ◌||◌, ◌==◌, ◌+◌, ◌-◌, nat_lt, nat_le, if◌then◌else◌, List, length, map, filter, slice_get}
use Rattle.std.specs.Prelude.{Option, None, Some, is_none}
use Rattle.std.specs.List.{list_all}
use Rattle.permit_base.specs.declared.words.Role.{Role}
use Rattle.permit_base.specs.declared.words.Role.TheVariants.{Reviewer, Inspector}
use Rattle.permit_base.specs.Limits.{is_between, most_papers, latest_deadline}
use Rattle.permit_model.specs.Codes.{is_role}
use Rattle.permit_model.specs.Days.{term, longest_temporary}
use Rattle.permit_model.specs.Steps.{required_steps, has_certificates}
use Rattle.permit_model.specs.Numbering.{is_numbered_from}
use Rattle.permit_model.specs.Parcels.{Parcel, Interest}
use Rattle.permit_model.specs.Tables.{Desk, State, Paper, Tables, is_notice}
use Rattle.permit_model.specs.Sound.{if_any, has_few_records, is_begun, may_be_stopped, is_occupied, is_done_in, longest_ask, never_fall}
use Rattle.permit_model.specs.Sound.{has_sound_days, has_sound_text, has_sound_terms, papers_in, is_sound_paper, are_sound_papers_of}
use Rattle.permit_sql.specs.declared.tally.Tally.{Tally}

-- ---- the desk and the objects

-- the last day is one that the office takes, and there are no more records than the most
abbrev pub fits_desk : Desk → Bool
fits_desk d = nat_le 1 d.last && has_few_records d

-- the role is there, and is this one
abbrev pub is_that_role : Role → Option Role → Bool
is_that_role role None = false
is_that_role role (Some r) = is_role role r

-- there is a party of the number, of that role
abbrev pub has_role_at : List Role → Role → ℕ → Bool
has_role_at roles role id = is_that_role role (slice_get roles (id - 1))

-- the owner is among so many parties
abbrev pub fits_parcel : ℕ → Parcel → Bool
fits_parcel parties p = nat_le p.owner parties

-- the parcel and the party are among so many
abbrev pub fits_interest : (parcels parties : ℕ) → Interest → Bool
fits_interest parcels parties i = nat_le i.parcel parcels && nat_le i.party parties

-- ---- files

-- the parcel and the people of a file are among those that there are, of their roles
abbrev pub names_known : List Role → ℕ → State → Bool
names_known roles parcels s =
    nat_le s.parcel parcels && nat_le s.applicant (length roles) && if_any (λ id. nat_le id (length roles)) s.contractor
    && if_any (has_role_at roles Reviewer) s.reviewer && if_any (has_role_at roles Inspector) s.inspector

-- the days of a file, where the last day is this
abbrev pub fits_days : ℕ → State → Bool
fits_days last s =
    is_between 1 last s.filed && if_any (is_between (s.filed + term) latest_deadline) s.deadline && if_any (is_between s.filed last) s.requested
    && if_any (is_between (s.filed + 1) (last + longest_temporary)) s.temporary

-- the work on a file
abbrev pub fits_work : State → Bool
fits_work s =
    is_done_in s.stage (length (required_steps s.edition s.kind)) s.done && (is_none s.request || is_begun s.stage)
    && (not s.stopped || may_be_stopped s.stage) && if_any (is_between 1 (longest_ask s.stage)) s.ask
    && (is_none s.temporary || (is_occupied s.stage && has_certificates s.kind))
    && ((s.notices == 0) || is_begun s.stage)

-- a file, by the roles of the parties, the count of parcels and the last day
abbrev pub fits_file : List Role → (parcels last : ℕ) → State → Bool
fits_file roles parcels last s = names_known roles parcels s && fits_days last s && fits_work s && nat_le s.papers most_papers

-- ---- papers

-- a paper without those before it, by the count of parties and the last day
abbrev pub fits_paper : (parties last : ℕ) → Paper → Bool
fits_paper parties last p =
    nat_le p.author parties && nat_le p.day last && has_sound_days p && has_sound_text p && has_sound_terms p && (not p.is_open || is_notice p.sort)

-- the tally of a file before its papers are read
abbrev pub first_tally : State → Tally
first_tally s = record { day = s.filed; number = 0; papers = s.papers; notices = s.notices }

-- the paper is the next one, no earlier than the last, and where it is open, an open one is left
abbrev pub is_next : Tally → Paper → Bool
is_next t p = (p.number == t.number + 1) && nat_le t.day p.day && (not p.is_open || nat_lt 0 t.notices)

-- the tally of the file once the paper is read
abbrev pub tally_after : Tally → Paper → Tally
tally_after t p = record { day = p.day; number = p.number; papers = t.papers; notices = if p.is_open then t.notices - 1 else t.notices }

-- the same, where the paper is the next one
abbrev pub next_tally : Paper → Option Tally → Option Tally
next_tally p None = None
next_tally p (Some t) = if is_next t p then Some (tally_after t p) else None

-- all papers and all open notices were read
abbrev pub is_ended : Tally → Bool
is_ended t = (t.number == t.papers) && (t.notices == 0)

-- the papers are those that are left of the file
abbrev pub are_left : Tally → List Paper → Bool
are_left t ps =
    (t.papers == t.number + length ps) && (t.notices == length (filter (λ p. p.is_open) ps)) && is_numbered_from (λ (p : Paper). p.number) (t.number + 1) ps
    && never_fall t.day (map (λ p. p.day) ps)

-- each paper is sound, those of each file are, and its open notices are counted
abbrev pub fits_papers : Tables → Bool
fits_papers t =
    list_all (is_sound_paper t) t.papers
    && list_all (λ f. are_sound_papers_of (papers_in t f.id) f.state && (f.state.notices == length (filter (λ p. p.is_open) (papers_in t f.id)))) t.files

-- ---- all of it

-- the parcels and interests
abbrev pub fits_parcels : Tables → Bool
fits_parcels t = list_all (fits_parcel t.desk.parties) t.parcels && list_all (fits_interest t.desk.parcels t.desk.parties) t.interests

-- the files and their papers, by the roles of the parties
abbrev pub fits_cases : List Role → Tables → Bool
fits_cases roles t = list_all (λ f. fits_file roles t.desk.parcels t.desk.last f.state) t.files && fits_papers t
