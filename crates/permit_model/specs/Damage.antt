-- The tables of a worked office, which are sound, and changes of one cell or row that damage them.
use Rattle.std.specs.Prelude.{ℕ, Bool, if◌then◌else◌, ◌==◌, List, [], ◌∷◌, ◌++◌, map, replicate, reverse, Some, codes}
use Rattle.permit_base.specs.declared.words.Role.TheVariants.{Clerk}
use Rattle.permit_base.specs.declared.words.Edition.TheVariants.{Second}
use Rattle.permit_base.specs.declared.words.Kind.TheVariants.{Repair}
use Rattle.permit_base.specs.declared.words.Stage.TheVariants as stage
use Rattle.permit_model.specs.History.{Founding}
use Rattle.permit_model.specs.Caller.{Party}
use Rattle.permit_model.specs.Parcels.{Parcel}
use Rattle.permit_model.specs.Tables.{State, FileRow, Paper, Tables, tables}
use Rattle.permit_model.specs.Sound.{is_sound_desk, are_numbered, are_sound_parties, are_sound_parcels, are_sound_filings, are_sound_stages, is_sound_work}
use Rattle.permit_model.specs.Sound.{are_sound_papers}
use Rattle.permit_model.specs.Examples.{opening, after, begun_file, notice_given}

-- which of the eight conditions the tables meet: desk, numbering, parties, parcels, filings, stages, work and papers
abbrev pub met : Tables → List Bool
met t =
    is_sound_desk t ∷ are_numbered t ∷ are_sound_parties t ∷ are_sound_parcels t ∷ are_sound_filings t ∷ are_sound_stages t ∷ is_sound_work t
    ∷ are_sound_papers t ∷ []

-- a party with a digest of the right form in place of its own
abbrev pub with_digest : Party → Party
with_digest p = record p { digest = replicate 64 48 }

-- a repair with a notice at its first inspection
abbrev pub repair_office : Tables
repair_office =
    let t = tables (after (begun_file Repair ++ notice_given) opening) in
    record t { parties = map with_digest t.parties }

-- an office that was founded on a day later than the office takes
abbrev pub late_office : Tables
late_office =
    let t = tables (record { caller = 1; day = 100001; deed = Founding (codes "Chief") (codes "0"); number = Some 1 } ∷ []) in
    record t { parties = map with_digest t.parties }

-- ---- changes

-- the row with the number is changed
abbrev pub changed : {A : Type 0} → (A → ℕ) → ℕ → (A → A) → List A → List A
changed number id change rows = map (λ row. if number row == id then change row else row) rows

-- the row of file 1 is changed
abbrev pub with_state : (State → State) → Tables → Tables
with_state change t = record t { files = changed (λ (f : FileRow). f.id) 1 (λ f. record f { state = change f.state }) t.files }

-- the paper with the number is changed
abbrev pub with_paper : ℕ → (Paper → Paper) → Tables → Tables
with_paper number change t = record t { papers = changed (λ (p : Paper). p.number) number change t.papers }

-- the desk counts a parcel more
abbrev pub parcel_too_many : Tables → Tables
parcel_too_many t = record t { desk = record t.desk { parcels = 3 } }

-- the second edition is in force, and there was no upgrade
abbrev pub upgrade_missing : Tables → Tables
upgrade_missing t = record t { desk = record t.desk { edition = Second } }

-- the parcels are in another order than that of their numbers
abbrev pub parcels_turned : Tables → Tables
parcels_turned t = record t { parcels = reverse t.parcels }

-- party 1 is a clerk
abbrev pub founder_demoted : Tables → Tables
founder_demoted t = record t { parties = changed (λ (p : Party). p.id) 1 (λ p. record p { role = Clerk }) t.parties }

-- the owner of parcel 2 isn't there
abbrev pub owner_missing : Tables → Tables
owner_missing t = record t { parcels = changed (λ (p : Parcel). p.id) 2 (λ p. record p { owner = 8 }) t.parcels }

-- the reviewer is a clerk
abbrev pub clerk_reviews : Tables → Tables
clerk_reviews t = with_state (λ s. record s { reviewer = Some 2 }) t

-- the deadline is a day below that of the filing
abbrev pub deadline_too_early : Tables → Tables
deadline_too_early t = with_state (λ s. record s { deadline = Some 19969 }) t

-- the file is rejected, with its deadline and its open notice
abbrev pub rejected_at_work : Tables → Tables
rejected_at_work t = with_state (λ s. record s { stage = stage.Rejected }) t

-- all steps are done, and the work goes on
abbrev pub step_too_many : Tables → Tables
step_too_many t = with_state (λ s. record s { done = 2 }) t

-- the open notice isn't counted
abbrev pub notice_forgotten : Tables → Tables
notice_forgotten t = with_state (λ s. record s { notices = 0 }) t

-- the file has a paper more than it counts
abbrev pub paper_forgotten : Tables → Tables
paper_forgotten t = with_state (λ s. record s { papers = 1 }) t

-- the notice is of a day before that of the permit
abbrev pub day_falls : Tables → Tables
day_falls t = with_paper 2 (λ p. record p { day = 19799 }) t

-- the author of the permit isn't there
abbrev pub author_missing : Tables → Tables
author_missing t = with_paper 1 (λ p. record p { author = 8 }) t
