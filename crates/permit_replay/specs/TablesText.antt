-- The text of tables: a line for each row. A line is the word of its table, each column after a TAB, and LF.
use Rattle.std.specs.Prelude.{ℕ, List, [], ◌∷◌, ◌++◌, Bool, true, false, Option, None, Some, codes, decimal}
use Rattle.std.specs.List.{flat_map}
use Rattle.permit_base.specs.declared.words.Step.{Step}
use Rattle.permit_base.specs.Words.{kind_word, role_word, sort_word, stage_word, step_word}
use Rattle.permit_model.specs.Caller.{Party}
use Rattle.permit_model.specs.Parcels.{Interest, Parcel}
use Rattle.permit_model.specs.Sound.{papers_in}
use Rattle.permit_model.specs.Tables.{Desk, FileRow, Paper, Tables, version_of}

-- ---- lines

-- each column after a TAB
abbrev pub columns : List (List ℕ) → List ℕ
columns [] = []
columns (c ∷ cs) = (9 ∷ c) ++ columns cs

abbrev pub line : List ℕ → List (List ℕ) → List ℕ
line word cs = word ++ columns cs ++ 10 ∷ []

-- a number, or nothing where there is none
abbrev pub number_or_none : Option ℕ → List ℕ
number_or_none None = []
number_or_none (Some n) = decimal n

abbrev pub step_or_none : Option Step → List ℕ
step_or_none None = []
step_or_none (Some step) = step_word step

abbrev pub truth : Bool → List ℕ
truth true = codes "true"
truth false = codes "false"

-- ---- rows

-- The version of the tables gives the edition that is in force. How many files there were at the upgrade follows from the
-- editions of the files.
abbrev pub desk_line : Desk → List ℕ
desk_line d = line (codes "desk")
    (decimal (version_of d.edition) ∷ decimal d.last ∷ decimal d.parties ∷ decimal d.parcels ∷ decimal d.files ∷ [])

abbrev pub party_line : Party → List ℕ
party_line p = line (codes "party") (decimal p.id ∷ p.name ∷ role_word p.role ∷ p.digest ∷ [])

abbrev pub parcel_line : Parcel → List ℕ
parcel_line p = line (codes "parcel") (decimal p.id ∷ p.lot ∷ p.address ∷ decimal p.owner ∷ [])

abbrev pub interest_line : Interest → List ℕ
interest_line i = line (codes "interest") (decimal i.parcel ∷ decimal i.party ∷ [])

abbrev pub file_line : FileRow → List ℕ
file_line f = line (codes "file")
    (decimal f.id ∷ decimal f.state.parcel ∷ decimal f.state.applicant ∷ kind_word f.state.kind ∷ decimal (version_of f.state.edition)
    ∷ decimal f.state.filed ∷ number_or_none f.state.contractor ∷ number_or_none f.state.reviewer ∷ number_or_none f.state.inspector
    ∷ stage_word f.state.stage ∷ number_or_none f.state.deadline ∷ number_or_none f.state.ask ∷ number_or_none f.state.temporary
    ∷ decimal f.state.done ∷ step_or_none f.state.request ∷ number_or_none f.state.requested ∷ truth f.state.stopped
    ∷ decimal f.state.notices ∷ decimal f.state.papers ∷ decimal f.valuation ∷ f.description ∷ [])

abbrev pub paper_line : Paper → List ℕ
paper_line p = line (codes "paper")
    (decimal p.file ∷ decimal p.number ∷ decimal p.day ∷ decimal p.author ∷ sort_word p.sort ∷ decimal p.days ∷ p.text ∷ p.terms
    ∷ truth p.is_open ∷ [])

-- a file's line, and those of its papers after it
abbrev pub file_lines : FileRow → List Paper → List ℕ
file_lines f papers = file_line f ++ flat_map paper_line papers

-- ---- the whole

-- The desk, the parties, the parcels, these interests, and the files with their papers. None of the texts of sound tables has a
-- TAB or an LF in it.
abbrev pub tables_text : Tables → List Interest → List ℕ
tables_text t interests =
    desk_line t.desk ++ flat_map party_line t.parties ++ flat_map parcel_line t.parcels ++ flat_map interest_line interests
    ++ flat_map (λ f. file_lines f (papers_in t f.id)) t.files
