-- Parcels, papers and files as JSON values. The keys are in byte order.
use Rattle.std.specs.Prelude.{ℕ, List, map, take, codes, Option, None, Some}
use Rattle.serde_json.specs.Data.{Data, null, boolean, number, unsigned, string, array, object, Members, no_members, member}
use Rattle.serde_json.specs.View.{items_of}
use Rattle.permit_base.specs.declared.words.Step.{Step}
use Rattle.permit_base.specs.Words.{kind_word, step_word, stage_word, timing_word, sort_word}
use Rattle.permit_model.specs.Parcels.{Parcel}
use Rattle.permit_model.specs.Steps.{required_steps}
use Rattle.permit_model.specs.Tables.{State, FileView, Paper}
use Rattle.permit_model.specs.Tables.{next_in_row}

abbrev pub count : ℕ → Data
count n = number (unsigned n)

-- a number, or null where there is none
abbrev pub count_or_null : Option ℕ → Data
count_or_null None = null
count_or_null (Some n) = count n

abbrev pub step_or_null : Option Step → Data
step_or_null None = null
step_or_null (Some step) = string (step_word step)

abbrev pub parcel_data : Parcel → Data
parcel_data parcel = object
    (member (codes "address") (string parcel.address)
    (member (codes "id") (count parcel.id)
    (member (codes "lot") (string parcel.lot)
    (member (codes "owner") (count parcel.owner)
    no_members))))

abbrev pub paper_data : Paper → Data
paper_data paper = object
    (member (codes "author") (count paper.author)
    (member (codes "day") (count paper.day)
    (member (codes "days") (count paper.days)
    (member (codes "number") (count paper.number)
    (member (codes "open") (boolean paper.is_open)
    (member (codes "sort") (string (sort_word paper.sort))
    (member (codes "terms") (string paper.terms)
    (member (codes "text") (string paper.text)
    no_members))))))))

abbrev pub papers_data : List Paper → Data
papers_data papers = array (items_of (map paper_data papers))

-- the steps that are approved: as many of the kind's required steps as are done, from the first on
abbrev pub done_steps : State → List Step
done_steps state = take state.done (required_steps state.edition state.kind)

abbrev pub steps_data : List Step → Data
steps_data steps = array (items_of (map (λ step. string (step_word step)) steps))

-- the members from parcel on
abbrev pub later_members : FileView → Members
later_members file =
    member (codes "parcel") (count file.row.state.parcel)
    (member (codes "request") (step_or_null file.row.state.request)
    (member (codes "requested") (count_or_null file.row.state.requested)
    (member (codes "reviewer") (count_or_null file.row.state.reviewer)
    (member (codes "stage") (string (stage_word file.stage))
    (member (codes "stopped") (boolean file.row.state.stopped)
    (member (codes "temporary") (count_or_null file.row.state.temporary)
    (member (codes "timing") (string (timing_word file.timing))
    (member (codes "valuation") (count file.row.valuation)
    no_members))))))))

-- the members up to notices, before the others
abbrev pub members_before : FileView → Members → Members
members_before file others =
    member (codes "applicant") (count file.row.state.applicant)
    (member (codes "ask") (count_or_null file.row.state.ask)
    (member (codes "contractor") (count_or_null file.row.state.contractor)
    (member (codes "deadline") (count_or_null file.row.state.deadline)
    (member (codes "description") (string file.row.description)
    (member (codes "done") (steps_data (done_steps file.row.state))
    (member (codes "filed") (count file.row.state.filed)
    (member (codes "id") (count file.row.id)
    (member (codes "inspector") (count_or_null file.row.state.inspector)
    (member (codes "kind") (string (kind_word file.row.state.kind))
    (member (codes "next") (step_or_null (next_in_row file.row.state))
    (member (codes "notices") (count file.row.state.notices)
    others)))))))))))

-- a file as a listing has it
abbrev pub listed_data : FileView → Data
listed_data file = object (members_before file (later_members file))

-- a file with its papers
abbrev pub file_data : FileView → List Paper → Data
file_data file papers = object (members_before file (member (codes "papers") (papers_data papers) (later_members file)))

abbrev pub files_data : List FileView → Data
files_data files = array (items_of (map listed_data files))

abbrev pub listing_data : List FileView → Data
listing_data files = object (member (codes "files") (files_data files) no_members)
