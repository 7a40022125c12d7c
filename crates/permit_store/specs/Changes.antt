-- What a change makes of the tables, and which change fits them.
use Rattle.std.specs.Prelude.{◌≤◌, ℕ, ◌+◌, Bool, false, ◌==◌, ◌&&◌, if◌then◌else◌, List, [], ◌∷◌, ◌++◌, map, find, Option, None, Some, is_some, is_none}
use Rattle.std.specs.Prelude.{unwrap_or, IsTrue, bytes_eq, nat_lt, not}
use Rattle.std.specs.Borrow.{Bor}
use Rattle.std.specs.Option.{option_copied}
use Rattle.std.specs.List.{list_any}
use Rattle.permit_model.specs.Codes.{is_edition}
use Rattle.permit_model.specs.Parcels.{Parcel}
use Rattle.permit_base.specs.Limits.{most_records, most_papers}
use Rattle.permit_model.specs.Tables.{State, FileRow, Paper, is_notice, Tables}
use Rattle.permit_store.specs.declared.change.Change.{Change}
use Rattle.permit_store.specs.declared.change.Change.TheVariants.{NewParty, NewParcel, NewOwner, NewInterest, NewFile, NewRow}
use Rattle.permit_store.specs.declared.change.RowEffect.{RowEffect}
use Rattle.permit_store.specs.declared.change.RowEffect.TheVariants as effect
use Rattle.permit_store.specs.declared.change.NewPaper.{NewPaper}

-- the parcel, with the owner where it has the number
abbrev pub given_to : ℕ → ℕ → Parcel → Parcel
given_to id owner p = if p.id == id then record p { owner = owner } else p

-- ---- a file's new row

-- the file's row, with the state where it has the number
abbrev pub with_state : ℕ → State → FileRow → FileRow
with_state id state row = if row.id == id then record row { state = state } else row

-- the paper, not open any longer where it is the file's of the number
abbrev pub closed_by : ℕ → ℕ → Paper → Paper
closed_by file number p = if (p.file == file) && (p.number == number) then record p { is_open = false } else p

-- a borrowed text, or the empty one
abbrev pub text_of : Option (Bor (List ℕ)) → List ℕ
text_of text = unwrap_or (option_copied text) []

-- the paper of the file with the number and the day; a notice is open
abbrev pub paper_of : ℕ → ℕ → ℕ → NewPaper → Paper
paper_of file number day new = record {
  file = file;
  number = number;
  day = day;
  author = new.author;
  sort = new.sort;
  days = new.days;
  text = text_of new.text;
  terms = text_of new.terms;
  is_open = is_notice new.sort;
}

-- the papers after the effect of a file's new row, which has this count of papers
abbrev pub papers_after : ℕ → ℕ → ℕ → RowEffect → List Paper → List Paper
papers_after file count day effect.None papers = papers
papers_after file count day (effect.Paper new) papers = papers ++ paper_of file count day new ∷ []
papers_after file count day (effect.NoticeClosed number) papers = map (closed_by file number) papers

-- ---- all changes

-- the tables with the change, on the day
abbrev pub changed : Tables → Change → ℕ → Tables
changed t (NewParty name role digest) day = record t {
  desk = record t.desk { last = day; parties = t.desk.parties + 1 };
  parties = t.parties ++ (record { id = t.desk.parties + 1; name = name.now; role = role; digest = digest }) ∷ [];
}
changed t (NewParcel lot address owner) day = record t {
  desk = record t.desk { last = day; parcels = t.desk.parcels + 1 };
  parcels = t.parcels ++ (record { id = t.desk.parcels + 1; lot = lot.now; address = address.now; owner = owner }) ∷ [];
}
changed t (NewOwner parcel owner) day = record t {
  desk = record t.desk { last = day };
  parcels = map (given_to parcel owner) t.parcels;
}
changed t (NewInterest parcel party) day = record t {
  desk = record t.desk { last = day };
  interests = t.interests ++ (record { parcel = parcel; party = party }) ∷ [];
}
changed t (NewFile state valuation description) day = record t {
  desk = record t.desk { last = day; files = t.desk.files + 1 };
  files = t.files ++ (record { id = t.desk.files + 1; state = state; valuation = valuation; description = description.now }) ∷ [];
}
changed t (NewRow file state effect) day = record t {
  desk = record t.desk { last = day };
  files = map (with_state file state) t.files;
  papers = papers_after file state.papers day effect t.papers;
}

-- ---- which change fits

-- the new row counts a paper that is added, and no other; there is room for it, and its author is there
abbrev pub suits_effect : Tables → State → State → RowEffect → Bool
suits_effect t before after (effect.Paper new) =
    nat_lt before.papers most_papers && (after.papers == before.papers + 1) && is_some (find (λ p. p.id == new.author) t.parties)
suits_effect t before after effect.None = after.papers == before.papers
suits_effect t before after (effect.NoticeClosed number) = after.papers == before.papers

-- the file is there, and stays the one that was filed by that applicant on that parcel, under that edition
abbrev pub suits_row : Tables → Option FileRow → State → RowEffect → Bool
suits_row t None after effect = false
suits_row t (Some row) after effect =
    (after.parcel == row.state.parcel) && (after.applicant == row.state.applicant) && is_edition after.edition row.state.edition
    && suits_effect t row.state after effect

-- what the change adds has room and breaks no key, and what it speaks of is there; a new file is of the edition in force
abbrev pub suits : Tables → Change → Bool
suits t (NewParty name role digest) =
    nat_lt t.desk.parties most_records && is_none (find (λ p. bytes_eq p.digest digest) t.parties)
suits t (NewParcel lot address owner) =
    nat_lt t.desk.parcels most_records && is_none (find (λ p. bytes_eq p.lot lot.now) t.parcels) && is_some (find (λ p. p.id == owner) t.parties)
suits t (NewOwner parcel owner) =
    is_some (find (λ p. p.id == parcel) t.parcels) && is_some (find (λ p. p.id == owner) t.parties)
suits t (NewInterest parcel party) =
    is_some (find (λ p. p.id == parcel) t.parcels) && is_some (find (λ p. p.id == party) t.parties)
    && not (list_any (λ i. (i.parcel == parcel) && (i.party == party)) t.interests)
suits t (NewFile state valuation description) =
    nat_lt t.desk.files most_records && is_edition state.edition t.desk.edition && is_some (find (λ p. p.id == state.parcel) t.parcels) && is_some (find (λ p. p.id == state.applicant) t.parties)
suits t (NewRow file state effect) = suits_row t (find (λ f. f.id == file) t.files) state effect

-- the condition of a commit: the change suits the tables, and the day isn't below the last
pub record Fits (t : Tables) (change : Change) (day : ℕ) : Type 0 where
  pub suits : IsTrue (suits t change)
  pub in_time : t.desk.last ≤ day
