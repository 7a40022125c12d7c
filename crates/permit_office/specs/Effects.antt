-- What an admitted command on a file makes of the papers.
use Rattle.std.specs.Prelude.{ℕ, List, [], ◌∷◌, ◌++◌, map, Option, None, Some}
use Rattle.permit_base.specs.declared.words.PaperSort.{PaperSort}
use Rattle.permit_base.specs.declared.request.Command.{Command}
use Rattle.permit_model.specs.Files.{Act}
use Rattle.permit_model.specs.Tables.{Paper, paper_days, paper_text, paper_terms, is_notice}
use Rattle.permit_store.specs.Changes.{closed_by}

-- the paper of that sort, number, day, author and days that the command makes; a notice is open
abbrev pub paper_entered : (file number day author days : ℕ) → Command → PaperSort → Paper
paper_entered file number day author days command sort = record {
  file = file;
  number = number;
  day = day;
  author = author;
  sort = sort;
  days = days;
  text = paper_text command;
  terms = paper_terms command;
  is_open = is_notice sort;
}

-- the papers with the one that the command makes, or with the notice closed that it clears
abbrev pub papers_with : (file number day author days : ℕ) → Command → Option PaperSort → Option ℕ → List Paper → List Paper
papers_with file number day author days command (Some sort) cleared papers = papers ++ paper_entered file number day author days command sort ∷ []
papers_with file number day author days command None (Some cleared) papers = map (closed_by file cleared) papers
papers_with file number day author days command None None papers = papers

-- the same, with the days given by what was done to the file before
abbrev pub papers_entered : (file number day author : ℕ) → Command → List Act → Option PaperSort → Option ℕ → List Paper → List Paper
papers_entered file number day author command before sort cleared papers =
    papers_with file number day author (paper_days command before) command sort cleared papers
