use Rattle.permit_journal.proofs.Growing.{all}
use Rattle.permit_journal.proofs.journal.Journal.take_back.Goals as goal

pub returns-then-not-self-clause-back : goal.returns-then-not-self-clause-back
returns-then-not-self-clause-back g c settled base line len text =
    c.cut_off.ensures.cut settled.at_end base line len (all g.H.HistoryFile.leaves line base _ (g.met.H.HistoryFile.leaves_all line) text)
