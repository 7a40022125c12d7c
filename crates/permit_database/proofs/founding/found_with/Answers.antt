use Rattle.std.proofs.Common.{List, [], ◌++◌, ℕ, inl, inr, refl, sym, subst}
use Rattle.sqlite.proofs.StateLemmas.{survives_weaker}
use Rattle.sqlite.specs.Held.{state}
use Rattle.permit_history.specs.LineData.{text_of}
use Rattle.permit_journal.specs.Files.{LeavesGrown}
use Rattle.permit_journal.specs.Journals.{Has, HasUnlessShut}
use Rattle.permit_database.specs.Founding.{first_entries}
use Rattle.permit_database.proofs.Surviving.{survives_back, survives_itself}
use Rattle.permit_database.proofs.founding.found_with.Goals as goal

pub returns-in-Err-create-clause-back : goal.returns-in-Err-create-clause-back
returns-in-Err-create-clause-back g c = λ settled.
    let begun = c.in_default.ensures.begun settled in
    subst (λ (t : List ℕ). HasUnlessShut g.H.HistoryFile.view c.take_back.new.self c.take_back.new.self.is_shut t)
    (sym begun.0) (c.take_back.ensures.back begun.1.settled [] (text_of (first_entries c.args.founder.now)) refl begun.1.bytes_there)

pub returns-in-Ok-clause-crash : goal.returns-in-Ok-clause-crash
returns-in-Ok-clause-crash g c = record {
  mid = c.begin.new.journal;
  first = c.begin.ensures.crash;
  entered = inl (λ settled. let begun = c.in_default.ensures.begun settled in
      subst (λ (t : List ℕ). Has g.H.HistoryFile.view c.begin.new.journal (t ++ text_of (first_entries c.args.founder.now))) (sym begun.0) begun.1);
  tables = survives_back g.S.Store c.args.conn _ c.into_connection.result _ c.into_connection.ensures.conn c.in-Ok.ensures.founds.crash;
  last = c.begin.ensures.crash;
}

pub returns-in-Err-create-clause-crash : goal.returns-in-Err-create-clause-crash
returns-in-Err-create-clause-crash g c = record {
  mid = c.begin.new.journal;
  first = c.begin.ensures.crash;
  entered = inl (λ settled. let begun = c.in_default.ensures.begun settled in
      subst (λ (t : List ℕ). Has g.H.HistoryFile.view c.begin.new.journal (t ++ text_of (first_entries c.args.founder.now))) (sym begun.0) begun.1);
  tables = survives_weaker (state g.S.Store c.args.conn) (state g.S.Store c.in-Err-create.conn) _ _ (λ clean db made. made.1) c.in-Err-create.ensures.refuses.kept;
  last = λ settled.
      let begun = c.in_default.ensures.begun settled in
      let lines = text_of (first_entries c.args.founder.now) in
      subst (λ (t : List ℕ). LeavesGrown g.H.HistoryFile.leaves lines t (g.H.HistoryFile.view c.take_back.new.self.file).may_leave) (sym begun.0)
      (c.take_back.ensures.crash begun.1.settled [] lines refl begun.1.bytes_there);
}

pub returns-in-Err-clause-crash : goal.returns-in-Err-clause-crash
returns-in-Err-clause-crash g c = record {
  mid = c.begin.new.journal;
  first = c.begin.ensures.crash;
  entered = inr refl;
  tables = survives_itself (state g.S.Store c.args.conn) _;
  last = c.begin.ensures.crash;
}
