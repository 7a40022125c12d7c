use Rattle.permit_import.proofs.OfficeRuns as runs
use Rattle.permit_import.proofs.importing.import.Goals as goal

pub returns-clause-imports : goal.returns-clause-imports
returns-clause-imports g c =
    runs.imports g.S.Store.view g.L.Log c.args.token.now c.args.day c.args.why (g.R.Read.remaining c.args.reader) (g.W.Write.contents c.args.out.now)
    (g.W.Write.contents c.import_by.new.out) (g.E.Write.contents c.args.causes.now) (g.E.Write.contents c.import_by.new.causes) c.args.office.now c.import_by.new.service c.import_by.result c.import_by.ensures.imports

pub returns-clause-policy : goal.returns-clause-policy
returns-clause-policy g c =
    runs.policy g.S.Store.view g.L.Log c.args.token.now c.args.day c.args.why (g.R.Read.remaining c.args.reader) (g.W.Write.contents c.args.out.now)
    (g.W.Write.contents c.import_by.new.out) (g.E.Write.contents c.args.causes.now) (g.E.Write.contents c.import_by.new.causes) c.args.office.now c.import_by.new.service c.import_by.result c.import_by.ensures.imports

pub returns-clause-doubt : goal.returns-clause-doubt
returns-clause-doubt g c =
    runs.doubt g.S.Store.view g.L.Log c.args.token.now c.args.day c.args.why (g.R.Read.remaining c.args.reader) (g.W.Write.contents c.args.out.now)
    (g.W.Write.contents c.import_by.new.out) (g.E.Write.contents c.args.causes.now) (g.E.Write.contents c.import_by.new.causes) c.args.office.now c.import_by.new.service c.import_by.result c.import_by.ensures.imports
