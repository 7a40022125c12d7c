use Rattle.std.proofs.Common.{ap, ◌∙◌}
use Rattle.sqlite.proofs.Callers.{finds_again}
use Rattle.permit_sql.proofs.reopen.opened_again.Goals as goal

pub returns-in-Ok-open_files : goal.returns-in-Ok-open_files
returns-in-Ok-open_files g c clean =
    let found = c.in-Ok-open_files.ensures.found clean in
    let opened = c.in-Ok-open_files.ensures.opened clean in
    let copied = c.in-Ok.ensures.copied found.honest in
    let trees = finds_again c.args.conn c.in-Ok-open_files.again c.in-Ok.files c.in-Ok.ensures.copied found in
    record { clean = copied.was_clean; opened = copied.was_open; same = ap (λ db. db.trees) opened.0.clean ∙ trees; live = (opened.1 opened.0.is_open).0 }
