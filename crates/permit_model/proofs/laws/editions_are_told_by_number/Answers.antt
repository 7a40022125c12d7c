-- The count of files at the upgrade gives the edition of each file, and of the next one.
use Rattle.permit_model.proofs.Editions.{edition_by_number, edition_of_next, upgrade_follows, upgrade_once, upgrade_made}
use Rattle.permit_model.proofs.laws.editions_are_told_by_number.Goals as goal

pub returns-clause-numbered : goal.returns-clause-numbered
returns-clause-numbered c = edition_by_number

pub returns-clause-next : goal.returns-clause-next
returns-clause-next c = edition_of_next

pub returns-clause-follows : goal.returns-clause-follows
returns-clause-follows c = upgrade_follows

pub returns-clause-once : goal.returns-clause-once
returns-clause-once c = upgrade_once

pub returns-clause-made : goal.returns-clause-made
returns-clause-made c = upgrade_made
