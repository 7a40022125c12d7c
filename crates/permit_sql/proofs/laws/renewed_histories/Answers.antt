-- The laws are lemmas by induction on the history.
use Rattle.permit_store.proofs.Renewals.{tables_renewed}
use Rattle.permit_store.proofs.RenewedHistories.{renewed_follows}
use Rattle.permit_sql.proofs.laws.renewed_histories.Goals as goal

pub returns-clause-history : goal.returns-clause-history
returns-clause-history c = λ h party token is none. renewed_follows party token h is none

pub returns-clause-tables : goal.returns-clause-tables
returns-clause-tables c = λ h party token. tables_renewed party token h
