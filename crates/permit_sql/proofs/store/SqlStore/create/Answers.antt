use Rattle.std.proofs.Common.{refl, rules}
use Rattle.permit_sql.proofs.store.SqlStore.create.Goals as goal

pub returns-in-Ok-clause-founds : goal.returns-in-Ok-clause-founds
returns-in-Ok-clause-founds g c = record {
  founded = search rules;
  keeps = search rules;
  doubt = refl;
  handed = refl;
  failed = refl;
  commits = refl;
  opened = search rules;
  empty = search rules;
  crash = search rules;
}
