-- A query whose text only reads is a look.
use Rattle.std.proofs.Common.{Result}
use Rattle.sqlite_trees.specs.declared.store.Store.{Ghosts}
use Rattle.sqlite.specs.Given.{IsPlain}
use Rattle.sqlite.specs.Listing.{understood}
use Rattle.sqlite.specs.Held.{Held}
use Rattle.permit_sql_statements.specs.Frames.{IsOpenAfter, IsQuery}
use Rattle.permit_sql.specs.Frames.{IsLook}

pub query_looks : {S A E B F : Type 0} (g : Ghosts S) {old new : Held S} {sql : _} {q : Result A E} (r : Result B F) → IsQuery g sql old new q →
    IsOpenAfter g new r → IsPlain (understood old.schema sql) → IsLook g old new r
query_looks g r it opens plain = record {
  idle = it.idle;
  opened = opens;
  left = λ fine. (it.fine fine, (it.same fine plain).0);
  crash = it.crash (λ _. plain);
}
