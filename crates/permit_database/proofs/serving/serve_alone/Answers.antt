use Rattle.std.proofs.Common.{inl, inr, ap, refl, Err, ◌∙◌}
use Rattle.permit_database.proofs.Failures.{if_err, without_memory}
use Rattle.permit_database.proofs.Opened.{opens_in_memory, still_shows}
use Rattle.permit_database.proofs.Served.{once_opened, served_on}
use Rattle.permit_database.proofs.serving.serve_alone.Goals as goal

pub returns-in-Ok-store_in-clause-served : goal.returns-in-Ok-store_in-clause-served
returns-in-Ok-store_in-clause-served g c =
    let done = c.serve_beside_memory-store in
    let conn_is = c.into_connection.ensures.conn in
    elim done.ensures.served [
      | inl served ↦ inl (served_on _ _ _ _ _ _ _ _ _ _ _ _ _
          (λ o loaded. opens_in_memory g.S.Store c.args.conn c.in-Ok-store_in.store.conn o.store.kept.conn _ _ c.in-Ok-store_in.ensures.opened loaded.0 refl)
          (λ o left. conn_is ∙ ap (λ s. s.conn) left.0) served)
      | inr other ↦ inr (
        (inr record {
          left = inr (still_shows g.S.Store c.args.conn c.in-Ok-store_in.store.conn done.result.0.conn _ done.result.0.upgrade done.result.0.handed
              done.result.0.failed done.result.0.commits _ c.in-Ok-store_in.ensures.opened other.0 conn_is);
          told = other.2;
        }),
        other.3,
      )
    ]

pub returns-in-Ok-store_in-clause-fails : goal.returns-in-Ok-store_in-clause-fails
returns-in-Ok-store_in-clause-fails g c = if_err c.serve_beside_memory-store.result.2 (once_opened c.args.words.now.listen.now) c.serve_beside_memory-store.ensures.fails
