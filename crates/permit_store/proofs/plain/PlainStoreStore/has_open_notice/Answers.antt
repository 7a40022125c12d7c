use Rattle.std.proofs.Common.{◌==◌, sym, ◌∙◌, ap}
use Rattle.std.specs.Prelude.{◌&&◌}
use Rattle.std.specs.List.{list_any}
use Rattle.permit_store.proofs.Passing.{passes_both}
use Rattle.permit_store.proofs.plain.PlainStoreStore.has_open_notice.Goals as goal

pub returns-clause-found : goal.returns-clause-found
returns-clause-found c = rw (c.has_open_notice.ensures, c.deref.ensures.value) (λ _ t k.
    ap (list_any (λ p. p.is_open && (p.number == c.args.number))) (sym (k.papers c.args.file))
    ∙ sym (passes_both (λ p. p.file == c.args.file) (λ p. p.is_open && (p.number == c.args.number)) t.papers))
