use Rattle.std.proofs.Common.{ap, inl, inr, refl, rules, subst, ◌≡◌, ◌∙◌}
use Rattle.std.specs.Borrow.{Bor}
use Rattle.permit_subcommands.specs.declared.days.RunDays.{RunDays}
use Rattle.permit_database.specs.Served.{IsDayOfRun}
use Rattle.permit_database.proofs.Served.{all_days}
use Rattle.permit_database.proofs.serving.serve_beside_memory.Goals as goal

pub returns-in-Ok-clause-served : goal.returns-in-Ok-clause-served
returns-in-Ok-clause-served g c =
    let over = c.serve_over-office in
    let h = over.ensures.history in
    inl record {
      office = c.in-Ok.office;
      left = over.result.0;
      opens_so = (c.in-Ok.ensures.loaded, c.in-Ok.ensures.log);
      policy_is = c.in-Ok.ensures.policy;
      served = h.0;
      run = h.1.run;
      runs = h.2;
      each = h.1.each;
      dated = all_days _ (λ s. s.0 ≡ c.args.days) (IsDayOfRun c.args.days.now)
          (λ a day b kept step. (search rules, subst (λ (d : Bor RunDays). IsDayOfRun d.now day) kept step.met.0)) _ h.0 _ refl h.1.days;
      ended = elim h.3 [
        | inl ended ↦ inl ended
        | inr none ↦ inr none.0
      ];
      says = over.ensures.says;
      leaves_so = (c.into_kept.ensures.kept ∙ ap (λ s. s.kept) c.into_parts-store.ensures.store, c.into_parts-store.ensures.log);
    }
