use Rattle.std.proofs.Common.{◌≡◌, ◌≤◌, length, take}
use Rattle.std.specs.Prelude.{vec_capacity}
use Rattle.permit_store.specs.Frames.{OverHistory}
use Rattle.permit_office.specs.Frames.{Steps}
use Rattle.permit_office.specs.Runs.{Ran}
use Rattle.permit_office.specs.Sound.{KeepsSound}
use Rattle.permit_office.proofs.office.Office.run.Given as goal

abbrev pub invariant-loop-asked : goal.invariant-loop-asked
invariant-loop-asked g l = record {
  doubt : (g.S.Store.view l.fn.self.store).doubt ≤ (g.S.Store.view l.self.store).doubt;
  policy : l.self.policy ≡ l.fn.self.policy;
  room : length l.requests ≤ vec_capacity l.replies;
  count : length l.replies.items ≡ l.asked-index;
  sound : KeepsSound (g.S.Store.view l.fn.self.store) (g.S.Store.view l.self.store);
  steps : Steps g.S.Store.view g.L.Log (take l.asked-index l.requests) l.replies.items l.fn.self l.self;
  ran : OverHistory (g.S.Store.view l.fn.self.store) (g.S.Store.view l.self.store)
      (λ h. Ran (g.S.Store.view l.self.store).holds l.fn.self.policy (take l.asked-index l.requests) l.replies.items h);
}
