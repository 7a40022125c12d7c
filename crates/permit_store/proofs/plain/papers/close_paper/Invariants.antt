use Rattle.std.proofs.Common.{◌≡◌, ◌++◌, length, map, take, drop}
use Rattle.permit_store.specs.Changes.{closed_by}
use Rattle.permit_store.proofs.plain.papers.close_paper.Given as goal

abbrev pub invariant-loop-place : goal.invariant-loop-place
invariant-loop-place l = record {
  end : l._place-end ≡ length l.fn.papers;
  turned : l.papers ≡ drop l._place l.fn.papers ++ map (closed_by l.file l.number) (take l._place l.fn.papers);
}
