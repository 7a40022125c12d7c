use Rattle.std.proofs.Common.{get_or, subst}
use Rattle.std.specs.Prelude.{IsTrue}
use Rattle.permit_mirror.specs.Pairs.{has}
use Rattle.permit_mirror.proofs.Given.{given_more}
use Rattle.permit_mirror.proofs.index.Index.concern.Goals as goal

pub loop-file-preserved : goal.loop-file-preserved
loop-file-preserved c =
    let was = c.loop-file.invariant in
    let files = c.deref-file-items.result.now in
    record {
      grown = λ k n h. c.add.ensures.grown k n (was.grown k n h);
      on = was.on;
      at = was.at;
      parcels = was.parcels;
      files = was.files;
      given = given_more (λ n. IsTrue (has c.add.new.self c.args.party n)) files c.loop-file.file-index 0 c.loop-file-test.true
          (λ n h. c.add.ensures.grown c.args.party n (was.given n h))
          (subst (λ k. IsTrue (has c.add.new.self k (get_or files c.loop-file.file-index 0))) c.get.ensures.same c.in_ok-add.ensures.added);
    }
