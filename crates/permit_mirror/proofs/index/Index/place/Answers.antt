use Rattle.std.specs.Prelude.{IsTrue}
use Rattle.permit_mirror.specs.Pairs.{has}
use Rattle.permit_mirror.proofs.Given.{given_more}
use Rattle.permit_mirror.proofs.index.Index.place.Goals as goal

pub loop-party-preserved : goal.loop-party-preserved
loop-party-preserved c =
    let was = c.loop-party.invariant in
    record {
      grown = λ k n h. c.add.ensures.grown k n (was.grown k n h);
      on = was.on;
      at = was.at;
      parcels = was.parcels;
      files = was.files;
      given = given_more (λ n. IsTrue (has c.add.new.self n c.args.file)) c.deref-party-items.result.now c.loop-party.party-index 0 c.loop-party-test.true
          (λ n h. c.add.ensures.grown n c.args.file (was.given n h)) c.in_ok-add.ensures.added;
    }
