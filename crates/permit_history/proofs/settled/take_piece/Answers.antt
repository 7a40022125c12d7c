use Rattle.std.proofs.Common.{[], length, sym, subst, true≢false, take_all, le_refl}
use Rattle.std.specs.Io.BufRead.{FillKeeps}
use Rattle.std.specs.Io.KnownBytes.{Consumes}
use Rattle.std.proofs.KnownBytes.{Consumes-kept, Consumes-nil}
use Rattle.std.proofs.BufReadLemmas.{Consumes_shown}
use Rattle.std.proofs.lemmas.List.{append-nil}
use Rattle.permit_history.specs.LineEnds.{AreLineEndsOf}
use Rattle.permit_history.proofs.PrefixLemmas.{none_shown}
use Rattle.permit_history.proofs.settled.take_piece.Goals as goal

pub returns-in-Err : goal.returns-in-Err
returns-in-Err g c = record {
  piece = [];
  taken = Consumes-kept _ _ _ [] (Consumes-nil _) c.fill_buf.follows.holds-at-none.0;
  added = λ bytes is. subst (λ b. AreLineEndsOf b c.args.ends.now) (sym (append-nil bytes)) is;
  end = λ stops. absurd (true≢false stops);
}

pub returns : goal.returns
returns g c =
    let shown = c.in-Ok.piece.now in
    let rested = c.fill_buf.follows.lender-at-none in
    let filled = subst (FillKeeps _ (g.R.Read.remaining rested) (g.R.BufRead.consumable_len rested)) c.in-Ok.is c.fill_buf.follows.holds-at-none in
    let moved = Consumes_shown _ _ _ _ shown (length shown) (le_refl _) c.in-Ok.ensures.front c.in-Ok.ensures.end filled.0 filled.1 c.consume.ensures.bytes in record {
      piece = shown;
      taken = subst (Consumes _ _) (take_all (length shown) shown (le_refl _)) moved.0;
      added = c.in-Some.ensures;
      end = λ stops. moved.1 (none_shown shown stops);
    }
