use Rattle.std.proofs.Common.{ℕ, List, inl, inr, refl, subst, sym, ◌∙◌}
use Rattle.sqlite.specs.State.{Survives}
use Rattle.sqlite.specs.Held.{state}
use Rattle.permit_base.specs.Digests.{digest_of}
use Rattle.permit_sql.specs.Found.{KeepsSound}
use Rattle.permit_sql.specs.Renewing.{IsRenewed}
use Rattle.permit_database.specs.Renewing.{renewal_line}
use Rattle.permit_database.proofs.Surviving.{survives_itself}
use Rattle.permit_database.proofs.renewing.renew_with.Goals as goal

pub returns-in-Err-clause-crash : goal.returns-in-Err-clause-crash
returns-in-Err-clause-crash g c = record {
  mid = c.enter_renewal.new.journal;
  first = c.enter_renewal.ensures.crash;
  entered = inr refl;
  tables = survives_itself (state g.S.Store c.args.conn) _;
  last = c.enter_renewal.ensures.crash;
}

pub returns-in-Ok-clause-crash : goal.returns-in-Ok-clause-crash
returns-in-Ok-clause-crash g c =
    let was = state g.S.Store c.args.conn in
    record {
      mid = c.enter_renewal.new.journal;
      first = c.enter_renewal.ensures.crash;
      entered = inl c.in_default.ensures.entered;
      tables = subst (λ (n : ℕ). Survives was (state g.S.Store c.renew_token.new.conn)
          (λ trees. KeepsSound was.now × IsRenewed n (digest_of c.args.token.now) was.now trees)) c.get.ensures.same c.renew_token.ensures.crash;
      last = c.enter_renewal.ensures.crash;
    }

pub returns-in-Err-renew_token-clause-crash : goal.returns-in-Err-renew_token-clause-crash
returns-in-Err-renew_token-clause-crash g c =
    let was = state g.S.Store c.args.conn in
    record {
      mid = c.enter_renewal.new.journal;
      first = c.enter_renewal.ensures.crash;
      entered = inl c.in_default.ensures.entered;
      tables = subst (λ (n : ℕ). Survives was (state g.S.Store c.renew_token.new.conn)
          (λ trees. KeepsSound was.now × IsRenewed n (digest_of c.args.token.now) was.now trees)) c.get.ensures.same c.renew_token.ensures.crash;
      last = λ settled.
          let entered = c.in_default.ensures.entered settled in
          c.take_back_refused.ensures.crash entered.settled (g.H.HistoryFile.view c.args.journal.now.file).text
          (renewal_line c.args.day c.args.party (digest_of c.args.token.now)) (sym (c.length-before.ensures ∙ settled.counted))
          entered.bytes_there (c.enter_renewal.ensures.crash settled);
    }
