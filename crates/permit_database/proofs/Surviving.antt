-- A connection that is given back survives a crash as the one that was left.
use Rattle.std.proofs.Common.{◌≡◌, arith, inl, refl, sym, subst}
use Rattle.sqlite.specs.Held.{Held, state}
use Rattle.sqlite.specs.State.{State, Survives}
use Rattle.sqlite_trees.specs.Tree.{Trees}
use Rattle.sqlite_trees.specs.declared.store.Store.{Ghosts}

pub survives_back : {S : Type 0} (g : Ghosts S) (old now back : Held S) (R : Trees → Type 0) → back ≡ now → Survives (state g old) (state g now) R
    → Survives (state g old) (state g back) R
survives_back g old now back R same it = subst (λ (h : Held _). Survives (state g old) (state g h) R) (sym same) it

-- so does one that is left alone
pub survives_itself : (s : State) (R : Trees → Type 0) → Survives s s R
survives_itself s R = record {
  clean = omega arith;
  shield = λ shielded. shielded;
  counts = omega arith;
  limit = refl;
  closes = λ clean opened. inl opened;
  crash = λ clean db may. inl may;
}
