-- A known caller in time, and a refusal of the caller or the clock.
use Rattle.std.proofs.Common.{◌≡◌, ◌≤◌, ℕ, Bool, true, false, List, refl, ap, arith}
use Rattle.std.proofs.lemmas.Bool.Decides.{nat_tests}
use Rattle.std.specs.Prelude.{Option, None, Some, Result, Ok, Err, nat_lt, bytes_eq, find, if◌then◌else◌}
use Rattle.permit_base.specs.declared.refusal.Refusal.{Refusal}
use Rattle.permit_base.specs.declared.refusal.Refusal.TheVariants as refusal
use Rattle.permit_base.specs.declared.request.Request.{Request}
use Rattle.permit_model.specs.History.{History}
use Rattle.permit_model.specs.Caller.{Party, who}
use Rattle.permit_model.specs.Policy.{Policy}
use Rattle.permit_model.specs.Tables.{Desk, Tables, tables, desk_of}
use Rattle.permit_model.specs.Machine.{outcome_by_caller, outcome_by_request, refused, step_as}
use Rattle.permit_office.specs.Callers.{caller_at, caller_in}

-- the caller was found, and the day isn't below the desk's last
pub record IsKnown (day : ℕ) (held : Desk) (found : Option Party) (caller : Party) (desk : Desk) : Type 0 where
  pub is : Some caller ≡ found
  pub same : desk ≡ held
  pub time : held.last ≤ day

abbrev answer : Party → Desk → Result (Party × Desk) Refusal
answer caller desk = Ok (caller, desk)

by_clock : (day : ℕ) (held : Desk) (c caller : Party) (desk : Desk) (b : Bool) → nat_lt day held.last ≡ b
    → answer caller desk ≡ (if b then Err refusal.Clock else Ok (c, held)) → IsKnown day held (Some c) caller desk
by_clock day held c caller desk true late e = cc
by_clock day held c caller desk false late e =
    let time : held.last ≤ day = grind (arith, nat_tests) in
    let pair : (caller, desk) ≡ (c, held) = cc in
    record { is = ap (λ (p : Party × Desk). Some p.0) pair; same = ap (λ (p : Party × Desk). p.1) pair; time = time }

known_at : (day : ℕ) (held : Desk) (found : Option Party) (caller : Party) (desk : Desk) → answer caller desk ≡ caller_at day held found →
    IsKnown day held found caller desk
known_at day held None caller desk e = cc
known_at day held (Some c) caller desk e = by_clock day held c caller desk (nat_lt day held.last) refl e

pub known_in : (t : Tables) (digest : List ℕ) (day : ℕ) (caller : Party) (desk : Desk) → answer caller desk ≡ caller_in t digest day →
    IsKnown day t.desk (find (λ p. bytes_eq p.digest digest) t.parties) caller desk
known_in t digest day caller desk e = known_at day t.desk (find (λ p. bytes_eq p.digest digest) t.parties) caller desk e

abbrev refusal_of : Refusal → Result (Party × Desk) Refusal
refusal_of why = Err why

told : (a b : Refusal) → refusal_of a ≡ refusal_of b → b ≡ a
told a b same = cc

module _ (policy : Policy) (h : History) (asked : Request) (day : ℕ) (why : Refusal) where
  late : (c : Party) (desk : Desk) (b : Bool) → refusal_of why ≡ (if b then Err refusal.Clock else Ok (c, desk))
      → (if b then refused h refusal.Clock else outcome_by_request policy h day c asked) ≡ refused h why
  late c desk true e = ap (refused h) (told why refusal.Clock e)
  late c desk false e = cc

  by_caller : (found : Option Party) → refusal_of why ≡ caller_at day (desk_of h) found → outcome_by_caller policy h day asked found ≡ refused h why
  by_caller None e = ap (refused h) (told why refusal.Caller e)
  by_caller (Some c) e = late c (desk_of h) (nat_lt day (desk_of h).last) e

  -- the machine refuses what is refused
  pub refused_as : (digest : List ℕ) → refusal_of why ≡ caller_in (tables h) digest day → step_as policy h digest asked day ≡ refused h why
  refused_as digest e = by_caller (who h digest) e
