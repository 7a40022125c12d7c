-- Who a request's caller is in the tables, or why it is refused.
use Rattle.std.specs.Prelude.{ℕ, nat_lt, bytes_eq, if◌then◌else◌, List, find, Option, None, Some, Result, Ok, Err, option_map, ⊤}
use Rattle.permit_base.specs.declared.refusal.Refusal.{Refusal}
use Rattle.permit_base.specs.declared.refusal.Refusal.TheVariants as refusal
use Rattle.permit_model.specs.Caller.{Party, who}
use Rattle.permit_model.specs.History.{History}
use Rattle.permit_model.specs.Tables.{Desk, Tables}

-- a known caller on a day that isn't below the last, with the desk, or why its request is refused
abbrev pub caller_at : ℕ → Desk → Option Party → Result (Party × Desk) Refusal
caller_at day desk None = Err refusal.Caller
caller_at day desk (Some caller) = if nat_lt day desk.last then Err refusal.Clock else Ok (caller, desk)

-- the same for the party that keeps the digest
abbrev pub caller_in : Tables → List ℕ → ℕ → Result (Party × Desk) Refusal
caller_in t digest day = caller_at day t.desk (find (λ p. bytes_eq p.digest digest) t.parties)

-- a refusal of the caller or the clock
abbrev pub RefusesCaller : Refusal → Type 0
RefusesCaller refusal.Caller = ⊤
RefusesCaller refusal.Clock = ⊤
RefusesCaller why = ⊥

-- the number of the party that keeps the digest
abbrev pub number_of : History → List ℕ → Option ℕ
number_of h digest = option_map (λ (p : Party). p.id) (who h digest)
