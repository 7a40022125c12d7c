-- What the readers of a policy's parts answer.
use Rattle.std.specs.Prelude.{◌≡◌, ◌⊎◌, ℕ, Bool, true, List, Option, None, Some}
use Rattle.permit_policy.specs.declared.fault.PolicyError.{PolicyError}
use Rattle.permit_policy.specs.declared.fault.PolicyFault.{PolicyFault}
use Rattle.permit_policy.specs.declared.fault.PolicyFault.TheVariants as fault

-- the refusal where memory runs out
abbrev pub out_of_memory : PolicyError
out_of_memory = record { code = fault.Memory; rule = 0 }

-- no table has the fault, and these are the parts of all tables
pub record AreParts {A : Type 0} (place : Option ℕ) (wanted parts : List A) : Type 0 where
  pub sound : place ≡ None
  pub same : parts ≡ wanted

-- the fault at the place of the first table that has it, or that memory ran out
abbrev pub IsRefusal : PolicyFault → Option ℕ → PolicyError → Type 0
IsRefusal code place error = (error ≡ out_of_memory) ⊎ ((k : ℕ) × (place ≡ Some k) × (error ≡ record { code = code; rule = k }))

-- a fault in a list, or that memory ran out
abbrev pub IsListFault : Bool → PolicyFault → Type 0
IsListFault is_bad code = (code ≡ fault.Memory) ⊎ ((code ≡ fault.List) × (is_bad ≡ true))
