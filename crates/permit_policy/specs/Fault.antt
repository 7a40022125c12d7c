-- The faults of a policy's text.
use Rattle.std.specs.Prelude.{ℕ}
use Rattle.permit_policy.specs.declared.fault.PolicyFault.{PolicyFault}
use Rattle.permit_policy.specs.declared.fault.PolicyFault.TheVariants as fault

-- its number, by which the lowest is answered
abbrev pub fault_number : PolicyFault → ℕ
fault_number fault.TooLong = 1
fault_number fault.Unreadable = 2
fault_number fault.Shape = 3
fault_number fault.TooMany = 4
fault_number fault.Name = 5
fault_number fault.Effect = 6
fault_number fault.List = 7
fault_number fault.Memory = 8

-- running out of memory lies in no table
abbrev pub place_of : PolicyFault → ℕ → ℕ
place_of fault.Memory place = 0
place_of _ place = place
