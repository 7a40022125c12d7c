-- No text means want of memory.
use Rattle.std.proofs.Common.{arith, ◌≡◌, ap, Bool, cond, ℕ, List, Option, option_map, unwrap_or, Ok, Err}
use Rattle.toml.specs.Data.{Data, Members}
use Rattle.permit_policy.specs.declared.fault.PolicyFault.{PolicyFault}
use Rattle.permit_policy.specs.declared.fault.PolicyFault.TheVariants as fault
use Rattle.permit_policy.specs.PolicyText.{Meaning, refused_at, tables_in}
use Rattle.permit_policy.specs.PolicyText.{meaning_of_tables, meaning_of_document, meaning}

abbrev pub IsNotMemory : Meaning → Type 0
IsNotMemory m = (rule : ℕ) → m ≡ Err (record { code = fault.Memory; rule = rule }) → ⊥

code_of : Meaning → PolicyFault
code_of (Ok rules) = fault.TooLong
code_of (Err error) = error.code

other : (code : PolicyFault) (k : ℕ) → (code ≡ fault.Memory → ⊥) → IsNotMemory (Err (record { code = code; rule = k }))
unfolding code_of
other code k h rule e = h (ap code_of e)

either : (b : Bool) (m n : Meaning) → IsNotMemory m → IsNotMemory n → IsNotMemory (cond b m n)
either b m n p q = grind arith

at_place : (code : PolicyFault) (place : Option ℕ) (m : Meaning) → (code ≡ fault.Memory → ⊥) → IsNotMemory m → IsNotMemory (refused_at code place m)
at_place code place m h q = grind (arith, other)

of_part : {A : Type 0} (f : A → Meaning) (part : Option A) (m : Meaning) → ((a : A) → IsNotMemory (f a)) → IsNotMemory m →
    IsNotMemory (unwrap_or (option_map f part) m)
of_part f part m p q = grind arith

of_tables : (tables : List Data) → IsNotMemory (meaning_of_tables tables)
of_tables tables = grind (arith, at_place, either, other)

of_document : (document : Members) → IsNotMemory (meaning_of_document document)
of_document document = of_part meaning_of_tables (tables_in document) _ of_tables (other fault.Shape 0 (λ e. cc))

-- want of memory is no meaning
pub never_memory : (text : List ℕ) → IsNotMemory (meaning text)
never_memory text = grind (arith, either, other, of_part, of_document)
