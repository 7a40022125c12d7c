-- The reason against a command on the row is the reason against it on the history.
use Rattle.std.proofs.Common.{◌≡◌, ℕ, suc, Bool, true, not, List, [], ◌∷◌, length, refl, ◌∙◌, ap, arith}
use Rattle.std.specs.Prelude.{Option, Some, option_map, is_some, nat_lt, ◌||◌, ◌&&◌}
use Rattle.permit_base.specs.declared.words.Role.{Role}
use Rattle.permit_base.specs.declared.refusal.Reason.TheVariants as reason
use Rattle.permit_base.specs.declared.request.Command.{Command}
use Rattle.permit_base.specs.declared.request.Request.TheVariants.{OnFile}
use Rattle.permit_core.specs.declared.people.NamedParty.{NamedParty}
use Rattle.permit_core.specs.declared.people.People.{People}
use Rattle.permit_model.specs.Search.{has_number}
use Rattle.permit_model.specs.History.{History}
use Rattle.permit_model.specs.Caller.{Party, has_role}
use Rattle.permit_model.specs.Files.{CaseFile, case_numbered}
use Rattle.permit_model.specs.Work.{next_of}
use Rattle.permit_model.specs.Admission.{first_failing, file_tests, reason_against}
use Rattle.permit_model.specs.Tables.{State, state_of, next_in_row}
use Rattle.permit_model.specs.Machine.{IsHistory}
use Rattle.permit_model.proofs.Projection.{done_to}
use Rattle.permit_model.proofs.Fronts.{next_at_count}
use Rattle.permit_core.specs.Naming.{people_of}
use Rattle.permit_core.specs.RowTests.{is_of_role, is_with_interest, row_tests}

-- the next step of a file of a history is the one at the count of approved steps
pub next_is : (h : History) (id : ℕ) (file : CaseFile) → IsHistory h → case_numbered h id ≡ Some file → next_of file ≡ next_in_row (state_of file)
next_is h id file is there = next_at_count file.filing file.acts (done_to h id file is there).admitted

-- the party, with its interest
abbrev known : Bool → Party → NamedParty
known interest p = record { role = p.role; has_interest = interest }

-- an interest counts only where the party is there
assigned_same : (role : Role) (o : Option Party) (off others interest : Bool) →
    first_failing ((off, reason.Stage) ∷ (not (has_role role o), reason.Person) ∷ (others || interest, reason.Interested) ∷ [])
    ≡ first_failing ((off, reason.Stage) ∷ (not (is_of_role role (option_map (known interest) o)), reason.Person)
    ∷ (others || is_with_interest (option_map (known interest) o), reason.Interested) ∷ [])
assigned_same role o off others interest = grind arith

some_known : (interest : Bool) (o : Option Party) → is_some o ≡ is_some (option_map (known interest) o)
some_known interest o = grind arith

and_true : (b : Bool) → b ≡ b && true
and_true b = grind arith

above_zero : (n : ℕ) → true ≡ nat_lt 0 (suc n)
above_zero n = grind arith

-- a number is among none
among_some : (ns : List ℕ) (n : ℕ) → has_number ns n ≡ has_number ns n && nat_lt 0 (length ns)
among_some [] n = refl
among_some (m ∷ ns) n = and_true (has_number (m ∷ ns) n) ∙ ap (λ b. has_number (m ∷ ns) n && b) (above_zero (length ns))

-- on a file whose next step is the one at the count of approved steps
pub same_reason : (h : History) (day : ℕ) (file : CaseFile) (command : Command) → next_of file ≡ next_in_row (state_of file) →
    first_failing (file_tests h day file command) ≡ first_failing (row_tests day (state_of file) (people_of h file command) command)
same_reason h day file command next = grind (arith, assigned_same, some_known, among_some)

-- the reason against a command on a file of a history is read off its row and the people
pub reason_on_row : (h : History) (id day caller : ℕ) (file : CaseFile) (command : Command) (s : State) (people : People) → IsHistory h →
    case_numbered h id ≡ Some file → s ≡ state_of file → people ≡ people_of h file command →
    first_failing (row_tests day s people command) ≡ reason_against h day caller (OnFile id command)
reason_on_row h id day caller file command s people is there row known = grind (arith, same_reason, next_is)
