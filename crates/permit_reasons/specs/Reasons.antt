-- Why a policy's text is refused: the line for each fault.
use Rattle.std.specs.Prelude.{◌≡◌, ℕ, ◌-◌, not, if◌then◌else◌, List, [], ◌∷◌, ◌++◌, codes, decimal, length, slice_get, bytes_eq, Option, None, Some, unwrap_or}
use Rattle.toml.specs.Data.{Data, Members, as_table}
use Rattle.toml.specs.Parse.{parse_document}
use Rattle.permit_base.specs.Texts.{is_rule_name}
use Rattle.permit_policy.specs.PolicyText.{first_place, name_of, tables_in, text_at}
use Rattle.permit_policy.specs.declared.fault.PolicyError.{PolicyError}
use Rattle.permit_policy.specs.declared.fault.PolicyFault.{PolicyFault}
use Rattle.permit_policy.specs.declared.fault.PolicyFault.TheVariants as fault
use Rattle.permit_reasons.specs.Lists.{first_list_fault}
use Rattle.permit_reasons.specs.Shapes.{item_shape, list_keys, unknown_key}
use Rattle.permit_reasons.specs.Shown.{quoted, rule_head}
use Rattle.permit_reasons.specs.Takes.{effects_taken, name_taken}

-- the place, from 1, of the first rule of that name
abbrev pub place_named : List ℕ → List Data → ℕ
place_named name tables = unwrap_or (first_place (λ t. bytes_eq name (name_of t)) tables) 0

-- what is wrong with a name
abbrev pub name_fault : List ℕ → List Data → List ℕ
name_fault name tables =
    if bytes_eq name (codes "default") then codes "name is that of a denial where no rule matches"
    else (if not (is_rule_name name) then codes "name: " ++ name_taken
    else codes "name was used by rule " ++ decimal (place_named name tables))

-- what is wrong with an effect
abbrev pub effect_fault : List ℕ → List ℕ
effect_fault effect = codes "effect " ++ quoted effect ++ codes ": " ++ effects_taken

-- what the fault is in a rule
abbrev pub rule_fault : PolicyFault → List Data → Data → List ℕ
rule_fault fault.Shape tables entry = item_shape (as_table entry)
rule_fault fault.Name tables entry = name_fault (name_of entry) tables
rule_fault fault.Effect tables entry = effect_fault (text_at (codes "effect") entry)
rule_fault fault.List tables entry = unwrap_or (first_list_fault entry list_keys) (codes "each list is sound")
rule_fault other tables entry = codes "the fault is in no rule"

-- a place at which no rule is
abbrev pub missing_rule : ℕ → List ℕ
missing_rule place = codes "rule " ++ decimal place ++ codes " isn't there"

-- the rule at a place, if it is there, and what the fault is in it
abbrev pub rule_reason : PolicyError → List Data → Option Data → List ℕ
rule_reason error tables None = missing_rule error.rule
rule_reason error tables (Some entry) = rule_head error.rule entry ++ codes ": " ++ rule_fault error.code tables entry

-- what is wrong with a text that has another key than `rule`, or in which that is no array
abbrev pub top_reason : Option (List ℕ) → List ℕ
top_reason None = codes "rule is no list of tables: [[rule]] begins each"
top_reason (Some key) = codes "unknown key " ++ quoted key ++ codes ": the text has rule alone"

-- the line for a fault in these rules
abbrev pub tables_reason : PolicyFault → PolicyError → List Data → List ℕ
tables_reason fault.TooMany error tables = codes "the text has " ++ decimal (length tables) ++ codes " rules: at most 64"
tables_reason code error tables = rule_reason error tables (slice_get tables (error.rule - 1))

-- the line for a fault in what TOML reads
abbrev pub document_reason : PolicyError → Members → Option (List Data) → List ℕ
document_reason error entries None = top_reason (unknown_key (codes "rule" ∷ []) entries)
document_reason error entries (Some tables) = tables_reason error.code error tables

-- the line for the fault of a text; for one that TOML refuses, TOML's own message, of which nothing is said here
abbrev pub IsReasonFor : PolicyFault → PolicyError → List ℕ → List ℕ → Type 0
IsReasonFor fault.TooLong error text line = line ≡ codes "the text has " ++ decimal (length text) ++ codes " bytes: at most 65536"
IsReasonFor fault.Memory error text line = line ≡ codes "out of memory"
IsReasonFor code error text line = (members : Members) → parse_document text ≡ Some members → line ≡ document_reason error members (tables_in members)

abbrev pub IsReason : PolicyError → List ℕ → List ℕ → Type 0
IsReason error text line = IsReasonFor error.code error text line
