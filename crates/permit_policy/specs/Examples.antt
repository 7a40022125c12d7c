-- Worked texts of policies.
use Rattle.std.specs.Prelude.{ℕ, zero, suc, ◌+◌, ◌/◌, ◌%◌, length, List, [], ◌∷◌, ◌++◌, codes, None, Ok, Err}
use Rattle.permit_base.specs.declared.words.Relation.TheVariants.{Owner, Contractor}
use Rattle.permit_base.specs.declared.words.Effect.TheVariants.{Allow}
use Rattle.permit_model.specs.Policy.{Rule, Both}
use Rattle.permit_policy.specs.declared.fault.PolicyFault.{PolicyFault}
use Rattle.permit_policy.specs.PolicyText.{Meaning}

-- a line with its end
abbrev pub line : List ℕ → List ℕ
line text = text ++ 10 ∷ []

-- a table of this name and effect
abbrev pub table_text : List ℕ → List ℕ → List ℕ
table_text name effect =
    line (codes "[[rule]]") ++ line (codes "name = \"" ++ name ++ codes "\"") ++ line (codes "effect = \"" ++ effect ++ codes "\"")

-- the rule of this name that allows all to who is owner and contractor
abbrev pub owner_and_contractor : List ℕ → Rule
owner_and_contractor name = record {
  name = name;
  effect = Allow;
  role = None;
  relation = Both Owner Contractor;
  action = None;
  stage = None;
  timing = None;
  stopped = None;
}

-- so many good rules, each with a name of its own
abbrev pub good_rules : ℕ → List ℕ
good_rules zero = []
good_rules (suc n) = good_rules n ++ table_text ((97 + n / 8) ∷ (97 + n % 8) ∷ []) (codes "deny")

-- the fault in the table at a place
abbrev pub fault_in : PolicyFault → ℕ → Meaning
fault_in code place = Err (record { code = code; rule = place })

-- how many rules were read
abbrev pub count_read : Meaning → ℕ
count_read (Ok rules) = length rules
count_read (Err error) = 0

-- the text of policies/standard.toml
abbrev pub standard_text : List ℕ
standard_text =
    line (codes "[[rule]]")
    ++ line (codes "name = \"no-conflict\"")
    ++ line (codes "effect = \"deny\"")
    ++ line (codes "relation = [\"conflict\"]")
    ++ line (codes "action = [\"start-review\", \"return\", \"approve-plans\", \"reject\", \"issue\", \"approve-step\", \"notice\", \"clear-notice\", \"temporary\", \"certify\"]")
    ++ line []
    ++ line (codes "[[rule]]")
    ++ line (codes "name = \"own-work\"")
    ++ line (codes "effect = \"deny\"")
    ++ line (codes "role = [\"clerk\", \"reviewer\", \"inspector\", \"official\"]")
    ++ line (codes "relation = [\"applicant\", \"contractor\", \"owner\"]")
    ++ line (codes "action = [\"start-review\", \"return\", \"approve-plans\", \"reject\", \"issue\", \"approve-step\", \"notice\", \"clear-notice\", \"temporary\", \"certify\"]")
    ++ line []
    ++ line (codes "[[rule]]")
    ++ line (codes "name = \"official-all\"")
    ++ line (codes "effect = \"allow\"")
    ++ line (codes "role = [\"official\"]")
    ++ line []
    ++ line (codes "[[rule]]")
    ++ line (codes "name = \"clerk-desk\"")
    ++ line (codes "effect = \"allow\"")
    ++ line (codes "role = [\"clerk\"]")
    ++ line (codes "action = [\"add-party\", \"add-parcel\", \"transfer\", \"read-parcel\", \"read\", \"list\", \"assign-reviewer\", \"assign-inspector\", \"name-contractor\"]")
    ++ line []
    ++ line (codes "[[rule]]")
    ++ line (codes "name = \"reviewer-acts\"")
    ++ line (codes "effect = \"allow\"")
    ++ line (codes "role = [\"reviewer\"]")
    ++ line (codes "relation = [\"assigned-reviewer\"]")
    ++ line (codes "action = [\"read\", \"list\", \"start-review\", \"return\", \"approve-plans\", \"reject\"]")
    ++ line []
    ++ line (codes "[[rule]]")
    ++ line (codes "name = \"inspector-acts\"")
    ++ line (codes "effect = \"allow\"")
    ++ line (codes "role = [\"inspector\"]")
    ++ line (codes "relation = [\"assigned-inspector\"]")
    ++ line (codes "action = [\"read\", \"list\", \"approve-step\", \"notice\", \"clear-notice\", \"stop\"]")
    ++ line []
    ++ line (codes "[[rule]]")
    ++ line (codes "name = \"closed-to-public\"")
    ++ line (codes "effect = \"deny\"")
    ++ line (codes "role = [\"public\"]")
    ++ line (codes "timing = [\"past\"]")
    ++ line []
    ++ line (codes "[[rule]]")
    ++ line (codes "name = \"party-reads\"")
    ++ line (codes "effect = \"allow\"")
    ++ line (codes "relation = [\"applicant\", \"contractor\", \"owner\"]")
    ++ line (codes "action = [\"read\", \"list\", \"read-parcel\"]")
    ++ line []
    ++ line (codes "[[rule]]")
    ++ line (codes "name = \"applicant-acts\"")
    ++ line (codes "effect = \"allow\"")
    ++ line (codes "role = [\"public\"]")
    ++ line (codes "relation = [\"applicant\"]")
    ++ line (codes "action = [\"name-contractor\", \"resubmit\", \"ask-extension\"]")
    ++ line []
    ++ line (codes "[[rule]]")
    ++ line (codes "name = \"holder-acts\"")
    ++ line (codes "effect = \"allow\"")
    ++ line (codes "role = [\"public\"]")
    ++ line (codes "relation = [\"applicant\", \"contractor\"]")
    ++ line (codes "action = [\"begin-work\", \"request-inspection\"]")
    ++ line []
    ++ line (codes "[[rule]]")
    ++ line (codes "name = \"public-files\"")
    ++ line (codes "effect = \"allow\"")
    ++ line (codes "role = [\"public\"]")
    ++ line (codes "action = [\"file\"]")
    ++ line (codes "stage = [\"new\"]")
    ++ line []
    ++ line (codes "[[rule]]")
    ++ line (codes "name = \"staff-declares\"")
    ++ line (codes "effect = \"allow\"")
    ++ line (codes "role = [\"clerk\", \"reviewer\", \"inspector\"]")
    ++ line (codes "action = [\"declare\"]")
