-- The words that say what rules let each role list.
use Rattle.std.specs.Prelude.{◌≡◌, ℕ, List}
use Rattle.permit_base.specs.declared.words.Action.TheVariants as action
use Rattle.permit_base.specs.declared.words.Relations.{Relations}
use Rattle.permit_base.specs.declared.words.Role.{Role}
use Rattle.permit_base.specs.declared.words.Role.TheVariants as role
use Rattle.permit_model.specs.Opened.{Cell, allowed_by}
use Rattle.permit_model.specs.Policy.{Policy}
use Rattle.permit_policy.specs.Masks.{may}
use Rattle.permit_policy.specs.declared.listings.Listings.{Listings}

-- the words of a role
abbrev pub words_for : Listings → Role → List ℕ
words_for listings role.Public = listings.public
words_for listings role.Clerk = listings.clerk
words_for listings role.Reviewer = listings.reviewer
words_for listings role.Inspector = listings.inspector
words_for listings role.Official = listings.official

-- the words of each role allow what the rules let it list
abbrev pub AreCompiled : Policy → Listings → Type 0
AreCompiled rules listings = (who : Role) (cell : Cell) (set : Relations) → may (words_for listings who) cell set ≡ allowed_by rules who action.List cell set
