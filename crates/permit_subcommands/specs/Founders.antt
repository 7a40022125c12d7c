-- Who founds an office, by the words.
use Rattle.std.specs.Prelude.{◌≡◌, ◌⊎◌, ℕ, Bool, true, false, ◌&&◌, IsTrue, List}
use Rattle.permit_base.specs.Digests.{digest_of}
use Rattle.permit_base.specs.Texts.{is_printable, is_token}
use Rattle.permit_store.specs.declared.founder.Founder.{Founder}
use Rattle.permit_subcommands.specs.Failures.{plain}
use Rattle.permit_import.specs.declared.refused.RefusalWord.TheVariants.{Syntax, Clock, Store}
use Rattle.permit_subcommands.specs.declared.failure.Failure.{Failure}

-- the name and the token are within their limits
abbrev pub is_person : List ℕ → List ℕ → Bool
is_person name token = is_printable name && is_token token

-- the founder that they and the day make
pub record Founds (called secret : List ℕ) (today : ℕ) (founder : Founder) : Type 0 where
  pub within : IsTrue (is_person called secret)
  pub name : founder.name ≡ called
  pub digest : founder.digest ≡ digest_of secret
  pub day : founder.day ≡ today

-- why there is none
abbrev pub IsRefusedFor : List ℕ → List ℕ → ℕ → Failure → Type 0
IsRefusedFor name token day why =
    (why ≡ plain Store)
    ⊎ (((why ≡ plain Syntax) × (is_person name token ≡ false))
    ⊎ ((why ≡ plain Clock) × (is_person name token ≡ true) × (day ≡ 0)))
