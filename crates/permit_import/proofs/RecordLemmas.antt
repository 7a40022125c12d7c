-- The fields of a record, and the request that they make.
use Rattle.std.proofs.Common.{◌≡◌, ℕ, Bool, true, false, List, [], ◌∷◌, length, refl, sym, ap, ◌∙◌, subst, arith, eq-eqb}
use Rattle.std.specs.Prelude.{Option, None, Some, IsTrue, IsUtf8, ◌↔◌, codes, option_and_then}
use Rattle.std.proofs.lemmas.Str.{utf8_valid_len-IsUtf8}
use Rattle.csv.specs.Records.{field_at}
use Rattle.permit_routes.specs.Bodies.{◌>>=◌, is_utf8}
use Rattle.permit_import.specs.Records.{Fields, header, text_in, parcel_of, request_of_record}

-- ---- the header

-- a record of three fields is these three
three_fields : (fields : Fields) (a b c : List ℕ) → length fields ≡ 3 → field_at fields 0 ≡ Some a → field_at fields 1 ≡ Some b → field_at fields 2 ≡ Some c →
    fields ≡ a ∷ b ∷ c ∷ []
unfolding field_at
three_fields [] a b c n x y z = cc
three_fields (p ∷ []) a b c n x y z = cc
three_fields (p ∷ q ∷ []) a b c n x y z = cc
three_fields (p ∷ q ∷ r ∷ []) a b c n x y z = cc
three_fields (p ∷ q ∷ r ∷ s ∷ rest) a b c n x y z = absurd (omega arith)

-- the first fields of a record so far
abbrev pub HasLot : Fields → Type 0
HasLot fields = (length fields ≡ 3) × (field_at fields 0 ≡ Some (codes "lot"))

abbrev pub HasAddress : Fields → Type 0
HasAddress fields = HasLot fields × (field_at fields 1 ≡ Some (codes "address"))

pub header_by : (fields : Fields) (b : Bool) → HasAddress fields → (IsTrue b ↔ (field_at fields 2 ≡ Some (codes "owner"))) → (IsTrue b ↔ (fields ≡ header))
unfolding field_at
header_by fields b has word = (
  λ t. three_fields fields (codes "lot") (codes "address") (codes "owner") has.0.0 has.0.1 has.1 (word.0 t),
  λ e. word.1 (ap (λ f. field_at f 2) e),
)

pub header_has : (fields : Fields) → fields ≡ header → HasAddress fields
unfolding field_at
header_has fields e = ((ap length e, ap (λ f. field_at f 0) e), ap (λ f. field_at f 1) e)

pub lot_then : (fields : Fields) (v r : Bool) → length fields ≡ 3 → v ≡ r → (IsTrue r ↔ (field_at fields 0 ≡ Some (codes "lot"))) → (IsTrue v ↔ HasLot fields)
lot_then fields v r n e word = ((λ t. (n, word.0 (sym e ∙ t))), λ h. e ∙ word.1 h.1)

pub lot_not : (fields : Fields) (v : Bool) → (length fields ≡ 3 → ⊥) → v ≡ false → (IsTrue v ↔ HasLot fields)
lot_not fields v n e = ((λ t. let bad : false ≡ true = sym e ∙ t in cc), λ h. absurd (n h.0))

-- one test after another
pub and_then : {P Q : Type 0} (u v r : Bool) → (IsTrue u ↔ P) → u ≡ true → v ≡ r → (IsTrue r ↔ Q) → (IsTrue v ↔ (P × Q))
and_then u v r first on e word = ((λ t. (first.0 on, word.0 (sym e ∙ t))), λ h. e ∙ word.1 h.1)

pub and_not : {P Q : Type 0} (u v : Bool) → (IsTrue u ↔ P) → u ≡ false → v ≡ false → (IsTrue v ↔ (P × Q))
and_not u v first off e = ((λ t. let bad : false ≡ true = sym e ∙ t in cc), λ h. let bad : false ≡ true = sym off ∙ first.1 h.0 in cc)

-- ---- requests

-- a field that is text
pub text_read : (o : Option (List ℕ)) (field text : List ℕ) → Some field ≡ o → text ≡ field → IsUtf8 field → Some text ≡ option_and_then text_in o
text_read o field text there same utf8 =
    let test : is_utf8 field ≡ true = eq-eqb _ _ (utf8_valid_len-IsUtf8 field utf8) in
    subst (λ x. Some text ≡ option_and_then text_in x) there (rw test (ap Some same))

by_texts : (x y z : Option (List ℕ)) (lot address owner : List ℕ) → Some lot ≡ x → Some address ≡ y → Some owner ≡ z →
    (x >>= λ l. (y >>= λ a. (z >>= parcel_of l a))) ≡ parcel_of lot address owner
by_texts x y z lot address owner e f g =
    subst (λ x. (x >>= λ l. (y >>= λ a. (z >>= parcel_of l a))) ≡ parcel_of lot address owner) e
    (subst (λ y. (y >>= λ a. (z >>= parcel_of lot a)) ≡ parcel_of lot address owner) f
    (subst (λ z. (z >>= parcel_of lot address) ≡ parcel_of lot address owner) g refl))

-- the request of three texts
pub record_read : (fields : Fields) (lot address owner : List ℕ) → length fields ≡ 3 → Some lot ≡ option_and_then text_in (field_at fields 0) →
    Some address ≡ option_and_then text_in (field_at fields 1) →
    Some owner ≡ option_and_then text_in (field_at fields 2) → parcel_of lot address owner ≡ request_of_record fields
unfolding field_at
record_read [] lot address owner n x y z = cc
record_read (p ∷ []) lot address owner n x y z = cc
record_read (p ∷ q ∷ []) lot address owner n x y z = cc
record_read (p ∷ q ∷ r ∷ []) lot address owner n x y z = sym (by_texts (text_in p) (text_in q) (text_in r) lot address owner x y z)
record_read (p ∷ q ∷ r ∷ s ∷ rest) lot address owner n x y z = absurd (omega arith)

no_third : (x y : Option (List ℕ)) → None ≡ (x >>= λ l. (y >>= λ a. (None >>= parcel_of l a)))
no_third None y = refl
no_third (Some l) None = refl
no_third (Some l) (Some a) = refl

no_second : (x z : Option (List ℕ)) → None ≡ (x >>= λ l. (None >>= λ a. (z >>= parcel_of l a)))
no_second None z = refl
no_second (Some l) z = refl

-- a record that has no text at a place is no request
pub first_missing : (fields : Fields) → None ≡ option_and_then text_in (field_at fields 0) → None ≡ request_of_record fields
unfolding field_at
first_missing [] x = refl
first_missing (p ∷ []) x = refl
first_missing (p ∷ q ∷ []) x = refl
first_missing (p ∷ q ∷ r ∷ []) x = ap (λ t. t >>= λ l. (text_in q >>= λ a. (text_in r >>= parcel_of l a))) x
first_missing (p ∷ q ∷ r ∷ s ∷ rest) x = refl

pub second_missing : (fields : Fields) → None ≡ option_and_then text_in (field_at fields 1) → None ≡ request_of_record fields
unfolding field_at
second_missing [] x = refl
second_missing (p ∷ []) x = refl
second_missing (p ∷ q ∷ []) x = refl
second_missing (p ∷ q ∷ r ∷ []) x = no_second (text_in p) (text_in r) ∙ ap (λ t. text_in p >>= λ l. (t >>= λ a. (text_in r >>= parcel_of l a))) x
second_missing (p ∷ q ∷ r ∷ s ∷ rest) x = refl

pub third_missing : (fields : Fields) → None ≡ option_and_then text_in (field_at fields 2) → None ≡ request_of_record fields
unfolding field_at
third_missing [] x = refl
third_missing (p ∷ []) x = refl
third_missing (p ∷ q ∷ []) x = refl
third_missing (p ∷ q ∷ r ∷ []) x = no_third (text_in p) (text_in q) ∙ ap (λ t. text_in p >>= λ l. (text_in q >>= λ a. (t >>= parcel_of l a))) x
third_missing (p ∷ q ∷ r ∷ s ∷ rest) x = refl

-- and so is one of another number of fields
pub another_number : (fields : Fields) → (length fields ≡ 3 → ⊥) → None ≡ request_of_record fields
another_number [] x = refl
another_number (p ∷ []) x = refl
another_number (p ∷ q ∷ []) x = refl
another_number (p ∷ q ∷ r ∷ []) x = absurd (x refl)
another_number (p ∷ q ∷ r ∷ s ∷ rest) x = refl
