-- One entry more is printed.
use Rattle.std.proofs.Common.{◌≡◌, refl, sym, ap, ◌∙◌, subst, ℕ, List, [], ◌∷◌, ◌++◌, Option, None, Some, option_map, append_assoc, inl, inr}
use Rattle.std.specs.Prelude.{◌⊎◌, Ok, IfSome}
use Rattle.std.specs.Io.BufRead.{drop_through}
use Rattle.std.specs.Io.KnownBytes.{Appends}
use Rattle.std.proofs.KnownBytes.{Appends-nil, Appends-trans}
use Rattle.std.proofs.lemmas.List.{append-nil}
use Rattle.permit_base.specs.declared.words.Role.{Role}
use Rattle.permit_history.specs.declared.entry.Entry.{Entry}
use Rattle.permit_history.specs.LineRead.{reading_of}
use Rattle.permit_history.specs.Text.{next_line, AnswersLine, GivesInTurn}
use Rattle.permit_report.specs.Outgoing.{WroteFront}
use Rattle.permit_report.proofs.Writes.{front_of_both}
use Rattle.permit_chronicle.specs.declared.wanted.Wanted.{Wanted}
use Rattle.permit_chronicle.specs.Telling.{HasTold, StopsAt, WritesSome, part, roles_with, told_from}
use Rattle.permit_chronicle.specs.declared.fault.ChronicleFault.{ChronicleFault}
use Rattle.permit_chronicle.specs.declared.fault.ChronicleFault.TheVariants.{Memory, Output}

-- ---- what the text gives

entry_said : (entry : Entry) (line : Option (List ℕ)) → AnswersLine (Ok entry) line → option_map reading_of line ≡ Some (Ok entry)
entry_said entry None answer = absurd answer
entry_said entry (Some line) (inl e) = absurd cc
entry_said entry (Some line) (inr e) = ap Some (sym e)

given_more : (bytes : List ℕ) (entries : List Entry) (left : List ℕ) (entry : Entry) → GivesInTurn bytes entries left
    → AnswersLine (Ok entry) (next_line left) → GivesInTurn bytes (entries ++ entry ∷ []) (drop_through 10 left)
given_more bytes [] left entry given answer = (
  subst (λ bs. option_map reading_of (next_line bs) ≡ Some (Ok entry)) (sym given)
      (entry_said entry (next_line left) answer),
  ap (drop_through 10) given,
)
given_more bytes (first ∷ later) left entry given answer = (given.0, given_more (drop_through 10 bytes) later left entry given.1 answer)

-- ---- what is written

-- the roles that entries give
abbrev pub roles_by : List (Option Role) → List Entry → List (Option Role)
roles_by roles [] = roles
roles_by roles (entry ∷ later) = roles_by (roles_with roles entry.deed) later

pub roles_more : (roles : List (Option Role)) (entries : List Entry) (entry : Entry)
    → roles_by roles (entries ++ entry ∷ []) ≡ roles_with (roles_by roles entries) entry.deed
roles_more roles [] entry = refl
roles_more roles (first ∷ later) entry = roles_more (roles_with roles first.deed) later entry

told_more : (wanted : Wanted) (roles : List (Option Role)) (entries : List Entry) (entry : Entry)
    → told_from wanted roles (entries ++ entry ∷ []) ≡ told_from wanted roles entries ++ part wanted (roles_by roles entries) entry
told_more wanted roles [] entry = append-nil (part wanted roles entry)
told_more wanted roles (first ∷ later) entry =
    ap (λ text. part wanted roles first ++ text) (told_more wanted (roles_with roles first.deed) later entry)
    ∙ sym (append_assoc (part wanted roles first) _ _)

module _ (wanted : Wanted) (roles : List (Option Role)) (entries : List Entry) (entry : Entry) (old mid new : Option (List ℕ)) where
  -- one line more
  pub lines_more : Appends old mid (told_from wanted roles entries) → Appends mid new (part wanted (roles_by roles entries) entry)
      → Appends old new (told_from wanted roles (entries ++ entry ∷ []))
  lines_more has wrote =
      subst (λ text. Appends old new text) (sym (told_more wanted roles entries entry))
      (Appends-trans old mid new (told_from wanted roles entries) (part wanted (roles_by roles entries) entry) has wrote)

  -- and a prefix of it
  pub some_more : Appends old mid (told_from wanted roles entries) → WroteFront mid new (part wanted (roles_by roles entries) entry)
      → WritesSome wanted roles old new
  some_more has wrote = (
    entries ++ entry ∷ [],
    inr (subst (λ text. WroteFront old new text) (sym (told_more wanted roles entries entry))
        (front_of_both old mid new (told_from wanted roles entries) (part wanted (roles_by roles entries) entry) has wrote)),
  )

-- ---- both

module _ (wanted : Wanted) (roles : List (Option Role)) (bytes : List ℕ) where
  -- nothing is printed yet
  pub has_none : (old : Option (List ℕ)) → HasTold wanted roles bytes [] bytes old old
  has_none old = record { given = refl; written = Appends-nil old }

  pub has_more : (entries : List Entry) (left : List ℕ) (entry : Entry) (old mid new : Option (List ℕ)) → HasTold wanted roles bytes entries left old mid
      → AnswersLine (Ok entry) (next_line left) → Appends mid new (part wanted (roles_by roles entries) entry)
      → HasTold wanted roles bytes (entries ++ entry ∷ []) (drop_through 10 left) old new
  has_more entries left entry old mid new has answer wrote = record {
    given = given_more bytes entries left entry has.given answer;
    written = lines_more wanted roles entries entry old mid new has.written wrote;
  }

  -- a prefix of what the entry adds is written
  pub has_front : (entries : List Entry) (left : List ℕ) (entry : Entry) (old mid new : Option (List ℕ)) → HasTold wanted roles bytes entries left old mid
      → AnswersLine (Ok entry) (next_line left) → WroteFront mid new (part wanted (roles_by roles entries) entry)
      → GivesInTurn bytes (entries ++ entry ∷ []) (drop_through 10 left) × WroteFront old new (told_from wanted roles (entries ++ entry ∷ []))
  has_front entries left entry old mid new has answer wrote = (
    given_more bytes entries left entry has.given answer,
    subst (λ text. WroteFront old new text) (sym (told_more wanted roles entries entry))
        (front_of_both old mid new (told_from wanted roles entries) (part wanted (roles_by roles entries) entry) has.written wrote),
  )

  -- a failure while the entry was printed
  pub stopped_in : (entries : List Entry) (left : List ℕ) (entry : Entry) (old mid new : Option (List ℕ)) (fault : ChronicleFault)
      → HasTold wanted roles bytes entries left old mid → AnswersLine (Ok entry) (next_line left)
      → WroteFront mid new (part wanted (roles_by roles entries) entry) → (fault ≡ Output) ⊎ ((fault ≡ Memory) × (new ≡ mid))
      → StopsAt wanted roles bytes old new fault
  stopped_in entries left entry old mid new fault has answer wrote (inl is) =
      subst (λ f. StopsAt wanted roles bytes old new f) (sym is) (
        entries ++ entry ∷ [],
        drop_through 10 left,
        (has_front entries left entry old mid new has answer wrote).0,
        (has_front entries left entry old mid new has answer wrote).1,
      )
  stopped_in entries left entry old mid new fault has answer wrote (inr is) =
      subst (λ f. StopsAt wanted roles bytes old new f) (sym is.0)
      (entries, left, subst (λ now. HasTold wanted roles bytes entries left old now) (sym is.1) has)

-- what an output holds stays where the output does
pub wrote_or_not : {W : Type 0} (fault : ChronicleFault) (old new : W) (contents : W → Option (List ℕ))
    → (fault ≡ Output) ⊎ ((fault ≡ Memory) × (new ≡ old)) → (fault ≡ Output) ⊎ ((fault ≡ Memory) × (contents new ≡ contents old))
wrote_or_not fault old new contents (inl is) = inl is
wrote_or_not fault old new contents (inr is) = inr (is.0, ap contents is.1)

-- ---- bytes that may be known

pub if_some : {A : Type 0} (o : Option A) (P : A → Type 0) → ((x : A) → o ≡ Some x → P x) → IfSome o P
if_some None P all = tt
if_some (Some x) P all = all x refl

pub some_at : {A : Type 0} (o : Option A) (P : A → Type 0) (x : A) → IfSome o P → o ≡ Some x → P x
some_at None P x said e = absurd cc
some_at (Some y) P x said e = let same : y ≡ x = cc in subst P same said
