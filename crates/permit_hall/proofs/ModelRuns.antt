-- Where the store refuses nothing, a run over events is the model's hall run.
use Rattle.std.proofs.Common.{◌≡◌, ℕ, Bool, true, false, true≢false, List, [], ◌∷◌, ◌++◌, length, map, sym, refl, ap, ◌∙◌, subst, arith}
use Rattle.std.specs.Prelude.{if◌then◌else◌, filter, ◌==◌, ◌&&◌, not, zip, Option, Some, None, option_to_list, option_map, slice_get}
use Rattle.std.proofs.lemmas.List.{map-append}
use Rattle.std.proofs.lemmas.Option.{slice_get-map}
use Rattle.permit_base.specs.declared.request.Asked.{Asked}
use Rattle.permit_model.specs.History.{History}
use Rattle.permit_model.specs.Policy.{Policy}
use Rattle.permit_model.specs.Tables.{Tables, tables}
use Rattle.permit_model.specs.Machine.{replies_to, history_after}
use Rattle.permit_model.specs.HallRun.{Event, puts, collects, of_session, count_of, acting, served, collected, collected_after}
use Rattle.permit_office.specs.declared.reply.Reply.{Reply}
use Rattle.permit_office.specs.Answers.{reply_of, is_store_refusal}
use Rattle.permit_office.specs.Runs.{answered, Ran}
use Rattle.permit_hall.specs.Events.{IsHallRun, is_never_refused}

-- ---- the answers of other replies

module _ {R Q : Type 0} (f : R → Q) where
  abbrev told : ℕ × R → ℕ × Q
  told a = (a.0, f a.1)

  zip_told : (ss : List ℕ) (rs : List R) → map told (zip ss rs) ≡ zip ss (map f rs)
  zip_told [] rs = refl
  zip_told (s ∷ ss) [] = refl
  zip_told (s ∷ ss) (r ∷ rs) = ap (λ l. (s, f r) ∷ l) (zip_told ss rs)

  picked : (b : Bool) (a : ℕ × R) (xs : List (ℕ × R)) (ys : List (ℕ × Q)) → map told xs ≡ ys →
      map told (if b then a ∷ xs else xs) ≡ (if b then told a ∷ ys else ys)
  picked true a xs ys e = ap (λ l. told a ∷ l) e
  picked false a xs ys e = e

  session_told : (s : ℕ) (answers : List (ℕ × R)) → map told (of_session s answers) ≡ of_session s (map told answers)
  session_told s [] = refl
  session_told s (a ∷ answers) = picked (a.0 == s) a (of_session s answers) (of_session s (map told answers)) (session_told s answers)

  option_told : (o : Option (ℕ × R)) → map told (option_to_list o) ≡ option_to_list (option_map told o)
  option_told None = refl
  option_told (Some a) = refl

  collected_told : (answers : List (ℕ × R)) (before ss : List ℕ) → map told (collected_after answers before ss) ≡ collected_after (map told answers) before ss
  collected_told answers before [] = refl
  collected_told answers before (s ∷ ss) =
      let n = count_of s before in
      map-append told (option_to_list (slice_get (of_session s answers) n)) (collected_after answers (s ∷ before) ss)
      ∙ ap (λ l. l ++ map told (collected_after answers (s ∷ before) ss))
      (option_told (slice_get (of_session s answers) n)
      ∙ ap (λ (o : Option (ℕ × Q)). option_to_list o) (sym (slice_get-map told (of_session s answers) n) ∙ ap (λ l. slice_get l n) (session_told s answers)))
      ∙ ap (λ l. option_to_list (slice_get (of_session s (map told answers)) n) ++ l) (collected_told answers (s ∷ before) ss)

-- ---- no refusal of the store

kept : {X : Type 0} (b rest : Bool) (x : X) (xs ys : List X) → (not b && rest) ≡ true → (rest ≡ true → xs ≡ ys) → (if b then xs else x ∷ xs) ≡ x ∷ ys
kept true rest x xs ys own same = absurd (true≢false (sym own))
kept false rest x xs ys own same = ap (λ l. x ∷ l) (same own)

all_answered : (requests : List (Asked × ℕ)) (replies : List Reply) → length replies ≡ length requests → is_never_refused replies ≡ true →
    answered requests replies ≡ requests
all_answered [] replies e own = refl
all_answered (q ∷ qs) [] e own = absurd (omega arith)
all_answered (q ∷ qs) (r ∷ rs) e own = kept (is_store_refusal r) (is_never_refused rs) q (answered qs rs) qs own (all_answered qs rs (omega arith))

owned : (b rest : Bool) (x : Reply) (xs ys : List Reply) → (b && rest) ≡ true → (rest ≡ true → xs ≡ ys) → (if b then x ∷ xs else xs) ≡ x ∷ ys
owned true rest x xs ys own same = ap (λ l. x ∷ l) (same own)
owned false rest x xs ys own same = absurd (true≢false (sym own))

all_own : (replies : List Reply) → is_never_refused replies ≡ true → filter (λ r. not (is_store_refusal r)) replies ≡ replies
all_own [] own = refl
all_own (r ∷ rs) own = owned (not (is_store_refusal r)) (is_never_refused rs) r (filter (λ r. not (is_store_refusal r)) rs) rs own (all_own rs)

-- ---- the run

pub is_hall_run : (holds : Tables → Type 0) (policy : Policy) (events : List (Event Asked)) (answers : List (ℕ × Reply)) (replies : List Reply) (h : History)
    → answers ≡ collected events replies → Ran holds policy (served events) replies h → is_never_refused replies ≡ true →
    IsHallRun holds policy events answers h
is_hall_run holds policy events answers replies h is ran own =
    let sessions = map (λ (p : ℕ × Asked). p.0) (puts (acting events)) in
    let all = all_answered (served events) replies ran.each own in (
      ap (λ l. map (told reply_of) l) is
          ∙ collected_told reply_of (zip sessions replies) [] (collects (acting events))
          ∙ ap (λ l. collected_after l [] (collects (acting events))) (zip_told reply_of sessions replies)
          ∙ ap (λ rs. collected events rs) (sym (ap (λ rs. map reply_of rs) (all_own replies own)) ∙ ran.told ∙ ap (λ qs. replies_to policy qs h) all),
      subst (λ qs. holds (tables (history_after policy qs h))) all ran.held,
    )
