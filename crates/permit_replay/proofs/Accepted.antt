-- A command that is done is an accepted one.
use Rattle.std.proofs.Common.{◌≡◌, refl, sym, ap, subst, ℕ, Bool, true, false, List, [], ◌∷◌, Option, None, Some, inl, inr}
use Rattle.std.specs.Prelude.{IsTrue, Result, Ok, Err, IfOk, IfErr, nat_lt, if◌then◌else◌}
use Rattle.std.proofs.lemmas.Bool.{eqb-true, false≢true, ltb-false}
use Rattle.permit_base.specs.declared.words.Edition.TheVariants.{First, Second}
use Rattle.permit_base.specs.declared.refusal.Reason.{Reason}
use Rattle.permit_base.specs.declared.refusal.Refusal.TheVariants as refusal
use Rattle.permit_base.specs.declared.request.Request.{Request}
use Rattle.permit_model.specs.History.{Deed, Founding, Upgrade, Accepted, Entry, History, edition, last_day}
use Rattle.permit_model.specs.Caller.{is_party}
use Rattle.permit_model.specs.Admission.{reason_against}
use Rattle.permit_model.specs.Tables.{Tables, tables}
use Rattle.permit_model.specs.Machine.{Outcome, Reply, IsAccepted, IsFounding, IsHistory, is_command, is_there, number_made, object_of, entry_of, outcome_by_reason}
use Rattle.permit_store.specs.declared.store.StoreError.{StoreError}
use Rattle.permit_office.specs.Accepting.{outcome_if_there, outcome_in_time, outcome_of_party, outcome_unjudged}
use Rattle.permit_office.specs.Answers.{Attempts, IsOwn, reply_of, is_store_refusal}
use Rattle.permit_office.specs.declared.reply.Reply.{Reply as Given}
use Rattle.permit_office.specs.declared.reply.Reply.TheVariants as given
use Rattle.permit_history.specs.declared.entry.Act.{Act}
use Rattle.permit_history.specs.declared.entry.Act.TheVariants as act
use Rattle.permit_history.specs.declared.entry.Deed.{Deed as TheDeed}
use Rattle.permit_history.specs.declared.entry.Deed.TheVariants as deed
use Rattle.permit_history.specs.LineData.{act_number}
use Rattle.permit_replay.specs.declared.fault.Why.{Why}
use Rattle.permit_replay.specs.declared.fault.Why.TheVariants as why
use Rattle.permit_replay.specs.Against.{is_same, against, against_later, against_reply, against_upgrade}
use Rattle.permit_replay.specs.Histories.{Unsaid, request_by}
use Rattle.permit_replay.specs.Holding.{FailsAs, Follows, IsAgainst}

-- ---- what is done was accepted

-- the entry of a request with this number
abbrev pub numbered : ℕ → ℕ → Request → Option ℕ → Entry
numbered day caller asked number = record { caller = caller; day = day; deed = Accepted asked; number = number }

-- the outcome is the entry with the number, which was accepted
pub record IsDone (h : History) (day caller : ℕ) (asked : Request) (number : Option ℕ) (o : Outcome) : Type 0 where
  pub history : o.history ≡ numbered day caller asked number ∷ h
  pub accepted : IsAccepted h (numbered day caller asked number) asked

same_number : (m n : Option ℕ) → is_same m n ≡ true → m ≡ n
same_number None None e = refl
same_number None (Some n) e = absurd (false≢true e)
same_number (Some m) None e = absurd (false≢true e)
same_number (Some m) (Some n) e = ap Some (eqb-true m n e)

passed : (b : Bool) → (if b then None else Some why.Number) ≡ None → b ≡ true
passed true e = refl
passed false e = absurd cc

abbrev OnOutcome : History → ℕ → ℕ → Request → Option ℕ → Outcome → Type 0
OnOutcome h day caller asked number o = against_reply number o.reply ≡ None → IsDone h day caller asked number o

by_reason : (h : History) (day caller : ℕ) (asked : Request) (number : Option ℕ) → IsTrue (is_command asked) → is_party h caller ≡ true
    → nat_lt day (last_day h) ≡ false → is_there h (object_of asked) ≡ true → (r : Option Reason) → reason_against h day caller asked ≡ r
    → OnOutcome h day caller asked number (outcome_by_reason h (entry_of h day caller asked) r)
by_reason h day caller asked number command known time there (Some found) is e = absurd cc
by_reason h day caller asked number command known time there None is e =
    let same : number_made h asked ≡ number = same_number _ number (passed (is_same (number_made h asked) number) e) in
    record {
      history = ap (λ n. numbered day caller asked n ∷ h) same;
      accepted = record {
        command = command;
        caller_there = known;
        in_time = ltb-false day (last_day h) time;
        record_there = there;
        admitted = is;
        numbered = sym same;
      };
    }

by_record : (h : History) (day caller : ℕ) (asked : Request) (number : Option ℕ) → IsTrue (is_command asked) → is_party h caller ≡ true
    → nat_lt day (last_day h) ≡ false → (b : Bool) → is_there h (object_of asked) ≡ b
    → OnOutcome h day caller asked number (outcome_if_there h day caller asked b)
by_record h day caller asked number command known time false is e = absurd cc
by_record h day caller asked number command known time true is e =
    by_reason h day caller asked number command known time is (reason_against h day caller asked) refl e

by_time : (h : History) (day caller : ℕ) (asked : Request) (number : Option ℕ) → IsTrue (is_command asked) → is_party h caller ≡ true
    → (b : Bool) → nat_lt day (last_day h) ≡ b → OnOutcome h day caller asked number (outcome_in_time h day caller asked b)
by_time h day caller asked number command known true is e = absurd cc
by_time h day caller asked number command known false is e =
    by_record h day caller asked number command known is (is_there h (object_of asked)) refl e

by_party : (h : History) (day caller : ℕ) (asked : Request) (number : Option ℕ) → IsTrue (is_command asked)
    → (b : Bool) → is_party h caller ≡ b → OnOutcome h day caller asked number (outcome_of_party h day caller asked b)
by_party h day caller asked number command false is e = absurd cc
by_party h day caller asked number command true is e = by_time h day caller asked number command is (nat_lt day (last_day h)) refl e

pub done : (h : History) (day caller : ℕ) (asked : Request) (number : Option ℕ) → IsTrue (is_command asked)
    → OnOutcome h day caller asked number (outcome_unjudged h day caller asked)
done h day caller asked number command e = by_party h day caller asked number command (is_party h caller) refl e

-- ---- the history with it

asks_command : (token_of : List ℕ → List ℕ) (a : Act) → IsTrue (is_command (request_by token_of a))
asks_command token_of (act.AddParty name role digest made) = refl
asks_command token_of (act.AddParcel lot address owner made) = refl
asks_command token_of (act.Transfer parcel to) = refl
asks_command token_of (act.Declare parcel) = refl
asks_command token_of (act.File parcel kind valuation description made) = refl
asks_command token_of (act.OnFile file command made) = refl

longer : (h : History) (day caller : ℕ) (asked : Request) (number : Option ℕ) → IsHistory h → IsAccepted h (numbered day caller asked number) asked
    → IsHistory (numbered day caller asked number ∷ h)
longer [] day caller asked number is may = absurd is
longer (last ∷ before) day caller asked number is may = (may, is)

fails : (w : Why) (said : Option Why) → said ≡ Some w → FailsAs w said
fails why.Memory said e = tt
fails why.NoFounding said e = e
fails why.NoCopy said e = e
fails why.OtherCopy said e = e
fails why.CopyDay said e = e
fails why.SecondBeginning said e = e
fails why.SecondFounding said e = e
fails why.FirstEdition said e = e
fails why.UpgradeDay said e = e
fails why.SecondUpgrade said e = e
fails (why.Refused refusal) said e = e
fails why.Number said e = e

judged : (holds : Tables → Type 0) (unsaid : Unsaid) (h : History) (day caller : ℕ) (a : Act) (result : Result Unit Why)
    → IsHistory h → edition h ≡ Second
    → holds (tables (outcome_unjudged h day caller (request_by unsaid.token_of a)).history)
    → IsAgainst result (against_later unsaid h day (deed.Accepted caller a))
    → Follows holds unsaid h day (deed.Accepted caller a) result
judged holds unsaid h day caller a (Err w) is second held said = fails w _ said
judged holds unsaid h day caller a (Ok taken) is second held said =
    let d = done h day caller (request_by unsaid.token_of a) (act_number a) (asks_command unsaid.token_of a) said in (
      said,
      record {
        history = longer h day caller (request_by unsaid.token_of a) (act_number a) is d.accepted;
        upgraded = second;
        held = rw d.history at held;
      },
    )

not_own : (reply : Given) → reply ≡ given.Refused refusal.Store → IsOwn reply → ⊥
not_own reply e own = let stored : is_store_refusal reply ≡ true = ap is_store_refusal e in cc

failed_so : (holds : Tables → Type 0) (unsaid : Unsaid) (h : History) (day : ℕ) (done : TheDeed) (result : Result Unit Why)
    → result ≡ Err why.Memory → Follows holds unsaid h day done result
failed_so holds unsaid h day done result e = subst (Follows holds unsaid h day done) (sym e) tt

-- what the office answers to a command decides
pub follows : (holds : Tables → Type 0) (unsaid : Unsaid) (h : History) (day caller : ℕ) (a : Act) (answer : Result Given StoreError)
    (result : Result Unit Why) → IsHistory h → edition h ≡ Second
    → Attempts holds answer (outcome_unjudged h day caller (request_by unsaid.token_of a)) h → IfOk answer IsOwn
    → IfOk answer (λ reply. IsAgainst result (against_reply (act_number a) (reply_of reply)))
    → IfErr answer (λ e. result ≡ Err why.Memory)
    → Follows holds unsaid h day (deed.Accepted caller a) result
follows holds unsaid h day caller a (Err e) result is second attempt own said failed = failed_so holds unsaid h day (deed.Accepted caller a) result failed
follows holds unsaid h day caller a (Ok reply) result is second (inr refused) own said failed = absurd (not_own reply refused.0 own)
follows holds unsaid h day caller a (Ok reply) result is second (inl answered) own said failed =
    judged holds unsaid h day caller a result is second answered.1
    (subst (λ (r : Reply). IsAgainst result (against_reply (act_number a) r)) answered.0 said)

-- ---- after the upgrade

-- the upgrade doesn't come again
pub second_upgrade : (h : History) → edition h ≡ Second → against_upgrade (edition h) ≡ Some why.SecondUpgrade
second_upgrade h second = ap against_upgrade second

founded : (first : Entry) (done : Deed) → IsFounding first done → edition (record first { deed = done } ∷ []) ≡ First
founded first (Founding name digest) is = refl
founded first Upgrade is = absurd is
founded first (Accepted request) is = absurd is

-- a history with the upgrade has the founding too
pub behind : (unsaid : Unsaid) (h : History) (day : ℕ) (done : TheDeed) → IsHistory h → edition h ≡ Second
    → against unsaid h day done ≡ against_later unsaid h day done
behind unsaid [] day done is second = absurd is
behind unsaid (first ∷ []) day done is second = let one = founded first first.deed is in absurd cc
behind unsaid (last ∷ other ∷ before) day done is second = refl
