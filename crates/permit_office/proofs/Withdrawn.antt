-- An admitted change is entered into a log before it is made.
use Rattle.std.proofs.Common.{◌≡◌, ℕ, refl, inl, inr}
use Rattle.std.specs.Prelude.{Result, Ok, Err, IsErr}
use Rattle.permit_base.specs.declared.request.Request.{Request}
use Rattle.permit_store.specs.Frames.{StoreView}
use Rattle.permit_store.specs.declared.store.StoreError.{StoreError}
use Rattle.permit_office.specs.declared.decision.Decision.{Decision}
use Rattle.permit_office.specs.declared.decision.Decision.TheVariants as decision
use Rattle.permit_office.specs.declared.log.Log.{Ghosts}
use Rattle.permit_office.specs.declared.reply.Reply.{Reply as Given}
use Rattle.permit_office.specs.Decisions.{IsCarriedOut}
use Rattle.permit_office.specs.Entering.{Enters, IsCarriedOutWith}
use Rattle.permit_office.specs.Logs.{Noted, note, IsStill, IsWithdrawing}

still_same : (s : StoreView) → IsStill s s
still_same s = record { kept = λ t held. held; one = λ one. one; doubt = refl; failed = refl; commits = refl; handed = refl }

never_fails : (e : StoreError) (reply : Given) → Err e ≡ Ok reply → ⊥
never_fails e reply is = cc

no_error : (reply : Given) → IsErr {T = Given} {E = StoreError} (Ok reply) → ⊥
no_error reply failed = cc

module _ {S L : Type 0} (view : S → StoreView) (log : Ghosts L) (asked : Request) (day : ℕ) where
  -- it can't be entered
  pub not_entered : (A : Type 0) (d : Decision) (store : S) (before after : L) (e : StoreError) (result : Result Given StoreError) → IsErr result
      → Enters {A = A} log asked day d before after (Err e) → IsCarriedOutWith view log asked day d store store before after result
  not_entered A (decision.Answered reply) store before after e result failed none = absurd none
  not_entered A (decision.Admitted by number change) store before after e (Ok reply) failed refused = absurd (no_error reply failed)
  not_entered A (decision.Admitted by number change) store before after e (Err told) failed refused = inl (still_same (view store), refused)

  -- it is entered, and done
  pub done : (A : Type 0) (a : A) (d : Decision) (old new : S) (before after : L) (reply : Given) → Enters log asked day d before after (Ok a)
      → IsCarriedOut d (view old) (view new) (Ok reply) → IsCarriedOutWith view log asked day d old new before after (Ok reply)
  done A a (decision.Answered told) old new before after reply same carried = (carried, same)
  done A a (decision.Admitted by number change) old new before after reply entered carried = (carried, entered)

  -- it is entered, and withdrawn
  pub undone : (A : Type 0) (a : A) (d : Decision) (old between new : S) (before entered after : L) (e : StoreError) → Enters log asked day d before entered (Ok a)
      → IsCarriedOut d (view old) (view between) (Err e) → IsWithdrawing (view between) (view new)
      → ((first : L) (noted : Noted) → log.entered first noted entered → log.withdrawn first noted (view between) (view new) after)
      → IsCarriedOutWith view log asked day d old new before after (Err e)
  undone A a (decision.Answered told) old between new before entered after e same carried withdrawing withdrawn = absurd (never_fails e told carried.0)
  undone A a (decision.Admitted by number change) old between new before entered after e was carried withdrawing withdrawn = inr (record {
    between = between;
    commit = carried.0;
    withdrawing = withdrawing;
    withdrawn = withdrawn before (note by asked number day) was;
  })
