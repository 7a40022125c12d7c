-- The history that entries give is one that their text gives.
use Rattle.std.proofs.Common.{◌≡◌, refl, sym, ap, ◌∙◌, subst, ℕ, List, [], ◌∷◌, ◌++◌, map, None}
use Rattle.permit_base.specs.Digests.{digest_of}
use Rattle.permit_model.specs.History.{History}
use Rattle.permit_store.specs.declared.plain.PlainStore.{PlainStore}
use Rattle.permit_store.specs.Frames.{StoreView}
use Rattle.permit_history.specs.declared.entry.Act.{Act}
use Rattle.permit_history.specs.declared.entry.Act.TheVariants as act
use Rattle.permit_history.specs.declared.entry.Deed.{Deed}
use Rattle.permit_history.specs.declared.entry.Deed.TheVariants as deed
use Rattle.permit_history.specs.declared.entry.Entry.{Entry}
use Rattle.permit_history.specs.Meaning.{renewed_entry, meant_with, meant_after, meant}
use Rattle.permit_history.specs.Told.{told_on, told_history}
use Rattle.permit_history.proofs.Renewals.{told_renewed}
use Rattle.permit_replay.specs.declared.replayed.Replayed.{Replayed}
use Rattle.permit_replay.specs.declared.replayed.Replayed.TheVariants as replayed
use Rattle.permit_replay.specs.Against.{against}
use Rattle.permit_replay.specs.Histories.{Unsaid, HasToken, HasTokenIn, history_before, history_with}
use Rattle.permit_replay.specs.Holding.{Holds}

-- the text gives an accepted command as it was
act_again : (unsaid : Unsaid) (h : History) (day caller : ℕ) (a : Act) → HasTokenIn unsaid.token_of a
    → told_history (history_with unsaid h day (deed.Accepted caller a)) ≡ told_history h ++ told_on day (deed.Accepted caller a) ∷ []
act_again unsaid h day caller (act.AddParty name role digest made) token =
    ap (λ (d : List ℕ). told_history h ++ told_on day (deed.Accepted caller (act.AddParty name role d made)) ∷ []) (sym token)
act_again unsaid h day caller (act.AddParcel lot address owner made) token = refl
act_again unsaid h day caller (act.Transfer parcel to) token = refl
act_again unsaid h day caller (act.Declare parcel) token = refl
act_again unsaid h day caller (act.File parcel kind valuation description made) token = refl
act_again unsaid h day caller (act.OnFile file command made) token = refl

renewal_again : (view : PlainStore → StoreView) (as_far : Replayed) (unsaid : Unsaid) (h : History) (day party : ℕ) (digest : List ℕ)
    → Holds view unsaid as_far h → digest ≡ digest_of (unsaid.token_of digest) → against unsaid h day (deed.RenewToken party digest) ≡ None
    → told_history (history_with unsaid h day (deed.RenewToken party digest)) ≡ map (renewed_entry party digest) (told_history h)
renewal_again view (replayed.Nothing beginning) unsaid h day party digest holds token none =
    let never = subst (λ (hs : History). against unsaid hs day (deed.RenewToken party digest) ≡ None) holds.0 none in absurd cc
renewal_again view (replayed.Founded founder) unsaid h day party digest holds token none =
    let never = subst (λ (hs : History). against unsaid hs day (deed.RenewToken party digest) ≡ None) holds none in absurd cc
renewal_again view (replayed.Open store) unsaid h day party digest holds token none =
    told_renewed party (unsaid.token_of digest) h holds.history
    ∙ ap (λ (d : List ℕ). map (renewed_entry party d) (told_history h)) (sym token)

-- what is held with one more deed is given with it
pub told_with : (view : PlainStore → StoreView) (as_far : Replayed) (unsaid : Unsaid) (h : History) (day : ℕ) (done : Deed)
    → Holds view unsaid as_far h → HasToken unsaid done → against unsaid h day done ≡ None
    → told_history (history_with unsaid h day done) ≡ meant_with (told_history (history_before unsaid)) (told_history h) (told_on day done) done
told_with view as_far unsaid h day (deed.Begin tables) holds token none = refl
told_with view as_far unsaid h day (deed.Found name digest) holds token none = refl
told_with view as_far unsaid h day deed.Upgrade holds token none = refl
told_with view as_far unsaid h day (deed.RenewToken party digest) holds token none =
    renewal_again view as_far unsaid h day party digest holds token none
told_with view as_far unsaid h day (deed.Accepted caller a) holds token none = act_again unsaid h day caller a token

meant_more : (start before entries : List Entry) (entry : Entry)
    → meant_after start before (entries ++ entry ∷ []) ≡ meant_with start (meant_after start before entries) entry entry.deed
meant_more start before [] entry = refl
meant_more start before (first ∷ later) entry = meant_more start (meant_with start before first first.deed) later entry

pub meant_last : (start entries : List Entry) (entry : Entry)
    → meant start (entries ++ entry ∷ []) ≡ meant_with start (meant start entries) entry entry.deed
meant_last start entries entry = meant_more start [] entries entry
