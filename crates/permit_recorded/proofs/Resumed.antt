-- A text that was cut to its whole lines gives the history of a store that was brought to their end.
use Rattle.std.proofs.Common.{◌≡◌, ◌-◌, false, sym, ap, ◌∙◌, subst, inl, inr, ◌⊎◌, ℕ, List, [], take, drop, drop_at, append-nil, arith}
use Rattle.std.specs.Prelude.{Result, Ok, Err, IfErr}
use Rattle.std.specs.Result.{IsErrAnd}
use Rattle.permit_model.specs.Tables.{Tables}
use Rattle.permit_replay.specs.Alike.{unordered}
use Rattle.permit_store.specs.declared.plain.PlainStore.{PlainStore}
use Rattle.permit_store.specs.Frames.{StoreView}
use Rattle.permit_journal.specs.Files.{Grown}
use Rattle.permit_history.specs.LineData.{text_of}
use Rattle.permit_replay.specs.Histories.{Unsaid}
use Rattle.permit_replay.specs.Bringing.{HasLines, IsBrought, IsOnTheWay, IsStopped, may_have_done}
use Rattle.permit_replay.specs.declared.opening.bringing.Brought.{Brought}
use Rattle.permit_replay.specs.declared.opening.fault.BringFault.{BringFault}
use Rattle.permit_replay.specs.declared.opening.fault.BringFault.TheVariants as bring_fault
use Rattle.permit_replay.proofs.Brought.{on_the_way}
use Rattle.permit_replay.proofs.Opened.{whole_length}
use Rattle.permit_recorded.specs.Resuming.{HasPart, IsCutTo, IsPartlyCut, IsRedone, IsResumed, StopsBy, may_have_redone}
use Rattle.permit_recorded.specs.declared.resuming.fault.ResumeFault.{ResumeFault}
use Rattle.permit_recorded.specs.declared.resuming.fault.ResumeFault.TheVariants as fault

-- the text of entries whose history's tables are held
pub resumed : (begins : Unsaid → Type 0) (before after : List ℕ) (store : StoreView) (t : Tables) (brought : Brought) → IsBrought begins before t store brought
    → after ≡ take brought.length before → IsResumed begins after (unordered store)
resumed begins before after store t brought so cut =
    let text = so.text in
    let is : after ≡ text_of so.entries = cut ∙ whole_length so.entries before so.left brought.length text.text so.size in
    record {
      entries = so.entries;
      text_is = is;
      within = text.within;
      has = λ unsaid have. record {
        history = (so.stands unsaid have).history;
        held = (so.stands unsaid have).held;
        told = (so.entries, is, sym (text.told unsaid have));
      };
      meant_is = λ unsaid have. sym (text.told unsaid have);
    }

pub cut_so : (begins : Unsaid → Type 0) (before after : List ℕ) (count size : ℕ) → HasLines begins before count size → after ≡ take size before → IsCutTo begins before after
cut_so begins before after count size whole cut =
    let text = whole.text in (whole.entries, whole.left, text, cut ∙ whole_length whole.entries before whole.left size text.text whole.size_is)

pub redone_so : (begins : Unsaid → Type 0) (before : List ℕ) (store : StoreView) (t : Tables) (brought : Brought) (redone : ℕ) → IsBrought begins before t store brought
    → redone ≡ brought.lines - brought.stood → IsRedone begins before t redone
redone_so begins before store t brought redone so is =
    let stood = so.stood in
    record {
      entries = so.entries;
      left = so.left;
      text = so.text;
      before = brought.stood;
      stood = so.stood;
      all = omega (arith, is, so.lines, stood.few);
    }

-- what has a part of what came after the whole lines
pub partly : (begins : Unsaid → Type 0) (leaves : List ℕ → List ℕ → Type 0) (before after : List ℕ) (count size : ℕ) → HasLines begins before count size
    → HasPart leaves before size after → IsPartlyCut begins leaves before after
partly begins leaves before after count size whole part =
    let text = whole.text in
    let front = whole_length whole.entries before whole.left size text.text whole.size_is in
    let rest : drop size before ≡ whole.left = ap (drop size) text.text ∙ drop_at (text_of whole.entries) whole.left size (sym whole.size_is) in
    inr (whole.entries, whole.left, text, subst (λ bs. Grown leaves whole.left bs after) front (subst (λ bs. Grown leaves bs (take size before) after) rest part))

-- what a crash leaves after the cut of a text that is on the disk
pub crash_part : (begins : Unsaid → Type 0) (leaves : List ℕ → List ℕ → Type 0) (before mid c : List ℕ) (count size : ℕ) → mid ≡ before → HasLines begins before count size
    → (c ≡ mid) ⊎ HasPart leaves mid size c → IsPartlyCut begins leaves before c
crash_part begins leaves before mid c count size same whole (inl is) = inl (is ∙ same)
crash_part begins leaves before mid c count size same whole (inr part) =
    partly begins leaves before c count size whole (subst (λ (bs : List ℕ). HasPart leaves bs size c) same part)

-- a store that was brought to the end is on the way
pub way_whole : (begins : Unsaid → Type 0) (bytes : List ℕ) (t : Tables) (store : StoreView) (brought : Brought) → IsBrought begins bytes t store brought
    → IsOnTheWay begins bytes t store
way_whole begins bytes t store brought so =
    let stood = so.stood in
    on_the_way begins bytes brought.stood so.entries so.left t store so.text stood (so.entries, [], sym (append-nil so.entries), stood.few, so.stands)

-- ---- a fault that is returned

pub told_looks : {A : Type 0} (looks : Type 0) (r : Result A ResumeFault) (why : BringFault) → IsErrAnd r (λ told. told ≡ fault.Bring why)
    → (may_have_done why ≡ false → looks) → IfErr r (λ told. may_have_redone told ≡ false → looks)
told_looks looks (Ok done) why told only = tt
told_looks looks (Err e) why told only = λ none. only (subst (λ (f : ResumeFault). may_have_redone f ≡ false) told none)

pub looked : {A : Type 0} (looks : Type 0) (r : Result A ResumeFault) → looks → IfErr r (λ told. may_have_redone told ≡ false → looks)
looked looks (Ok done) only = tt
looked looks (Err e) only = λ none. only

pub told_differs : {A : Type 0} {B : Type 0} (r : Result A ResumeFault) (why : BringFault) → IsErrAnd r (λ told. told ≡ fault.Bring why)
    → r ≡ Err (fault.Bring bring_fault.Differs) → ◌≡◌ {A = Result B BringFault} (Err why) (Err bring_fault.Differs)
told_differs (Ok done) why told is = absurd told
told_differs (Err e) why told is = cc

pub told_on : {A : Type 0} (view : PlainStore → StoreView) (begins : Unsaid → Type 0) (bytes : List ℕ) (r : Result A ResumeFault) (why : BringFault)
    → IsErrAnd r (λ told. told ≡ fault.Bring why) → IsStopped view begins bytes why → IfErr r (StopsBy view begins bytes)
told_on view begins bytes (Ok done) why told stops = tt
told_on view begins bytes (Err e) why told stops = subst (StopsBy view begins bytes) (sym told) stops
