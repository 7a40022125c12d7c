-- An empty database in which the office is founded that a text founds.
use Rattle.std.proofs.Common.{◌≡◌, ℕ, List, subst}
use Rattle.permit_replay.specs.Histories.{Unsaid}
use Rattle.permit_replay.specs.Texts.{IsReplayed}
use Rattle.permit_store.specs.Frames.{StoreView}
use Rattle.permit_store.specs.declared.founder.Founder.{Founder}
use Rattle.permit_store.specs.declared.plain.PlainStore.{PlainStore}
use Rattle.permit_database.specs.Founding.{IsFoundedBy, TellsFounding}

-- the founder of a text that was replayed whole
pub tells_founding : (view : PlainStore → StoreView) (begins : Unsaid → Type 0) (bytes text : List ℕ) (founder : Founder) → bytes ≡ text
    → IsFoundedBy bytes founder → (store : PlainStore) × IsReplayed view begins bytes store → TellsFounding begins text founder
tells_founding view begins bytes text founder same founds whole =
    let replayed = whole.1 in
    subst (λ bs. TellsFounding begins bs founder) same record {
      founded = founds;
      entries = replayed.0;
      left = replayed.1;
      given = replayed.2.given;
      end = replayed.3;
      history = λ unsaid have. (replayed.2.held unsaid have).history;
    }
