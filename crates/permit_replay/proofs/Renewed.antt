-- A party that got another token is meant to have had it from the start.
use Rattle.std.proofs.Common.{◌≡◌, sym, ap, subst, ◌∙◌, ℕ, List, None, option_map}
use Rattle.std.specs.Prelude.{Ok, Err}
use Rattle.permit_base.specs.declared.words.Edition.TheVariants.{Second}
use Rattle.permit_base.specs.declared.refusal.Refusal.{Refusal}
use Rattle.permit_base.specs.Digests.{digest_of}
use Rattle.permit_model.specs.History.{History, edition}
use Rattle.permit_model.specs.Caller.{parties}
use Rattle.permit_model.specs.Tables.{Tables, tables}
use Rattle.permit_model.specs.Machine.{IsHistory}
use Rattle.permit_model.specs.Renewal.{against_renewal, with_renewed}
use Rattle.permit_store.specs.Renewing.{Renews}
use Rattle.permit_store.proofs.Renewals.{edition_alike, tables_renewed}
use Rattle.permit_store.proofs.RenewedHistories.{renewed_follows}
use Rattle.permit_history.specs.declared.entry.Deed.TheVariants as deed
use Rattle.permit_replay.specs.declared.fault.Why.TheVariants as why
use Rattle.permit_replay.specs.Histories.{Unsaid}
use Rattle.permit_replay.specs.Holding.{Follows}

pub taken : (holds : Tables → Type 0) (unsaid : Unsaid) (h : History) (day party : ℕ) (digest : List ℕ) (done said : Unit {0})
    → IsHistory h → edition h ≡ Second → digest ≡ digest_of (unsaid.token_of digest) → Renews holds party digest (tables h) (Ok (Ok done))
    → Follows holds unsaid h day (deed.RenewToken party digest) (Ok said)
taken holds unsaid h day party digest done said is second token so =
    let none : against_renewal (parties h) party (digest_of (unsaid.token_of digest)) ≡ None =
    subst (λ d. against_renewal (parties h) party d ≡ None) token so.0 in
    let held : holds (with_renewed party (digest_of (unsaid.token_of digest)) (tables h)) = subst (λ d. holds (with_renewed party d (tables h))) token so.1 in (
      ap (option_map why.Refused) so.0,
      record {
        history = renewed_follows party (unsaid.token_of digest) h is none;
        upgraded = edition_alike party (unsaid.token_of digest) h ∙ second;
        held = subst holds (sym (tables_renewed party (unsaid.token_of digest) h)) held;
      },
    )

pub refused_so : (holds : Tables → Type 0) (unsaid : Unsaid) (h : History) (day party : ℕ) (digest : List ℕ) (refusal : Refusal)
    → Renews holds party digest (tables h) (Ok (Err refusal)) → Follows holds unsaid h day (deed.RenewToken party digest) (Err (why.Refused refusal))
refused_so holds unsaid h day party digest refusal so = ap (option_map why.Refused) so.0
