-- What is sound of tables stays so while nothing of theirs goes and no day falls.
use Rattle.std.proofs.Common.{◌≡◌, ◌≤◌, ℕ, true, ◌==◌, List, ◌++◌, refl, ◌∙◌, ap, arith}
use Rattle.std.specs.Prelude.{Option, None, Some, find, ◌&&◌, ◌||◌, not, nat_le}
use Rattle.std.proofs.lemmas.Bool.{le-leb, leb-true, and_from, and_parts}
use Rattle.permit_base.specs.Limits.{is_between, is_cents}
use Rattle.permit_base.specs.Texts.{is_printable, is_lot}
use Rattle.permit_base.specs.declared.words.Role.{Role}
use Rattle.permit_base.specs.declared.words.Role.TheVariants.{Reviewer, Inspector}
use Rattle.permit_model.specs.Codes.{is_edition}
use Rattle.permit_model.specs.Caller.{Party, has_role}
use Rattle.permit_model.specs.Parcels.{Parcel, Interest}
use Rattle.permit_model.specs.Tables.{State, FileRow, Paper, Tables, edition_numbered, is_notice}
use Rattle.permit_model.specs.Sound.{has_party, has_party_of, has_parcel, has_file, if_any, is_sound_parcel, is_sound_interest, is_sound_filing}
use Rattle.permit_model.specs.Sound.{has_sound_people, has_own_edition, has_sound_days, has_sound_text, has_sound_terms, is_sound_paper}
use Rattle.permit_model.proofs.SoundLists.{any_more, between_later, found_front}

-- a party that is there stays, with its role
pub role_front : (role : Role) (id : ℕ) (xs ys : List Party) → has_role role (find (λ (p : Party). p.id == id) xs) ≡ true →
    has_role role (find (λ (p : Party). p.id == id) (xs ++ ys)) ≡ true
role_front role id xs ys e = by (find (λ (p : Party). p.id == id) xs) refl e
  where
    by : (o : Option Party) → find (λ (p : Party). p.id == id) xs ≡ o → has_role role o ≡ true →
        has_role role (find (λ (p : Party). p.id == id) (xs ++ ys)) ≡ true
    by None found e = cc
    by (Some p) found e = ap (has_role role) (found_front (λ (q : Party). q.id == id) xs ys p found) ∙ e

-- what is there of the one tables is there of the other, on a day that isn't below
pub record IsLater (t u : Tables) : Type 0 where
  pub last : t.desk.last ≤ u.desk.last
  pub party : (id : ℕ) → has_party t id ≡ true → has_party u id ≡ true
  pub role : (role : Role) (id : ℕ) → has_party_of t role id ≡ true → has_party_of u role id ≡ true
  pub parcel : (id : ℕ) → has_parcel t id ≡ true → has_parcel u id ≡ true
  pub file : (id : ℕ) → has_file t id ≡ true → has_file u id ≡ true
  pub upgrade : u.upgrade ≡ t.upgrade

module _ (t u : Tables) (l : IsLater t u) where
  pub parcel_later : (p : Parcel) → is_sound_parcel t p ≡ true → is_sound_parcel u p ≡ true
  parcel_later p e =
      let owner = and_parts (is_lot p.lot && is_printable p.address) (has_party t p.owner) e in
      and_from _ _ owner.0 (l.party p.owner owner.1)

  pub interest_later : (i : Interest) → is_sound_interest t i ≡ true → is_sound_interest u i ≡ true
  interest_later i e =
      let parts = and_parts (has_parcel t i.parcel) (has_party t i.party) e in
      and_from _ _ (l.parcel i.parcel parts.0) (l.party i.party parts.1)

  pub filing_later : (f : FileRow) → is_sound_filing t f ≡ true → is_sound_filing u f ≡ true
  filing_later f e =
      let filed = and_parts _ (is_between 1 t.desk.last f.state.filed) e in
      let text = and_parts _ (is_printable f.description) filed.0 in
      let amount = and_parts _ (is_cents f.valuation) text.0 in
      let there = and_parts (has_parcel t f.state.parcel) (has_party t f.state.applicant) amount.0 in
      and_from _ _ (and_from _ _ (and_from _ _ (and_from _ _ (l.parcel f.state.parcel there.0) (l.party f.state.applicant there.1)) amount.1) text.1)
      (between_later 1 t.desk.last u.desk.last f.state.filed l.last filed.1)

  pub people_later : (s : State) → has_sound_people t s ≡ true → has_sound_people u s ≡ true
  people_later s e =
      let inspector = and_parts _ (if_any (has_party_of t Inspector) s.inspector) e in
      let parts = and_parts (if_any (has_party t) s.contractor) (if_any (has_party_of t Reviewer) s.reviewer) inspector.0 in
      and_from _ _ (and_from _ _ (any_more (has_party t) (has_party u) s.contractor l.party parts.0)
      (any_more (has_party_of t Reviewer) (has_party_of u Reviewer) s.reviewer (l.role Reviewer) parts.1))
      (any_more (has_party_of t Inspector) (has_party_of u Inspector) s.inspector (l.role Inspector) inspector.1)

  pub edition_later : (f : FileRow) → has_own_edition t f ≡ true → has_own_edition u f ≡ true
  edition_later f e = ap (λ o. is_edition f.state.edition (edition_numbered o f.id)) l.upgrade ∙ e

  pub file_later : (f : FileRow) → (is_sound_filing t f && has_sound_people t f.state && has_own_edition t f) ≡ true →
      (is_sound_filing u f && has_sound_people u f.state && has_own_edition u f) ≡ true
  file_later f e =
      let own = and_parts _ (has_own_edition t f) e in
      let parts = and_parts (is_sound_filing t f) (has_sound_people t f.state) own.0 in
      and_from _ _ (and_from _ _ (filing_later f parts.0) (people_later f.state parts.1)) (edition_later f own.1)

  pub paper_later : (p : Paper) → is_sound_paper t p ≡ true → is_sound_paper u p ≡ true
  paper_later p e =
      let closed = and_parts _ (not p.is_open || is_notice p.sort) e in
      let terms = and_parts _ (has_sound_terms p) closed.0 in
      let text = and_parts _ (has_sound_text p) terms.0 in
      let days = and_parts _ (has_sound_days p) text.0 in
      let dated = and_parts _ (nat_le p.day t.desk.last) days.0 in
      let there = and_parts (has_file t p.file) (has_party t p.author) dated.0 in
      let late = le-leb p.day u.desk.last (omega (arith, l.last, leb-true p.day t.desk.last dated.1)) in
      and_from _ _ (and_from _ _ (and_from _ _ (and_from _ _ (and_from _ _ (and_from _ _ (l.file p.file there.0) (l.party p.author there.1)) late)
      days.1) text.1) terms.1) closed.1
