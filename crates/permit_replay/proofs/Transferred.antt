-- What is said of tables is said of those that are alike.
use Rattle.std.proofs.Common.{◌≡◌, ℕ, ◌+◌, ◌==◌, Bool, true, false, cond, List, [], ◌∷◌, ◌++◌, map, filter, find, refl, sym, ◌∙◌, ap, subst, arith}
use Rattle.std.specs.Prelude.{◌&&◌, ◌||◌, Option, None, Some, Result, Ok, Err}
use Rattle.std.specs.List.{list_any}
use Rattle.permit_model.specs.Parcels.{Interest}
use Rattle.permit_base.specs.declared.refusal.Refusal.{Refusal}
use Rattle.permit_model.specs.Renewal.{against_renewal, with_digest, with_renewed}
use Rattle.permit_model.specs.Tables.{Desk, FileRow, Paper, Tables}
use Rattle.permit_store.specs.Changes.{Fits, changed, closed_by, given_to, paper_of, papers_after, suits, suits_effect, suits_row, with_state}
use Rattle.permit_store.specs.Frames.{StoreView}
use Rattle.permit_store.specs.Interests.{DeclareSame, is_declared}
use Rattle.permit_store.specs.declared.change.Change.{Change}
use Rattle.permit_store.specs.declared.change.Change.TheVariants.{NewParty, NewParcel, NewOwner, NewInterest, NewFile, NewRow}
use Rattle.permit_store.specs.declared.change.RowEffect.{RowEffect}
use Rattle.permit_store.specs.declared.change.RowEffect.TheVariants as effect
use Rattle.permit_store.specs.Renewing.{Renews}
use Rattle.permit_store.specs.declared.store.StoreError.{StoreError}
use Rattle.permit_replay.specs.Alike.{AreAlike, unordered}

-- ---- rows

any_either : (open_notice : Paper → Bool) (p : Paper) (ps : List Paper) (there : Bool) (rest : Bool) → list_any open_notice ps ≡ rest →
    ((there && open_notice p) || rest) ≡ list_any open_notice (cond there (p ∷ ps) ps)
any_either open_notice p ps true rest e = ap (λ b. open_notice p || b) (sym e)
any_either open_notice p ps false rest e = sym e

any_of_file : (file : ℕ) (open_notice : Paper → Bool) (ps : List Paper)
    → list_any (λ p. (p.file == file) && open_notice p) ps ≡ list_any open_notice (filter (λ p. p.file == file) ps)
any_of_file file open_notice [] = refl
any_of_file file open_notice (p ∷ ps) =
    any_either open_notice p (filter (λ p. p.file == file) ps) (p.file == file) (list_any (λ p. (p.file == file) && open_notice p) ps)
    (sym (any_of_file file open_notice ps))

module _ (t u : Tables) (same : AreAlike t u) where
  pub notice_alike : (file : ℕ) (open_notice : Paper → Bool)
      → list_any (λ p. (p.file == file) && open_notice p) t.papers ≡ list_any (λ p. (p.file == file) && open_notice p) u.papers
  notice_alike file open_notice =
      any_of_file file open_notice t.papers ∙ ap (list_any open_notice) (same.papers file) ∙ sym (any_of_file file open_notice u.papers)

-- ---- changes

more_declared : (parcel party : ℕ) (before : List Interest) (i : Interest)
    → is_declared parcel party (before ++ i ∷ []) ≡ (is_declared parcel party before || is_declared parcel party (i ∷ []))
more_declared parcel party [] i = refl
more_declared parcel party (x ∷ before) i = by ((x.parcel == parcel) && (x.party == party)) (more_declared parcel party before i)
  where
    by : (b : Bool) → is_declared parcel party (before ++ i ∷ []) ≡ (is_declared parcel party before || is_declared parcel party (i ∷ []))
        → (b || is_declared parcel party (before ++ i ∷ [])) ≡ ((b || is_declared parcel party before) || is_declared parcel party (i ∷ []))
    by true e = refl
    by false e = e

declare_more : (a b : List Interest) (i : Interest) → DeclareSame a b → DeclareSame (a ++ i ∷ []) (b ++ i ∷ [])
declare_more a b i same parcel party =
    more_declared parcel party a i ∙ ap (λ t. t || is_declared parcel party (i ∷ [])) (same parcel party) ∙ sym (more_declared parcel party b i)

filter_more : (file : ℕ) (ps : List Paper) (p : Paper) → filter (λ p. p.file == file) (ps ++ p ∷ []) ≡ filter (λ p. p.file == file) ps ++ filter (λ p. p.file == file) (p ∷ [])
filter_more file [] p = refl
filter_more file (x ∷ ps) p = by (x.file == file) (filter_more file ps p)
  where
    by : (b : Bool) → filter (λ p. p.file == file) (ps ++ p ∷ []) ≡ filter (λ p. p.file == file) ps ++ filter (λ p. p.file == file) (p ∷ [])
        → cond b (x ∷ filter (λ p. p.file == file) (ps ++ p ∷ [])) (filter (λ p. p.file == file) (ps ++ p ∷ []))
        ≡ cond b (x ∷ filter (λ p. p.file == file) ps) (filter (λ p. p.file == file) ps) ++ filter (λ p. p.file == file) (p ∷ [])
    by true e = ap (λ fs. x ∷ fs) e
    by false e = e

closed_file : (file number : ℕ) (p : Paper) (b : Bool) → (cond b (record p { is_open = false }) p).file ≡ p.file
closed_file file number p true = refl
closed_file file number p false = refl

filter_closed : (n file number : ℕ) (ps : List Paper)
    → filter (λ p. p.file == n) (map (closed_by file number) ps) ≡ map (closed_by file number) (filter (λ p. p.file == n) ps)
filter_closed n file number [] = refl
filter_closed n file number (x ∷ ps) =
    ap (λ m. cond (m == n) (closed_by file number x ∷ filter (λ p. p.file == n) (map (closed_by file number) ps)) (filter (λ p. p.file == n) (map (closed_by file number) ps)))
    (closed_file file number x ((x.file == file) && (x.number == number)))
    ∙ by (x.file == n) (filter_closed n file number ps)
  where
    by : (b : Bool) → filter (λ p. p.file == n) (map (closed_by file number) ps) ≡ map (closed_by file number) (filter (λ p. p.file == n) ps)
        → cond b (closed_by file number x ∷ filter (λ p. p.file == n) (map (closed_by file number) ps)) (filter (λ p. p.file == n) (map (closed_by file number) ps))
        ≡ map (closed_by file number) (cond b (x ∷ filter (λ p. p.file == n) ps) (filter (λ p. p.file == n) ps))
    by true e = ap (λ fs. closed_by file number x ∷ fs) e
    by false e = e

papers_more : (file count day n : ℕ) (e : RowEffect) (ps qs : List Paper) → filter (λ p. p.file == n) ps ≡ filter (λ p. p.file == n) qs
    → filter (λ p. p.file == n) (papers_after file count day e ps) ≡ filter (λ p. p.file == n) (papers_after file count day e qs)
papers_more file count day n effect.None ps qs same = same
papers_more file count day n (effect.Paper new) ps qs same =
    filter_more n ps (paper_of file count day new) ∙ ap (λ fs. fs ++ filter (λ p. p.file == n) (paper_of file count day new ∷ [])) same
    ∙ sym (filter_more n qs (paper_of file count day new))
papers_more file count day n (effect.NoticeClosed number) ps qs same =
    filter_closed n file number ps ∙ ap (map (closed_by file number)) same ∙ sym (filter_closed n file number qs)

pub changed_alike : (t u : Tables) (change : Change) (day : ℕ) → AreAlike t u → AreAlike (changed t change day) (changed u change day)
changed_alike t u (NewParty name role digest) day same = record {
  desk = ap (λ (d : Desk). record d { last = day; parties = d.parties + 1 }) same.desk;
  upgrade = same.upgrade;
  parties = ap (λ ps. ps ++ (record { id = t.desk.parties + 1; name = name.now; role = role; digest = digest }) ∷ []) same.parties
      ∙ ap (λ (d : Desk). u.parties ++ (record { id = d.parties + 1; name = name.now; role = role; digest = digest }) ∷ []) same.desk;
  parcels = same.parcels;
  interests = same.interests;
  files = same.files;
  papers = same.papers;
}
changed_alike t u (NewParcel lot address owner) day same = record {
  desk = ap (λ (d : Desk). record d { last = day; parcels = d.parcels + 1 }) same.desk;
  upgrade = same.upgrade;
  parties = same.parties;
  parcels = ap (λ ps. ps ++ (record { id = t.desk.parcels + 1; lot = lot.now; address = address.now; owner = owner }) ∷ []) same.parcels
      ∙ ap (λ (d : Desk). u.parcels ++ (record { id = d.parcels + 1; lot = lot.now; address = address.now; owner = owner }) ∷ []) same.desk;
  interests = same.interests;
  files = same.files;
  papers = same.papers;
}
changed_alike t u (NewOwner parcel owner) day same = record {
  desk = ap (λ (d : Desk). record d { last = day }) same.desk;
  upgrade = same.upgrade;
  parties = same.parties;
  parcels = ap (map (given_to parcel owner)) same.parcels;
  interests = same.interests;
  files = same.files;
  papers = same.papers;
}
changed_alike t u (NewInterest parcel party) day same = record {
  desk = ap (λ (d : Desk). record d { last = day }) same.desk;
  upgrade = same.upgrade;
  parties = same.parties;
  parcels = same.parcels;
  interests = declare_more t.interests u.interests (record { parcel = parcel; party = party }) same.interests;
  files = same.files;
  papers = same.papers;
}
changed_alike t u (NewFile state valuation description) day same = record {
  desk = ap (λ (d : Desk). record d { last = day; files = d.files + 1 }) same.desk;
  upgrade = same.upgrade;
  parties = same.parties;
  parcels = same.parcels;
  interests = same.interests;
  files = ap (λ fs. fs ++ (record { id = t.desk.files + 1; state = state; valuation = valuation; description = description.now }) ∷ []) same.files
      ∙ ap (λ (d : Desk). u.files ++ (record { id = d.files + 1; state = state; valuation = valuation; description = description.now }) ∷ []) same.desk;
  papers = same.papers;
}
changed_alike t u (NewRow file state e) day same = record {
  desk = ap (λ (d : Desk). record d { last = day }) same.desk;
  upgrade = same.upgrade;
  parties = same.parties;
  parcels = same.parcels;
  interests = same.interests;
  files = ap (map (with_state file state)) same.files;
  papers = λ n. papers_more file state.papers day n e t.papers u.papers (same.papers n);
}

-- whether a change suits follows from what is alike

suits_tables : (t u : Tables) (change : Change) → AreAlike t u → suits u change ≡ suits t change
suits_tables t u (NewParty name role digest) same = rw (same.desk, same.parties) refl
suits_tables t u (NewParcel lot address owner) same = rw (same.desk, same.parties, same.parcels) refl
suits_tables t u (NewOwner parcel owner) same = rw (same.parties, same.parcels) refl
suits_tables t u (NewInterest parcel party) same = rw (same.parties, same.parcels, same.interests parcel party) refl
suits_tables t u (NewFile state valuation description) same = rw (same.desk, same.parties, same.parcels) refl
suits_tables t u (NewRow file state e) same = rw same.files (row_suits t u same.parties (find (λ f. f.id == file) u.files) state e)
  where
    effect_suits : (t u : Tables) → t.parties ≡ u.parties → (before after : _) (e : RowEffect) → suits_effect u before after e ≡ suits_effect t before after e
    effect_suits t u ps before after effect.None = refl
    effect_suits t u ps before after (effect.Paper new) = rw ps refl
    effect_suits t u ps before after (effect.NoticeClosed number) = refl

    row_suits : (t u : Tables) → t.parties ≡ u.parties → (o : Option FileRow) (after : _) (e : RowEffect) → suits_row u o after e ≡ suits_row t o after e
    row_suits t u ps None after e = refl
    row_suits t u ps (Some row) after e = rw (effect_suits t u ps row.state after e) refl

pub fits_alike : (t u : Tables) (change : Change) (day : ℕ) → AreAlike t u → Fits u change day → Fits t change day
fits_alike t u change day same fits = record {
  suits = sym (suits_tables t u change same) ∙ fits.suits;
  in_time = omega (arith, ap (λ (d : Desk). d.last) same.desk, fits.in_time);
}

-- ---- renewals

-- tables that are alike stay so where a party of both gets the digest
pub renewed_alike : (party : ℕ) (digest : List ℕ) (t u : Tables) → AreAlike t u → AreAlike (with_renewed party digest t) (with_renewed party digest u)
renewed_alike party digest t u same = record {
  desk = same.desk;
  upgrade = same.upgrade;
  parties = ap (map (with_digest party digest)) same.parties;
  parcels = same.parcels;
  interests = same.interests;
  files = same.files;
  papers = same.papers;
}

pub renews : (store : StoreView) (party : ℕ) (digest : List ℕ) (t u : Tables) → AreAlike t u → (r : Result (Result (Unit {0}) Refusal) StoreError)
    → Renews store.holds party digest t r → Renews (unordered store).holds party digest u r
renews store party digest t u same (Ok (Ok done)) renewed = (
  subst (λ ps. against_renewal ps party digest ≡ None) same.parties renewed.0,
  (with_renewed party digest t, renewed.1, renewed_alike party digest t u same),
)
renews store party digest t u same (Ok (Err why)) renewed =
    (subst (λ ps. against_renewal ps party digest ≡ Some why) same.parties renewed.0, (t, renewed.1, same))
renews store party digest t u same (Err e) renewed = (t, renewed, same)
