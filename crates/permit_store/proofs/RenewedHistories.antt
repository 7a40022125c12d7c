-- A history in which a party's token is renewed is a history, where nobody has the token.
use Rattle.std.proofs.Common.{◌≡◌, ◌≤◌, ◌+◌, ℕ, ◌==◌, Bool, true, false, cond, List, [], ◌∷◌, ◌++◌, map, length, refl, sym, ap, ap₂, subst, ◌∙◌, arith}
use Rattle.std.specs.Prelude.{Option, None, Some, option_map, find, is_some, bytes_eq, nat_le, not, ◌&&◌, ◌||◌, ◌<◌, if◌then◌else◌}
use Rattle.std.specs.List.{list_any}
use Rattle.std.proofs.lemmas.Bool.{eqb-true, ne_eqb}
use Rattle.std.proofs.lemmas.Slice.Eq.{bytes_eq-Decides}
use Rattle.permit_base.specs.declared.words.Role.{Role}
use Rattle.permit_base.specs.declared.words.Role.TheVariants.{Reviewer, Inspector}
use Rattle.permit_base.specs.declared.refusal.Reason.{Reason}
use Rattle.permit_base.specs.declared.refusal.Reason.TheVariants as reason
use Rattle.permit_base.specs.declared.refusal.Refusal.TheVariants as refusal
use Rattle.permit_base.specs.declared.request.Command.{Command}
use Rattle.permit_base.specs.declared.request.Command.TheVariants.{AssignReviewer, AssignInspector, NameContractor}
use Rattle.permit_base.specs.declared.request.Request.{Request}
use Rattle.permit_base.specs.declared.request.Request.TheVariants.{AddParty, AddParcel, Transfer, Declare, ReadParcel, File, ReadFile, ListFiles, Register}
use Rattle.permit_base.specs.declared.request.Request.TheVariants.{OnFile}
use Rattle.permit_base.specs.Limits.{most_records}
use Rattle.permit_base.specs.Digests.{digest_of}
use Rattle.permit_model.specs.Search.{add_last, when, is_the_party}
use Rattle.permit_model.specs.History.{Deed, Founding, Upgrade, Accepted, History}
use Rattle.permit_model.specs.Caller.{Party, party_by, parties, who}
use Rattle.permit_model.specs.Parcels.{Parcel, Interest, owner, has_interest}
use Rattle.permit_model.specs.Files.{CaseFile, case_numbered}
use Rattle.permit_model.specs.People.{contractor}
use Rattle.permit_model.specs.Numbering.{IsNumberedFrom}
use Rattle.permit_model.specs.Admission.{first_failing, no_party, no_party_of_role, interested, facts_on, not_timed, unless_stage}
use Rattle.permit_model.specs.Admission.{file_tests, tests_on, tests, reason_against}
use Rattle.permit_model.specs.Machine.{Object, TheOffice, OneParcel, OneFile, object_of, is_there, paper_number, number_made, is_command, IsAccepted}
use Rattle.permit_model.specs.Machine.{MayFollow, IsFounding, IsHistory}
use Rattle.permit_model.specs.Renewal.{renewed_deed, renewed, with_digest, against_renewal}
use Rattle.permit_model.proofs.Numbers.{find_none_front, number_is, parties_numbered}
use Rattle.permit_store.proofs.Renewals.{told_by, edition_alike, last_day_alike, filings_alike, case_numbered_alike, parcels_alike, interests_alike, parties_renewed}
use Rattle.permit_store.proofs.Renewals.{length_alike, is_party_alike, has_role_alike}

-- ---- whom nobody is

false_end : {A : Type 0} (p : A → Bool) (xs : List A) (y : A) → find p (xs ++ y ∷ []) ≡ None → p y ≡ false
false_end p [] y none = end (p y) none
  where
    end : (b : Bool) → cond b (Some y) None ≡ None → b ≡ false
    end true none = absurd (let e = none in cc)
    end false none = refl
false_end p (x ∷ xs) y none = go (p x) none (false_end p xs y)
  where
    go : (b : Bool) → cond b (Some x) (find p (xs ++ y ∷ [])) ≡ None → (find p (xs ++ y ∷ []) ≡ None → p y ≡ false) → p y ≡ false
    go true none more = absurd (let e = none in cc)
    go false none more = more none

-- no record of a numbered list has a number after its last
none_after : {A : Type 0} (number : A → ℕ) (first : ℕ) (xs : List A) (id : ℕ) → IsNumberedFrom number first xs → first + length xs ≤ id →
    find (λ x. number x == id) xs ≡ None
none_after number first [] id numbered far = refl
none_after number first (x ∷ xs) id numbered far =
    let other : (number x == id) ≡ false = ne_eqb (number x) id (omega (arith, numbered.0, far)) in
    rw other (none_after number (first + 1) xs id numbered.1 (omega (arith, far)))

none_same : (a b : List ℕ) → bytes_eq a b ≡ false → bytes_eq b a ≡ false
none_same a b other = go (bytes_eq b a) refl
  where
    go : (r : Bool) → bytes_eq b a ≡ r → r ≡ false
    go false e = refl
    go true e = absurd (let same : b ≡ a = (bytes_eq-Decides b a).0 e in let bad : bytes_eq a b ≡ true = (bytes_eq-Decides a b).1 (sym same) in cc)

module _ (party : ℕ) (token : List ℕ) where
  abbrev digest : List ℕ
  digest = digest_of token

  abbrev HasDigest : List ℕ → Party → Bool
  HasDigest words p = bytes_eq p.digest words

  -- nobody has the words, where nobody had them and they aren't those of the new token
  none_of_others : (words : List ℕ) (ps : List Party) → bytes_eq digest words ≡ false → find (HasDigest words) ps ≡ None →
      find (HasDigest words) (map (with_digest party digest) ps) ≡ None
  none_of_others words [] other none = refl
  none_of_others words (p ∷ ps) other none = go (HasDigest words p) refl none (none_of_others words ps other) (p.id == party)
    where
      go : (b : Bool) → HasDigest words p ≡ b → cond b (Some p) (find (HasDigest words) ps) ≡ None →
          (find (HasDigest words) ps ≡ None → find (HasDigest words) (map (with_digest party digest) ps) ≡ None) → (is : Bool) →
          cond (HasDigest words (cond is (record p { digest = digest }) p)) (Some (cond is (record p { digest = digest }) p))
          (find (HasDigest words) (map (with_digest party digest) ps)) ≡ None
      go true e gone more is = absurd (let bad = gone in cc)
      go false e gone more true = rw other (more gone)
      go false e gone more false = rw e (more gone)

  -- nor where nobody has the number
  none_numbered : (words : List ℕ) (ps : List Party) → find (λ (p : Party). p.id == party) ps ≡ None → find (HasDigest words) ps ≡ None →
      find (HasDigest words) (map (with_digest party digest) ps) ≡ None
  none_numbered words [] away none = refl
  none_numbered words (p ∷ ps) away none = go (p.id == party) away (HasDigest words p) refl none (none_numbered words ps)
    where
      go : (is : Bool) → cond is (Some p) (find (λ (q : Party). q.id == party) ps) ≡ None → (b : Bool) → HasDigest words p ≡ b →
          cond b (Some p) (find (HasDigest words) ps) ≡ None →
          (find (λ (q : Party). q.id == party) ps ≡ None → find (HasDigest words) ps ≡ None →
          find (HasDigest words) (map (with_digest party digest) ps) ≡ None) →
          cond (HasDigest words (cond is (record p { digest = digest }) p)) (Some (cond is (record p { digest = digest }) p))
          (find (HasDigest words) (map (with_digest party digest) ps)) ≡ None
      go true gone b e left more = absurd (let bad = gone in cc)
      go false gone true e left more = absurd (let bad = left in cc)
      go false gone false e left more = rw e (more gone left)

  -- ---- the tests that a renewal leaves

  owner_alike : (h : History) (id : ℕ) → owner (renewed party token h) id ≡ owner h id
  owner_alike h id = ap (λ ps. option_map (λ (p : Parcel). p.owner) (find (λ (p : Parcel). p.id == id) ps)) (parcels_alike party token h)

  interest_alike : (h : History) (id caller : ℕ) → has_interest (renewed party token h) id caller ≡ has_interest h id caller
  interest_alike h id caller = ap (list_any (λ (i : Interest). (i.parcel == id) && (i.party == caller))) (interests_alike party token h)

  no_party_alike : (h : History) (id : ℕ) → no_party (renewed party token h) id ≡ no_party h id
  no_party_alike h id = ap (λ b. (not b, reason.Person)) (is_party_alike party token h id)

  no_role_alike : (h : History) (role : Role) (id : ℕ) → no_party_of_role (renewed party token h) role id ≡ no_party_of_role h role id
  no_role_alike h role id = ap (λ b. (not b, reason.Person)) (has_role_alike party token h role id)

  interested_alike : (h : History) (file : CaseFile) (id : ℕ) → interested (renewed party token h) file id ≡ interested h file id
  interested_alike h file id =
      ap₂ (λ mine declared. ((file.filing.applicant == id) || is_the_party (contractor file.acts) id || is_the_party mine id || declared, reason.Interested))
      (owner_alike h file.filing.parcel) (interest_alike h file.filing.parcel id)

  file_tests_alike : (h : History) (day : ℕ) (file : CaseFile) (command : Command) →
      file_tests (renewed party token h) day file command ≡ file_tests h day file command
  file_tests_alike h day file (AssignReviewer id) =
      ap₂ (λ a b. unless_stage (facts_on day file).reviewing ∷ a ∷ b ∷ []) (no_role_alike h Reviewer id) (interested_alike h file id)
  file_tests_alike h day file (AssignInspector id) =
      ap₂ (λ a b. unless_stage (facts_on day file).inspecting ∷ a ∷ b ∷ []) (no_role_alike h Inspector id) (interested_alike h file id)
  file_tests_alike h day file (NameContractor id) = ap (λ a. not_timed day file ∷ a ∷ []) (no_party_alike h id)
  file_tests_alike h day file command = refl

  tests_on_alike : (h : History) (day : ℕ) (file : Option CaseFile) (command : Command) →
      tests_on (renewed party token h) day file command ≡ tests_on h day file command
  tests_on_alike h day None command = refl
  tests_on_alike h day (Some file) command = file_tests_alike h day file command

  -- whether the request makes a party
  abbrev is_for_party : Request → Bool
  is_for_party (AddParty name role before) = true
  is_for_party (AddParcel lot address to) = false
  is_for_party (Transfer parcel to) = false
  is_for_party (Declare parcel) = false
  is_for_party (ReadParcel parcel) = false
  is_for_party (File parcel kind valuation description) = false
  is_for_party (ReadFile file) = false
  is_for_party (ListFiles filter) = false
  is_for_party (Register kind) = false
  is_for_party (OnFile file command) = false

  tests_alike : (h : History) (day caller : ℕ) (request : Request) → is_for_party request ≡ false →
      tests (renewed party token h) day caller request ≡ tests h day caller request
  tests_alike h day caller (AddParty name role before) other = absurd (let bad = other in cc)
  tests_alike h day caller (AddParcel lot address to) other =
      ap₂ (λ a ps. a ∷ (list_any (λ (p : Parcel). bytes_eq p.lot lot) ps, reason.Taken) ∷ (nat_le most_records (length ps), reason.Full) ∷ [])
      (no_party_alike h to) (parcels_alike party token h)
  tests_alike h day caller (Transfer parcel to) other =
      ap₂ (λ a o. a ∷ (is_the_party o to, reason.Taken) ∷ []) (no_party_alike h to) (owner_alike h parcel)
  tests_alike h day caller (Declare parcel) other = ap (λ b. (b, reason.Taken) ∷ []) (interest_alike h parcel caller)
  tests_alike h day caller (File parcel kind valuation description) other =
      ap (λ fs. (nat_le most_records (length fs), reason.Full) ∷ []) (filings_alike party token h)
  tests_alike h day caller (OnFile file command) other =
      ap (λ o. tests_on (renewed party token h) day o command) (case_numbered_alike party token h file)
      ∙ tests_on_alike h day (case_numbered h file) command
  tests_alike h day caller request other = refl

  there_alike : (h : History) (object : Object) → is_there (renewed party token h) object ≡ is_there h object
  there_alike h TheOffice = refl
  there_alike h (OneParcel id word) = ap (λ ps. is_some (find (λ (p : Parcel). p.id == id) ps)) (parcels_alike party token h)
  there_alike h (OneFile id) = ap is_some (case_numbered_alike party token h id)

  number_alike : (h : History) (request : Request) → number_made (renewed party token h) request ≡ number_made h request
  number_alike h (AddParty name role before) = ap (λ n. Some (n + 1)) (length_alike party token h)
  number_alike h (AddParcel lot address to) = ap (λ ps. Some (length ps + 1)) (parcels_alike party token h)
  number_alike h (File parcel kind valuation description) = ap (λ fs. Some (length fs + 1)) (filings_alike party token h)
  number_alike h (OnFile file command) = ap (paper_number command) (case_numbered_alike party token h file)
  number_alike h request = refl

  -- ---- what may follow

  -- a request that was accepted is accepted, where there is no reason against it
  accepted : (h : History) (caller day : ℕ) (deed other : Deed) (number : Option ℕ) (request more : Request) →
      is_command more ≡ is_command request → object_of more ≡ object_of request →
      number_made (renewed party token h) more ≡ number_made h request →
      reason_against (renewed party token h) day caller more ≡ None →
      IsAccepted h (record { caller = caller; day = day; deed = deed; number = number }) request →
      IsAccepted (renewed party token h) (record { caller = caller; day = day; deed = other; number = number }) more
  accepted h caller day deed other number request more command object made admitted a = record {
    command = command ∙ a.command;
    caller_there = is_party_alike party token h caller ∙ a.caller_there;
    in_time = subst (λ last. last ≤ day) (sym (last_day_alike party token h)) a.in_time;
    record_there = there_alike h (object_of more) ∙ ap (is_there h) object ∙ a.record_there;
    admitted = admitted;
    numbered = a.numbered ∙ sym made;
  }

  -- a deed that makes no party is as it was
  other_follows : (h : History) (caller day : ℕ) (request : Request) (number : Option ℕ) → is_for_party request ≡ false →
      renewed_deed party token (Accepted request) number ≡ Accepted request →
      IsAccepted h (record { caller = caller; day = day; deed = Accepted request; number = number }) request →
      MayFollow (renewed party token h)
      (record { caller = caller; day = day; deed = renewed_deed party token (Accepted request) number; number = number })
      (renewed_deed party token (Accepted request) number)
  other_follows h caller day request number other same a =
      subst (λ d. MayFollow (renewed party token h) (record { caller = caller; day = day; deed = d; number = number }) d) (sym same)
      (accepted h caller day (Accepted request) (Accepted request) number request request refl refl (number_alike h request)
      (ap first_failing (tests_alike h day caller request other) ∙ a.admitted) a)

  none_fails : (a b : Bool) (x y : Reason) → first_failing ((a, x) ∷ (b, y) ∷ []) ≡ None → (a ≡ false) × (b ≡ false)
  none_fails true b x y none = absurd (let bad = none in cc)
  none_fails false true x y none = absurd (let bad = none in cc)
  none_fails false false x y none = (refl, refl)

  some_none : {A : Type 0} (o : Option A) → is_some o ≡ false → o ≡ None
  some_none None e = refl
  some_none (Some x) e = absurd (let bad = e in cc)

  -- a party that was added is added with the token that it then has
  party_follows : (h : History) (caller day id : ℕ) (name : List ℕ) (role : Role) (before now : List ℕ) (other : Deed) →
      find (HasDigest (digest_of now)) (map (with_digest party digest) (parties h)) ≡ None →
      IsAccepted h (record { caller = caller; day = day; deed = Accepted (AddParty name role before); number = Some id }) (AddParty name role before) →
      IsAccepted (renewed party token h) (record { caller = caller; day = day; deed = other; number = Some id }) (AddParty name role now)
  party_follows h caller day id name role before now other none a =
      let tested = none_fails _ _ reason.Taken reason.Full a.admitted in
      let nobody : is_some (who (renewed party token h) (digest_of now)) ≡ false =
      ap (λ ps. is_some (find (HasDigest (digest_of now)) ps)) (parties_renewed party token h) ∙ ap is_some none in
      let room : nat_le most_records (length (parties (renewed party token h))) ≡ false = ap (nat_le most_records) (length_alike party token h) ∙ tested.1 in
      accepted h caller day (Accepted (AddParty name role before)) other (Some id) (AddParty name role before) (AddParty name role now) refl refl
      (number_alike h (AddParty name role before))
      (ap₂ (λ x y. first_failing ((x, reason.Taken) ∷ (y, reason.Full) ∷ [])) nobody room) a

  added_follows : (h : History) (caller day id : ℕ) (name : List ℕ) (role : Role) (before : List ℕ) (b : Bool) → (id == party) ≡ b → IsHistory h →
      find (HasDigest digest) (parties h ++ record { id = id; name = name; role = role; digest = digest_of before } ∷ []) ≡ None →
      IsAccepted h (record { caller = caller; day = day; deed = Accepted (AddParty name role before); number = Some id }) (AddParty name role before) →
      MayFollow (renewed party token h)
      (record { caller = caller; day = day; deed = cond b (Accepted (AddParty name role token)) (Accepted (AddParty name role before)); number = Some id })
      (cond b (Accepted (AddParty name role token)) (Accepted (AddParty name role before)))
  added_follows h caller day id name role before true e is none a =
      let place : id ≡ length (parties h) + 1 = number_is id (length (parties h) + 1) a.numbered in
      let same : id ≡ party = eqb-true id party e in
      let away = none_after (λ (p : Party). p.id) 1 (parties h) party (parties_numbered h is) (omega (arith, place, same)) in
      party_follows h caller day id name role before token (Accepted (AddParty name role token))
      (none_numbered digest (parties h) away (find_none_front (HasDigest digest) (parties h) _ none)) a
  added_follows h caller day id name role before false e is none a =
      let tested = none_fails _ _ reason.Taken reason.Full a.admitted in
      let apart : bytes_eq digest (digest_of before) ≡ false =
      none_same (digest_of before) digest
      (false_end (HasDigest digest) (parties h) (record { id = id; name = name; role = role; digest = digest_of before }) none) in
      party_follows h caller day id name role before before (Accepted (AddParty name role before))
      (none_of_others (digest_of before) (parties h) apart (some_none (who h (digest_of before)) tested.0)) a

  follows : (h : History) (caller day : ℕ) (deed : Deed) (number : Option ℕ) → IsHistory h →
      who (record { caller = caller; day = day; deed = deed; number = number } ∷ h) digest ≡ None →
      MayFollow h (record { caller = caller; day = day; deed = deed; number = number }) deed →
      MayFollow (renewed party token h) (record { caller = caller; day = day; deed = renewed_deed party token deed number; number = number })
      (renewed_deed party token deed number)
  follows h caller day (Founding name before) number is none may = absurd may
  follows h caller day Upgrade None is none may = record {
    nobody = may.nobody;
    same_day = may.same_day ∙ sym (last_day_alike party token h);
    numberless = may.numberless;
    once = edition_alike party token h ∙ may.once;
  }
  follows h caller day Upgrade (Some id) is none may = absurd (let bad = may.numberless in cc)
  follows h caller day (Accepted (AddParty name role before)) None is none may = absurd (let bad = may.numbered in cc)
  follows h caller day (Accepted (AddParty name role before)) (Some id) is none may =
      added_follows h caller day id name role before (id == party) refl is none may
  follows h caller day (Accepted request) None is none may = other_follows h caller day request None refl refl may
  follows h caller day (Accepted request) (Some id) is none may =
      other_follows h caller day request (Some id) refl (told_by party token (λ d. d) (Accepted request) (id == party) refl) may

  founding_by : (name before : List ℕ) (caller day id : ℕ) (b : Bool) → 0 < day → Some id ≡ Some 1 →
      IsFounding (record { caller = caller; day = day; deed = cond b (Founding name digest) (Founding name before); number = Some id })
      (cond b (Founding name digest) (Founding name before))
  founding_by name before caller day id true late first = (late, first)
  founding_by name before caller day id false late first = (late, first)

  founds : (caller day : ℕ) (deed : Deed) (number : Option ℕ) → IsFounding (record { caller = caller; day = day; deed = deed; number = number }) deed →
      IsFounding (record { caller = caller; day = day; deed = renewed_deed party token deed number; number = number }) (renewed_deed party token deed number)
  founds caller day (Founding name before) None is = is
  founds caller day (Founding name before) (Some id) is = founding_by name before caller day id (id == party) is.0 is.1
  founds caller day Upgrade number is = absurd is
  founds caller day (Accepted request) number is = absurd is

  -- nobody had the words before the entry
  nobody_before : (words : List ℕ) (ps : List Party) (o : Option Party) → find (HasDigest words) (add_last ps o) ≡ None → find (HasDigest words) ps ≡ None
  nobody_before words ps None none = none
  nobody_before words ps (Some p) none = find_none_front (HasDigest words) ps (p ∷ []) none

  pub renewed_is : (h : History) → IsHistory h → who h digest ≡ None → IsHistory (renewed party token h)
  renewed_is [] is none = absurd is
  renewed_is (entry ∷ []) is none = founds entry.caller entry.day entry.deed entry.number is
  renewed_is (entry ∷ last ∷ before) is none = (
    follows (last ∷ before) entry.caller entry.day entry.deed entry.number is.1 none is.0,
    renewed_is (last ∷ before) is.1 (nobody_before digest (parties (last ∷ before)) (party_by entry.deed entry.number) none),
  )

  not_taken : (a b : Option Party) → (if is_some a then when (is_some b) (refusal.NotAdmitted reason.Taken) else Some refusal.Record) ≡ None → b ≡ None
  not_taken None b none = absurd (let bad = none in cc)
  not_taken (Some p) None none = refl
  not_taken (Some p) (Some q) none = absurd (let bad = none in cc)

  -- a history in which the party had the token is one, where there is no reason against it
  pub renewed_follows : (h : History) → IsHistory h → against_renewal (parties h) party digest ≡ None → IsHistory (renewed party token h)
  renewed_follows h is none = renewed_is h is (not_taken (find (λ (p : Party). p.id == party) (parties h)) (who h digest) none)
