-- What a taker took of the rows found among some files.
use Rattle.std.proofs.Common.{◌≡◌, ◌<◌, ◌+◌, ◌^◌, ◌%◌, ℕ, Bool, true, false, List, [], ◌∷◌, ◌++◌, length, get_or, take, drop, refl, sym, ◌∙◌, ap, subst, arith, length-append}
use Rattle.std.specs.Prelude.{Result, Ok, Err, IsErr}
use Rattle.std.proofs.lemmas.List.{take_more, append-nil, take-append-drop, append_assoc}
use Rattle.permit_base.specs.declared.route.Route.{Route}
use Rattle.permit_core.specs.Taking.{TookAll}
use Rattle.permit_model.specs.Routes.{Found}
use Rattle.permit_model.specs.Tables.{Tables}
use Rattle.permit_store.specs.Handing.{more_handed}
use Rattle.permit_mirror.specs.Search.{found_one, found_at, HandsOut}

-- it took one more
took_more : {T I : Type 0} (took : T → I → T → Bool → Type 0) (items : List I) (item : I) (a b c : T) → TookAll took items a b → took b item c true →
    TookAll took (items ++ item ∷ []) a c
took_more took [] item a b c e t = (c, subst (λ x. took x item c true) e t, refl)
took_more took (first ∷ items) item a b c w t = (w.0, w.1, took_more took items item w.0 b c w.2 t)

-- one more is counted
count_more : (items : List Found) (item : Found) (n m : ℕ) → m ≡ more_handed (length items) n → (m + 1) % 2 ^ 64 ≡ more_handed (length (items ++ item ∷ [])) n
count_more items item n m e = rw (length-append items (item ∷ []), e) (omega arith)

-- The taker took the rows found, and each was counted.
pub record IsHanded {T : Type 0} (took : T → Found → T → Bool → Type 0) (holds : Tables → Type 0) (all : Tables → List Found) (old new : ℕ)
    (before after : T) : Type 0 where
  pub given : List Found
  pub taken : TookAll took given before after
  pub count : new ≡ more_handed (length given) old
  pub found : (t : Tables) → holds t → given ≡ all t

module _ (routes : List Route) (caller day : ℕ) (t : Tables) where
  at_append : (xs ys : List ℕ) → found_at routes caller day t (xs ++ ys) ≡ found_at routes caller day t xs ++ found_at routes caller day t ys
  at_append [] ys = refl
  at_append (x ∷ xs) ys =
      ap (λ found. found_one routes caller day t x ++ found) (at_append xs ys)
      ∙ sym (append_assoc (found_one routes caller day t x) (found_at routes caller day t xs) (found_at routes caller day t ys))

  -- the rows of one file more
  at_more : (numbers : List ℕ) (i : ℕ) (d : ℕ) (found : List Found) → i < length numbers → found ≡ found_one routes caller day t (get_or numbers i d)
      → found_at routes caller day t (take (i + 1) numbers) ≡ found_at routes caller day t (take i numbers) ++ found
  at_more numbers i d found h e =
      ap (found_at routes caller day t) (take_more numbers i d h)
      ∙ at_append (take i numbers) (get_or numbers i d ∷ [])
      ∙ ap (λ f. found_at routes caller day t (take i numbers) ++ f) (append-nil (found_one routes caller day t (get_or numbers i d)) ∙ sym e)

  -- the rows of the files before and from a place
  at_split : (numbers : List ℕ) (i : ℕ) → found_at routes caller day t (take i numbers) ++ found_at routes caller day t (drop i numbers)
      ≡ found_at routes caller day t numbers
  at_split numbers i = sym (at_append (take i numbers) (drop i numbers)) ∙ ap (found_at routes caller day t) (take-append-drop i numbers)

module _ {T : Type 0} (took : T → Found → T → Bool → Type 0) (holds : Tables → Type 0) (routes : List Route) (caller day : ℕ) (numbers : List ℕ) (n : ℕ) (a : T)
  where
    -- what is handed of the files before a place
    abbrev pub HandedTo : ℕ → ℕ → T → Type 0
    HandedTo i m b = IsHanded took holds (λ t. found_at routes caller day t (take i numbers)) n m a b

    -- what is found of the file at a place
    abbrev pub FindsAt : ℕ → ℕ → List Found → Type 0
    FindsAt i d found = (t : Tables) → holds t → found ≡ found_one routes caller day t (get_or numbers i d)

    -- the next file isn't found
    pub handed_none : (i d m : ℕ) (b : T) → i < length numbers → FindsAt i d [] → HandedTo i m b → HandedTo (i + 1) m b
    handed_none i d m b h e p = record {
      given = p.given;
      taken = p.taken;
      count = p.count;
      found = λ t k. p.found t k ∙ sym (append-nil (found_at routes caller day t (take i numbers))) ∙ sym (at_more routes caller day t numbers i d [] h (e t k));
    }

    -- the next file is found, and the taker goes on
    pub handed_one : (i d m : ℕ) (b c : T) (item : Found) → i < length numbers → FindsAt i d (item ∷ []) → HandedTo i m b → took b item c true →
        HandedTo (i + 1) ((m + 1) % 2 ^ 64) c
    handed_one i d m b c item h e p one = record {
      given = p.given ++ item ∷ [];
      taken = took_more took p.given item a b c p.taken one;
      count = count_more p.given item n m p.count;
      found = λ t k. ap (λ given. given ++ item ∷ []) (p.found t k) ∙ sym (at_more routes caller day t numbers i d (item ∷ []) h (e t k));
    }

    abbrev pub HandsOutOf : {E : Type 0} → ℕ → T → Result Bool E → Type 0
    HandsOutOf m b result = HandsOut took holds (λ t. found_at routes caller day t numbers) n m a b result

    -- the next file is found, and the taker stops
    pub handed_last : {E : Type 0} (i d m : ℕ) (b c : T) (item : Found) → i < length numbers → FindsAt i d (item ∷ []) → HandedTo i m b → took b item c false →
        HandsOutOf {E = E} ((m + 1) % 2 ^ 64) c (Ok false)
    handed_last i d m b c item h e p one = record {
      given = p.given ++ item ∷ [];
      taken = (p.given, item, refl, b, p.taken, one);
      count = count_more p.given item n m p.count;
      whole = λ t k. (
        found_at routes caller day t (drop (i + 1) numbers),
        tt,
        ap (λ given. given ++ item ∷ [] ++ found_at routes caller day t (drop (i + 1) numbers)) (p.found t k)
            ∙ ap (λ given. given ++ found_at routes caller day t (drop (i + 1) numbers)) (sym (at_more routes caller day t numbers i d (item ∷ []) h (e t k)))
            ∙ at_split routes caller day t numbers (i + 1),
      );
    }

    -- an error ends it
    pub handed_err : {E : Type 0} (i m : ℕ) (b : T) (result : Result Bool E) → IsErr result → HandedTo i m b → HandsOutOf m b result
    handed_err i m b (Ok all) e p = cc
    handed_err i m b (Err error) e p = record {
      given = p.given;
      taken = p.taken;
      count = p.count;
      whole = λ t k. (
        found_at routes caller day t (drop i numbers),
        tt,
        ap (λ given. given ++ found_at routes caller day t (drop i numbers)) (p.found t k) ∙ at_split routes caller day t numbers i,
      );
    }

    -- the files end it
    pub handed_all : {E : Type 0} (m : ℕ) (b : T) → IsHanded took holds (λ t. found_at routes caller day t numbers) n m a b → HandsOutOf {E = E} m b (Ok true)
    handed_all m b p = record {
      given = p.given;
      taken = p.taken;
      count = p.count;
      whole = λ t k. ([], refl, append-nil p.given ∙ p.found t k);
    }

    pub handed_nothing : n < 2 ^ 64 → HandedTo 0 n a
    handed_nothing few = record { given = []; taken = refl; count = omega arith; found = λ _ _. refl }
