-- What a taker did with a list of items.
use Rattle.std.specs.Prelude.{◌≡◌, Bool, true, false, List, [], ◌∷◌, ◌++◌}

module _ {T I : Type 0} (took : T → I → T → Bool → Type 0) where
  -- it took them all, in order, and each answer was true
  abbrev pub TookAll : List I → T → T → Type 0
  TookAll [] old new = new ≡ old
  TookAll (item ∷ items) old new = (mid : T) × took old item mid true × TookAll items mid new

  -- a prefix, whose last item was answered false
  abbrev pub StoppedIn : List I → T → T → Type 0
  StoppedIn all old new = (given : List I) × (last : I) × (rest : List I) × (all ≡ given ++ last ∷ rest) × (mid : T) × TookAll given old mid
      × took mid last new false

  -- a prefix, with each answer true
  abbrev pub BeganOf : List I → T → T → Type 0
  BeganOf all old new = (given : List I) × (rest : List I) × (all ≡ given ++ rest) × TookAll given old new
