-- What a writer was given, one write after another.
use Rattle.std.proofs.Common.{ℕ, ◌+◌, ◌<◌, ◌≤◌, List, ◌++◌, length, take, drop, Option, sym, subst, arith, length-append}
use Rattle.std.proofs.KnownBytes.{Appends-nil, Appends-trans}
use Rattle.std.proofs.Math.Seq.{take-add, take-append-add, take-append_seam}
use Rattle.std.proofs.lemmas.List.{take-append-le}
use Rattle.std.specs.Io.KnownBytes.{Appends}
use Rattle.permit_report.specs.Outgoing.{WroteFront}

-- one write after another
pub appends_more : (old mid new : Option (List ℕ)) (bs : List ℕ) (at n : ℕ)
    → Appends old mid (take at bs) → Appends mid new (take n (drop at bs)) → Appends old new (take (at + n) bs)
appends_more old mid new bs at n h k = subst (λ t. Appends old new t) (sym (take-add at n bs)) (Appends-trans old mid new (take at bs) (take n (drop at bs)) h k)

-- one text after another
pub appends_both : (old mid new : Option (List ℕ)) (a b : List ℕ) → Appends old mid a → Appends mid new b → Appends old new (a ++ b)
appends_both = Appends-trans

-- a prefix of the first text is one of both
pub front_of_first : (old new : Option (List ℕ)) (a b : List ℕ) → WroteFront old new a → WroteFront old new (a ++ b)
front_of_first old new a b h = record {
  count = h.count;
  within = omega (arith, h.within, length-append a b);
  wrote = let within : h.count ≤ length a = omega (arith, h.within) in
      rw (take-append-le h.count a b within) h.wrote;
}

-- a text, and then a prefix of the next
pub front_of_both : (old mid new : Option (List ℕ)) (a b : List ℕ) → Appends old mid a → WroteFront mid new b → WroteFront old new (a ++ b)
front_of_both old mid new a b h k = record {
  count = length a + k.count;
  within = omega (arith, k.within, length-append a b);
  wrote = rw (take-append-add a b k.count) (appends_both old mid new a (take k.count b) h k.wrote);
}

-- the empty text is a prefix of what isn't empty
pub front_of_none : (old : Option (List ℕ)) (text : List ℕ) → 0 < length text → WroteFront old old text
front_of_none old text h = record { count = 0; within = h; wrote = Appends-nil old }

-- a text, and then nothing of the next
pub front_of_whole : (old new : Option (List ℕ)) (a b : List ℕ) → 0 < length b → Appends old new a → WroteFront old new (a ++ b)
front_of_whole old new a b h k = record {
  count = length a;
  within = omega (arith, length-append a b);
  wrote = rw (take-append_seam a b) k;
}
