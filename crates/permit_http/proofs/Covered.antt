-- What the spans of a message cover, as its bytes grow.
use Rattle.std.proofs.Common.{◌≡◌, ℕ, ◌+◌, ◌-◌, ◌≤◌, List, ◌++◌, length, take, drop, map, Bool, Option, Some, None, Ok, codes, IfSome, subst, refl}
use Rattle.std.proofs.Common.{sym, ap, ◌∙◌, arith}
use Rattle.std.proofs.lemmas.List.{take-append-le, drop-append-le, take-append-drop, length-take, length-drop, length-append}
use Rattle.std.specs.Option.{option_map, ForSome}
use Rattle.httparse.specs.Grammar.{RequestHead, print_request}
use Rattle.httparse.specs.Spans.{span_bytes, header_bytes, IsWithin, IsRequestWithin}
use Rattle.httparse.specs.declared.spans.Span.{Span}
use Rattle.httparse.specs.declared.spans.HeaderSpan.{HeaderSpan}
use Rattle.httparse.specs.declared.spans.RequestSpans.{RequestSpans}
use Rattle.permit_http.specs.Head.{HeadAt, judged, values_named, only, closes, head_limit}
use Rattle.permit_http.specs.Message.{MessageData}
use Rattle.permit_http.specs.Spans.{IsFound, Covers, AreOrdered}
use Rattle.permit_http.specs.declared.message.MessageSpans.{MessageSpans}
use Rattle.permit_http.proofs.Streams.{head-append}

-- a span covers the same bytes when more follow
pub span-append : (bytes more : List ℕ) (s : Span) (n : ℕ) → IsWithin n s → n ≤ length bytes → span_bytes (bytes ++ more) s ≡ span_bytes bytes s
span-append bytes more s n w le =
    ap (take (s.end - s.start)) (drop-append-le s.start bytes more (omega (arith, w.0, w.1)))
    ∙ take-append-le (s.end - s.start) (drop s.start bytes) more (omega (arith, w.0, w.1, length-drop s.start bytes))

-- and when they are cut after it
pub span-take : (bytes : List ℕ) (m : ℕ) (s : Span) (n : ℕ) → IsWithin n s → n ≤ m → n ≤ length bytes → span_bytes bytes s ≡ span_bytes (take m bytes) s
span-take bytes m s n w le long =
    ap (λ x. span_bytes x s) (sym (take-append-drop m bytes))
    ∙ span-append (take m bytes) (drop m bytes) s n w (omega (arith, length-take m bytes))

option-append : (bytes more : List ℕ) (o : Option Span) (n : ℕ) → ForSome o (λ v. IsWithin n v) → n ≤ length bytes
    → option_map (λ v. span_bytes (bytes ++ more) v) o ≡ option_map (λ v. span_bytes bytes v) o
option-append bytes more None n w le = refl
option-append bytes more (Some s) n w le = ap Some (span-append bytes more s n (w s refl) le)

option-take : (bytes : List ℕ) (m : ℕ) (o : Option Span) (n : ℕ) → ForSome o (λ v. IsWithin n v) → n ≤ m → n ≤ length bytes
    → option_map (λ v. span_bytes bytes v) o ≡ option_map (λ v. span_bytes (take m bytes) v) o
option-take bytes m None n w le long = refl
option-take bytes m (Some s) n w le long = ap Some (span-take bytes m s n (w s refl) le long)

-- two messages of the same parts
message_same : (m m' p p' : List ℕ) (a a' : Option (List ℕ)) (c c' : Bool) (body : List ℕ) → m ≡ m' → p ≡ p' → a ≡ a' → c ≡ c'
    → (let one : MessageData = record { method = m; path = p; authorization = a; closes = c; body = body } in
    let other : MessageData = record { method = m'; path = p'; authorization = a'; closes = c'; body = body } in one ≡ other)
message_same m m' p p' a a' c c' body e1 e2 e3 e4 = rw (e1, e2, e3, e4) refl

-- the head is no longer than the bytes that it is in
pub head_fits : (bytes : List ℕ) (h : RequestHead) (n : ℕ) → HeadAt bytes h (drop n bytes) → n ≡ length (print_request h) → n ≤ length bytes
head_fits bytes h n x e = omega (arith, e, ap length x.reads.1, length-append (print_request h) (drop n bytes))

module _ (bytes : List ℕ) (headers : List HeaderSpan) (found : RequestSpans) (h : RequestHead) (f : IsFound bytes headers found h) where
  -- the parts read off a head that was found are those of the message
  pub covers : (authorization : Option Span) (closing : Bool) (n : ℕ) → ForSome authorization (λ v. IsWithin (length (take head_limit bytes)) v)
      → option_map (λ v. span_bytes (take head_limit bytes) v) authorization
      ≡ only (values_named (codes "authorization") (map (header_bytes (take head_limit bytes)) (take found.headers headers)))
      → closing ≡ closes (map (header_bytes (take head_limit bytes)) (take found.headers headers))
      → Ok n ≡ judged found.version (map (header_bytes (take head_limit bytes)) (take found.headers headers))
      → Covers bytes (record {
        method = found.method;
        path = found.path;
        authorization = authorization;
        closes = closing;
        body = record { start = found.len; end = found.len + n };
      }) h
  covers authorization closing n within said closed judging =
      let fits = head_fits bytes h found.len f.head f.at.len in
      let small : found.len ≤ head_limit = omega (arith, f.head.short, f.at.len) in
      let size : found.len + n - found.len ≡ n = omega arith in
      record {
        head = f.head;
        size = f.at.len;
        said = λ body. message_same _ _ _ _ _ _ _ _ body
            (span-take bytes head_limit found.method found.len f.within.method small fits ∙ f.at.method)
            (span-take bytes head_limit found.path found.len f.within.path small fits ∙ f.at.path)
            (option-take bytes head_limit authorization (length (take head_limit bytes)) within
            (omega (arith, length-take head_limit bytes)) (omega (arith, length-take head_limit bytes))
            ∙ said ∙ ap (λ x. only (values_named (codes "authorization") x)) f.at.fields)
            (closed ∙ ap closes f.at.fields);
        length = sym (ap (judged h.minor) f.at.fields)
            ∙ ap (λ v. judged v (map (header_bytes (take head_limit bytes)) (take found.headers headers))) (sym f.at.version) ∙ sym judging ∙ ap Ok (sym size);
      }

-- what is covered stays covered as more bytes follow
pub covers-append : (bytes more : List ℕ) (s : MessageSpans) (h : RequestHead) → AreOrdered (length bytes) s → Covers bytes s h → Covers (bytes ++ more) s h
covers-append bytes more s h o x =
    let fits = head_fits bytes h s.body.start x.head x.size in
    record {
      head = rw (drop-append-le s.body.start bytes more fits) (head-append bytes more (drop s.body.start bytes) h x.head);
      size = x.size;
      said = λ body. message_same _ _ _ _ _ _ _ _ body
          (span-append bytes more s.method (length bytes) o.method (omega arith))
          (span-append bytes more s.path (length bytes) o.path (omega arith))
          (option-append bytes more s.authorization (length bytes) o.authorization (omega arith))
          refl ∙ x.said body;
      length = x.length;
    }

-- spans in the first bytes are in more of them
pub ordered-more : (m n : ℕ) (s : MessageSpans) → AreOrdered m s → m ≤ n → AreOrdered n s
ordered-more m n s o le = record {
  method = (o.method.0, omega (arith, o.method.1));
  path = (o.path.0, omega (arith, o.path.1));
  authorization = λ v is. let w = o.authorization v is in (w.0, omega (arith, w.1));
  body = o.body;
  limit = o.limit;
}

-- a fact of the span that is there
pub for_some : (P : Span → Type 0) (o : Option Span) → IfSome o P → ForSome o P
for_some P None h = λ v e. let none : ⊥ = cc in absurd none
for_some P (Some s) h = λ v e. let same : s ≡ v = cc in subst P same h

-- the parts read off a head lie in its bytes
pub parts_ordered : (bytes : List ℕ) (headers : List HeaderSpan) (found : RequestSpans) (authorization : Option Span) (closing : Bool) (n : ℕ)
    → IsRequestWithin (take 8192 bytes) headers found → IfSome authorization (λ v. IsWithin (length (take 8192 bytes)) v) → n ≤ 16384
    → AreOrdered (length bytes) (record {
      method = found.method;
      path = found.path;
      authorization = authorization;
      closes = closing;
      body = record { start = found.len; end = found.len + n };
    })
parts_ordered bytes headers found authorization closing n r within small =
    let few = length-take 8192 bytes in
    let fits = r.section.len_fits in
    ordered-more (length (take 8192 bytes)) (length bytes) (record {
      method = found.method;
      path = found.path;
      authorization = authorization;
      closes = closing;
      body = record { start = found.len; end = found.len + n };
    }) (record {
      method = (r.method.0, omega (arith, r.method.1, fits));
      path = (r.path.0, omega (arith, r.path.1, fits));
      authorization = for_some _ authorization within;
      body = omega arith;
      limit = omega (arith, fits, few, small);
    }) (omega (arith, few))
