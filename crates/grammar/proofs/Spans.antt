-- All spans of a message in one list, so that a fact of every span is said once.
use Prim.Native.Nat.{ℕ, ◌+◌, ◌<◌, ◌≤◌}
use mathlib.Core.Path.{◌≡◌}
use mathlib.Core.List.{List, [], ◌∷◌}
use mathlib.Core.Logic.{inl, inr}
use native.Mathlib.Omega.{arith}
use Rattle.grammar.specs.declared.Span.{Span}
use Rattle.grammar.specs.declared.Message.{Message}
use Rattle.grammar.specs.Span.{span_from}
use Rattle.grammar.proofs.Places.{Spot, wide}
use Rattle.grammar.proofs.Places.Spot.{absent, present}
use Rattle.grammar.proofs.PartPlaces.{Between}
use Rattle.grammar.proofs.Found.{start_of, end_of, Inside, Next, FoundIn}

-- the four parts, the header's eleven spans, caPubs and the entry's four
unfoldable pub spans_of : Message → List Span
spans_of f =
    f.header_span
    ∷ f.body_span
    ∷ f.protection
    ∷ f.extra_certs
    ∷ f.header.sender
    ∷ f.header.recipient
    ∷ f.header.message_time
    ∷ f.header.protection_alg
    ∷ f.header.sender_kid
    ∷ f.header.recip_kid
    ∷ f.header.transaction_id
    ∷ f.header.sender_nonce
    ∷ f.header.recip_nonce
    ∷ f.header.free_text
    ∷ f.header.general_info
    ∷ f.body.ca_pubs
    ∷ f.body.entry.cert_hash
    ∷ f.body.entry.hash_alg
    ∷ f.body.entry.certificate
    ∷ f.body.entry.request
    ∷ []

-- P holds of each of a list
pub data All {A : Type 0} (P : A → Type 0) : List A → Type 0 where
  end : All P []
  ◌&◌ : {a : A} {l : List A} → P a → All P l → All P (a ∷ l)

infixr 5 ◌&◌
pub all_of : {A : Type 0} {P Q : A → Type 0} → ((a : A) → P a → Q a) → {l : List A} → All P l → All Q l
all_of f end = end
all_of f (◌&◌ {a = a} p e) = f a p & all_of f e

-- what lies in a part lies in what holds the part
through : {a b from to x y : ℕ} → Spot a b from to → Spot from to x y → Spot a b x y
through (absent p q) (absent r s) = absent r s
through (absent p q) (present r s t) = absent (omega arith) (omega arith)
through (present p q r) (absent s t) = absent s t
through (present p q r) (present s t u) = present (omega arith) t (omega arith)

lift : {n b x y : ℕ} → b ≤ n → 0 < x → Spot 0 b x y → Spot 1 n x y
lift h k (absent p q) = absent p q
lift h k (present p q r) = present k q (omega arith)

lift_next : {n b e : ℕ} (s : Span) → b ≤ n → 0 < e → Between 0 b s → Next e s → Between 1 n s
lift_next s h k i (inl p) = absent p.0 (omega arith)
lift_next s h k i (inr p) = lift h (omega arith) i

-- each of the twenty spans is absent or lies in the message of n bytes, above its first byte
pub spans_between : {n : ℕ} {f : Message} → FoundIn n f → All (Between 1 n) (spans_of f)
unfolding spans_of
spans_between {n} {f} w =
    let h = w.header in
    let c = w.body in
    let head : Between 1 n f.header_span = lift (omega arith) w.above w.header_span in
    let body : Between 1 n f.body_span = lift (omega arith) (omega (arith, w.above, w.body_next)) w.body_span in
    let after : 0 < end_of f.body_span = omega (arith, w.above, w.body_next) in
    head
    & body
    & lift_next f.protection (omega arith) after w.protection w.protection_next
    & lift_next {e = end_of f.body_span + f.protection.len} f.extra_certs (omega arith) (omega arith) w.extra_certs w.extra_next
    & through head h.sender
    & through head h.recipient
    & through head h.message_time
    & through head h.protection_alg
    & through head h.sender_kid
    & through head h.recip_kid
    & through head h.transaction_id
    & through head h.sender_nonce
    & through head h.recip_nonce
    & through head h.free_text
    & through head h.general_info
    & through body c.pubs
    & through body c.entry.cert_hash
    & through body c.entry.hash_alg
    & through body c.entry.certificate
    & through body c.entry.request
    & end

-- EVERY SPAN: each of the twenty lies inside the message of n bytes
pub spans_inside_lem : {n : ℕ} {f : Message} → FoundIn n f → All (Inside (span_from 0 n)) (spans_of f)
spans_inside_lem w = all_of (λ s. wide (omega arith) (omega arith)) (spans_between w)

tells : {n x k : ℕ} → Spot 1 n x (x + k) → x ≡ 0 → k ≡ 0
tells (absent p q) e = omega arith
tells (present p q r) e = absurd (omega arith)

-- A SPAN AT 0 IS ABSENT: a part that is there begins above 0, so that its start tells whether it is there
pub absent_at_0 : {n : ℕ} {f : Message} → FoundIn n f → All (λ s. start_of s ≡ 0 → s.len ≡ 0) (spans_of f)
absent_at_0 {n} w = all_of (λ s. tells {n = n} {k = s.len}) (spans_between w)
