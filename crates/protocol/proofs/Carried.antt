-- What the steps read in a message that carries an outgoing message: the premise's words in the steps' terms.
use Rattle.std.specs.Prelude.{Some, None}
use Prim.Native.Nat.{ℕ}
use mathlib.Core.List.{List}
use mathlib.Core.Bool.{true, false}
use mathlib.Core.Option.{none, some}
use mathlib.Core.Path.{◌≡◌, refl, sym, ◌∙◌, ap}
use mathlib.Core.Logic.{◌⊎◌, inl, inr}
use Rattle.grammar.specs.declared.Span.{Span}
use Rattle.grammar.specs.declared.Message.{Message}
use Rattle.protocol.specs.Types.{GivenStatus}
use Rattle.protocol.specs.declared.Nonce.{Nonce}
use Rattle.protocol.specs.declared.Outgoing.{Outgoing}
use Rattle.protocol.specs.Message.{optional_status, optional_part, Fields, fields_of, status_or0}
use Rattle.protocol.specs.Agreement.{HasPart, Carries}
use Rattle.protocol.proofs.Tests.{other_than, some_some}

pub part_there : (bytes : List ℕ) (s : Span) (x : List ℕ) → HasPart bytes s x → optional_part bytes s ≡ some x
part_there bytes s x h = rw (other_than s.start.0 0 h.0 _ refl) (ap some h.1)

pub part-absent : (bytes : List ℕ) (s : Span) → s.start.0 ≡ 0 → optional_part bytes s ≡ none
part-absent bytes s e = rw e

nonce_of : (a b : Nonce) → a.bytes ≡ b.bytes → a ≡ b
nonce_of a b p = λ i. record { bytes = p i }

module _ (bytes : List ℕ) (m : Message) (o : Outgoing) (c : Carries bytes m o) where
  abbrev f : Fields
  f = fields_of bytes m

  pub kind_read : f.kind ≡ o.kind
  unfolding fields_of
  kind_read = c.kind

  pub id_read : f.id ≡ some o.id.bytes
  unfolding fields_of
  id_read = part_there bytes m.header.transaction_id o.id.bytes c.id

  pub sender_read : f.sender_nonce ≡ some o.sender_nonce.bytes
  unfolding fields_of
  sender_read = part_there bytes m.header.sender_nonce o.sender_nonce.bytes c.sender_nonce

  pub recip_read : (n : Nonce) → o.has_recip_nonce ≡ true → f.recip_nonce ≡ some n.bytes → o.recip_nonce ≡ n
  unfolding fields_of
  recip_read n h e = nonce_of o.recip_nonce n (some_some (sym (part_there bytes m.header.recip_nonce o.recip_nonce.bytes (c.recip_nonce h)) ∙ e))

  status_by : (m.body.entry.status ≡ Some o.contents.status) ⊎ ((m.body.kind ≡ 24) × (m.body.entry.status ≡ None) × (o.contents.status ≡ 0)) → o.contents.status ≡ status_or0 f.status
  unfolding fields_of
  status_by (inl g) = sym (ap (λ (o : GivenStatus). status_or0 (optional_status o)) g)
  status_by (inr g) = g.2 ∙ sym (ap (λ (o : GivenStatus). status_or0 (optional_status o)) g.1)

  pub status_read : o.contents.has_status ≡ true → f.entries ≡ 1 → o.contents.status ≡ status_or0 f.status
  unfolding fields_of
  status_read h e = status_by (c.status h (inr e))

  pub hash_read : f.kind ≡ 24 → f.entries ≡ 1 → o.contents.hash ≡ f.hash
  unfolding fields_of
  hash_read k e = let p : o.contents.hash.bytes ≡ f.hash.bytes = sym (c.hash k e) in λ i. record { bytes = p i }
