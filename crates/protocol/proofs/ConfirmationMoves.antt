-- Demand 2: a confirmation moves a transaction exactly when it matches.
use Rattle.std.specs.Prelude.{Ok, Some, None}
use Prim.Native.Nat.{ℕ}
use mathlib.Core.List.{List}
use mathlib.Core.Bool.{Bool, true, false, not, cond, ◌&&◌}
use mathlib.Core.Option.{Option, none, some}
use mathlib.Core.Path.{◌≡◌, refl, sym, ◌∙◌, ap, subst}
use mathlib.Core.Logic.{◌⊎◌, inl, inr}
use lib.ListN.{length}
use lib.Dec.{eqb}
use Rattle.message.specs.Read.{reading_of}
use Rattle.grammar.specs.declared.Span.{Span}
use Rattle.grammar.specs.declared.Message.{Message}
use Rattle.protocol.specs.Types.{GivenStatus}
use Rattle.protocol.specs.declared.Board.{Board}
use Rattle.protocol.specs.declared.Hash.{Hash}
use Rattle.protocol.specs.Types.{Verdict}
use Rattle.protocol.specs.declared.RegistrarInput.{RegistrarInput}
use Rattle.protocol.specs.declared.TransactionState.{TransactionState}
use Rattle.protocol.specs.declared.Transaction.{Transaction}
use Rattle.protocol.specs.declared.TransactionTable.{TransactionTable}
use Rattle.protocol.specs.declared.Outcome.{Outcome}
use Rattle.protocol.specs.declared.RegistrarAnswer.{RegistrarAnswer}
use Rattle.protocol.specs.declared.Outcome.TheVariants as outcome
use Rattle.protocol.specs.declared.TransactionState.TheVariants as at_registrar
use Rattle.protocol.specs.Bytes.{as_id}
use Rattle.grammar.specs.Span.{part_of}
use Rattle.protocol.specs.Message.{is_present, optional_part, Fields, fields_of, status_or0, optional_status, is_opening_kind}
use Rattle.protocol.specs.Table.{lookup}
use Rattle.protocol.specs.States.{settled_by, is_granted}
use Rattle.protocol.specs.Refusals.{not_sixteen, LowestRow, lowest_row, pass, stop}
use Rattle.protocol.specs.RegistrarRows.{names, confirms, registrar_rows}
use Rattle.protocol.specs.Registrar.{registrar_fields, registrar_checked, registrar_message, registrar_read, confirmed}
use Rattle.protocol.specs.Confirmation.{Sixteen, Matches, LeadsTo, Repeating, Moving}
use Rattle.der.proofs.Auto.{and_left, and_right}
use Rattle.protocol.proofs.Tests.{true_false, other_than, some_some, none_some, eqb_eq, not_false, holds_not, same_number_lem, board_eq}
use Rattle.protocol.proofs.RegistrarStates.{settled-one, is-granted}
use Rattle.protocol.proofs.Carried.{part_there}
use Rattle.protocol.proofs.RegistrarPasses.{protected_it, id_it, sender_it, recip_it, kind-is, one_it, names_it, version_it, alg_it, request_it, hash_it, known_it, same_nonce_it, takes_it, taken_by}

-- ## Parts

pub present-part : (s : Span) → is_present s ≡ true → s.start.0 ≡ 0 → ⊥
present-part s p e = true_false (sym p ∙ ap (λ (n : ℕ). not (eqb n 0)) e)

pub part-present : (s : Span) → (s.start.0 ≡ 0 → ⊥) → is_present s ≡ true
part-present s d = ap not (other_than s.start.0 0 d _ refl)

pub part_of_lem : (bytes : List ℕ) (s : Span) (x : List ℕ) (b : Bool) → is_present s ≡ b → cond b (some (part_of bytes s)) none ≡ some x → (s.start.0 ≡ 0 → ⊥) × (part_of bytes s ≡ x)
part_of_lem bytes s x true p e = (present-part s p, some_some e)
part_of_lem bytes s x false p e = none_some e

sixteen_at : (bytes : List ℕ) (s : Span) (b : Bool) → is_present s ≡ b → not_sixteen (cond b (some (part_of bytes s)) none) ≡ false → Sixteen bytes s (part_of bytes s)
sixteen_at bytes s true p e = (present-part s p, refl, eqb_eq (length (part_of bytes s)) 16 (not_false (eqb (length (part_of bytes s)) 16) e))
sixteen_at bytes s false p e = true_false e

pub sixteen : (bytes : List ℕ) (s : Span) → not_sixteen (optional_part bytes s) ≡ false → Sixteen bytes s (part_of bytes s)
sixteen bytes s e = sixteen_at bytes s (is_present s) refl e

pub is_sixteen : (x : List ℕ) → length x ≡ 16 → not_sixteen (some x) ≡ false
is_sixteen x e = holds_not (eqb (length x) 16) (same_number_lem (length x) 16 e)

pub present_test : (bytes : List ℕ) (s : Span) (x : List ℕ) → Sixteen bytes s x → not_sixteen (optional_part bytes s) ≡ false
present_test bytes s x h = ap not_sixteen (part_there bytes s x (h.0, h.1)) ∙ is_sixteen x h.2

names-good : (v : Verdict) (b : Board) → names v b ≡ true → v ≡ Some b
names-good None b e = true_false (sym e)
names-good (Some a) b e = ap Some (board_eq a b (eqb_eq a.0 b.0 e))

module _ (t : TransactionTable) (d : RegistrarInput) (bytes : List ℕ) (m : Message) where
  abbrev f : Fields
  f = fields_of bytes m

  abbrev rs : List Transaction
  rs = t.transactions

  pub fields_at : (g : Option Transaction) → lookup rs (as_id f.id) ≡ g → (c : LowestRow) → lowest_row (registrar_rows rs g d.verdict f) ≡ c → registrar_fields t d f ≡ registrar_checked c g t d f
  unfolding registrar_fields
  fields_at g h c e = rw (h, e)

  pub message-at : reading_of bytes ≡ Ok m → registrar_message t d bytes ≡ registrar_fields t d f
  unfolding registrar_message registrar_read
  message-at e = rw e

  -- ## Only if

  KnownStatus : GivenStatus → Type 0
  KnownStatus o = (status_or0 (optional_status o) ≡ 0) ⊎ (status_or0 (optional_status o) ≡ 2)

  status-known : {s : ℕ} → m.body.entry.status ≡ Some s → KnownStatus m.body.entry.status → (s ≡ 0) ⊎ (s ≡ 2)
  unfolding KnownStatus
  status-known e k = subst KnownStatus e k

  matches : reading_of bytes ≡ Ok m → (r : Transaction) → lookup rs (as_id f.id) ≡ some r → lowest_row (registrar_rows rs (some r) d.verdict f) ≡ pass → confirms f ≡ true → Matches t d bytes m r
  unfolding fields_of KnownStatus
  matches reads r h e k =
      let p : (is_present m.protection && is_present m.header.protection_alg) ≡ true = protected_it rs r d.verdict f e k in
      let i : Sixteen bytes m.header.transaction_id (part_of bytes m.header.transaction_id) = sixteen bytes m.header.transaction_id (id_it rs r d.verdict f e k) in
      let n : Sixteen bytes m.header.sender_nonce (part_of bytes m.header.sender_nonce) = sixteen bytes m.header.sender_nonce (sender_it rs r d.verdict f e k) in
      let a : (m.header.recip_nonce.start.0 ≡ 0 → ⊥) × (part_of bytes m.header.recip_nonce ≡ r.sent.bytes) = part_of_lem bytes m.header.recip_nonce r.sent.bytes (is_present m.header.recip_nonce) refl (recip_it rs r d.verdict f e k) in
      record {
        reads = reads;
        kind = kind-is rs r d.verdict f e k;
        entries = eqb_eq f.entries 1 (one_it rs r d.verdict f e k);
        protection = present-part m.protection (and_left (is_present m.protection) (is_present m.header.protection_alg) p);
        algorithm = present-part m.header.protection_alg (and_right (is_present m.protection) (is_present m.header.protection_alg) p);
        good = names-good d.verdict r.board (names_it rs r d.verdict f e k);
        version = version_it rs r d.verdict f e k;
        hash_alg = λ q. alg_it rs r d.verdict f e k (part-present m.body.entry.hash_alg q);
        id = record { bytes = part_of bytes m.header.transaction_id };
        has_id = i;
        holds = ap (λ (x : Option (List ℕ)). lookup rs (as_id x)) (sym (part_there bytes m.header.transaction_id _ (i.0, refl))) ∙ h;
        nonce = record { bytes = part_of bytes m.header.sender_nonce };
        sender_nonce = n;
        recip_present = a.0;
        recip_nonce = a.1;
        request = request_it rs r d.verdict f e k;
        hash = ap (λ (x : Hash). x.bytes) (hash_it rs r d.verdict f e k);
        status = λ s q. status-known q (known_it rs r d.verdict f e k);
      }

  leads_by : (o : GivenStatus) → m.body.entry.status ≡ o → (s : TransactionState) → settled_by s (status_or0 (optional_status o)) ≡ true → (s ≡ at_registrar.Confirmed) ⊎ (s ≡ at_registrar.Declined) → LeadsTo m s
  leads_by (Some v) h s e (inl c) = inl (c, inr (h ∙ ap Some (eqb_eq v 0 (ap (λ (z : TransactionState). settled_by z v) (sym c) ∙ e))))
  leads_by (Some v) h s e (inr c) = inr (c, h ∙ ap Some (eqb_eq v 2 (ap (λ (z : TransactionState). settled_by z v) (sym c) ∙ e)))
  leads_by None h s e (inl c) = inl (c, inl h)
  leads_by None h s e (inr c) = true_false (sym e ∙ ap (λ (z : TransactionState). settled_by z 0) c)

  repeating : reading_of bytes ≡ Ok m → (r : Transaction) → lookup rs (as_id f.id) ≡ some r → lowest_row (registrar_rows rs (some r) d.verdict f) ≡ pass → confirms f ≡ true → is_granted r.state ≡ false → Repeating t d bytes m r
  unfolding fields_of matches
  repeating reads r h e k g =
      let n : Sixteen bytes m.header.sender_nonce (part_of bytes m.header.sender_nonce) = sixteen bytes m.header.sender_nonce (sender_it rs r d.verdict f e k) in
      let p : part_of bytes m.header.sender_nonce ≡ r.taken.bytes = some_some (sym (part_there bytes m.header.sender_nonce _ (n.0, refl)) ∙ same_nonce_it rs r d.verdict f e k g) in
      record {
        match = matches reads r h e k;
        nonce = λ i. record { bytes = p i };
        state = leads_by m.body.entry.status refl r.state (takes_it rs r d.verdict f e k g) (settled-one r.state _ (takes_it rs r d.verdict f e k g));
      }

  -- how a confirmation that passes the rows ends
  unfoldable pub Ends : Transaction → Outcome → Type 0
  Ends r outcome.Done = Moving t d bytes m r
  Ends r outcome.Again = Repeating t d bytes m r
  Ends r (outcome.Refused n b) = ⊥

  passed_at : reading_of bytes ≡ Ok m → (r : Transaction) → lookup rs (as_id f.id) ≡ some r → lowest_row (registrar_rows rs (some r) d.verdict f) ≡ pass → confirms f ≡ true → (b : Bool) → is_granted r.state ≡ b → Ends r (confirmed t r d.nonce f).outcome
  unfolding Ends
  passed_at reads r h e k true g = rw g (record { match = matches reads r h e k; granted = is-granted r.state g })
  passed_at reads r h e k false g = rw g (repeating reads r h e k g)

  -- a confirmation that is not refused
  unfoldable pub EndsWith : Outcome → Type 0
  EndsWith outcome.Done = (r : Transaction) × Ends r outcome.Done
  EndsWith outcome.Again = (r : Transaction) × Ends r outcome.Again
  EndsWith (outcome.Refused n b) = Unit {0}

  some_end : (r : Transaction) (o : Outcome) → Ends r o → EndsWith o
  unfolding Ends EndsWith
  some_end r outcome.Done e = (r, e)
  some_end r outcome.Again e = (r, e)
  some_end r (outcome.Refused n b) e = tt

  ends_by : reading_of bytes ≡ Ok m → f.kind ≡ 24 → (g : Option Transaction) → lookup rs (as_id f.id) ≡ g → (c : LowestRow) → lowest_row (registrar_rows rs g d.verdict f) ≡ c → EndsWith (registrar_checked c g t d f).outcome
  unfolding registrar_checked EndsWith
  ends_by reads k g h (stop n) e = tt
  ends_by reads k g h pass e =
      taken_by t d f (λ (a : RegistrarAnswer). EndsWith a.outcome) g e (λ o _ _. true_false (sym o ∙ ap is_opening_kind k))
      (λ r c n p. some_end r _ (passed_at reads r (h ∙ n) p c (is_granted r.state) refl))

  pub ends : reading_of bytes ≡ Ok m → m.body.kind ≡ 24 → EndsWith (registrar_message t d bytes).outcome
  unfolding fields_of
  ends reads k =
      let g : Option Transaction = lookup rs (as_id f.id) in
      let c : LowestRow = lowest_row (registrar_rows rs g d.verdict f) in
      subst (λ (a : RegistrarAnswer). EndsWith a.outcome) (sym (message-at reads ∙ fields_at g refl c refl)) (ends_by reads k g refl c refl)
