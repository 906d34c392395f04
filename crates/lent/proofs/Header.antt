-- Demand 3 at the places of the C header: what it claims holds of the bytes.
use Rattle.std.specs.Prelude.{is_some}
use Prim.Native.Nat.{ℕ, ◌<◌}
use mathlib.Core.List.{List, [], ◌∷◌}
use mathlib.Core.Bool.{true}
use mathlib.Core.Option.{some}
use mathlib.Core.Path.{◌≡◌, sym, ◌∙◌, ap, subst}
use mathlib.Core.Logic.{◌⊎◌, inl, inr, ◌≢◌}
use native.Mathlib.Omega.{arith}
use lib.ListN.{get_elem?}
use lib.Dec.{ltb}
use Rattle.protocol.specs.declared.TransactionId.{TransactionId}
use Rattle.protocol.specs.declared.Nonce.{Nonce}
use Rattle.protocol.specs.declared.Outgoing.{Outgoing}
use Rattle.protocol.specs.declared.Transaction.{Transaction}
use Rattle.protocol.specs.declared.TransactionState.{TransactionState}
use Rattle.protocol.specs.declared.TransactionState.TheVariants as at_registrar
use Rattle.protocol.specs.declared.EnrolmentState.TheVariants as at_board
use Rattle.protocol.specs.Table.{capacity}
use Rattle.protocol.specs.Run.{TheRegistrar, OneBoard, Event, BoardEnrolment}
use Rattle.protocol.specs.Agreement.{SomeEvent, Issued, RegistrarHolds, SaysConfirmed, ClosedSince, Confirmation, FoundUntilClosed, MayBeSure, Neither, AgreesOrBetween, BoardOf, Agreement}
use Rattle.protocol.proofs.Tests.{cases}
use Rattle.packed.specs.Outgoing.{outgoing_of}
use Rattle.packed.specs.Table as table
use Rattle.packed.specs.Enrolment as enrolment
use Rattle.packed.specs.Table.{unpack_table}
use Rattle.packed.specs.Enrolment.{unpack_enrolment, enrolment_held}
use Rattle.lent.specs.Lent.{LentEnrolment, LentEvent, LentWorld, is_made, event_of, events_of, EnrolmentsOk, TablesOk, world_of, lent_after, lent_beginning}
use Rattle.lent.specs.Places.{outgoing_recip_nonce, transaction_id, transaction_state, enrolment_id, enrolment_state}
use Rattle.lent.specs.Header.{IsClose, InSlot, ClosedBytes, SameOutgoing, IsCertConf, SentCertConf, FoundBytes, NeverConfirmed, EnrolmentOf, HeaderAgreement, HeaderDemand3}
use Rattle.lent.proofs.Sent.{sent-one, issued-sent, sent_map, some_later, some_first, sent-issued}
use Rattle.lent.proofs.Premises.{closed_at, fair-bytes}
use Rattle.lent.proofs.Events.{PlainEvent, AllPlain, all_plain}
use Rattle.lent.proofs.Places.{row, state-at, id-at, sent-at, hash_at, board-at, number_of_state, not_lapsed, held-row, in_use_lem, board-id, board-hash, says, said, state_below, shown, held_bytes_lem, bytes-held, id-is}
use Rattle.lent.proofs.Theorem.{lent_runs, lent_demand3}

-- ## The claim

closed-back : (i : TransactionId) (n : Nonce) (es : List LentEvent) → AllPlain es → ClosedSince i n (events_of es) → ClosedBytes i.bytes n.bytes es
unfolding events_of outgoing_of
closed-back i n [] a h = absurd h
closed-back i n (e ∷ es) a h =
    cases (λ (l : List Event). ClosedSince i n l → ClosedBytes i.bytes n.bytes (e ∷ es)) (is_made e.code) _ _ (λ m. split m (closed-back i n es a.1)) (λ _ x. inr (closed-back i n es a.1 x)) h
  where
    split : is_made e.code ≡ true → (ClosedSince i n (events_of es) → ClosedBytes i.bytes n.bytes es)
        → ClosedSince i n (event_of e ∷ events_of es) → ClosedBytes i.bytes n.bytes (e ∷ es)
    split m f (inl x) =
        let q : PlainEvent e = a.0 m in
        let c : (ltb e.code 2 ≡ true) × IsClose i.bytes e.call = closed_at e.call e.answer e.code q.code q.id i x.0 in
        inl (c.0, c.1, sent_map TheRegistrar (λ u. outgoing_of u ≡ x.1) _ (λ u y. ap (λ (o : Outgoing). o.sender_nonce.bytes) y ∙ ap (λ (k : Nonce). k.bytes) x.3) es (issued-sent TheRegistrar x.1 es x.2))
    split m f (inr x) = inr (f x)

pub confirmed-free : at_registrar.Confirmed ≡ at_registrar.Free → ⊥
confirmed-free e = let z : ◌≡◌ {A = ℕ} 3 0 = ap table.transaction_state_number e in omega arith

declined-free : at_registrar.Declined ≡ at_registrar.Free → ⊥
declined-free e = let z : ◌≡◌ {A = ℕ} 4 0 = ap table.transaction_state_number e in omega arith

pub is-confirmed : (s : List ℕ) (p : ℕ) → transaction_state p s ≡ 3 → (row s p).state ≡ at_registrar.Confirmed
unfolding table.transaction_state_of
is-confirmed s p e = state-at s p ∙ ap table.transaction_state_of e

is-declined : (s : List ℕ) (p : ℕ) → transaction_state p s ≡ 4 → (row s p).state ≡ at_registrar.Declined
unfolding table.transaction_state_of
is-declined s p e = state-at s p ∙ ap table.transaction_state_of e

may_be : (s : List ℕ) → is_some (unpack_enrolment s) ≡ true → MayBeSure (enrolment_held s).state
    → (enrolment_state s ≡ 3) ⊎ (enrolment_state s ≡ 1) ⊎ (enrolment_state s ≡ 6)
may_be s o (inl e) = inl (said s o at_board.Sure e)
may_be s o (inr (inl e)) = inr (inl (said s o at_board.Confirming e))
may_be s o (inr (inr e)) = inr (inr (said s o at_board.Unsettled e))

never_back : (i : TransactionId) (es : List LentEvent) → TablesOk es → (SomeEvent (λ e. SaysConfirmed e.table i) (events_of es) → ⊥) → NeverConfirmed i.bytes es
never_back i [] o d = tt
never_back i (e ∷ es) o d = (
  (λ m p h a c.
      d (some_first (λ f. SaysConfirmed f.table i) e es m (row e.table p, in_use_lem e.table o.0 p h i a at_registrar.Confirmed confirmed-free (is-confirmed e.table p c), is-confirmed e.table p c))),
  never_back i es o.1 (λ x. d (some_later (λ f. SaysConfirmed f.table i) e es x)),
)

module _ (w : LentWorld) (ok : is_some (unpack_table w.table) ≡ true) (all : EnrolmentsOk w.enrolments) (tables : TablesOk w.past) (plain : AllPlain w.past) (a : Agreement (world_of w)) where
  module _ (e : LentEnrolment) (o : is_some (unpack_enrolment e.bytes) ≡ true) where
    abbrev x : BoardEnrolment
    x = shown e

    -- the certConf that the board sent, in its bytes
    confirmation-bytes : (u : Outgoing) → Confirmation (world_of w) x u → (o : List ℕ) × (outgoing_of o ≡ u) × SentCertConf w e o
    unfolding outgoing_of
    confirmation-bytes u c =
        sent-one (OneBoard e.board) (λ v. outgoing_of v ≡ u) (IsCertConf e)
        (λ v y. (ap (λ (z : Outgoing). z.kind) y ∙ c.kind, ap (λ (z : Outgoing). z.id.bytes) y ∙ ap (λ (i : TransactionId). i.bytes) c.id ∙ board-id e.bytes o))
        w.past (issued-sent (OneBoard e.board) u w.past c.issued)

    bytes-confirmation : (u : List ℕ) → SentCertConf w e u → Confirmation (world_of w) x (outgoing_of u)
    unfolding outgoing_of
    bytes-confirmation u c =
        let q : (v : List ℕ) × ((v ≡ u) × IsCertConf e v) × Issued (OneBoard e.board) (outgoing_of v) (world_of w).past = sent-issued (OneBoard e.board) (λ v. (v ≡ u) × IsCertConf e v) w.past c in
        subst (λ (v : List ℕ). Confirmation (world_of w) x (outgoing_of v)) q.1.0 (record { issued = q.2; kind = q.1.1.0; id = id-is _ _ (q.1.1.1 ∙ sym (board-id e.bytes o)) })

    same_outgoing : (u v : List ℕ) → outgoing_of u ≡ outgoing_of v → SameOutgoing u v
    unfolding outgoing_of
    same_outgoing u v h =
        record {
          kind = ap (λ (z : Outgoing). z.kind) h;
          id = ap (λ (z : Outgoing). z.id.bytes) h;
          sender_nonce = ap (λ (z : Outgoing). z.sender_nonce.bytes) h;
          recip_nonce = ap (λ (z : Outgoing). z.recip_nonce.bytes) h;
          status = ap (λ (z : Outgoing). z.contents.status) h;
          hash = ap (λ (z : Outgoing). z.contents.hash.bytes) h;
        }

    -- the transaction of an enrolment, found or closed
    found : (s : TransactionState) → s ≢ at_registrar.Lapsed → FoundUntilClosed (world_of w) x s → FoundBytes w e (table.transaction_state_number s)
    unfolding outgoing_of
    found s d f =
        let q : (v : List ℕ) × (outgoing_of v ≡ f.0) × SentCertConf w e v = confirmation-bytes f.0 f.1 in
        let nonce : f.0.recip_nonce.bytes ≡ outgoing_recip_nonce q.0 = ap (λ (z : Outgoing). z.recip_nonce.bytes) (sym q.1) in (
          q.0,
          q.2,
          (λ u c. same_outgoing u q.0 (f.2 (outgoing_of u) (bytes-confirmation u c) ∙ sym q.1)),
          subst (λ (n : List ℕ). ClosedBytes (enrolment_id e.bytes) n w.past ⊎ InSlot w.table e.bytes n (table.transaction_state_number s)) nonce (go f.3),
        )
      where
        slot : (r : Transaction) → RegistrarHolds (world_of w).table x.enrolment.id r → r.sent ≡ f.0.recip_nonce → r.state ≡ s
            → r.hash ≡ x.enrolment.hash → InSlot w.table e.bytes f.0.recip_nonce.bytes (table.transaction_state_number s)
        slot r h n y z =
            let p : ℕ = h.0 in
            let q : (p < capacity) × (r ≡ row w.table p) = held-row w.table ok p r h.1 in (
              p,
              q.0,
              (sym (id-at w.table p) ∙ ap (λ (t : Transaction). t.id.bytes) (sym q.1) ∙ ap (λ (j : TransactionId). j.bytes) h.3 ∙ board-id e.bytes o),
              (sym (sent-at w.table p) ∙ ap (λ (t : Transaction). t.sent.bytes) (sym q.1) ∙ ap (λ (k : Nonce). k.bytes) n),
              number_of_state w.table p s d (ap (λ (t : Transaction). t.state) (sym q.1) ∙ y),
              (sym (hash_at w.table p) ∙ ap (λ (t : Transaction). t.hash.bytes) (sym q.1) ∙ ap (λ k. k.bytes) z ∙ board-hash e.bytes o),
            )

        go :
            ClosedSince x.enrolment.id f.0.recip_nonce (world_of w).past
            ⊎ ((r : Transaction) × RegistrarHolds (world_of w).table x.enrolment.id r × (r.sent ≡ f.0.recip_nonce) × (r.state ≡ s) × (r.hash ≡ x.enrolment.hash))
            → ClosedBytes (enrolment_id e.bytes) f.0.recip_nonce.bytes w.past ⊎ InSlot w.table e.bytes f.0.recip_nonce.bytes (table.transaction_state_number s)
        go (inl c) = inl (subst (λ (i : List ℕ). ClosedBytes i f.0.recip_nonce.bytes w.past) (board-id e.bytes o) (closed-back x.enrolment.id f.0.recip_nonce w.past plain c))
        go (inr h) = inr (slot h.0 h.1 h.2 h.3 h.4)

    -- neither Confirmed nor Declined
    neither-bytes : Neither (world_of w) x → (p : ℕ) → p < capacity → transaction_id p w.table ≡ enrolment_id e.bytes
        → (transaction_state p w.table ≢ 3) × (transaction_state p w.table ≢ 4)
    neither-bytes d p h i =
        let j : transaction_id p w.table ≡ x.enrolment.id.bytes = i ∙ sym (board-id e.bytes o) in (
          (λ c. (d (row w.table p) (in_use_lem w.table ok p h x.enrolment.id j at_registrar.Confirmed confirmed-free (is-confirmed w.table p c))).0 (is-confirmed w.table p c)),
          (λ c. (d (row w.table p) (in_use_lem w.table ok p h x.enrolment.id j at_registrar.Declined declined-free (is-declined w.table p c))).1 (is-declined w.table p c)),
        )

    agrees-neither : AgreesOrBetween (world_of w) x x.enrolment.state → (enrolment_state e.bytes ≡ 0) ⊎ (enrolment_state e.bytes ≡ 5) → Neither (world_of w) x
    unfolding enrolment.enrolment_state_of
    agrees-neither g (inl n) = subst (AgreesOrBetween (world_of w) x) (says e.bytes o 0 n) g
    agrees-neither g (inr n) = subst (AgreesOrBetween (world_of w) x) (says e.bytes o 5 n) g

  -- the enrolment of a transaction
  of_board : (p : ℕ) → BoardOf (world_of w) (row w.table p).id (row w.table p) → EnrolmentOf w p
  of_board p b =
      let g : (e : LentEnrolment) × (get_elem? w.enrolments b.place ≡ some e) × (b.held ≡ shown e) × (is_some (unpack_enrolment e.bytes) ≡ true) = bytes-held w.enrolments all b.place b.held b.holds in
      let e : LentEnrolment = g.0 in
      let h : b.held ≡ shown e = g.2 in
      let o : is_some (unpack_enrolment e.bytes) ≡ true = g.3 in
      record {
        place = b.place;
        held = e;
        holds = g.1;
        board = ap (λ (y : BoardEnrolment). y.board.0) (sym h) ∙ ap (λ y. y.0) b.board ∙ board-at w.table p;
        id = sym (board-id e.bytes o) ∙ ap (λ (y : BoardEnrolment). y.enrolment.id.bytes) (sym h) ∙ ap (λ y. y.bytes) b.id ∙ id-at w.table p;
        only = λ k y q i. let z : _ × _ = held_bytes_lem w.enrolments all k y q in b.only k (shown y) z.0 (id-is _ _ (board-id y.bytes z.1 ∙ i ∙ sym (id-at w.table p)));
        hash = sym (board-hash e.bytes o) ∙ ap (λ (y : BoardEnrolment). y.enrolment.hash.bytes) (sym h) ∙ ap (λ y. y.bytes) b.hash ∙ hash_at w.table p;
        says = may_be e.bytes o (subst (λ (y : BoardEnrolment). MayBeSure y.enrolment.state) h b.says);
      }

  confirmed-slot : (p : ℕ) → p < capacity → transaction_state p w.table ≡ 3 → EnrolmentOf w p
  confirmed-slot p h e =
      let c : (row w.table p).state ≡ at_registrar.Confirmed = is-confirmed w.table p e in
      of_board p (a.confirmed (row w.table p).id (row w.table p) (in_use_lem w.table ok p h (row w.table p).id (sym (id-at w.table p)) at_registrar.Confirmed confirmed-free c) c)

  header : HeaderAgreement w
  unfolding enrolment.enrolment_state_of
  header =
      record {
        states = λ k e h. state_below e.bytes (held_bytes_lem w.enrolments all k e h).1;
        sure = λ k e h n. let q : _ × _ = held_bytes_lem w.enrolments all k e h in found e q.1 at_registrar.Confirmed (not_lapsed _ (λ z. omega arith)) (a.sure k (shown e) q.0 (says e.bytes q.1 3 n));
        declined = λ k e h n. let q : _ × _ = held_bytes_lem w.enrolments all k e h in found e q.1 at_registrar.Declined (not_lapsed _ (λ z. omega arith)) (a.declined k (shown e) q.0 (says e.bytes q.1 4 n));
        confirmed = confirmed-slot;
        failed = λ k e h n. let q : _ × _ = held_bytes_lem w.enrolments all k e h in subst (λ (i : List ℕ). NeverConfirmed i w.past) (board-id e.bytes q.1) (never_back (shown e).enrolment.id w.past tables (a.failed k (shown e) q.0 (says e.bytes q.1 5 n)));
        neither = λ k e h n. let q : _ × _ = held_bytes_lem w.enrolments all k e h in neither-bytes e q.1 (agrees-neither e q.1 (a.agree k (shown e) q.0) n);
      }

pub header_demand3 : HeaderDemand3
header_demand3 s e calls fair =
    let h = lent_runs s e calls in
    let plain : AllPlain (lent_after (lent_beginning s) calls).past = all_plain calls (lent_beginning s) tt in
    header (lent_after (lent_beginning s) calls) h.table h.enrolments h.tables plain (lent_demand3 s e calls (fair-bytes _ plain fair))
