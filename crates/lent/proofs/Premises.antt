-- What is supposed of the lent bytes is what demand 3 supposes of the calls that they stand for.
use Prim.Native.Nat.{ℕ, zero, suc, ◌<◌}
use mathlib.Core.List.{List, [], ◌∷◌}
use mathlib.Core.Bool.{Bool, true, false, cond}
use mathlib.Core.Option.{Option, none, some}
use mathlib.Core.Path.{◌≡◌, refl, sym, ◌∙◌, ap, subst}
use mathlib.Core.Logic.{inl, inr}
use native.Mathlib.Omega.{arith}
use borrow.Author.Tests.{ltb-true, eqb-true, eq-eqb}
use lib.ListN.{length, get_or}
use lib.Dec.{eqb, ltb}
use Rattle.protocol.specs.declared.TransactionId.{TransactionId}
use Rattle.protocol.specs.declared.Nonce.{Nonce}
use Rattle.protocol.specs.declared.Outcome.{Outcome}
use Rattle.protocol.specs.declared.Outgoing.{Outgoing}
use Rattle.protocol.specs.Run.{unless_refused}
use Rattle.protocol.specs.Agreement.{SomeEvent, Issued, SenderIssued, FairEvent, Fair}
use Rattle.protocol.proofs.Tests.{none_some, some_some, cases}
use Rattle.packed.specs.Arrays.{unpack}
use Rattle.packed.specs.Outgoing.{outgoing_of}
use Rattle.packed.specs.Places.{answer_code_at}
use Rattle.packed.specs.Answer.{outcome_of}
use Rattle.duskstall.specs.Calls.{id_of}
use Rattle.lent.specs.Calls.{closing}
use Rattle.lent.specs.Lent.{LentCall, AtRegistrar, AtEndEntity, EndEntityStart, call_of, LentEvent, is_made, drawn_of, closed_by, closed_of, event_of, events_of, lent_after, lent_beginning}
use Rattle.lent.specs.Places.{outgoing_sender_nonce, outgoing_in, sends_in}
use Rattle.lent.specs.Header.{SomeMade, IsStart, IsClose, Taken, GoodIssued, FairBytesEvent, FairBytes, SamePremise}
use Rattle.lent.proofs.Sent.{made_some, gave_bytes, bytes_gave, issued-sent, sent_map, some_later, some_first, sent-issued}
use Rattle.lent.proofs.Forms.{registrar_form, end_entity_form}
use Rattle.lent.proofs.Events.{IdSized, PlainEvent, AllPlain, all_plain}
use Rattle.lent.proofs.Places.{id-is}

-- ## Ids that were drawn and closed

abbrev NotRefused : ℕ → TransactionId → TransactionId → Outcome → Type 0
NotRefused k j i o = unless_refused o j ≡ some i → (ltb k 2 ≡ true) × (j ≡ i)

not_refused : (x : List ℕ) (j i : TransactionId) → unless_refused (outcome_of x) j ≡ some i → (ltb (get_or x answer_code_at 0) 2 ≡ true) × (j ≡ i)
unfolding outcome_of
not_refused x j i =
    cases (NotRefused (get_or x answer_code_at 0) j i) (eqb (get_or x answer_code_at 0) 0) _ _ (λ e q. (ap (λ (n : ℕ). ltb n 2) (eqb-true (get_or x answer_code_at 0) 0 e), some_some q))
    (λ _. cases (NotRefused (get_or x answer_code_at 0) j i) (eqb (get_or x answer_code_at 0) 1) _ _ (λ e q. (ap (λ (n : ℕ). ltb n 2) (eqb-true (get_or x answer_code_at 0) 1 e), some_some q)) (λ _ q. none_some q))

id-bytes : (j : List ℕ) → length j ≡ 16 → (id_of j).bytes ≡ j
unfolding unpack
id-bytes j e = rw (eq-eqb (length j) 16 e)

named : (x j : List ℕ) (k : ℕ) → get_or x answer_code_at 0 ≡ k → length j ≡ 16 → (i : TransactionId) → unless_refused (outcome_of x) (id_of j) ≡ some i → (ltb k 2 ≡ true) × (j ≡ i.bytes)
named x j k c z i e =
    let q : (ltb (get_or x answer_code_at 0) 2 ≡ true) × (id_of j ≡ i) = not_refused x (id_of j) i e in
    (subst (λ (n : ℕ). ltb n 2 ≡ true) c q.0, sym (id-bytes j z) ∙ ap (λ (t : TransactionId). t.bytes) q.1)

drawn-at : (c : LentCall) (x : List ℕ) (k : ℕ) → get_or x answer_code_at 0 ≡ k → IdSized c → (i : TransactionId) → drawn_of c x ≡ some i → (ltb k 2 ≡ true) × IsStart i.bytes c
drawn-at (AtRegistrar d a) x k c z i e = none_some e
drawn-at (AtEndEntity q d a) x k c z i e = none_some e
drawn-at (EndEntityStart b s q j n a) x k c z i e = named x j k c z i e

closed-id : (o : Option (List ℕ)) (x : List ℕ) (k : ℕ) → get_or x answer_code_at 0 ≡ k → ((j : List ℕ) → o ≡ some j → length j ≡ 16) → (i : TransactionId)
    → closed_by o (outcome_of x) ≡ some i → (ltb k 2 ≡ true) × (o ≡ some i.bytes)
closed-id none x k c z i e = none_some e
closed-id (some j) x k c z i e = let q : (ltb k 2 ≡ true) × (j ≡ i.bytes) = named x j k c (z j refl) i e in (q.0, ap some q.1)

pub closed_at : (c : LentCall) (x : List ℕ) (k : ℕ) → get_or x answer_code_at 0 ≡ k → IdSized c → (i : TransactionId) → closed_of c x ≡ some i → (ltb k 2 ≡ true) × IsClose i.bytes c
closed_at (AtRegistrar d a) x k c z i e = closed-id (closing d) x k c z i e
closed_at (AtEndEntity q d a) x k c z i e = none_some e
closed_at (EndEntityStart b s q j n a) x k c z i e = none_some e

drawn_some : (i : TransactionId) (es : List LentEvent) → AllPlain es → SomeEvent (λ f. f.drawn ≡ some i) (events_of es)
    → SomeMade (λ f. Taken f × IsStart i.bytes f.call) es
unfolding events_of
drawn_some i [] a h = absurd h
drawn_some i (e ∷ es) a h = made_some (λ f. f.drawn ≡ some i) _ e es (λ m x. let q : PlainEvent e = a.0 m in drawn-at e.call e.answer e.code q.code q.id i x) (drawn_some i es a.1) h

-- ## The premises

good-issued : (c : LentCall) (es : List LentEvent) → GoodIssued c es → SenderIssued (call_of c) (events_of es)
good-issued (AtRegistrar c a) es h = ((registrar_form c).good es).0 h
good-issued (AtEndEntity k c a) es h = ((end_entity_form c).good k es).0 h
good-issued (EndEntityStart b s k i n a) es h = tt

-- a nonce, as bytes
nonce_of : (u v : List ℕ) (o w : Outgoing) → outgoing_of u ≡ o → outgoing_of v ≡ w → o.sender_nonce ≡ w.sender_nonce → outgoing_sender_nonce u ≡ outgoing_sender_nonce v
unfolding outgoing_of
nonce_of u v o w p q e = ap (λ (x : Outgoing). x.sender_nonce.bytes) p ∙ ap (λ (n : Nonce). n.bytes) e ∙ ap (λ (x : Outgoing). x.sender_nonce.bytes) (sym q)

fair_event : (e : LentEvent) (es : List LentEvent) → PlainEvent e → AllPlain es → FairBytesEvent e es → FairEvent (event_of e) (events_of es)
fair_event e es q a f =
    record {
      verdict = good-issued e.call es f.verdict;
      id = λ i d s. f.id i.bytes (drawn-at e.call e.answer e.code q.code q.id i d) (drawn_some i es a s);
      nonce = λ o g p u s r.
          let b : (sends_in e ≡ 1) × (outgoing_of (outgoing_in e) ≡ o) = gave_bytes e o g in
          f.nonce b.0 p (sent_map p (λ v. outgoing_of v ≡ u) _ (λ v x. nonce_of (outgoing_in e) v o u b.1 x r) es (issued-sent p u es s));
    }

pub fair-bytes : (es : List LentEvent) → AllPlain es → FairBytes es → Fair (events_of es)
unfolding events_of
fair-bytes [] a h = tt
fair-bytes (e ∷ es) a h = cases Fair (is_made e.code) _ _ (λ m. (fair_event e es (a.0 m) a.1 (h.0 m), fair-bytes es a.1 h.1)) (λ _. fair-bytes es a.1 h.1)

-- ## The premises, the other way

good-back : (c : LentCall) (es : List LentEvent) → SenderIssued (call_of c) (events_of es) → GoodIssued c es
good-back (AtRegistrar c a) es h = ((registrar_form c).good es).1 h
good-back (AtEndEntity k c a) es h = ((end_entity_form c).good k es).1 h
good-back (EndEntityStart b s k i n a) es h = tt

taken_some : (x : List ℕ) (j : TransactionId) (k : ℕ) → get_or x answer_code_at 0 ≡ k → ltb k 2 ≡ true → unless_refused (outcome_of x) j ≡ some j
unfolding outcome_of
taken_some x j zero e h = rw e
taken_some x j (suc zero) e h = rw e
taken_some x j (suc (suc k)) e h = let q : suc (suc k) < 2 = ltb-true _ _ h in absurd (omega arith)

drawn-back : (c : LentCall) (x : List ℕ) (k : ℕ) → get_or x answer_code_at 0 ≡ k → IdSized c → (i : List ℕ) → (ltb k 2 ≡ true) × IsStart i c → drawn_of c x ≡ some (record { bytes = i })
drawn-back (AtRegistrar d a) x k c z i e = absurd e.1
drawn-back (AtEndEntity q d a) x k c z i e = absurd e.1
drawn-back (EndEntityStart b s q j n a) x k c z i e = taken_some x (id_of j) k c e.0 ∙ ap some (id-is (id_of j) (record { bytes = i }) (id-bytes j z ∙ e.1))

drawn-made : (i : List ℕ) (es : List LentEvent) → AllPlain es → SomeMade (λ f. Taken f × IsStart i f.call) es
    → SomeEvent (λ f. f.drawn ≡ some (record { bytes = i })) (events_of es)
drawn-made i [] a h = absurd h
drawn-made i (e ∷ es) a (inl x) = let q : PlainEvent e = a.0 x.0 in some_first (λ f. f.drawn ≡ some (record { bytes = i })) e es x.0 (drawn-back e.call e.answer e.code q.code q.id i x.1)
drawn-made i (e ∷ es) a (inr x) = some_later (λ f. f.drawn ≡ some (record { bytes = i })) e es (drawn-made i es a.1 x)

nonce-is : (u v : List ℕ) → outgoing_sender_nonce u ≡ outgoing_sender_nonce v → (outgoing_of u).sender_nonce ≡ (outgoing_of v).sender_nonce
unfolding outgoing_of
nonce-is u v p = λ k. record { bytes = p k }

event_back : (e : LentEvent) (es : List LentEvent) → PlainEvent e → AllPlain es → FairEvent (event_of e) (events_of es) → FairBytesEvent e es
event_back e es q a f =
    record {
      verdict = good-back e.call es f.verdict;
      id = λ i d s. f.id (record { bytes = i }) (drawn-back e.call e.answer e.code q.code q.id i d) (drawn-made i es a s);
      nonce = λ s p h.
          let u : (u : List ℕ) × (outgoing_sender_nonce (outgoing_in e) ≡ outgoing_sender_nonce u) × Issued p (outgoing_of u) (events_of es) = sent-issued p _ es h in
          f.nonce (outgoing_of (outgoing_in e)) (bytes_gave e s) p (outgoing_of u.0) u.2 (nonce-is (outgoing_in e) u.0 u.1);
    }

fair_back : (es : List LentEvent) → AllPlain es → Fair (events_of es) → FairBytes es
unfolding events_of
fair_back [] a h = tt
fair_back (e ∷ es) a h = ((λ m. event_back e es (a.0 m) a.1 (first m h)), fair_back es a.1 (rest (is_made e.code) h))
  where
    first : is_made e.code ≡ true → Fair (cond (is_made e.code) (event_of e ∷ events_of es) (events_of es)) → FairEvent (event_of e) (events_of es)
    first m f = (subst (λ (b : Bool). Fair (cond b (event_of e ∷ events_of es) (events_of es))) m f).0

    rest : (b : Bool) → Fair (cond b (event_of e ∷ events_of es) (events_of es)) → Fair (events_of es)
    rest true f = f.1
    rest false f = f

pub same_premise : SamePremise
same_premise s calls = let plain : AllPlain (lent_after (lent_beginning s) calls).past = all_plain calls (lent_beginning s) tt in (fair-bytes _ plain, fair_back _ plain)
