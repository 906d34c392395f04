-- What was given to be sent, at its places in the bytes and as it is read out of them.
use Rattle.std.specs.Prelude.{Ok, Err}
use Prim.Native.Nat.{ℕ, ◌-◌}
use mathlib.Core.List.{List, [], ◌∷◌}
use mathlib.Core.Bool.{Bool, true, false, cond}
use mathlib.Core.Option.{none, some}
use mathlib.Core.Path.{◌≡◌, refl, sym, ◌∙◌, ap, subst}
use mathlib.Core.Logic.{inl, inr}
use borrow.Author.Tests.{eqb-true, eq-eqb}
use lib.ListN.{drop, get_or}
use lib.Dec.{eqb}
use Rattle.grammar.specs.declared.Message.{Message}
use Rattle.message.specs.Types.{Reading}
use Rattle.protocol.specs.declared.Outgoing.{Outgoing}
use Rattle.protocol.specs.Run.{End, Event}
use Rattle.protocol.specs.Agreement.{SomeEvent, Gave, Issued, Carries, IssuedReading}
use Rattle.protocol.proofs.Tests.{none_some, some_some, cases}
use Rattle.packed.specs.Places.{flag_bytes}
use Rattle.packed.specs.Outgoing.{outgoing_of}
use Rattle.lent.specs.Lent.{LentCall, AtRegistrar, AtEndEntity, EndEntityStart, LentEvent, is_made, registrar_sent, end_entity_sent, sent_of, event_of, events_of}
use Rattle.lent.specs.Places.{outgoing_place, outgoing_in, sends_in}
use Rattle.lent.specs.Header.{SomeMade, Sent, CarriesBytes, IssuedBytes}

-- ## What was sent

sent_is : (c : LentCall) (x : List ℕ) → sent_of c x ≡ cond (eqb (get_or x (outgoing_place c - flag_bytes) 0) 1) (some (outgoing_of (drop (outgoing_place c) x))) none
unfolding registrar_sent end_entity_sent
sent_is (AtRegistrar c a) x = refl
sent_is (AtEndEntity k c a) x = refl
sent_is (EndEntityStart b s k i n a) x = refl

sends_some : (b : Bool) (o u : Outgoing) → cond b (some o) none ≡ some u → (b ≡ true) × (o ≡ u)
sends_some true o u e = (refl, some_some e)
sends_some false o u e = none_some e

pub gave_bytes : (e : LentEvent) (o : Outgoing) → (event_of e).sent ≡ some o → (sends_in e ≡ 1) × (outgoing_of (outgoing_in e) ≡ o)
gave_bytes e o g =
    let q : (eqb (sends_in e) 1 ≡ true) × (outgoing_of (outgoing_in e) ≡ o) = sends_some _ _ _ (sym (sent_is e.call e.answer) ∙ g) in
    (eqb-true _ _ q.0, q.1)

pub bytes_gave : (e : LentEvent) → sends_in e ≡ 1 → (event_of e).sent ≡ some (outgoing_of (outgoing_in e))
bytes_gave e s = sent_is e.call e.answer ∙ ap (λ (b : Bool). cond b (some (outgoing_of (outgoing_in e))) none) (eq-eqb _ _ s)

-- an event of the calls that were made
pub made_some : (P : Event → Type 0) (Q : LentEvent → Type 0) (e : LentEvent) (es : List LentEvent)
    → (is_made e.code ≡ true → P (event_of e) → Q e) → (SomeEvent P (events_of es) → SomeMade Q es)
    → SomeEvent P (events_of (e ∷ es)) → SomeMade Q (e ∷ es)
unfolding events_of
made_some P Q e es f g = cases (λ (l : List Event). SomeEvent P l → SomeMade Q (e ∷ es)) (is_made e.code) _ _ split (λ _ x. inr (g x))
  where
    split : is_made e.code ≡ true → SomeEvent P (event_of e ∷ events_of es) → SomeMade Q (e ∷ es)
    split m (inl x) = inl (m, f m x)
    split m (inr x) = inr (g x)

pub issued-sent : (p : End) (o : Outgoing) (es : List LentEvent) → Issued p o (events_of es) → Sent p (λ u. outgoing_of u ≡ o) es
unfolding events_of
issued-sent p o [] h = absurd h
issued-sent p o (e ∷ es) h = made_some (Gave p o) _ e es (λ _ g. let q : _ × _ = gave_bytes e o g.1 in (g.0, q.0, q.1)) (issued-sent p o es) h

pub sent_map : (p : End) (P Q : List ℕ → Type 0) → ((u : List ℕ) → P u → Q u) → (es : List LentEvent) → Sent p P es → Sent p Q es
sent_map p P Q f [] h = absurd h
sent_map p P Q f (e ∷ es) (inl x) = inl (x.0, (x.1.0, x.1.1, f (outgoing_in e) x.1.2))
sent_map p P Q f (e ∷ es) (inr x) = inr (sent_map p P Q f es x)

-- one that was sent, by its bytes
pub sent-one : (p : End) (P Q : List ℕ → Type 0) → ((u : List ℕ) → P u → Q u) → (es : List LentEvent) → Sent p P es → (o : List ℕ) × P o × Sent p (λ u. (u ≡ o) × Q u) es
sent-one p P Q f [] h = absurd h
sent-one p P Q f (e ∷ es) (inl x) = (outgoing_in e, x.1.2, inl (x.0, (x.1.0, x.1.1, (refl, f (outgoing_in e) x.1.2))))
sent-one p P Q f (e ∷ es) (inr x) = let q : (o : List ℕ) × P o × Sent p (λ u. (u ≡ o) × Q u) es = sent-one p P Q f es x in (q.0, q.1, inr q.2)

pub some_later : (P : Event → Type 0) (e : LentEvent) (es : List LentEvent) → SomeEvent P (events_of es) → SomeEvent P (events_of (e ∷ es))
unfolding events_of
some_later P e es x = cases (SomeEvent P) (is_made e.code) _ _ (λ _. inr x) (λ _. x)

pub some_first : (P : Event → Type 0) (e : LentEvent) (es : List LentEvent) → is_made e.code ≡ true → P (event_of e) → SomeEvent P (events_of (e ∷ es))
unfolding events_of
some_first P e es m x = rw m (inl x)

pub sent-issued : (p : End) (P : List ℕ → Type 0) (es : List LentEvent) → Sent p P es → (u : List ℕ) × P u × Issued p (outgoing_of u) (events_of es)
sent-issued p P [] h = absurd h
sent-issued p P (e ∷ es) (inl x) = (outgoing_in e, x.1.2, some_first (Gave p (outgoing_of (outgoing_in e))) e es x.0 (x.1.0, bytes_gave e x.1.1))
sent-issued p P (e ∷ es) (inr x) =
    let q : (u : List ℕ) × P u × Issued p (outgoing_of u) (events_of es) = sent-issued p P es x in
    (q.0, q.1, some_later (Gave p (outgoing_of q.0)) e es q.2)

-- ## A message that was issued

carries : (bytes : List ℕ) (m : Message) (o : List ℕ) → CarriesBytes bytes m o → Carries bytes m (outgoing_of o)
unfolding outgoing_of
carries bytes m o c =
    record {
      kind = c.kind;
      id = c.id;
      sender_nonce = c.sender_nonce;
      recip_nonce = λ e. c.recip_nonce (eqb-true _ _ e);
      status = λ e. c.status (eqb-true _ _ e);
      hash = c.hash;
    }

pub issued-bytes : (p : End) (bytes : List ℕ) (r : Reading) (es : List LentEvent) → IssuedBytes p bytes r es → IssuedReading p bytes r (events_of es)
issued-bytes p bytes (Err f) es h = tt
issued-bytes p bytes (Ok m) es h =
    let q : (u : List ℕ) × CarriesBytes bytes m u × Issued p (outgoing_of u) (events_of es) = sent-issued p (CarriesBytes bytes m) es h in
    (outgoing_of q.0, q.2, carries bytes m q.0 q.1)

carries-back : (bytes : List ℕ) (m : Message) (o : List ℕ) → Carries bytes m (outgoing_of o) → CarriesBytes bytes m o
unfolding outgoing_of
carries-back bytes m o c =
    record {
      kind = c.kind;
      id = c.id;
      sender_nonce = c.sender_nonce;
      recip_nonce = λ e. c.recip_nonce (eq-eqb _ _ e);
      status = λ e. c.status (eq-eqb _ _ e);
      hash = c.hash;
    }

pub issued-back : (p : End) (bytes : List ℕ) (r : Reading) (es : List LentEvent) → IssuedReading p bytes r (events_of es) → IssuedBytes p bytes r es
issued-back p bytes (Err f) es h = tt
issued-back p bytes (Ok m) es h =
    sent_map p (λ u. outgoing_of u ≡ h.0) (CarriesBytes bytes m) (λ u y. carries-back bytes m u (subst (Carries bytes m) (sym y) h.2)) es (issued-sent p h.0 es h.1)
