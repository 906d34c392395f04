-- Refusal 16 is given only where the request number is not the record's, and there unless a lower row applies, at both ends.
use Rattle.std.specs.Prelude.{Ok, Some}
use Prim.Native.Nat.{ℕ, ◌≤◌}
use mathlib.Core.List.{List}
use mathlib.Core.Bool.{Bool, true, false, not, cond, ◌&&◌, ◌||◌}
use mathlib.Core.Option.{Option, none, some, get_or}
use mathlib.Core.Path.{◌≡◌, refl, sym, ◌∙◌, ap}
use mathlib.Core.Logic.{◌⊎◌, inl, inr}
use native.Mathlib.Omega.{arith}
use lib.Dec.{eqb}
use Rattle.message.specs.Read.{reading_of}
use Rattle.grammar.specs.declared.Message.{Message}
use Rattle.protocol.specs.declared.RegistrarInput.{RegistrarInput}
use Rattle.protocol.specs.declared.EndEntityInput.{EndEntityInput}
use Rattle.protocol.specs.declared.Transaction.{Transaction}
use Rattle.protocol.specs.declared.TransactionTable.{TransactionTable}
use Rattle.protocol.specs.declared.Enrolment.{Enrolment}
use Rattle.protocol.specs.Bytes.{as_id}
use Rattle.protocol.specs.Message.{Fields, fields_of, request_number, is_response}
use Rattle.protocol.specs.Table.{lookup, free_transaction}
use Rattle.protocol.specs.Refusals.{Row, bit_of}
use Rattle.protocol.specs.RegistrarRows.{registrar_rows, other_request, confirms, confirms_unknown}
use Rattle.protocol.specs.Registrar.{registrar_message}
use Rattle.protocol.specs.EndEntityRows.{end_entity_rows, other_number, responds, one_response}
use Rattle.protocol.specs.EndEntity.{end_entity_message}
use Rattle.protocol.specs.MessageRules.{Means}
use Rattle.protocol.specs.RequestNumber.{NumberIs, OtherAtRegistrar, OtherAtEndEntity}
use Rattle.der.proofs.Auto.{and_left, and_right, or_cases}
use Rattle.protocol.proofs.Tests.{true_false, eqb_eq, same_number_lem, both, one_of, other_than, number_is, is_number}
use Rattle.protocol.proofs.Means.{at-applies, registrar_means, end_entity_means}

bit_16 : (c : Bool) → bit_of 16 c ≡ Some 2
unfolding bit_of
bit_16 true = refl
bit_16 false = refl

-- a number that is not the one asked for is not the record's, and the other way round
differs : (k n : ℕ) → not (eqb n (request_number k)) ≡ true → NumberIs k n → ⊥
differs k n e w = true_false (sym e ∙ ap not (same_number_lem n (request_number k) (is_number k n w)))

other_than_asked : (k n : ℕ) → (NumberIs k n → ⊥) → not (eqb n (request_number k)) ≡ true
other_than_asked k n d = by (eqb n (request_number k)) refl
  where
    by : (b : Bool) → eqb n (request_number k) ≡ b → not b ≡ true
    by true e = absurd (d (number_is k n (eqb_eq n (request_number k) e)))
    by false e = refl

one_of_three : (n a b c : ℕ) → (eqb n a || eqb n b || eqb n c) ≡ true → (n ≡ a) ⊎ (n ≡ b) ⊎ (n ≡ c)
one_of_three n a b c e = go (or_cases (eqb n a || eqb n b) (eqb n c) e)
  where
    first : (n ≡ a) ⊎ (n ≡ b) → (n ≡ a) ⊎ (n ≡ b) ⊎ (n ≡ c)
    first (inl p) = inl p
    first (inr p) = inr (inl p)

    go : ((eqb n a || eqb n b) ≡ true) ⊎ (eqb n c ≡ true) → (n ≡ a) ⊎ (n ≡ b) ⊎ (n ≡ c)
    go (inl p) = first (one_of n a b p)
    go (inr p) = inr (inr (eqb_eq n c p))

-- ## The registrar

abbrev is_counted : ℕ → Bool
is_counted k = eqb k 0 || eqb k 2 || eqb k 7

-- row 16 for a message of kind k with e entries and the number n, where the transaction is of the kind h
abbrev asks : (h k e n : ℕ) → Bool
asks h k e n = (is_counted k || eqb k 24) && eqb e 1 && not (eqb n (request_number (cond (eqb k 24) h k)))

abbrev Request : ℕ → Type 0
Request k = (k ≡ 0) ⊎ (k ≡ 2) ⊎ (k ≡ 7)

-- in a request it asks for 0
asks_0 : (h k e n : ℕ) → Request k → asks h k e n ≡ (eqb e 1 && not (eqb n 0))
asks_0 h k e n (inl p) = rw p
asks_0 h k e n (inr (inl p)) = rw p
asks_0 h k e n (inr (inr p)) = rw p

asks_24 : (h k e n : ℕ) → k ≡ 24 → asks h k e n ≡ (eqb e 1 && not (eqb n (request_number h)))
asks_24 h k e n p = rw p

not_0 : (n : ℕ) → not (eqb n 0) ≡ true → n ≡ 0 → ⊥
not_0 n e z = true_false (sym e ∙ ap not (same_number_lem n 0 z))

is_not_0 : (n : ℕ) → (n ≡ 0 → ⊥) → not (eqb n 0) ≡ true
is_not_0 n d = ap not (other_than n 0 d _ refl)

sorted : (h k e n : ℕ) → asks h k e n ≡ true → (k ≡ 24) ⊎ Request k
sorted h k e n a =
    let c : ((is_counted k || eqb k 24) && eqb e 1) ≡ true = and_left ((is_counted k || eqb k 24) && eqb e 1) (not (eqb n (request_number (cond (eqb k 24) h k)))) a in
    go (or_cases (is_counted k) (eqb k 24) (and_left (is_counted k || eqb k 24) (eqb e 1) c))
  where
    go : (is_counted k ≡ true) ⊎ (eqb k 24 ≡ true) → (k ≡ 24) ⊎ Request k
    go (inl p) = inr (one_of_three k 0 2 7 p)
    go (inr p) = inl (eqb_eq k 24 p)

module _ (t : TransactionTable) (d : RegistrarInput) (bytes : List ℕ) (m : Message) where
  abbrev f : Fields
  f = fields_of bytes m

  abbrev g : Option Transaction
  g = lookup t.transactions (as_id f.id)

  abbrev table : Option Transaction → List Row
  table h = registrar_rows t.transactions h d.verdict f

  -- a certConf: row 12 has let it pass, so its transaction is there
  of_cert_conf : (h : Option Transaction) → g ≡ h → f.kind ≡ 24 → (eqb f.entries 1 && not (eqb f.request (request_number (get_or h free_transaction).kind))) ≡ true → (confirms_unknown h f ≡ true → ⊥) → OtherAtRegistrar t (as_id f.id) m
  unfolding fields_of
  of_cert_conf none q k e u = absurd (u (both (confirms f) true (same_number_lem f.kind 24 k) refl))
  of_cert_conf (some r) q k e u = (eqb_eq f.entries 1 (and_left (eqb f.entries 1) _ e), inl (k, r, q, differs r.kind f.request (and_right (eqb f.entries 1) _ e)))

  -- the row's test, and what it asks of the message
  registrar_to : (h : Option Transaction) → g ≡ h → other_request (get_or h free_transaction) f ≡ true → (confirms_unknown h f ≡ true → ⊥) → OtherAtRegistrar t (as_id f.id) m
  unfolding fields_of
  registrar_to h q a u = go (sorted _ f.kind f.entries f.request a)
    where
      go : (f.kind ≡ 24) ⊎ Request f.kind → OtherAtRegistrar t (as_id f.id) m
      go (inr k) = let e : (eqb f.entries 1 && not (eqb f.request 0)) ≡ true = sym (asks_0 _ f.kind f.entries f.request k) ∙ a in
          (eqb_eq f.entries 1 (and_left (eqb f.entries 1) _ e), inr (k, not_0 f.request (and_right (eqb f.entries 1) _ e)))
      go (inl k) = of_cert_conf h q k (sym (asks_24 _ f.kind f.entries f.request k) ∙ a) u

  registrar_from : (h : Option Transaction) → g ≡ h → OtherAtRegistrar t (as_id f.id) m → other_request (get_or h free_transaction) f ≡ true
  unfolding fields_of
  registrar_from h q (one, inr (k, w)) = asks_0 _ f.kind f.entries f.request k ∙ both (eqb f.entries 1) _ (same_number_lem f.entries 1 one) (is_not_0 f.request w)
  registrar_from h q (one, inl (k, r, l, w)) =
      let z : h ≡ some r = sym q ∙ l in
      asks_24 _ f.kind f.entries f.request k ∙ both (eqb f.entries 1) _ (same_number_lem f.entries 1 one) (ap (λ (x : Option Transaction). not (eqb f.request (request_number (get_or x free_transaction).kind))) z ∙ other_than_asked r.kind f.request w)

pub registrar_means_16 : (t : TransactionTable) (d : RegistrarInput) (bytes : List ℕ) (m : Message) → reading_of bytes ≡ Ok m
    → Means 16 (Some 2) (OtherAtRegistrar t (as_id (fields_of bytes m).id) m) (registrar_rows t.transactions (lookup t.transactions (as_id (fields_of bytes m).id)) d.verdict (fields_of bytes m)) (registrar_message t d bytes).outcome
unfolding registrar_rows
registrar_means_16 t d bytes m e =
    registrar_means 16 t d bytes m e _ (Some 2) bit_16 refl
    (λ a h. registrar_to t d bytes m _ refl a (λ u. let z : 16 ≤ 12 = h 12 (at-applies 12 (table t d bytes m (g t d bytes m)) u) in omega arith))
    (λ w. registrar_from t d bytes m _ refl w)

-- ## An end entity

module _ (x : Enrolment) (d : EndEntityInput) (bytes : List ℕ) (m : Message) where
  abbrev fields : Fields
  fields = fields_of bytes m

  end_entity_to : other_number x fields ≡ true → OtherAtEndEntity x m
  unfolding fields_of
  end_entity_to a =
      let c : (responds fields && one_response fields) ≡ true = and_left (responds fields && one_response fields) _ a in (
        eqb_eq fields.entries 1 (and_right (responds fields) (one_response fields) c),
        one_of_three fields.kind 1 3 8 (and_left (responds fields) (one_response fields) c),
        differs x.kind fields.request (and_right (responds fields && one_response fields) _ a),
      )

  end_entity_from : OtherAtEndEntity x m → other_number x fields ≡ true
  unfolding fields_of
  end_entity_from (one, k, w) = both (responds fields && one_response fields) _ (both (responds fields) (one_response fields) (a_response fields.kind k) (same_number_lem fields.entries 1 one)) (other_than_asked x.kind fields.request w)
    where
      a_response : (k : ℕ) → (k ≡ 1) ⊎ (k ≡ 3) ⊎ (k ≡ 8) → is_response k ≡ true
      a_response k (inl p) = rw p
      a_response k (inr (inl p)) = rw p
      a_response k (inr (inr p)) = rw p

pub end_entity_means_16 : (x : Enrolment) (d : EndEntityInput) (bytes : List ℕ) (m : Message) → reading_of bytes ≡ Ok m
    → Means 16 (Some 2) (OtherAtEndEntity x m) (end_entity_rows x d.good (fields_of bytes m)) (end_entity_message x d bytes).outcome
unfolding end_entity_rows
end_entity_means_16 x d bytes m e =
    end_entity_means 16 x d bytes m e _ (Some 2) (bit_16 false) refl
    (λ a h. end_entity_to x d bytes m a)
    (λ w. end_entity_from x d bytes m w)
