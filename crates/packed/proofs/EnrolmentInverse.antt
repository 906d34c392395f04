-- Packing and unpacking an enrolment are inverse to each other.
use Rattle.std.specs.Prelude.{Some, is_some}
use Prim.Native.Nat.{ℕ, zero, suc, ◌<◌, ◌≤◌}
use mathlib.Core.List.{List, [], ◌∷◌}
use mathlib.Core.Bool.{true, ◌&&◌}
use mathlib.Core.Path.{◌≡◌, refl, ◌∙◌, ap}
use native.Mathlib.Omega.{arith}
use borrow.Author.Tests.{lt-ltb, eq-eqb, ltb-true, eqb-true}
use lib.Dec.{eqb, ltb}
use lib.ListN.{length, take, get_or}
use lib.Seq.{take_all}
use Rattle.der.proofs.Auto.{and_left, and_right}
use Rattle.protocol.specs.declared.Enrolment.{Enrolment}
use Rattle.protocol.specs.declared.EnrolmentState.{EnrolmentState}
use Rattle.protocol.specs.declared.EnrolmentState.TheVariants.{Asked, Confirming, Declining, Sure, Declined, Failed, Unsettled}
use Rattle.packed.specs.Places.{id_bytes, nonce_bytes, hash_bytes, enrolment_id_at, enrolment_last_at, enrolment_taken_at, enrolment_hash_at, enrolment_state_at}
use Rattle.packed.specs.Enrolment.{enrolment_state_number, enrolment_state_of, enrolment_bytes, pack_enrolment, enrolment_of, unpack_enrolment, enrolment_held, EnrolmentSized}
use Rattle.packed.proofs.Tests.{tested}
use Rattle.packed.proofs.Parts.{part_length}
use Rattle.packed.proofs.FieldLaws.{Field, Bytes, Byte, AllFit, AllRead, read_back, joined_length, made_again}

-- ## A state

of_number : (x : EnrolmentState) → enrolment_state_of (enrolment_state_number x) ≡ x
unfolding enrolment_state_of
of_number Asked = refl
of_number Confirming = refl
of_number Declining = refl
of_number Sure = refl
of_number Declined = refl
of_number Failed = refl
of_number Unsettled = refl

below : (x : EnrolmentState) → enrolment_state_number x < 7
below Asked = omega arith
below Confirming = omega arith
below Declining = omega arith
below Sure = omega arith
below Declined = omega arith
below Failed = omega arith
below Unsettled = omega arith

number_of : (n : ℕ) → n < 7 → enrolment_state_number (enrolment_state_of n) ≡ n
unfolding enrolment_state_of
number_of zero h = refl
number_of (suc zero) h = refl
number_of (suc (suc zero)) h = refl
number_of (suc (suc (suc zero))) h = refl
number_of (suc (suc (suc (suc zero)))) h = refl
number_of (suc (suc (suc (suc (suc zero))))) h = refl
number_of (suc (suc (suc (suc (suc (suc zero)))))) h = refl
number_of (suc (suc (suc (suc (suc (suc (suc n))))))) h = absurd (omega arith)

-- ## Unpacking what was packed

abbrev fields : Enrolment → List Field
fields x =
    Bytes id_bytes x.id.bytes
    ∷ Byte x.kind
    ∷ Bytes nonce_bytes x.last.bytes
    ∷ Bytes nonce_bytes x.taken.bytes
    ∷ Bytes hash_bytes x.hash.bytes
    ∷ Byte (enrolment_state_number x.state)
    ∷ []

is_read : (x : Enrolment) (s : List ℕ) → AllRead 0 (fields x) s → enrolment_of s ≡ x
unfolding enrolment_of
is_read x s (id, (kind, (last, (taken, (hash, (state, _)))))) =
    λ i. record {
      id = record { bytes = id i };
      kind = kind i;
      last = record { bytes = last i };
      taken = record { bytes = taken i };
      hash = record { bytes = hash i };
      state = (ap enrolment_state_of state ∙ of_number x.state) i;
    }

state_read : (x : Enrolment) (s : List ℕ) → AllRead 0 (fields x) s → get_or s enrolment_state_at 0 ≡ enrolment_state_number x.state
state_read x s h = cc

module _ (x : Enrolment) (z : EnrolmentSized x) where
  all_fit : AllFit (fields x)
  all_fit = search

  packed_read : AllRead 0 (fields x) (pack_enrolment x)
  unfolding pack_enrolment
  packed_read = read_back (fields x) all_fit []

  packed_length : length (pack_enrolment x) ≡ enrolment_bytes
  unfolding pack_enrolment
  packed_length = joined_length (fields x) all_fit []

  pub unpack_packed : unpack_enrolment (pack_enrolment x) ≡ Some x
  unfolding unpack_enrolment
  unpack_packed =
      let size : eqb (length (pack_enrolment x)) enrolment_bytes ≡ true = eq-eqb _ _ packed_length in
      let good : ltb (get_or (pack_enrolment x) enrolment_state_at 0) 7 ≡ true = rw (state_read x _ packed_read) (lt-ltb _ _ (below x.state)) in
      rw (size, good, is_read x _ packed_read)

-- ## Packing what was unpacked

enrolment-again : (s : List ℕ) → enrolment_bytes ≤ length s → get_or s enrolment_state_at 0 < 7 → pack_enrolment (enrolment_of s) ≡ take enrolment_bytes s
unfolding pack_enrolment enrolment_of
enrolment-again s h n =
    made_again (fields (enrolment_of s)) 0 s (omega arith) (search (number_of (get_or s enrolment_state_at 0) n))

-- ## What holds where there is an enrolment

module _ (s : List ℕ) (ok : is_some (unpack_enrolment s) ≡ true) where
  tests : (eqb (length s) enrolment_bytes && ltb (get_or s enrolment_state_at 0) 7) ≡ true
  unfolding unpack_enrolment
  tests = tested (eqb (length s) enrolment_bytes && ltb (get_or s enrolment_state_at 0) 7) (enrolment_of s) ok

  pub enrolment_size : length s ≡ enrolment_bytes
  enrolment_size = eqb-true _ _ (and_left _ (ltb (get_or s enrolment_state_at 0) 7) tests)

  pub enrolment_state : get_or s enrolment_state_at 0 < 7
  enrolment_state = ltb-true _ _ (and_right (eqb (length s) enrolment_bytes) _ tests)

  pub enrolment_is : enrolment_held s ≡ enrolment_of s
  unfolding unpack_enrolment
  enrolment_is = rw tests refl

pub pack_unpacked : (s : List ℕ) → is_some (unpack_enrolment s) ≡ true → pack_enrolment (enrolment_held s) ≡ s
pack_unpacked s ok =
    let size : length s ≡ enrolment_bytes = enrolment_size s ok in
    rw (enrolment_is s ok) (enrolment-again s (omega arith) (enrolment_state s ok) ∙ take_all enrolment_bytes s (omega arith))

-- ## What is unpacked has its sizes

pub enrolment_sized : (s : List ℕ) → is_some (unpack_enrolment s) ≡ true → EnrolmentSized (enrolment_held s)
unfolding enrolment_of
enrolment_sized s ok =
    let size : length s ≡ enrolment_bytes = enrolment_size s ok in
    rw (enrolment_is s ok) (record { id = part_length enrolment_id_at id_bytes s (omega arith); last = part_length enrolment_last_at nonce_bytes s (omega arith); taken = part_length enrolment_taken_at nonce_bytes s (omega arith); hash = part_length enrolment_hash_at hash_bytes s (omega arith) })
