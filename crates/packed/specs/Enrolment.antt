-- An enrolment in bytes.
use Rattle.std.specs.Prelude.{ℕ, List, [], ◌∷◌, ◌++◌, cond, ◌&&◌, ◌≡◌, length, get_or, eqb, ltb, Option, Some, None, unwrap_or}
use Rattle.protocol.specs.declared.Enrolment.{Enrolment}
use Rattle.protocol.specs.declared.EnrolmentState.{EnrolmentState}
use Rattle.protocol.specs.declared.EnrolmentState.TheVariants.{Asked, Confirming, Declining, Sure, Declined, Failed, Unsettled}
use Rattle.protocol.specs.EndEntity.{no_enrolment}
use Rattle.packed.specs.Bytes.{part}
use Rattle.packed.specs.Places.{id_bytes, nonce_bytes, hash_bytes, enrolment_id_at, enrolment_kind_at, enrolment_last_at, enrolment_taken_at, enrolment_hash_at, enrolment_state_at, enrolment_end}

-- ## A state

abbrev pub enrolment_state_number : EnrolmentState → ℕ
enrolment_state_number Asked = 0
enrolment_state_number Confirming = 1
enrolment_state_number Declining = 2
enrolment_state_number Sure = 3
enrolment_state_number Declined = 4
enrolment_state_number Failed = 5
enrolment_state_number Unsettled = 6

-- of a number below 7
unfoldable pub enrolment_state_of : ℕ → EnrolmentState
enrolment_state_of n =
    cond (eqb n 0) Asked (
    cond (eqb n 1) Confirming (
    cond (eqb n 2) Declining (
    cond (eqb n 3) Sure (
    cond (eqb n 4) Declined (
    cond (eqb n 5) Failed Unsettled)))))

-- ## An enrolment

abbrev pub enrolment_bytes : ℕ
enrolment_bytes = enrolment_end

unfoldable pub pack_enrolment : Enrolment → List ℕ
pack_enrolment x =
    x.id.bytes ++ (
    (x.kind ∷ []) ++ (
    x.last.bytes ++ (
    x.taken.bytes ++ (
    x.hash.bytes ++ (
    enrolment_state_number x.state ∷ [])))))

unfoldable pub enrolment_of : List ℕ → Enrolment
enrolment_of s =
    record {
      id = record { bytes = part enrolment_id_at id_bytes s };
      kind = get_or s enrolment_kind_at 0;
      last = record { bytes = part enrolment_last_at nonce_bytes s };
      taken = record { bytes = part enrolment_taken_at nonce_bytes s };
      hash = record { bytes = part enrolment_hash_at hash_bytes s };
      state = enrolment_state_of (get_or s enrolment_state_at 0);
    }

-- ## The two calls

-- where they are exactly as long as one, and the state byte is a state
unfoldable pub unpack_enrolment : List ℕ → Option Enrolment
unpack_enrolment s = cond (eqb (length s) enrolment_bytes && ltb (get_or s enrolment_state_at 0) 7) (Some (enrolment_of s)) None

-- for the theorems: the enrolment, or one that is all zeros, at Failed
abbrev pub enrolment_held : List ℕ → Enrolment
enrolment_held s = unwrap_or (unpack_enrolment s) no_enrolment

-- bytes of another length stay as they are
unfoldable pub pack_enrolment_in : Enrolment → List ℕ → List ℕ
pack_enrolment_in x s = cond (eqb (length s) enrolment_bytes) (pack_enrolment x) s

-- for the theorems: the arrays have their lengths. Numbers need no bound there
pub record EnrolmentSized (x : Enrolment) : Type 0 where
  pub id : length x.id.bytes ≡ id_bytes
  pub last : length x.last.bytes ≡ nonce_bytes
  pub taken : length x.taken.bytes ≡ nonce_bytes
  pub hash : length x.hash.bytes ≡ hash_bytes
