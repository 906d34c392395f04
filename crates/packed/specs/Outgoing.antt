-- A message to be sent, in bytes, at an offset of an answer.
use Rattle.std.specs.Prelude.{ℕ, List, [], ◌∷◌, ◌++◌, cond, ◌≡◌, length, get_or, eqb, Option, Some, None, unwrap_or}
use Rattle.protocol.specs.Types.{FailureInfo}
use Rattle.protocol.specs.declared.OutgoingContents.{OutgoingContents}
use Rattle.protocol.specs.declared.Outgoing.{Outgoing}
use Rattle.protocol.specs.Bytes.{zeros}
use Rattle.packed.specs.Bytes.{part, flag, flag_at, four_bytes, four_at}
use Rattle.packed.specs.Places.{id_bytes, nonce_bytes, hash_bytes, outgoing_kind_at, outgoing_id_at, outgoing_sender_nonce_at, outgoing_has_recip_nonce_at, outgoing_recip_nonce_at, outgoing_has_status_at, outgoing_status_at, outgoing_hash_at, outgoing_failure_at, outgoing_has_number_at, outgoing_number_at, outgoing_end}

-- a PKIFailureInfo bit; 255: none
abbrev pub failure_number : FailureInfo → ℕ
failure_number None = 255
failure_number (Some b) = b

abbrev pub failure_of : ℕ → FailureInfo
failure_of n = cond (eqb n 255) None (Some n)

abbrev pub outgoing_bytes : ℕ
outgoing_bytes = outgoing_end

-- kind, id and nonces
unfoldable pub pack_names : Outgoing → List ℕ
pack_names o =
    (o.kind ∷ []) ++ (
    o.id.bytes ++ (
    o.sender_nonce.bytes ++ (
    (flag o.has_recip_nonce ∷ []) ++
    o.recip_nonce.bytes)))

-- status, hash, failure and certReqId
unfoldable pub pack_contents : OutgoingContents → List ℕ
pack_contents c =
    (flag c.has_status ∷ []) ++ (
    four_bytes c.status ++ (
    c.hash.bytes ++ (
    (failure_number c.failure ∷ []) ++ (
    (flag c.has_number ∷ []) ++
    four_bytes c.number))))

abbrev pub pack_outgoing : Outgoing → List ℕ
pack_outgoing o = pack_names o ++ pack_contents o.contents

-- what these bytes say that a message carries
abbrev pub outgoing_contents_of : List ℕ → OutgoingContents
outgoing_contents_of s =
    record {
      has_status = flag_at outgoing_has_status_at s;
      status = four_at outgoing_status_at s;
      hash = record { bytes = part outgoing_hash_at hash_bytes s };
      failure = failure_of (get_or s outgoing_failure_at 0);
      has_number = flag_at outgoing_has_number_at s;
      number = four_at outgoing_number_at s;
    }

-- what the first bytes of a string say is to be sent
unfoldable pub outgoing_of : List ℕ → Outgoing
outgoing_of s =
    record {
      kind = get_or s outgoing_kind_at 0;
      id = record { bytes = part outgoing_id_at id_bytes s };
      sender_nonce = record { bytes = part outgoing_sender_nonce_at nonce_bytes s };
      has_recip_nonce = flag_at outgoing_has_recip_nonce_at s;
      recip_nonce = record { bytes = part outgoing_recip_nonce_at nonce_bytes s };
      contents = outgoing_contents_of s;
    }

-- the message that these bytes hold, where they are exactly as long as one
unfoldable pub unpack_outgoing : List ℕ → Option Outgoing
unpack_outgoing s = cond (eqb (length s) outgoing_bytes) (Some (outgoing_of s)) None

-- for the theorems: the message, or what zeros say
abbrev pub outgoing_held : List ℕ → Outgoing
outgoing_held s = unwrap_or (unpack_outgoing s) (outgoing_of (zeros outgoing_bytes))

-- for the theorems: the arrays have their lengths, and no bit is 255
pub record OutgoingSized (o : Outgoing) : Type 0 where
  pub id : length o.id.bytes ≡ id_bytes
  pub sender : length o.sender_nonce.bytes ≡ nonce_bytes
  pub recip : length o.recip_nonce.bytes ≡ nonce_bytes
  pub hash : length o.contents.hash.bytes ≡ hash_bytes
  pub failure : failure_of (failure_number o.contents.failure) ≡ o.contents.failure
