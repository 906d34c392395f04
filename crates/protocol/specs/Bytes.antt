-- Byte strings: their equality as a test, and values that may be missing.
use Rattle.std.specs.Prelude.{ℕ, List, [], ◌∷◌, Bool, true, false, ◌&&◌, replicate, eqb}
use Rattle.std.proofs.Math.Option.{Option, none, some}
use Rattle.protocol.specs.declared.TransactionId.{TransactionId}
use Rattle.protocol.specs.declared.Nonce.{Nonce}
use Rattle.protocol.specs.declared.FreshNonce.{FreshNonce}
use Rattle.protocol.specs.declared.Hash.{Hash}

unfoldable pub same_bytes : List ℕ → List ℕ → Bool
same_bytes [] [] = true
same_bytes [] (y ∷ ys) = false
same_bytes (x ∷ xs) [] = false
same_bytes (x ∷ xs) (y ∷ ys) = eqb x y && same_bytes xs ys

-- the one equality of ids, of nonces, of hashes
abbrev pub same_id : TransactionId → TransactionId → Bool
same_id a b = same_bytes a.bytes b.bytes

abbrev pub same_nonce : Nonce → Nonce → Bool
same_nonce a b = same_bytes a.bytes b.bytes

abbrev pub same_hash : Hash → Hash → Bool
same_hash a b = same_bytes a.bytes b.bytes

-- "unset bytes are zero"
abbrev pub zeros : ℕ → List ℕ
zeros n = replicate n 0

abbrev pub no_id : TransactionId
no_id = record { bytes = zeros 16 }

abbrev pub no_nonce : Nonce
no_nonce = record { bytes = zeros 16 }

abbrev pub no_hash : Hash
no_hash = record { bytes = zeros 32 }

-- what the host drew, as it is sent and kept
abbrev pub nonce_from : FreshNonce → Nonce
nonce_from n = record { bytes = n.bytes }

-- ## Values that may be missing

abbrev pub bytes_of : Option (List ℕ) → List ℕ
bytes_of none = []
bytes_of (some a) = a

abbrev pub present : Option (List ℕ) → Bool
present none = false
present (some a) = true

-- the id, the nonce, of these bytes
abbrev pub as_id : Option (List ℕ) → TransactionId
as_id a = record { bytes = bytes_of a }

abbrev pub as_nonce : Option (List ℕ) → Nonce
as_nonce a = record { bytes = bytes_of a }

-- it is there and is this id, this nonce: a missing one is none
abbrev pub is_id : Option (List ℕ) → TransactionId → Bool
is_id none b = false
is_id (some a) b = same_id (record { bytes = a }) b

abbrev pub is_nonce : Option (List ℕ) → Nonce → Bool
is_nonce none b = false
is_nonce (some a) b = same_nonce (record { bytes = a }) b
