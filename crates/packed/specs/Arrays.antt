-- Ids, nonces and hashes that the host hands in as slices: 16 or 32 bytes exactly.
use Rattle.std.specs.Prelude.{ℕ, List, cond, length, eqb, Option, Some, None, unwrap_or}
use Rattle.protocol.specs.Bytes.{zeros}

-- the bytes, where there are n
unfoldable pub unpack : ℕ → List ℕ → Option (List ℕ)
unpack n s = cond (eqb (length s) n) (Some s) None

-- for the theorems: the bytes, or n zeros where there are not as many
abbrev pub bytes_or_zeros : ℕ → List ℕ → List ℕ
bytes_or_zeros n s = unwrap_or (unpack n s) (zeros n)
