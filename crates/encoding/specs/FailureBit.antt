-- Which bit of a failInfo is set, as X.690 has a BIT STRING's content (8.6.2): a first byte that says how many bits of the last byte are
-- unused, then the bits in order, from the most significant bit of the first byte after it to its least significant one, then those of the
-- second, and so on.
use Rattle.std.specs.Prelude.{ℕ, ◌+◌, ◌-◌, ◌*◌, ◌/◌, ◌%◌, ◌^◌, ◌<◌, List, Bool, true, ◌≡◌, ◌↔◌, length, eqb, Some, None}
use Rattle.std.proofs.Math.Option.{Option, none, some}
use Rattle.der.specs.Head.{byte}
use Rattle.protocol.specs.Types.{FailureInfo}
use Rattle.encoding.specs.Message.{failure_bits}

-- how many bits there are: eight in each byte after the first, less the unused ones
unfoldable pub bit_count : List ℕ → ℕ
bit_count v = 8 * (length v - 1) - byte v 0

-- bit k, counted from 0, is set: it is in byte k / 8 after the first one, of which bit 0 is the most significant bit, 2 ^ 7
unfoldable pub bit_set : List ℕ → ℕ → Bool
bit_set v k = eqb (byte v (k / 8 + 1) / 2 ^ (7 - k % 8) % 2) 1

-- the bits go as far as bit b, which is the only one that is set
pub record OnlyBit (b : ℕ) (v : List ℕ) : Type 0 where
  pub count : bit_count v ≡ b + 1
  pub set : (k : ℕ) → k < b + 1 → (bit_set v k ≡ true) ↔ (k ≡ b)

-- no failInfo without a bit; with one, just that bit
abbrev pub WritesFailure : FailureInfo → Option (List ℕ) → Type 0
WritesFailure None none = Unit {0}
WritesFailure None (some v) = ⊥
WritesFailure (Some b) none = ⊥
WritesFailure (Some b) (some v) = OnlyBit b v

-- of each failure its own bit is written
abbrev pub FailureBitWritten : Type 0
FailureBitWritten = (f : FailureInfo) → WritesFailure f (failure_bits f)
