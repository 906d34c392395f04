-- FAILURE BIT: of each failure just its own bit is written.
use Rattle.std.specs.Prelude.{Some, None}
use Prim.Native.Nat.{ℕ, suc, ◌+◌, ◌-◌, ◌/◌, ◌%◌, ◌^◌, ◌<◌}
use mathlib.Core.Path.{◌≡◌, sym, ◌∙◌, ap}
use mathlib.Core.List.{[], ◌∷◌}
use mathlib.Core.Bool.{true, false, true≢false}
use mathlib.Core.Logic.{◌⊎◌, inl, inr}
use native.Mathlib.Nat.{div_self, div-eq_of_lt, one-le-pow, eq-or-lt_of_le}
use native.Mathlib.Numerals.{add-one}
use native.Mathlib.Omega.{arith}
use borrow.Author.Tests.{eq-eqb}
use lib.ListN.{get_or-replicate, get_or-append}
use lib.Seq.{get_or-append_seam}
use lib.Pow.{pow-lt}
use lib.Dec.{lit<}
use Rattle.der.specs.Head.{byte}
use Rattle.protocol.specs.Bytes.{zeros}
use Rattle.encoding.specs.Message.{bit_content}
use Rattle.encoding.specs.FailureBit.{bit_count, bit_set, OnlyBit, FailureBitWritten}
use Rattle.encoding.proofs.Status.{zeros-size, bit-size}

module _ (b : ℕ) where
  count-is : bit_count (bit_content b) ≡ b + 1
  unfolding bit_count bit_content
  count-is = omega (arith, bit-size b)

  -- a byte before the last is zero; the last has the bit
  zero_byte : (i : ℕ) → i < b / 8 → byte (bit_content b) (i + 1) ≡ 0
  unfolding bit_content
  zero_byte i h =
      ap (byte (bit_content b)) (add-one i)
      ∙ get_or-append (zeros (b / 8)) ((2 ^ (7 - b % 8)) ∷ []) 0 i (omega (arith, zeros-size (b / 8))) ∙ get_or-replicate (b / 8) i 0 0 h

  last_byte : byte (bit_content b) (b / 8 + 1) ≡ 2 ^ (7 - b % 8)
  unfolding bit_content
  last_byte =
      ap (byte (bit_content b)) (add-one (b / 8) ∙ ap suc (sym (zeros-size (b / 8)))) ∙ get_or-append_seam (zeros (b / 8)) (2 ^ (7 - b % 8)) [] 0

  own_set : bit_set (bit_content b) b ≡ true
  unfolding bit_set
  own_set =
      rw last_byte
      (eq-eqb (2 ^ (7 - b % 8) / 2 ^ (7 - b % 8) % 2) 1 (ap (λ (k : ℕ). k % 2) (div_self (one-le-pow (7 - b % 8) 2 (lit< tt)))))

  before_unset : (k : ℕ) → (k / 8 ≡ b / 8) ⊎ (k / 8 < b / 8) → k < b → bit_set (bit_content b) k ≡ false
  unfolding bit_set
  before_unset k (inl e) h =
      let low : 2 ^ (7 - b % 8) < 2 ^ (7 - k % 8) = pow-lt (omega arith) in
      rw (e, last_byte, div-eq_of_lt low)
  before_unset k (inr l) h = rw (zero_byte (k / 8) l, div-eq_of_lt (one-le-pow (7 - k % 8) 2 (lit< tt)))

  own_only : (k : ℕ) → (k ≡ b) ⊎ (k < b) → bit_set (bit_content b) k ≡ true → k ≡ b
  own_only k (inl e) h = e
  own_only k (inr l) h = absurd (true≢false (sym h ∙ before_unset k (eq-or-lt_of_le (omega arith)) l))

  only-bit : OnlyBit b (bit_content b)
  only-bit =
      record {
        count = count-is;
        set = λ k h. (own_only k (eq-or-lt_of_le (omega arith)), λ e. rw e own_set);
      }

-- FAILURE BIT
pub failure-bit : FailureBitWritten
failure-bit None = tt
failure-bit (Some b) = only-bit b
