-- A failure bit: the shortest BIT STRING with that bit set.
use Prim.Native.Nat.{ℕ, zero, suc, ◌+◌, ◌-◌, ◌/◌, ◌%◌, ◌^◌, ◌<◌, ◌≤◌}
use mathlib.Core.List.{List, [], ◌∷◌}
use mathlib.Core.Path.{◌≡◌, refl, sym, ap, subst}
use native.Mathlib.Omega.{arith}
use lib.ListN.{take, length-append, length-replicate}
use Rattle.protocol.specs.Bytes.{zeros}
use Rattle.encoding.specs.Message.{bit_content}
use Rattle.writer.specs.declared.put.Cursor.{Cursor}
use Rattle.writer.specs.Wrote.{Wrote}
use Rattle.writer.specs.Sizes.{Size}
use Rattle.writer.proofs.Wrote.{wrote_as}

some_zeros : (k n : ℕ) → k ≤ n → take k (zeros n) ≡ zeros k
some_zeros zero n h = refl
some_zeros (suc k) zero h = absurd (omega arith)
some_zeros (suc k) (suc n) h = ap (λ (l : List ℕ). 0 ∷ l) (some_zeros k n (omega arith))

pub zeros-put : {c c' : Cursor} (n : ℕ) → Wrote (take (n % 32) (zeros 32)) c c' → Wrote (zeros (n % 32)) c c'
zeros-put n p = wrote_as (sym (some_zeros (n % 32) 32 (omega arith))) p

pub bit-content-size : (b : ℕ) → b < 256 → Size (b / 8 + 2) (bit_content b)
unfolding bit_content
bit-content-size b h = record { is = omega (arith, length-append (zeros (b / 8)) ((2 ^ (7 - b % 8)) ∷ []), length-replicate {A = ℕ} (b / 8) 0) }

-- a byte's bit is in one of 32 bytes
pub bit_byte : (b : ℕ) → b < 256 → b / 8 % 32 ≡ b / 8
bit_byte b h = omega arith

pub puts_byte : {x y : ℕ} {c c' : Cursor} → x ≡ y → Wrote (x ∷ []) c c' → Wrote (y ∷ []) c c'
puts_byte {x} {y} {c} {c'} e p = subst (λ (k : ℕ). Wrote (k ∷ []) c c') e p
