-- Numbers in bytes, big-endian, as std and the definitions write them.
use Prim.Native.Nat.{ℕ, ◌+◌, ◌/◌, ◌%◌, ◌<◌}
use mathlib.Core.List.{List, [], ◌∷◌}
use mathlib.Core.Path.{◌≡◌, refl, ap, ◌∙◌}
use native.Mathlib.Omega.{arith}
use lib.ListN.{drop, get_or}
use lib.Seq.{get_or-drop, get_or-take}
use Rattle.std.specs.Int.{w16, w32, w64, to_be_bytes, from_be_bytes}
use Rattle.packed.specs.Bytes.{part, Placed, two_at, two_bytes, four_at, four_bytes, eight_bytes}

-- ## As they are put in

two_is : (n : ℕ) → n < 65536 → to_be_bytes w16 n ≡ two_bytes n
two_is n h =
    let high : n / 256 % 256 ≡ n / 256 = omega arith in
    ap (λ (k : ℕ). k ∷ n % 256 ∷ []) high

four_is : (n : ℕ) → n < 4294967296 → to_be_bytes w32 n ≡ four_bytes n
four_is n h =
    let a : n / 16777216 % 256 ≡ n / 65536 / 256 = omega arith in
    let b : n / 65536 % 256 ≡ n / 65536 % 256 = refl in
    let c : n / 256 % 256 ≡ n % 65536 / 256 = omega arith in
    let d : n % 256 ≡ n % 65536 % 256 = omega arith in
    λ i. a i ∷ b i ∷ c i ∷ d i ∷ []

eight_is : (n : ℕ) → n < 18446744073709551616 → to_be_bytes w64 n ≡ eight_bytes n
eight_is n h =
    let a : n / 72057594037927936 % 256 ≡ n / 4294967296 / 65536 / 256 = omega arith in
    let b : n / 281474976710656 % 256 ≡ n / 4294967296 / 65536 % 256 = omega arith in
    let c : n / 1099511627776 % 256 ≡ n / 4294967296 % 65536 / 256 = omega arith in
    let d : n / 4294967296 % 256 ≡ n / 4294967296 % 65536 % 256 = omega arith in
    let e : n / 16777216 % 256 ≡ n % 4294967296 / 65536 / 256 = omega arith in
    let f : n / 65536 % 256 ≡ n % 4294967296 / 65536 % 256 = omega arith in
    let g : n / 256 % 256 ≡ n % 4294967296 % 65536 / 256 = omega arith in
    let k : n % 256 ≡ n % 4294967296 % 65536 % 256 = omega arith in
    λ i. a i ∷ b i ∷ c i ∷ d i ∷ e i ∷ f i ∷ g i ∷ k i ∷ []

module _ {at n : ℕ} {x s s' : List ℕ} where
  pub two_put : n < 65536 → x ≡ to_be_bytes w16 n → Placed at 2 x s s' → Placed at 2 (two_bytes n) s s'
  two_put h e p = rw (e ∙ two_is n h) at p

  pub four_put : n < 4294967296 → x ≡ to_be_bytes w32 n → Placed at 4 x s s' → Placed at 4 (four_bytes n) s s'
  four_put h e p = rw (e ∙ four_is n h) at p

  pub eight_put : n < 18446744073709551616 → x ≡ to_be_bytes w64 n → Placed at 8 x s s' → Placed at 8 (eight_bytes n) s s'
  eight_put h e p = rw (e ∙ eight_is n h) at p

-- ## As they are read

read_at : (at n i j : ℕ) (s : List ℕ) → i < n → at + i ≡ j → get_or (part at n s) i 0 ≡ get_or s j 0
read_at at n i j s h e = get_or-take n (drop at s) i 0 h ∙ get_or-drop at s i 0 ∙ ap (λ (k : ℕ). get_or s k 0) e

pub two_read : (at : ℕ) (s x : List ℕ) → x ≡ part at 2 s → from_be_bytes w16 x ≡ two_at at s
two_read at s x e =
    rw e (omega (arith, read_at at 2 0 at s (omega arith) (omega arith), read_at at 2 1 (at + 1) s (omega arith) refl))

pub four_read : (at : ℕ) (s x : List ℕ) → x ≡ part at 4 s → from_be_bytes w32 x ≡ four_at at s
four_read at s x e =
    let a = read_at at 4 0 at s (omega arith) (omega arith) in
    let b = read_at at 4 1 (at + 1) s (omega arith) refl in
    let c = read_at at 4 2 (at + 2) s (omega arith) refl in
    let d = read_at at 4 3 (at + 2 + 1) s (omega arith) (omega arith) in
    rw e (omega (arith, a, b, c, d))
