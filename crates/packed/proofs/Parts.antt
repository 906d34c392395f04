-- Parts of a byte string that is itself the end of another, or that was put together of parts.
use Prim.Native.Nat.{ℕ, ◌+◌, ◌/◌, ◌%◌, ◌<◌, ◌≤◌}
use mathlib.Core.List.{List, [], ◌∷◌, ◌++◌}
use mathlib.Core.Path.{◌≡◌, sym, ◌∙◌, ap}
use native.Mathlib.Nat.{add_assoc}
use native.Mathlib.Omega.{arith}
use lib.ListN.{length, take, drop, get_or, length-drop}
use lib.Seq.{drop-drop, get_or-drop, drop_at, take-add, drop-cons, length-take-le}
use Rattle.packed.specs.Bytes.{part, two_at, two_bytes, AllBytes}

-- ## The end of a string

module _ (at k : ℕ) where
  pub part-drop : (n : ℕ) (s : List ℕ) → part k n (drop at s) ≡ part (at + k) n s
  part-drop n s = ap (take n) (drop-drop k at s)

  pub two-drop : (s : List ℕ) → two_at k (drop at s) ≡ two_at (at + k) s
  two-drop s = cc (get_or-drop at s k 0, get_or-drop at s (k + 1) 0, add_assoc at k 1)

pub bytes_drop : (at : ℕ) (s : List ℕ) → AllBytes s → AllBytes (drop at s)
bytes_drop at s h i = rw (get_or-drop at s i 0) (h (at + i))

pub part_length : (k n : ℕ) (s : List ℕ) → k + n ≤ length s → length (part k n s) ≡ n
part_length k n s h = length-take-le n (drop k s) (omega (arith, length-drop k s))

-- ## A string put together: past its first part x

module _ (x y : List ℕ) (n : ℕ) (e : length x ≡ n) where
  pub skip : (k m : ℕ) → part (n + k) m (x ++ y) ≡ part k m y
  skip k m = sym (part-drop n k m (x ++ y)) ∙ ap (part k m) (drop_at x y n e)

-- ## A string taken apart: its parts make it again

module _ (s : List ℕ) where
  pub join : (k n m : ℕ) {x y : List ℕ} → x ≡ part k n s → y ≡ part (k + n) m s → x ++ y ≡ part k (n + m) s
  join k n m p q = rw (p, q, take-add n m (drop k s), drop-drop n k s)

  pub one : (k : ℕ) {x : ℕ} → k < length s → x ≡ get_or s k 0 → x ∷ [] ≡ part k 1 s
  one k h e = rw (e, drop-cons s k 0 h)

  pub two : (k : ℕ) → AllBytes s → k + 1 < length s → two_bytes (two_at k s) ≡ part k 2 s
  two k b h =
      let d : two_at k s / 256 ≡ get_or s k 0 = omega (arith, b k, b (k + 1)) in
      let m : two_at k s % 256 ≡ get_or s (k + 1) 0 = omega (arith, b k, b (k + 1)) in
      join k 1 1 (one k (omega arith) d) (one (k + 1) h m)
