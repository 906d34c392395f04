-- An INTEGER's bytes: a number's four without those that are not needed.
use Prim.Native.Nat.{ℕ, ◌-◌, ◌/◌, ◌%◌, ◌<◌}
use mathlib.Core.List.{List, [], ◌∷◌}
use mathlib.Core.Path.{◌≡◌, refl, ◌∙◌, ap, subst}
use mathlib.Core.Bool.{Bool, true, false, cond, ◌||◌}
use native.Mathlib.Omega.{arith}
use lib.Dec.{ltb, leb}
use lib.ListN.{take, drop}
use borrow.Author.Tests.{lt-ltb}
use Rattle.std.specs.Int.{to_be_bytes, byte_at}
use mir.Syntax.{w32}
use Rattle.encoding.specs.Element.{element, integer_bytes, integer}
use Rattle.writer.specs.declared.put.Cursor.{Cursor}
use Rattle.writer.specs.Wrote.{Wrote}
use Rattle.writer.specs.Sizes.{Size}
use Rattle.writer.specs.Code.{unneeded}
use Rattle.writer.proofs.Sizes.{size-around}

abbrev four_bytes : ℕ → List ℕ
four_bytes n = n / 16777216 ∷ n / 65536 % 256 ∷ n / 256 % 256 ∷ n % 256 ∷ []

pub four-is : (n : ℕ) → n < 4294967296 → to_be_bytes w32 n ≡ four_bytes n
four-is n h =
    let a : byte_at 3 n ≡ n / 16777216 = omega arith in
    let d : byte_at 0 n ≡ n % 256 = omega arith in
    cc

needed : (n : ℕ) → take (4 - unneeded n) (drop (unneeded n) (four_bytes n)) ≡ integer_bytes n
unfolding unneeded integer_bytes
needed n = by_tests (ltb n 0x80 || leb 0xFFFFFF80 n) (ltb n 0x8000 || leb 0xFFFF8000 n) (ltb n 0x800000 || leb 0xFF800000 n)
  where
    by_tests : (a b c : Bool)
        → take (4 - cond a 3 (cond b 2 (cond c 1 0))) (drop (cond a 3 (cond b 2 (cond c 1 0))) (four_bytes n))
        ≡ cond a (n % 256 ∷ []) (cond b (n / 256 % 256 ∷ n % 256 ∷ []) (cond c (n / 65536 % 256 ∷ n / 256 % 256 ∷ n % 256 ∷ []) (four_bytes n)))
    by_tests true b c = refl
    by_tests false true c = refl
    by_tests false false true = refl
    by_tests false false false = refl

needed_size : (n : ℕ) → Size (4 - unneeded n) (integer_bytes n)
unfolding unneeded integer_bytes
needed_size n = by_tests (ltb n 0x80 || leb 0xFFFFFF80 n) (ltb n 0x8000 || leb 0xFFFF8000 n) (ltb n 0x800000 || leb 0xFF800000 n)
  where
    by_tests : (a b c : Bool)
        → Size (4 - cond a 3 (cond b 2 (cond c 1 0)))
        (cond a (n % 256 ∷ []) (cond b (n / 256 % 256 ∷ n % 256 ∷ []) (cond c (n / 65536 % 256 ∷ n / 256 % 256 ∷ n % 256 ∷ []) (four_bytes n))))
    by_tests true b c = record { is = refl }
    by_tests false true c = record { is = refl }
    by_tests false false true = record { is = refl }
    by_tests false false false = record { is = refl }

pub integer-size : (n r : ℕ) → (r ≡ unneeded n) → r < 4 → Size (6 - r) (integer n)
unfolding integer
integer-size n r e h =
    let k : 4 - unneeded n < 128 = omega arith in
    size-around 2 (needed_size n) (rw (lt-ltb (4 - unneeded n) 128 k) (omega (arith, e)))

pub integer-put : {c c' : Cursor} {k : ℕ} (n : ℕ) → k ≡ unneeded n → Wrote (element 2 (take (4 - k) (drop k (four_bytes n)))) c c' → Wrote (integer n) c c'
unfolding integer
integer-put {c} {c'} n e p =
    subst (λ (l : List ℕ). Wrote (element 2 l) c c') (ap (λ (j : ℕ). take (4 - j) (drop j (four_bytes n))) e ∙ needed n) p
