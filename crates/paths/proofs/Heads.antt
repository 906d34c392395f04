-- A head is read from its own bytes: where what follows an element is cut off, the same element is read.
use Rattle.std.specs.Prelude.{Ok, Err}
use Prim.Native.Nat.{ℕ, ◌+◌, ◌*◌, ◌<◌, ◌≤◌}
use mathlib.Core.Path.{◌≡◌, refl, subst}
use mathlib.Core.List.{List}
use mathlib.Core.Bool.{true, ◌||◌}
use native.Mathlib.Omega.{arith}
use borrow.Author.Tests.{ltb-true, ltb-false, eqb-true, eqb-false, lt-ltb, le-ltb, le-leb, ne_eqb}
use lib.ListN.{length, take}
use lib.Seq.{get_or-take, length-take-le}
use lib.Dec.{ltb, leb, eqb, lit<}
use Rattle.der.specs.Head.{byte, tag_ok, inside, length81, length82, length_of, head_of}
use Rattle.der.specs.Types.{Head, whole_head}
use Rattle.der.proofs.Auto.{or_false_right}
use Rattle.der.proofs.HeadLaws.{cond_both, cond-case, whole_in}

-- a head of s is read from t as well, where t has the head's bytes and room for the content
unfoldable Reads : List ℕ → List ℕ → Head → Type 0
Reads s t (Err rule) = Unit {0}
Reads s t (Ok hd) = ((i : ℕ) → i < hd.start → byte t i ≡ byte s i) → hd.start + hd.len ≤ length t → head_of t ≡ whole_head hd.tag hd.start hd.len

module _ (s t : List ℕ) where
  bad : (rule : ℕ) → Reads s t (Err rule)
  unfolding Reads
  bad rule = tt

  inside-reads : (start len : ℕ) → Reads s t (whole_head (byte s 0) start len) → Reads s t (inside (length s) (byte s 0) start len)
  unfolding inside
  inside-reads start len r = cond-case (Reads s t) (leb (start + len) (length s)) r (bad 2)

  module _ (ok : tag_ok (byte s 0) ≡ true) where
    short-reads : byte s 1 < 128 → Reads s t (whole_head (byte s 0) 2 (byte s 1))
    unfolding Reads head_of length_of inside
    short-reads h same fits =
        simp
        (same 0 (lit< tt), same 1 (lit< tt), ne_eqb (length t) 0 (λ z. omega arith), ok, le-ltb (length t) 2 (omega arith), lt-ltb (byte s 1) 128 h, le-leb (2 + byte s 1) (length t) fits)

    one-reads : byte s 1 ≡ 129 → 128 ≤ byte s 2 → Reads s t (whole_head (byte s 0) 3 (byte s 2))
    unfolding Reads head_of length_of length81 inside
    one-reads e h same fits =
        simp (
          same 0 (lit< tt),
          same 1 (lit< tt),
          same 2 (lit< tt),
          ne_eqb (length t) 0 (λ z. omega arith),
          ok,
          le-ltb (length t) 2 (omega arith),
          e,
          le-ltb (length t) 3 (omega arith),
          le-ltb (byte s 2) 128 h,
          le-leb (3 + byte s 2) (length t) fits,
        )

    two-reads : byte s 1 ≡ 130 → 0 < byte s 2 → Reads s t (whole_head (byte s 0) 4 (byte s 2 * 256 + byte s 3))
    unfolding Reads head_of length_of length82 inside
    two-reads e h same fits =
        simp (
          same 0 (lit< tt),
          same 1 (lit< tt),
          same 2 (lit< tt),
          same 3 (lit< tt),
          ne_eqb (length t) 0 (λ z. omega arith),
          ok,
          le-ltb (length t) 2 (omega arith),
          e,
          le-ltb (length t) 4 (omega arith),
          ne_eqb (byte s 2) 0 (λ z. omega arith),
          le-leb (4 + (byte s 2 * 256 + byte s 3)) (length t) fits,
        )

    length-reads : Reads s t (length_of s)
    unfolding length_of length81 length82
    length-reads =
        let P : Head → Type 0 = Reads s t in
        cond-case P (ltb (length s) 2) (bad 2)
        (cond_both P (ltb (byte s 1) 128) (λ a. inside-reads 2 (byte s 1) (short-reads (ltb-true _ _ a))) λ a.
        cond_both P (eqb (byte s 1) 129)
        (λ b. cond_both P (ltb (length s) 3 || ltb (byte s 2) 128) (λ c. bad 2) λ c.
        inside-reads 3 (byte s 2) (one-reads (eqb-true _ _ b) (ltb-false _ _ (or_false_right (ltb (length s) 3) _ c)))) λ b.
        cond_both P (eqb (byte s 1) 130)
        (λ c. cond_both P (ltb (length s) 4 || eqb (byte s 2) 0) (λ d. bad 2) λ d.
        inside-reads 4 (byte s 2 * 256 + byte s 3) (two-reads (eqb-true _ _ c) (omega (arith, eqb-false (byte s 2) 0 (or_false_right (ltb (length s) 4) _ d)))))
        (λ c. bad 2))

  head-reads : Reads s t (head_of s)
  unfolding head_of
  head-reads = cond-case (Reads s t) (eqb (length s) 0) (bad 2) (cond_both (Reads s t) (tag_ok (byte s 0)) (λ ok. length-reads ok) (λ e. bad 1))

-- the bytes of an element alone
pub cut : (s : List ℕ) {tag start len : ℕ} → head_of s ≡ whole_head tag start len → head_of (take (start + len) s) ≡ whole_head tag start len
unfolding Reads
cut s {tag} {start} {len} e =
    let t : List ℕ = take (start + len) s in
    let w = whole_in s refl e in
    let size : length t ≡ start + len = length-take-le (start + len) s w.2 in
    subst (Reads s t) e (head-reads s t) (λ i h. get_or-take (start + len) s i 0 (omega arith)) (omega (arith, size))
