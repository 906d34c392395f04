-- A cursor before known bytes: what the verbs do there.
use Rattle.der.specs.Types.{whole_head}
use Prim.Native.Nat.{ℕ, ◌+◌, ◌-◌, ◌<◌, ◌≤◌}
use mathlib.Core.Path.{◌≡◌, refl, sym, ◌∙◌, ap, subst}
use mathlib.Core.List.{List, [], ◌∷◌, ◌++◌, append_assoc}
use mathlib.Core.Bool.{true}
use native.Mathlib.Nat.{add-zero}
use native.Mathlib.Omega.{arith}
use borrow.Author.Tests.{lt-ltb, le-ltb, le-leb, lt-leb, eq-eqb}
use lib.ListN.{length, get_or, take, drop, length-append}
use lib.Seq.{take-take, take-add, take-append_seam, drop-append_seam, drop-drop, get_or-take, get_or-drop}
use lib.Dec.{ltb}
use Rattle.der.specs.Head.{byte, tag_ok, head_of, head_bytes}
use Rattle.der.proofs.HeadLaws.{cond-case}
use Rattle.der.proofs.OneForm.{read_back}
use Rattle.grammar.specs.declared.cursor.Cursor.{Cursor}
use Rattle.grammar.specs.Cursor.{is_ok, head_in, tag_at, past_of, need_of, none_of, done_of, enter_of, leave_of}
use Rattle.encoding.specs.Element.{element}

-- the bytes of m from a up to e
abbrev pub span : List ℕ → ℕ → ℕ → List ℕ
span m a e = take (e - a) (drop a m)

-- two parts one after another
pub split : (m x y : List ℕ) (a e : ℕ) → span m a e ≡ x ++ y → a + length (x ++ y) ≡ e
    → (span m a (a + length x) ≡ x) × (span m (a + length x) e ≡ y)
split m x y a e is size =
    let n : ℕ = length x in
    let k : ℕ = length y in
    let both : length (x ++ y) ≡ n + k = length-append x y in
    let all : e - a ≡ n + k = omega arith in
    let one : a + n - a ≡ n = omega arith in
    let two : e - (a + n) ≡ k = omega arith in
    let cut : take n (drop a m) ++ take k (drop n (drop a m)) ≡ x ++ y =
    sym (take-add n k (drop a m)) ∙ ap (λ (j : ℕ). take j (drop a m)) (sym all) ∙ is in
    let fst : take n (drop a m) ≡ x =
    sym (take-take n (n + k) (drop a m) (omega arith)) ∙ ap (λ (j : ℕ). take n (take j (drop a m))) (sym all) ∙ ap (take n) is
    ∙ take-append_seam x y in
    let snd : take k (drop n (drop a m)) ≡ y =
    sym (drop-append_seam x (take k (drop n (drop a m))))
    ∙ ap (drop n) (ap (λ (l : List ℕ). l ++ take k (drop n (drop a m))) (sym fst) ∙ cut) ∙ drop-append_seam x y in
    (ap (λ (j : ℕ). take j (drop a m)) one ∙ fst, ap (λ (j : ℕ). take j (drop (a + n) m)) two ∙ ap (take k) (sym (drop-drop n a m)) ∙ snd)

-- all is right, and what is left up to the parent's end is x
pub record Holds (m : List ℕ) (c : Cursor) (x : List ℕ) : Type 0 where
  pub ok : is_ok c ≡ true
  pub size : c.at + length x ≡ c.end
  pub high : c.end ≤ length m
  pub is : span m c.at c.end ≡ x

-- what was read last is v
pub record Found (m : List ℕ) (c : Cursor) (v : List ℕ) : Type 0 where
  pub low : 0 < c.from
  pub size : c.from + length v ≡ c.to
  pub high : c.to ≤ length m
  pub is : span m c.from c.to ≡ v

-- r has passed an element that holds v, and rest is left
pub record Took (m : List ℕ) (c r : Cursor) (v rest : List ℕ) : Type 0 where
  pub left : Holds m r rest
  pub end : r.end ≡ c.end
  pub found : Found m r v
  pub into : Holds m (enter_of r) v
  pub above : 0 < (enter_of r).at

head-size : (tag n : ℕ) → (2 ≤ length (head_bytes tag n))
unfolding head_bytes
head-size tag n =
    cond-case (λ (l : List ℕ). 2 ≤ length l) (ltb n 128) (omega arith)
    (cond-case (λ (l : List ℕ). 2 ≤ length l) (ltb n 256) (omega arith) (omega arith))

module _
    (m : List ℕ) (c : Cursor) (tag : ℕ) (v rest : List ℕ) (small : length v < 65536) (tags : tag_ok tag ≡ true)
    (h : Holds m c (element tag v ++ rest))
  where
    split_bytes : element tag v ++ rest ≡ head_bytes tag (length v) ++ (v ++ rest)
    unfolding element
    split_bytes = append_assoc (head_bytes tag (length v)) v rest

    start : ℕ
    start = length (head_bytes tag (length v))

    whole-size : c.at + start + length v + length rest ≡ c.end
    unfolding start
    whole-size = omega (arith, h.size, ap length split_bytes, length-append (head_bytes tag (length v)) (v ++ rest), length-append v rest)

    head_read : head_in m c.at c.end ≡ whole_head tag start (length v)
    unfolding head_in start
    head_read =
        let e : head_of (head_bytes tag (length v) ++ (v ++ rest)) ≡ whole_head tag (length (head_bytes tag (length v))) (length v) =
        read_back tag (length v) (v ++ rest) tags small (omega (arith, length-append v rest)) in
        let size = whole-size in
        simp (lt-leb c.end c.at (omega (arith, head-size tag (length v))), le-ltb (length m) c.end h.high, h.is, split_bytes, e)

    need_is : need_of m tag c ≡ past_of c start (length v)
    unfolding need_of
    need_is = simp (h.ok, head_read, eq-eqb tag tag refl)

    past_took : Took m c (past_of c start (length v)) v rest
    unfolding start enter_of
    past_took =
        let size = whole-size in
        let one =
        split m (head_bytes tag (length v)) (v ++ rest) c.at c.end (h.is ∙ split_bytes)
        (omega (arith, h.size, ap length split_bytes)) in
        let two = split m v rest (c.at + start) c.end one.1 (omega (arith, length-append v rest)) in
        record {
          left = record { ok = refl; size = omega arith; high = h.high; is = two.1 };
          end = refl;
          found = record { low = omega (arith, head-size tag (length v)); size = refl; high = omega (arith, h.high); is = two.0 };
          into = record { ok = refl; size = refl; high = omega (arith, h.high); is = two.0 };
          above = omega (arith, head-size tag (length v));
        }

    pub small_need : Took m c (need_of m tag c) v rest
    small_need = subst (λ (r : Cursor). Took m c r v rest) (sym need_is) past_took

-- NEED: past an element that stands here; its size follows from the message's
pub need_took : (m : List ℕ) (c : Cursor) (tag : ℕ) (v rest : List ℕ) → length m < 65536 → tag_ok tag ≡ true
    → Holds m c (element tag v ++ rest) → Took m c (need_of m tag c) v rest
unfolding element
need_took m c tag v rest few tags h =
    small_need m c tag v rest
    (omega (arith, h.size, h.high, length-append (head_bytes tag (length v) ++ v) rest, length-append (head_bytes tag (length v)) v)) tags h

-- ## The next tag

-- what comes next begins with this byte, 0 if nothing does
pub tag_is : (m : List ℕ) (c : Cursor) (x : List ℕ) → Holds m c x → tag_at m c ≡ byte x 0
unfolding tag_at
tag_is m c [] h = simp (le-ltb c.at c.end (omega (arith, h.size)))
tag_is m c (y ∷ x) h =
    simp (lt-ltb c.at c.end (omega (arith, h.size)), le-leb c.end (length m) h.high)
    (ap (λ (k : ℕ). get_or m k 0) (sym (add-zero c.at)) ∙ sym (get_or-drop c.at m 0 0)
    ∙ sym (get_or-take (c.end - c.at) (drop c.at m) 0 0 (omega (arith, h.size))) ∙ ap (λ (l : List ℕ). get_or l 0 0) h.is)

pub element-tag : (tag : ℕ) (v rest : List ℕ) → byte (element tag v ++ rest) 0 ≡ tag
unfolding element head_bytes
element-tag tag v rest =
    let P : List ℕ → Type 0 = λ (l : List ℕ). byte ((l ++ v) ++ rest) 0 ≡ tag in
    cond-case P (ltb (length v) 128) refl (cond-case P (ltb (length v) 256) refl refl)

pub some_bytes : (tag : ℕ) (v rest : List ℕ) → 0 < length (element tag v ++ rest)
unfolding element
some_bytes tag v rest =
    omega (arith, length-append (head_bytes tag (length v) ++ v) rest, length-append (head_bytes tag (length v)) v, head-size tag (length v))

-- ## At the end, and out again

pub done-is : {m : List ℕ} (c : Cursor) → Holds m c [] → done_of c ≡ c
unfolding done_of
done-is c h = simp (le-ltb c.at c.end (omega (arith, h.size)))

pub leave_is : {m : List ℕ} {x : List ℕ} (o i : Cursor) → Holds m i x → leave_of o i ≡ o
unfolding leave_of
leave_is o i h = simp h.ok

-- an element's inside is read to its end: out again
pub out_is : {m : List ℕ} (o i : Cursor) → Holds m i [] → leave_of o (done_of i) ≡ o
out_is {m} o i h = ap (leave_of o) (done-is i h) ∙ leave_is o i h

pub none-holds : {m x : List ℕ} (c : Cursor) → Holds m c x → Holds m (none_of c) x
none-holds c h = record { ok = h.ok; size = h.size; high = h.high; is = h.is }
