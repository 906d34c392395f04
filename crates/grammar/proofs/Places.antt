-- Where a cursor goes. A rule that ends with all right began with all right, went on under the same end and not past it, and
-- what it found lies in the bytes that it passed.
use Rattle.std.specs.Prelude.{Ok, Err}
use Prim.Native.Nat.{ℕ, zero, suc, ◌-◌, ◌<◌, ◌≤◌, max}
use mathlib.Core.Path.{◌≡◌, refl, sym, ◌∙◌, ap, subst}
use mathlib.Core.List.{List}
use mathlib.Core.Bool.{true}
use native.Mathlib.Omega.{arith}
use borrow.Author.Tests.{ltb-false}
use lib.Dec.{ltb, eqb}
use Rattle.der.specs.Types.{Head, whole_head}
use Rattle.der.proofs.HeadLaws.{cond_both, cond-case}
use Rattle.grammar.specs.declared.cursor.Cursor.{Cursor}
use Rattle.grammar.specs.Cursor.{is_ok, head_in, tag_at, past_of, if_tag, need_of, any_of, none_of, maybe_of, rest_of, done_of, enter_of, leave_of, small_integer_of, more_at, repeat}
use Rattle.grammar.specs.Parts.{found_of}
use Rattle.grammar.proofs.CursorLaws.{head_in_parent, untrue}

abbrev pub NoFault : Cursor → Type 0
NoFault c = is_ok c ≡ true

-- from one offset up to another: absent, or between a and b
pub data Spot (a b from to : ℕ) : Type 0 where
  absent : from ≡ 0 → to ≡ 0 → Spot a b from to
  present : a ≤ from → from ≤ to → to ≤ b → Spot a b from to

pub wide : {a b a' b' from to : ℕ} → a' ≤ a → b ≤ b' → Spot a b from to → Spot a' b' from to
wide h k (absent p q) = absent p q
wide h k (present p q r) = present (omega arith) q (omega arith)

-- ## Three ways to go from c to r

-- on under the same end, and not past it
pub record On (c r : Cursor) : Type 0 where
  pub ok : NoFault c
  pub end : r.end ≡ c.end
  pub on : c.at ≤ r.at
  pub fits : r.at ≤ max c.at c.end

-- on, with a span that lies in what was passed, or none
pub record Went (c r : Cursor) : Type 0 where
  pub along : On c r
  pub span : Spot (suc c.at) r.at r.from r.to

-- past an element, with a span inside it
pub record Took (c r : Cursor) : Type 0 where
  pub along : On c r
  pub low : c.at < r.from
  pub held : r.from ≤ r.to
  pub high : r.to ≤ r.at
  pub inside : r.at ≤ c.end

abbrev pub Goes : Cursor → Cursor → Type 0
Goes c r = NoFault r → On c r

abbrev pub Steps : Cursor → Cursor → Type 0
Steps c r = NoFault r → Went c r

abbrev pub Takes : Cursor → Cursor → Type 0
Takes c r = NoFault r → Took c r

pub still : {c : Cursor} → NoFault c → On c c
still k = record { ok = k; end = refl; on = omega arith; fits = omega arith }

pub ◌then◌ : {a b c : Cursor} → On a b → On b c → On a c
f then g = record { ok = f.ok; end = g.end ∙ f.end; on = omega arith; fits = omega arith }

infixr 5 ◌then◌
pub took_went : {c r : Cursor} → Took c r → Went c r
took_went t = record { along = t.along; span = present t.low t.held t.high }

pub steps : {c r : Cursor} → Takes c r → Steps c r
steps f k = took_went (f k)

-- ## The verbs that read

past_took : (m : List ℕ) (c : Cursor) {t start len : ℕ} → whole_head t start len ≡ head_in m c.at c.end → NoFault c → Took c (past_of c start len)
past_took m c e k =
    let w = head_in_parent m c.at c.end (sym e) in
    record { along = record { ok = k; end = refl; on = omega arith; fits = omega arith }; low = omega arith; held = omega arith; high = omega arith; inside = omega arith }

tag-takes : (m : List ℕ) (tag : ℕ) (c : Cursor) (h : Head) → h ≡ head_in m c.at c.end → NoFault c → Takes c (if_tag tag c h)
tag-takes m tag c (Err rule) e k = untrue
tag-takes m tag c (Ok hd) e k = cond_both (Takes c) (eqb hd.tag tag) (λ q o. past_took m c e k) (λ q. untrue)

pub need_takes : (m : List ℕ) (tag : ℕ) (c : Cursor) → Takes c (need_of m tag c)
unfolding need_of
need_takes m tag c = cond_both (Takes c) (is_ok c) (λ q. tag-takes m tag c (head_in m c.at c.end) refl q) (λ q k. untrue (sym q ∙ k))

pub any-takes : (m : List ℕ) (c : Cursor) → Takes c (any_of m c)
unfolding any_of
any-takes m c = need_takes m (tag_at m c) c

pub none_steps : (c : Cursor) → Steps c (none_of c)
none_steps c k = record { along = record { ok = k; end = refl; on = omega arith; fits = omega arith }; span = absent refl refl }

pub maybe_steps : (m : List ℕ) (tag : ℕ) (c : Cursor) → Steps c (maybe_of m tag c)
unfolding maybe_of
maybe_steps m tag c = cond-case (Steps c) (eqb (tag_at m c) tag) (steps (need_takes m tag c)) (none_steps c)

pub rest_steps : (m : List ℕ) (c : Cursor) → Steps c (rest_of m c)
unfolding rest_of
rest_steps m c = cond-case (Steps c) (ltb c.at c.end) (steps (any-takes m c)) (none_steps c)

pub small-takes : (m : List ℕ) (c : Cursor) → Takes c (small_integer_of m c)
unfolding small_integer_of
small-takes m c = cond-case (Takes c) (ltb 4 ((need_of m 0x02 c).to - (need_of m 0x02 c).from)) untrue (need_takes m 0x02 c)

-- ## In, at the end, and out again

pub ended : (c : Cursor) → NoFault (done_of c) → NoFault c × (c.end ≤ c.at) × (done_of c ≡ c)
unfolding done_of
ended c =
    cond_both (λ (r : Cursor). NoFault r → NoFault c × (c.end ≤ c.at) × (r ≡ c)) (ltb c.at c.end)
    (λ q. untrue) (λ q k. (k, ltb-false c.at c.end q, refl))

pub left : (o i : Cursor) → NoFault (leave_of o i) → NoFault i × (leave_of o i ≡ o)
unfolding leave_of
left o i = cond_both (λ (r : Cursor). NoFault r → NoFault i × (r ≡ o)) (is_ok i) (λ q k. (q, refl)) (λ q k. untrue (sym q ∙ k))

-- what holds of a cursor that is right holds of it at the end, and outside
pub at_done : (P : Cursor → Type 0) {c : Cursor} → (NoFault c → P c) → NoFault (done_of c) → P (done_of c)
at_done P {c} f k = subst P (sym (ended c k).2) (f (ended c k).0)

pub at_leave : (P : Cursor → Type 0) {o : Cursor} (i : Cursor) → (NoFault o → P o) → NoFault (leave_of o i) → P (leave_of o i)
at_leave P {o} i f k = subst P (sym (left o i k).1) (f (subst NoFault (left o i k).1 k))

-- in the element that s has read
abbrev pub in_of : Cursor → Cursor
in_of s = record { at = s.from; end = s.to; from = 0; to = 0; rule = 0 }

pub entered : (s : Cursor) → NoFault (enter_of s) → NoFault s × (enter_of s ≡ in_of s)
unfolding enter_of
entered s = cond_both (λ (r : Cursor). NoFault r → NoFault s × (r ≡ in_of s)) (is_ok s) (λ q k. (q, refl)) (λ q k. untrue (sym q ∙ k))

-- x lies in the element that s took
pub record Nest (c s x : Cursor) : Type 0 where
  pub took : Took c s
  pub start : (enter_of s).at ≡ s.from
  pub from : s.from ≤ x.at
  pub to : x.at ≤ s.to
  pub end : x.end ≡ s.to

pub nest : {c s x : Cursor} → Takes c s → On (enter_of s) x → Nest c s x
nest {c} {s} {x} f g =
    let e = entered s g.ok in
    let t = f e.0 in
    let i : On (in_of s) x = subst (λ (k : Cursor). On k x) e.1 g in
    record { took = t; start = ap (λ (k : Cursor). k.at) e.1; from = omega arith; to = omega arith; end = i.end }

-- back out with the span of what was found inside
pub found_steps : {c o s i : Cursor} → Takes c o → (NoFault o → o ≡ s) → Steps (enter_of s) i → Steps c (found_of o i)
unfolding found_of
found_steps {c} {o} {s} {i} f e g =
    cond_both (Steps c) (is_ok i)
    (λ q k.
    let t : Took c o = f k in
    let u : Nest c s i = nest (subst (Takes c) (e k) f) (g q).along in
    let same : o.at ≡ s.at = ap (λ (j : Cursor). j.at) (e k) in
    record { along = record { ok = t.along.ok; end = t.along.end; on = t.along.on; fits = t.along.fits }; span = wide (omega arith) (omega arith) (g q).span })
    (λ q k. untrue (sym q ∙ k))

-- ## Inside n bytes

pub record Located (n : ℕ) (c : Cursor) : Type 0 where
  pub low : c.at ≤ c.end
  pub high : c.end ≤ n
  pub span : Spot 1 c.at c.from c.to

-- while all is right the cursor lies inside n bytes, and its span is absent or behind it
abbrev pub Placed : ℕ → Cursor → Type 0
Placed n c = NoFault c → Located n c

-- every rule that steps keeps a cursor inside
pub kept : {n : ℕ} {c r : Cursor} → Steps c r → Placed n c → Placed n r
kept {n} {c} {r} f p k =
    let w = f k in
    let l = p w.along.ok in
    record { low = omega arith; high = omega arith; span = wide (omega arith) (omega arith) w.span }

pub took_kept : {n : ℕ} {c r : Cursor} → Takes c r → Placed n c → Placed n r
took_kept f = kept (steps f)

pub done_kept : {n : ℕ} {c : Cursor} → Placed n c → Placed n (done_of c)
done_kept {n} p = at_done (Located n) p

pub leave_kept : {n : ℕ} {o : Cursor} (i : Cursor) → Placed n o → Placed n (leave_of o i)
leave_kept {n} i p = at_leave (Located n) i p

held : {a b from to : ℕ} → Spot a b from to → (from ≤ to) × (to ≤ b)
held (absent p q) = omega arith
held (present p q r) = omega arith

in_located : {n : ℕ} {c : Cursor} → Located n c → Located n (in_of c)
in_located l = let h = held l.span in record { low = h.0; high = omega arith; span = absent refl refl }

-- into what was read last; into nothing, which lies at 0, where nothing was
pub enter_kept : {n : ℕ} {c : Cursor} → Placed n c → Placed n (enter_of c)
enter_kept {n} {c} p k = subst (Located n) (sym (entered c k).1) (in_located (p (entered c k).0))

-- what each step keeps, a repetition keeps
pub repeat_keeps : {S : Type 0} (cur : S → Cursor) (step : S → S) (P : S → Type 0) → ((s : S) → P s → P (step s)) → (n : ℕ) (s : S) → P s → P (repeat cur step n s)
unfolding repeat
repeat_keeps cur step P f zero s p = p
repeat_keeps cur step P f (suc n) s p = cond-case P (more_at (cur s)) (repeat_keeps cur step P f n (step s) (f s p)) p
