-- Given parts: what a rule takes when a part stands alone, it takes wherever the part stands.
use Prim.Native.Nat.{ℕ, zero, suc, ◌<◌, ◌≤◌}
use mathlib.Core.Path.{◌≡◌, refl, sym, ◌∙◌, ap, subst}
use mathlib.Core.List.{List, [], ◌∷◌, ◌++◌, append-nil}
use mathlib.Core.Bool.{Bool, true, false, true≢false}
use native.Mathlib.Omega.{arith}
use borrow.Author.Tests.{lt-ltb, le-ltb, ltb-false}
use lib.ListN.{length, length-append}
use lib.Dec.{ltb}
use Rattle.der.specs.Head.{tag_ok}
use Rattle.der.proofs.HeadLaws.{cond_both}
use Rattle.der.proofs.OneForm.{Bytes}
use Rattle.grammar.specs.declared.cursor.Cursor.{Cursor}
use Rattle.grammar.specs.declared.parts.Each.TheVariants.{Text, Info}
use Rattle.grammar.specs.Cursor.{is_ok, tag_at, need_of, any_of, rest_of, done_of, enter_of, more_at, left_at, repeat}
use Rattle.grammar.specs.Parts.{typed_of, all_by, sequence_by, one_of, sequence_of}
use Rattle.grammar.specs.Message.{start_at}
use Rattle.grammar.proofs.CursorLaws.{untrue}
use Rattle.grammar.proofs.Places.{Takes, ended, left, need_takes, rest_steps}
use Rattle.grammar.proofs.PartPlaces.{typed_takes}
use Rattle.encoding.specs.Element.{element}
use Rattle.grammar.specs.Alone.{alone}
use Rattle.encoding.proofs.Holds.{Holds, need_took, tag_is, element-tag, some_bytes, leave_is, out_is, none-holds}
use Rattle.encoding.proofs.Rules.{Reads}
use Rattle.encoding.proofs.Inverse.{need_only, at-end}
use Rattle.encoding.proofs.Body.{more-is, repeat-stop}
use Rattle.encoding.proofs.Message.{start-holds}

-- what f took is e, of the shape P
pub record Taken (m : List ℕ) (r : Cursor) (P : List ℕ → Type 0) (x : List ℕ) : Type 0 where
  pub part : List ℕ
  pub rest : List ℕ
  pub is : x ≡ part ++ rest
  pub shape : P part
  pub left : Holds m r rest

abbrev pub Only : List ℕ → (Cursor → Cursor) → (List ℕ → Type 0) → Type 0
Only m f P = (c : Cursor) (x : List ℕ) → Holds m c x → is_ok (f c) ≡ true → Taken m (f c) P x

-- ## The shapes

pub record Tagged (tag : ℕ) (e : List ℕ) : Type 0 where
  pub content : List ℕ
  pub is : e ≡ element tag content
  pub tags : tag_ok tag ≡ true

pub data AtMostOne : List ℕ → Type 0 where
  no_more : AtMostOne []
  one_more : (tag : ℕ) (v : List ℕ) → tag_ok tag ≡ true → AtMostOne (element tag v ++ [])

pub record Typed (e : List ℕ) : Type 0 where
  pub oid : List ℕ
  pub more : List ℕ
  pub is : e ≡ element 0x30 (element 0x06 oid ++ more)
  pub few : AtMostOne more

pub data Many (P : List ℕ → Type 0) : List ℕ → Type 0 where
  end : Many P []
  also : {e x : List ℕ} → P e → Many P x → Many P (e ++ x)

pub record Sequence (P : List ℕ → Type 0) (e : List ℕ) : Type 0 where
  pub first : List ℕ
  pub others : List ℕ
  pub is : e ≡ element 0x30 (first ++ others)
  pub one : P first
  pub many : Many P others

-- ## Read by a shape

module _ (m : List ℕ) (few : length m < 65536) where
  pub tagged-reads : (tag : ℕ) (e : List ℕ) → Tagged tag e → Reads m (need_of m tag) e
  tagged-reads tag e p c rest h =
      (need_took m c tag p.content rest few p.tags (subst (λ (l : List ℕ). Holds m c (l ++ rest)) p.is h)).left

  rest_reads : (c : Cursor) (x : List ℕ) → AtMostOne x → Holds m c x → Holds m (rest_of m c) []
  unfolding rest_of any_of
  rest_reads c [] no_more h = rw (le-ltb c.at c.end (omega (arith, h.size))) (none-holds c h)
  rest_reads c _ (one_more tag v ok) h =
      rw (lt-ltb c.at c.end (omega (arith, h.size, some_bytes tag v [])), tag_is m c (element tag v ++ []) h, element-tag tag v [])
      (need_took m c tag v [] few ok h).left

  pub typed_reads : (e : List ℕ) → Typed e → Reads m (typed_of m) e
  unfolding typed_of tag_ok
  typed_reads e p c rest h =
      let s : Cursor = need_of m 0x30 c in
      let t =
      need_took m c 0x30 (element 0x06 p.oid ++ p.more) rest few refl (subst (λ (l : List ℕ). Holds m c (l ++ rest)) p.is h) in
      let u = need_took m (enter_of s) 0x06 p.oid p.more few refl t.into in
      let o : Cursor = need_of m 0x06 (enter_of s) in
      rw (out_is s (rest_of m o) (rest_reads o p.more p.few u.left)) t.left

  many_reads : (P : List ℕ → Type 0) (f : Cursor → Cursor) → ((e : List ℕ) → P e → Reads m f e) → ((e : List ℕ) → P e → 0 < length e)
      → (x : List ℕ) → Many P x → (n : ℕ) (c : Cursor) → length x ≤ n → Holds m c x → Holds m (repeat (λ k. k) f n c) []
  unfolding repeat
  many_reads P f each long _ end n c k h = rw (repeat-stop (λ k. k) f n c (more-is m c [] h)) h
  many_reads P f each long _ (also {e = e} {x = x} p q) zero c k h = absurd (omega (arith, length-append e x, long e p))
  many_reads P f each long _ (also {e = e} {x = x} p q) (suc n) c k h =
      rw (more-is m c (e ++ x) h, lt-ltb 0 (length (e ++ x)) (omega (arith, length-append e x, long e p)))
      (many_reads P f each long x q n (f c) (omega (arith, length-append e x, long e p)) (each e p c x h))

  pub sequence_reads : (P : List ℕ → Type 0) (f : Cursor → Cursor) → ((e : List ℕ) → P e → Reads m f e) → ((e : List ℕ) → P e → 0 < length e)
      → (e : List ℕ) → Sequence P e → Reads m (sequence_by m f) e
  unfolding sequence_by all_by tag_ok
  sequence_reads P f each long e p c rest h =
      let s : Cursor = need_of m 0x30 c in
      let t = need_took m c 0x30 (p.first ++ p.others) rest few refl (subst (λ (l : List ℕ). Holds m c (l ++ rest)) p.is h) in
      let u = each p.first p.one (enter_of s) p.others t.into in
      let k : Cursor = f (enter_of s) in
      let enough : length p.others ≤ left_at k = rw u.ok (omega (arith, u.size)) in
      let w = many_reads P f each long p.others p.many (left_at k) k enough u in
      rw (leave_is s (repeat (λ j. j) f (left_at k) k) w) t.left

-- ## The shape of what was read

stopped : (c : Cursor) → is_ok c ≡ false → more_at c ≡ false
unfolding more_at
stopped c q = rw q

none_more : (m : List ℕ) (c : Cursor) (x : List ℕ) → Holds m c x → more_at c ≡ false → x ≡ []
none_more m c [] h q = refl
none_more m c (y ∷ x) h q = absurd (true≢false (sym (more-is m c (y ∷ x) h ∙ lt-ltb 0 (suc (length x)) (omega arith)) ∙ q))

left_enough : {m x : List ℕ} (c : Cursor) → Holds m c x → length x ≤ left_at c
left_enough c h = rw h.ok (omega (arith, h.size))

-- a repetition that ends with all right began so
repeat_ok : (f : Cursor → Cursor) → ((c : Cursor) → Takes c (f c)) → (n : ℕ) (c : Cursor) → is_ok (repeat (λ k. k) f n c) ≡ true
    → is_ok c ≡ true
repeat_ok f takes n c = go (is_ok c) refl
  where
    go : (b : Bool) → is_ok c ≡ b → is_ok (repeat (λ k. k) f n c) ≡ true → is_ok c ≡ true
    go true q k = q
    go false q k = untrue (sym q ∙ sym (ap is_ok (repeat-stop (λ k. k) f n c (stopped c q))) ∙ k)

module _ (m : List ℕ) (bytes : Bytes m) where
  pub tagged-only : (tag : ℕ) → Only m (need_of m tag) (Tagged tag)
  tagged-only tag c x h k =
      let i = need_only m bytes c x h tag k in
      record {
        part = element tag i.content;
        rest = i.rest;
        is = i.is;
        shape = record { content = i.content; is = refl; tags = i.tags };
        left = i.took.left;
      }

  rest_only : (c : Cursor) (x : List ℕ) → Holds m c x → is_ok (done_of (rest_of m c)) ≡ true → AtMostOne x
  unfolding rest_of any_of
  rest_only c x h =
      cond_both (λ (r : Cursor). is_ok (done_of r) ≡ true → AtMostOne x) (ltb c.at c.end)
      (λ q k.
      let z = ended (need_of m (tag_at m c) c) k in
      let i = need_only m bytes c x h (tag_at m c) z.0 in
      let none_left : i.rest ≡ [] = at-end (need_of m (tag_at m c) c) i.took.left z.1 in
      subst AtMostOne (sym (i.is ∙ ap (λ (l : List ℕ). element (tag_at m c) i.content ++ l) none_left))
      (one_more (tag_at m c) i.content i.tags))
      (λ q k. subst AtMostOne (sym (at-end c h (ltb-false c.at c.end q))) no_more)

  pub typed_only : Only m (typed_of m) Typed
  unfolding typed_of
  typed_only c x h k =
      let s : Cursor = need_of m 0x30 c in
      let o : Cursor = need_of m 0x06 (enter_of s) in
      let l = left s (done_of (rest_of m o)) k in
      let i = need_only m bytes c x h 0x30 (subst (λ (j : Cursor). is_ok j ≡ true) l.1 k) in
      let ok_o : is_ok o ≡ true = (rest_steps m o (ended (rest_of m o) l.0).0).along.ok in
      let j = need_only m bytes (enter_of s) i.content i.took.into 0x06 ok_o in
      let a = rest_only o j.rest j.took.left l.0 in
      record {
        part = element 0x30 i.content;
        rest = i.rest;
        is = i.is;
        shape = record { oid = j.content; more = j.rest; is = ap (element 0x30) j.is; few = a };
        left = subst (λ (r : Cursor). Holds m r i.rest) (sym l.1) i.took.left;
      }

  many_by : (P : List ℕ → Type 0) (f : Cursor → Cursor) → Only m f P → (n : ℕ) (c : Cursor) (x : List ℕ) → Holds m c x
      → ((t : Taken m (f c) P x) → is_ok (repeat (λ k. k) f n (f c)) ≡ true → Many P t.rest)
      → (b : Bool) → is_ok (f c) ≡ b → is_ok (repeat (λ k. k) f n (f c)) ≡ true → Many P x
  many_by P f only n c x h rec true q k = let t = only c x h q in subst (Many P) (sym t.is) (also t.shape (rec t k))
  many_by P f only n c x h rec false q k = untrue (sym q ∙ sym (ap is_ok (repeat-stop (λ k. k) f n (f c) (stopped (f c) q))) ∙ k)

  many_only : (P : List ℕ → Type 0) (f : Cursor → Cursor) → Only m f P → ((e : List ℕ) → P e → 0 < length e)
      → (n : ℕ) (c : Cursor) (x : List ℕ) → length x ≤ n → Holds m c x → is_ok (repeat (λ k. k) f n c) ≡ true → Many P x
  unfolding repeat
  many_only P f only long zero c [] z h = λ k. end
  many_only P f only long zero c (y ∷ x) z h = λ k. absurd (omega arith)
  many_only P f only long (suc n) c x z h =
      cond_both (λ (r : Cursor). is_ok r ≡ true → Many P x) (more_at c)
      (λ q k.
      many_by P f only n c x h
      (λ t.
      let fewer : length t.rest ≤ n = omega (arith, ap length t.is, length-append t.part t.rest, long t.part t.shape) in
      many_only P f only long n (f c) t.rest fewer t.left)
      (is_ok (f c)) refl k)
      (λ q k. subst (Many P) (sym (none_more m c x h q)) end)

  pub sequence_only : (P : List ℕ → Type 0) (f : Cursor → Cursor) → ((c : Cursor) → Takes c (f c)) → Only m f P
      → ((e : List ℕ) → P e → 0 < length e) → Only m (sequence_by m f) (Sequence P)
  unfolding sequence_by all_by
  sequence_only P f takes only long c x h k =
      let s : Cursor = need_of m 0x30 c in
      let d : Cursor = f (enter_of s) in
      let l = left s (repeat (λ j. j) f (left_at d) d) k in
      let i = need_only m bytes c x h 0x30 (subst (λ (j : Cursor). is_ok j ≡ true) l.1 k) in
      let ok_d : is_ok d ≡ true = repeat_ok f takes (left_at d) d l.0 in
      let t = only (enter_of s) i.content i.took.into ok_d in
      let enough : length t.rest ≤ left_at d = left_enough d t.left in
      record {
        part = element 0x30 i.content;
        rest = i.rest;
        is = i.is;
        shape =
            record {
              first = t.part;
              others = t.rest;
              is = ap (element 0x30) t.is;
              one = t.shape;
              many = many_only P f only long (left_at d) d t.rest enough t.left l.0;
            };
        left = subst (λ (r : Cursor). Holds m r i.rest) (sym l.1) i.took.left;
      }

-- ## A part by itself

-- it is all of that shape
pub alone_shape : (f : Cursor → Cursor) (e : List ℕ) (P : List ℕ → Type 0) → Only e f P → is_ok (done_of (f (start_at (length e)))) ≡ true
    → P e
alone_shape f e P only k =
    let z = ended (f (start_at (length e))) k in
    let t = only (start_at (length e)) e (start-holds e) z.0 in
    let none_left : t.rest ≡ [] = at-end (f (start_at (length e))) t.left z.1 in
    subst P (sym (t.is ∙ ap (λ (l : List ℕ). t.part ++ l) none_left ∙ append-nil t.part)) t.shape

pub typed_long : (e : List ℕ) → Typed e → 0 < length e
typed_long e p =
    rw (p.is, ← append-nil (element 0x30 (element 0x06 p.oid ++ p.more))) (some_bytes 0x30 (element 0x06 p.oid ++ p.more) [])

pub tagged_long : (tag : ℕ) (e : List ℕ) → Tagged tag e → 0 < length e
tagged_long tag e p = rw (p.is, ← append-nil (element tag p.content)) (some_bytes tag p.content [])

module _ (m e : List ℕ) (few : length m < 65536) (bytes : Bytes e) where
  -- RELOCATION: what stands alone may stand anywhere
  pub typed_there : alone typed_of e ≡ true → Reads m (typed_of m) e
  typed_there k = typed_reads m few e (alone_shape (typed_of e) e Typed (typed_only e bytes) k)

  pub text_there : alone (λ s. sequence_of s Text) e ≡ true → Reads m (sequence_of m Text) e
  unfolding sequence_of one_of
  text_there k =
      sequence_reads m few (Tagged 0x0C) (need_of m 0x0C) (tagged-reads m few 0x0C) (tagged_long 0x0C) e
      (alone_shape (sequence_by e (need_of e 0x0C)) e (Sequence (Tagged 0x0C))
      (sequence_only e bytes (Tagged 0x0C) (need_of e 0x0C) (need_takes e 0x0C) (tagged-only e bytes 0x0C) (tagged_long 0x0C)) k)

  pub info_there : alone (λ s. sequence_of s Info) e ≡ true → Reads m (sequence_of m Info) e
  unfolding sequence_of one_of
  info_there k =
      sequence_reads m few Typed (typed_of m) (typed_reads m few) typed_long e
      (alone_shape (sequence_by e (typed_of e)) e (Sequence Typed)
      (sequence_only e bytes Typed (typed_of e) (typed_takes e) (typed_only e bytes) typed_long) k)
