-- An element that a walk finds stands in the message, and its bytes are one element. None but the message begins at 0, so that a
-- start of 0 says that nothing was found.
use Rattle.std.specs.Prelude.{Ok, Err}
use Prim.Native.Nat.{ℕ, zero, suc, ◌+◌, ◌-◌, ◌<◌, ◌≤◌}
use mathlib.Core.Path.{◌≡◌, refl, sym, ◌∙◌, ap, subst}
use mathlib.Core.List.{List, [], ◌∷◌}
use mathlib.Core.Logic.{◌↔◌}
use mathlib.Core.Bool.{Bool, true, false, ◌&&◌}
use mathlib.Core.Option.{Option, none, some}
use native.Mathlib.Omega.{arith}
use borrow.Author.Tests.{eqb-true}
use lib.ListN.{length, take, drop, length-take, length-drop}
use lib.Seq.{take-take, take_all}
use lib.Dec.{eqb}
use Rattle.grammar.specs.Span.{part_of, span_from}
use Rattle.der.specs.Head.{head_of}
use Rattle.der.specs.Types.{Head, whole_head}
use Rattle.der.proofs.Auto.{and_left, and_right}
use Rattle.der.proofs.HeadLaws.{cond_both, cond-case, whole_in}
use Rattle.grammar.specs.declared.Span.{Span}
use Rattle.grammar.proofs.CursorLaws.{untrue}
use Rattle.paths.specs.Walk.{Node, Step, Path, with_head, elements_up_to, elements_between, first, tagged, seek, alone, choose, into, onward, either, walk}
use Rattle.paths.specs.Walk.Step.{any, item, option, only}
use Rattle.paths.specs.Walk.Path.{message, ◌▸◌, ◌or◌}
use Rattle.paths.specs.Table.{Part, Place, place_of, path_in, whole_at, content_span, span_at}
use Rattle.paths.specs.Table.Place.{whole, content}
use Rattle.paths.specs.InPlace.{OneElement, OneIfThere}
use Rattle.paths.proofs.Heads.{cut}

-- ## Where the elements of a walk stand

-- the element begins at a or later and ends in the message, and its bytes are a head and its content
pub record Stands (m : List ℕ) (a : ℕ) (n : Node) : Type 0 where
  pub low : a ≤ n.at
  pub from : n.at < n.from
  pub to : n.from ≤ n.to
  pub end : n.to ≤ length m
  pub head : head_of (take (n.to - n.at) (drop n.at m)) ≡ whole_head n.tag (n.from - n.at) (n.to - n.from)

lower : {m : List ℕ} {a b : ℕ} {n : Node} → a ≤ b → Stands m b n → Stands m a n
lower h s = record { low = omega (arith, s.low); from = s.from; to = s.to; end = s.end; head = s.head }

module _ (m : List ℕ) where
  abbrev Every : ℕ → List Node → Type 0
  Every a [] = Unit {0}
  Every a (n ∷ ns) = Stands m a n × Every a ns

  abbrev pub Maybe : ℕ → Option Node → Type 0
  Maybe a none = Unit {0}
  Maybe a (some n) = Stands m a n

  every_lower : (a b : ℕ) → a ≤ b → (ns : List Node) → Every b ns → Every a ns
  every_lower a b h [] w = tt
  every_lower a b h (n ∷ ns) w = (lower h w.0, every_lower a b h ns w.1)

  head_stands : (e a : ℕ) {t start len : ℕ} → head_of (take (e - a) (drop a m)) ≡ whole_head t start len
      → Stands m a (record { tag = t; at = a; from = a + start; to = a + start + len })
  head_stands e a {t} {start} {len} q =
      let w = whole_in (take (e - a) (drop a m)) refl q in
      let size : start + len ≤ e - a = omega (arith, w.2, length-take (e - a) (drop a m)) in
      let one : head_of (take (start + len) (drop a m)) ≡ whole_head t start len =
      ap head_of (sym (take-take (start + len) (e - a) (drop a m) size)) ∙ cut (take (e - a) (drop a m)) q in
      let x : a + start + len - a ≡ start + len = omega arith in
      let y : a + start - a ≡ start = omega arith in
      let z : a + start + len - (a + start) ≡ len = omega arith in
      record {
        low = omega arith;
        from = omega (arith, w.0);
        to = omega arith;
        end = omega (arith, w.0, w.2, length-take (e - a) (drop a m), length-drop a m);
        head = rw (x, y, z) one;
      }

  every_row : (e n a : ℕ) → Every a (elements_up_to m e n a)
  unfolding elements_up_to
  every_row e zero a = tt
  every_row e (suc n) a = go (head_of (take (e - a) (drop a m))) refl (every_row e n)
    where
      go : (o : Head) → head_of (take (e - a) (drop a m)) ≡ o → ((b : ℕ) → Every b (elements_up_to m e n b)) → Every a (with_head (elements_up_to m e n) a o)
      go (Err rule) q f = tt
      go (Ok hd) q f =
          let b : ℕ = a + hd.start + hd.len in
          (head_stands e a q, every_lower a b (omega arith) (elements_up_to m e n b) (f b))

  module _ (a : ℕ) where
    every_drop : (k : ℕ) (ns : List Node) → Every a ns → Every a (drop k ns)
    every_drop zero ns w = w
    every_drop (suc k) [] w = tt
    every_drop (suc k) (n ∷ ns) w = every_drop k ns w.1

    of_first : (ns : List Node) → Every a ns → Maybe a (first ns)
    of_first [] w = tt
    of_first (n ∷ ns) w = w.0

    of_tagged : (t : ℕ) (ns : List Node) → Every a ns → Maybe a (tagged t ns)
    of_tagged t [] w = tt
    of_tagged t (n ∷ ns) w = cond-case (Maybe a) (eqb n.tag t) w.0 tt

    of_seek : (t : ℕ) (ns : List Node) → Every a ns → Maybe a (seek t ns)
    of_seek t [] w = tt
    of_seek t (n ∷ ns) w = cond-case (Maybe a) (eqb n.tag t) w.0 (of_seek t ns w.1)

    of_alone : (t : ℕ) (ns : List Node) → Every a ns → Maybe a (alone t ns)
    of_alone t [] w = tt
    of_alone t (n ∷ []) w = of_tagged t (n ∷ []) w
    of_alone t (n ∷ k ∷ ns) w = tt

    of_step : (s : Step) (ns : List Node) → Every a ns → Maybe a (choose s ns)
    of_step (any k) ns w = of_first (drop k ns) (every_drop k ns w)
    of_step (item k t) ns w = of_tagged t (drop k ns) (every_drop k ns w)
    of_step (option k t) ns w = of_seek t (drop k ns) (every_drop k ns w)
    of_step (only t) ns w = of_alone t ns w

    of_either : (o p : Option Node) → Maybe a o → Maybe a p → Maybe a (either o p)
    of_either none p w v = v
    of_either (some n) p w v = w

  maybe_lower : (a b : ℕ) → a ≤ b → (o : Option Node) → Maybe b o → Maybe a o
  maybe_lower a b h none w = tt
  maybe_lower a b h (some n) w = lower h w

  -- what an element holds begins after it
  onward_stands : (s : Step) (o : Option Node) → Maybe 0 o → Maybe 1 (onward (into m s) o)
  unfolding elements_between
  onward_stands s none w = tt
  onward_stands s (some n) w =
      maybe_lower 1 n.from (omega (arith, w.from)) (into m s n)
      (of_step n.from s (elements_between m n.from n.to) (every_row n.to (n.to - n.from) n.from))

  walk_stands : (p : Path) → Maybe 0 (walk m p)
  unfolding walk elements_between
  walk_stands message = of_alone 0 0x30 (elements_between m 0 (length m)) (every_row (length m) (length m - 0) 0)
  walk_stands (p ▸ s) = maybe_lower 0 1 (omega arith) (onward (into m s) (walk m p)) (onward_stands s (walk m p) (walk_stands p))
  walk_stands (p or q) = of_either 0 (walk m p) (walk m q) (walk_stands p) (walk_stands q)

-- a path that leads into the message
abbrev pub deep : Path → Bool
deep message = false
deep (p ▸ s) = true
deep (p or q) = deep p && deep q

pub walk_deep : (m : List ℕ) (p : Path) → deep p ≡ true → Maybe m 1 (walk m p)
unfolding walk
walk_deep m message d = untrue d
walk_deep m (p ▸ s) d = onward_stands m s (walk m p) (walk_stands m p)
walk_deep m (p or q) d =
    of_either m 1 (walk m p) (walk m q) (walk_deep m p (and_left (deep p) (deep q) d)) (walk_deep m q (and_right (deep p) (deep q) d))

-- ## Absent exactly at 0

-- a span begins at 0 exactly where nothing was found, and has no bytes then
abbrev pub Tells : Span → Option Node → Type 0
Tells s o = ((s.start.0 ≡ 0) ↔ (o ≡ none)) × (s.start.0 ≡ 0 → s.len ≡ 0)

some_none : {n : Node} → ◌≡◌ {A = Option Node} (some n) none → ⊥
some_none e = let z : ◌≡◌ {A = ℕ} 0 1 = cc in omega arith

whole_tells : (m : List ℕ) (o : Option Node) → Maybe m 1 o → Tells (whole_at o) o
whole_tells m none w = ((λ e. refl, λ e. refl), λ e. refl)
whole_tells m (some n) w = ((λ z. absurd (omega (arith, w.low)), λ e. absurd (some_none e)), λ z. absurd (omega (arith, w.low)))

content_tells : (m : List ℕ) (o : Option Node) → Maybe m 1 o → Tells (content_span o) o
content_tells m none w = ((λ e. refl, λ e. refl), λ e. refl)
content_tells m (some n) w = ((λ z. absurd (omega (arith, w.low, w.from)), λ e. absurd (some_none e)), λ z. absurd (omega (arith, w.low, w.from)))

place_tells : (m : List ℕ) (p : Place) → deep (path_in p) ≡ true → Tells (span_at m p) (walk m (path_in p))
unfolding span_at
place_tells m (whole p) d = whole_tells m (walk m p) (walk_deep m p d)
place_tells m (content p) d = content_tells m (walk m p) (walk_deep m p d)

all_deep : (p : Part) → deep (path_in (place_of p)) ≡ true
unfolding place_of
all_deep Part.Header = refl
all_deep Part.Body = refl
all_deep Part.Protection = refl
all_deep Part.ExtraCerts = refl
all_deep Part.Sender = refl
all_deep Part.Recipient = refl
all_deep Part.MessageTime = refl
all_deep Part.ProtectionAlg = refl
all_deep Part.SenderKID = refl
all_deep Part.RecipKID = refl
all_deep Part.TransactionID = refl
all_deep Part.SenderNonce = refl
all_deep Part.RecipNonce = refl
all_deep Part.FreeText = refl
all_deep Part.GeneralInfo = refl
all_deep Part.CaPubs = refl
all_deep Part.CertHash = refl
all_deep Part.HashAlg = refl
all_deep Part.Certificate = refl
all_deep Part.Request = refl

pub part_tells : (m : List ℕ) (p : Part) → Tells (span_at m (place_of p)) (walk m (path_in (place_of p)))
part_tells m p = place_tells m (place_of p) (all_deep p)

-- ## The tag at the end of a path

abbrev Tagged : ℕ → Option Node → Type 0
Tagged t none = Unit {0}
Tagged t (some n) = n.tag ≡ t

tagged-tag : (t : ℕ) (ns : List Node) → Tagged t (tagged t ns)
tagged-tag t [] = tt
tagged-tag t (n ∷ ns) = cond_both (Tagged t) (eqb n.tag t) (λ q. eqb-true n.tag t q) (λ q. tt)

seek-tag : (t : ℕ) (ns : List Node) → Tagged t (seek t ns)
seek-tag t [] = tt
seek-tag t (n ∷ ns) = cond_both (Tagged t) (eqb n.tag t) (λ q. eqb-true n.tag t q) (λ q. seek-tag t ns)

alone-tag : (t : ℕ) (ns : List Node) → Tagged t (alone t ns)
alone-tag t [] = tt
alone-tag t (n ∷ []) = tagged-tag t (n ∷ [])
alone-tag t (n ∷ k ∷ ns) = tt

-- the step, the path asks for this tag
abbrev asks : ℕ → Step → Bool
asks t (any k) = false
asks t (item k u) = eqb u t
asks t (option k u) = eqb u t
asks t (only u) = eqb u t

abbrev pub ends_in : ℕ → Path → Bool
ends_in t message = eqb 0x30 t
ends_in t (p ▸ s) = asks t s
ends_in t (p or q) = ends_in t p && ends_in t q

step-tag : (t : ℕ) (s : Step) (ns : List Node) → asks t s ≡ true → Tagged t (choose s ns)
step-tag t (any k) ns e = untrue e
step-tag t (item k u) ns e = subst (λ (j : ℕ). Tagged j (tagged u (drop k ns))) (eqb-true u t e) (tagged-tag u (drop k ns))
step-tag t (option k u) ns e = subst (λ (j : ℕ). Tagged j (seek u (drop k ns))) (eqb-true u t e) (seek-tag u (drop k ns))
step-tag t (only u) ns e = subst (λ (j : ℕ). Tagged j (alone u ns)) (eqb-true u t e) (alone-tag u ns)

onward-tag : (m : List ℕ) (t : ℕ) (s : Step) (o : Option Node) → asks t s ≡ true → Tagged t (onward (into m s) o)
onward-tag m t s none e = tt
onward-tag m t s (some n) e = step-tag t s (elements_between m n.from n.to) e

either-tag : (t : ℕ) (o p : Option Node) → Tagged t o → Tagged t p → Tagged t (either o p)
either-tag t none p w v = v
either-tag t (some n) p w v = w

walk-tag : (m : List ℕ) (t : ℕ) (p : Path) → ends_in t p ≡ true → Tagged t (walk m p)
unfolding walk
walk-tag m t message e = subst (λ (j : ℕ). Tagged j (alone 0x30 (elements_between m 0 (length m)))) (eqb-true 0x30 t e) (alone-tag 0x30 (elements_between m 0 (length m)))
walk-tag m t (p ▸ s) e = onward-tag m t s (walk m p) e
walk-tag m t (p or q) e =
    either-tag t (walk m p) (walk m q)
    (walk-tag m t p (and_left (ends_in t p) (ends_in t q) e)) (walk-tag m t q (and_right (ends_in t p) (ends_in t q) e))

-- ## One element

stands_one : (m : List ℕ) (a : ℕ) (n : Node) → Stands m a n → OneElement n.tag (part_of m (span_from n.at n.to))
stands_one m a n s =
    record {
      start = n.from - n.at;
      len = n.to - n.from;
      head = s.head;
      ends = omega (arith, s.from, s.to, s.end, length-take (n.to - n.at) (drop n.at m), length-drop n.at m);
    }

-- a message that ends with the bytes is one element
pub root_one : (m : List ℕ) {n : Node} → walk m message ≡ some n → n.at ≡ 0 → n.to ≡ length m → OneElement n.tag m
root_one m {n} e a z =
    let all : part_of m (span_from n.at n.to) ≡ m = rw (a, z) (take_all (length m - 0) m (omega arith)) in
    subst (OneElement n.tag) all (stands_one m 0 n (subst (Maybe m 0) e (walk_stands m message)))

-- what a path inside the message leads to is one element
pub one_at : (m : List ℕ) (p : Path) → deep p ≡ true → {n : Node} → walk m p ≡ some n → OneElement n.tag (part_of m (span_from n.at n.to))
one_at m p d {n} e = stands_one m 1 n (subst (Maybe m 1) e (walk_deep m p d))

-- a part that is handed back whole is one, where it is there, with the tag that its path asks for
if_there_lem : (m : List ℕ) (t : ℕ) (o : Option Node) → Maybe m 1 o → Tagged t o → OneIfThere t m (whole_at o)
if_there_lem m t none w g k = absurd (k refl)
if_there_lem m t (some n) w g k = subst (λ (j : ℕ). OneElement j (part_of m (span_from n.at n.to))) g (stands_one m 1 n w)

pub one_if_there : (m : List ℕ) (t : ℕ) (p : Path) → deep p ≡ true → ends_in t p ≡ true → {s : Span} → s ≡ whole_at (walk m p) → OneIfThere t m s
one_if_there m t p d e q = subst (OneIfThere t m) (sym q) (if_there_lem m t (walk m p) (walk_deep m p d) (walk-tag m t p e))
