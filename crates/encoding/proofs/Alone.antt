-- Given parts, the other way: a part that a rule took where it stands passes its test (36) alone.
use Prim.Native.Nat.{ℕ, ◌<◌}
use mathlib.Core.Path.{◌≡◌, refl, sym, ◌∙◌, ap, subst}
use mathlib.Core.List.{List, [], ◌++◌, append-nil}
use mathlib.Core.Bool.{true}
use native.Mathlib.Omega.{arith}
use borrow.Author.Tests.{eq-eqb}
use lib.ListN.{length}
use Rattle.der.specs.Head.{byte, tag_ok}
use Rattle.der.specs.Content.{content_ok, bit_string_ok}
use Rattle.der.proofs.OneForm.{Bytes}
use Rattle.grammar.specs.declared.cursor.Cursor.{Cursor}
use Rattle.grammar.specs.declared.parts.Each.TheVariants.{Text, Info}
use Rattle.grammar.specs.Cursor.{is_ok, need_of, done_of, enter_of, leave_of, small_integer_of}
use Rattle.grammar.specs.Parts.{typed_of, sequence_by, one_of, sequence_of}
use Rattle.grammar.specs.Entries.{request_of}
use Rattle.grammar.specs.Header.{name_tag}
use Rattle.grammar.specs.Message.{start_at}
use Rattle.grammar.proofs.Places.{ended, need_takes}
use Rattle.grammar.proofs.PartPlaces.{typed_takes}
use Rattle.encoding.specs.Element.{element}
use Rattle.encoding.specs.Fits.{name_fits, typed_fits, text_fits, info_fits, request_message_fits, certificate_fits}
use Rattle.encoding.proofs.Holds.{Holds, need_took, done-is, leave_is}
use Rattle.encoding.proofs.Rules.{Reads, small_took}
use Rattle.encoding.proofs.Inverse.{at-end}
use Rattle.encoding.proofs.Message.{start-holds}
use Rattle.encoding.proofs.Sound.{SoundAt}
use Rattle.encoding.proofs.Apart.{first_good, good-content, content-size, one-element}
use Rattle.encoding.proofs.Shapes.{Only, Tagged, Typed, Sequence, tagged-reads, typed_reads, sequence_reads, tagged-only, typed_only, sequence_only, tagged_long, typed_long}
use Rattle.encoding.proofs.Requests.{Request}
use Rattle.encoding.proofs.GivenFits.{first_byte}

-- ## From a shape to the test

-- what the rule takes anywhere, it takes alone
alone-back : (f : Cursor → Cursor) (e : List ℕ) → Reads e f e → is_ok (done_of (f (start_at (length e)))) ≡ true
alone-back f e r =
    let h : Holds e (f (start_at (length e))) [] =
    r (start_at (length e)) [] (subst (Holds e (start_at (length e))) (sym (append-nil e)) (start-holds e)) in
    ap is_ok (done-is (f (start_at (length e))) h) ∙ h.ok

request-reads : (m : List ℕ) → length m < 65536 → (e : List ℕ) → Request e → Reads m (λ c. (request_of m c).cur) e
unfolding request_of tag_ok
request-reads m few e p c rest h =
    let s : Cursor = need_of m 0x30 c in
    let q : Cursor = need_of m 0x30 (enter_of s) in
    let n : Cursor = small_integer_of m (enter_of q) in
    let inside : List ℕ = element 0x02 p.number ++ p.a in
    let t = need_took m c 0x30 (element 0x30 inside ++ p.b) rest few refl (subst (λ (l : List ℕ). Holds m c (l ++ rest)) p.is h) in
    let u = need_took m (enter_of s) 0x30 inside p.b few refl t.into in
    let v = small_took m few (enter_of q) p.number p.a p.short u.into in
    let out : leave_of s (leave_of q n) ≡ s = ap (leave_of s) (leave_is q n v.left) ∙ leave_is s q u.left in
    subst (λ (y : Cursor). Holds m y rest) (sym out) t.left

module _ (e : List ℕ) (few : length e < 65536) where
  pub name_fits_lem : (tag : ℕ) (v : List ℕ) → e ≡ element tag v → tag_ok tag ≡ true → name_tag tag ≡ true → SoundAt 14 e → name_fits e ≡ true
  unfolding name_fits
  name_fits_lem tag v is ok name s = rw (one-element 14 tag v e is ok few s, first_byte e tag v is, name)

  certificate-fits : (v : List ℕ) → e ≡ element 0x30 v → SoundAt 9 e → certificate_fits e ≡ true
  unfolding certificate_fits tag_ok
  certificate-fits v is s = rw (one-element 9 0x30 v e is refl few s, eq-eqb (byte e 0) 0x30 (first_byte e 0x30 v is))

  typed_fits_lem : Typed e → SoundAt 13 e → typed_fits e ≡ true
  unfolding typed_fits tag_ok
  typed_fits_lem p s = rw (one-element 13 0x30 _ e p.is refl few s, alone-back (typed_of e) e (typed_reads e few e p))

  text_fits_lem : Sequence (Tagged 0x0C) e → SoundAt 13 e → text_fits e ≡ true
  unfolding text_fits tag_ok sequence_of one_of
  text_fits_lem p s =
      let r = sequence_reads e few (Tagged 0x0C) (need_of e 0x0C) (tagged-reads e few 0x0C) (tagged_long 0x0C) e p in
      rw (one-element 13 0x30 _ e p.is refl few s, alone-back (sequence_by e (need_of e 0x0C)) e r)

  info_fits_lem : Sequence Typed e → SoundAt 13 e → info_fits e ≡ true
  unfolding info_fits tag_ok sequence_of one_of
  info_fits_lem p s =
      let r = sequence_reads e few Typed (typed_of e) (typed_reads e few) typed_long e p in
      rw (one-element 13 0x30 _ e p.is refl few s, alone-back (sequence_by e (typed_of e)) e r)

  pub request-fits : Request e → SoundAt 13 e → request_message_fits e ≡ true
  unfolding request_message_fits tag_ok
  request-fits p s =
      rw (one-element 13 0x30 _ e p.is refl few s, alone-back (λ c. (request_of e c).cur) e (request-reads e few e p))

-- ## Where it stands

-- it is all of the shape that the rule took
shape_there : (m : List ℕ) (f : Cursor → Cursor) (P : List ℕ → Type 0) → Only m f P → (c : Cursor) (x : List ℕ) → Holds m c x
    → is_ok (done_of (f c)) ≡ true → P x
shape_there m f P only c x h k =
    let z = ended (f c) k in
    let t = only c x h z.0 in
    let none_left : t.rest ≡ [] = at-end (f c) t.left z.1 in
    subst P (sym (t.is ∙ ap (λ (l : List ℕ). t.part ++ l) none_left ∙ append-nil t.part)) t.shape

module _ (m : List ℕ) (bytes : Bytes m) (few : length m < 65536) (c : Cursor) (x : List ℕ) (h : Holds m c x) where
  short : length x < 65536
  short = omega (arith, h.size, h.high)

  pub typed_here : is_ok (done_of (typed_of m c)) ≡ true → SoundAt 13 x → typed_fits x ≡ true
  typed_here k = typed_fits_lem x short (shape_there m (typed_of m) Typed (typed_only m bytes) c x h k)

  pub text_here : is_ok (done_of (sequence_of m Text c)) ≡ true → SoundAt 13 x → text_fits x ≡ true
  unfolding sequence_of one_of
  text_here k =
      text_fits_lem x short
      (shape_there m (sequence_by m (need_of m 0x0C)) (Sequence (Tagged 0x0C))
      (sequence_only m bytes (Tagged 0x0C) (need_of m 0x0C) (need_takes m 0x0C) (tagged-only m bytes 0x0C) (tagged_long 0x0C)) c x h k)

  pub info_here : is_ok (done_of (sequence_of m Info c)) ≡ true → SoundAt 13 x → info_fits x ≡ true
  unfolding sequence_of one_of
  info_here k =
      info_fits_lem x short
      (shape_there m (sequence_by m (typed_of m)) (Sequence Typed)
      (sequence_only m bytes Typed (typed_of m) (typed_takes m) (typed_only m bytes) typed_long) c x h k)

  pub certificate_here : is_ok (done_of (need_of m 0x30 c)) ≡ true → SoundAt 9 x → certificate_fits x ≡ true
  certificate_here k =
      let p = shape_there m (need_of m 0x30) (Tagged 0x30) (tagged-only m bytes 0x30) c x h k in
      certificate-fits x short p.content p.is

  pub bits_here : is_ok (done_of (need_of m 0x03 c)) ≡ true → SoundAt 14 x → (v : List ℕ) × (x ≡ element 0x03 v) × (bit_string_ok v ≡ true)
  unfolding content_ok tag_ok
  bits_here k s =
      let p = shape_there m (need_of m 0x03) (Tagged 0x03) (tagged-only m bytes 0x03) c x h k in
      let v : List ℕ = p.content in
      let is : x ≡ element 0x03 v ++ [] = p.is ∙ sym (append-nil (element 0x03 v)) in
      let small : length v < 65536 = content-size 0x03 v (subst (λ (l : List ℕ). length l < 65536) p.is short) in
      (v, p.is, good-content (first_good 13 0x03 v [] small refl (subst (SoundAt 14) is s)).0 refl)
