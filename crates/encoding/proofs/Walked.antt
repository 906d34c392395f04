-- A reading that is right, walked: where each rule leaves the cursor stand whole elements, with the levels that are left there. So each
-- part that the header's rules found passes its test (36) alone.
use Prim.Native.Nat.{ℕ, suc, ◌-◌, ◌<◌}
use mathlib.Core.Path.{◌≡◌, refl, sym, ◌∙◌, ap, subst}
use mathlib.Core.List.{List, ◌++◌}
use mathlib.Core.Bool.{Bool, true}
use mathlib.Core.Option.{Option}
use native.Mathlib.Omega.{arith}
use lib.ListN.{length, length-append}
use lib.Dec.{ltb, eqb}
use Rattle.der.specs.Element.{constructed}
use Rattle.der.proofs.HeadLaws.{cond_both, cond-case}
use Rattle.der.proofs.OneForm.{Bytes}
use Rattle.grammar.specs.declared.Span.{Span}
use Rattle.grammar.specs.declared.Header.{Header}
use Rattle.grammar.specs.declared.cursor.Cursor.{Cursor}
use Rattle.grammar.specs.declared.parts.Each.TheVariants.{Text, Info}
use Rattle.grammar.specs.declared.pki_header.Names.{Names}
use Rattle.grammar.specs.declared.pki_header.Options.{Options}
use Rattle.grammar.specs.declared.pki_header.Ids.{Ids}
use Rattle.grammar.specs.Cursor.{is_ok, tag_at, need_of, none_of, done_of, enter_of, leave_of, small_integer_of}
use Rattle.grammar.specs.Span.{part_of}
use Rattle.grammar.specs.Parts.{found_span, whole_span, found_of, optional_field, field_of, typed_of, typed_field, sequence_of, sequence_field}
use Rattle.grammar.specs.Header.{name_tag, name_of, names_of, options_of, ids_of, header_of}
use Rattle.grammar.proofs.CursorLaws.{untrue}
use Rattle.grammar.proofs.Places.{NoFault, ended, left}
use Rattle.grammar.proofs.PartPlaces.{field_steps, typed_field_steps, sequence_field_steps}
use Rattle.grammar.proofs.HeaderPlaces.{name_takes, options_in, ids_in}
use Rattle.protocol.specs.Message.{is_present, optional_part}
use Rattle.encoding.specs.Element.{element}
use Rattle.encoding.specs.Fits.{if_given, name_fits, typed_fits, text_fits, info_fits}
use Rattle.encoding.proofs.Holds.{Holds, none-holds}
use Rattle.encoding.proofs.Inverse.{need_only}
use Rattle.encoding.proofs.Only.{between_is}
use Rattle.encoding.proofs.Sound.{Good, SoundAt}
use Rattle.encoding.proofs.Apart.{first_good, good_below, good-alone}
use Rattle.encoding.proofs.Alone.{name_fits_lem, typed_here, text_here, info_here}

-- a part that passes its test, if it is there
pub part-fits : (m : List ℕ) (test : List ℕ → Bool) (s : Span) → test (part_of m s) ≡ true → if_given test (optional_part m s) ≡ true
part-fits m test s k = cond-case (λ (o : Option (List ℕ)). if_given test o ≡ true) (is_present s) k refl

module _ (m : List ℕ) (bytes : Bytes m) (few : length m < 65536) where
  -- whole elements are left, nested at most d deep
  pub record Stands (d : ℕ) (c : Cursor) : Type 0 where
    pub left : List ℕ
    pub holds : Holds m c left
    pub sound : SoundAt d left

  -- r has passed an element that is right
  pub record Passes (d tag : ℕ) (c r : Cursor) : Type 0 where
    pub content : List ℕ
    pub small : length content < 65536
    pub size : length (element tag content) < 65536
    pub good : Good d tag content
    pub whole : part_of m (whole_span c r) ≡ element tag content
    pub inside : part_of m (found_span r) ≡ content
    pub into : Holds m (enter_of r) content
    pub after : Stands (suc d) r

  pub need_passes : (d tag : ℕ) (c : Cursor) → Stands (suc d) c → NoFault (need_of m tag c) → Passes d tag c (need_of m tag c)
  need_passes d tag c s k =
      let i = need_only m bytes c s.left s.holds tag k in
      let small : length i.content < 65536 = omega (arith, i.took.found.size, i.took.found.high) in
      let f = first_good d tag i.content i.rest small i.tags (subst (SoundAt (suc d)) i.is s.sound) in
      let here : Holds m c (element tag i.content ++ i.rest) = subst (Holds m c) i.is s.holds in
      record {
        content = i.content;
        small = small;
        size = omega (arith, here.size, here.high, length-append (element tag i.content) i.rest);
        good = f.0;
        whole = between_is m (element tag i.content) i.rest c (need_of m tag c) here i.took.left i.took.end;
        inside = i.took.found.is;
        into = i.took.into;
        after = record { left = i.rest; holds = i.took.left; sound = f.1 };
      }

  -- into it
  pub enter_stands : {d tag : ℕ} {c r : Cursor} → Passes d tag c r → constructed tag ≡ true → Stands d (enter_of r)
  enter_stands p c = record { left = p.content; holds = p.into; sound = good_below p.good c }

  none_stands : {d : ℕ} (c : Cursor) → Stands d c → Stands d (none_of c)
  none_stands c s = record { left = s.left; holds = none-holds c s.holds; sound = s.sound }

  -- ## Explicit tags

  -- the rule takes all that an element holds: this passes the test
  abbrev pub Tests : ℕ → (Cursor → Cursor) → (List ℕ → Bool) → Type 0
  Tests d f test = (i : Cursor) (x : List ℕ) → Holds m i x → NoFault (done_of (f i)) → SoundAt d x → test x ≡ true

  abbrev pub FoundFits : ℕ → (List ℕ → Bool) → Cursor → Type 0
  FoundFits d test r = Stands d r × (if_given test (optional_part m (found_span r)) ≡ true)

  pub inside-fits : (d tag : ℕ) (f : Cursor → Cursor) (test : List ℕ → Bool) (c : Cursor) → constructed tag ≡ true → Tests d f test
      → Stands (suc d) c → NoFault (leave_of (need_of m tag c) (done_of (f (enter_of (need_of m tag c)))))
      → FoundFits (suc d) test (leave_of (need_of m tag c) (done_of (f (enter_of (need_of m tag c)))))
  inside-fits d tag f test c con rule s k =
      let o : Cursor = need_of m tag c in
      let l = left o (done_of (f (enter_of o))) k in
      let p = need_passes d tag c s (subst NoFault l.1 k) in
      let t : test p.content ≡ true = rule (enter_of o) p.content p.into l.0 (good_below p.good con) in
      subst (FoundFits (suc d) test) (sym l.1) (p.after, part-fits m test (found_span o) (ap test p.inside ∙ t))

  -- [n] OPTIONAL around what the rule takes
  pub optional-fits : (d tag : ℕ) (f : Cursor → Cursor) (test : List ℕ → Bool) (c : Cursor) → constructed tag ≡ true → Tests d f test
      → Stands (suc d) c → NoFault (optional_field leave_of m tag f c) → FoundFits (suc d) test (optional_field leave_of m tag f c)
  optional-fits d tag f test c con rule s =
      cond_both (λ (r : Cursor). NoFault r → FoundFits (suc d) test r) (eqb (tag_at m c) tag)
      (λ q. inside-fits d tag f test c con rule s) (λ q k. (none_stands c s, refl))

  -- out again with what was found inside
  found_stands : {d : ℕ} (o i : Cursor) → (NoFault o → Stands d o) → NoFault (found_of o i) → Stands d (found_of o i) × NoFault i
  unfolding found_of
  found_stands {d} o i f =
      cond_both (λ (r : Cursor). NoFault r → Stands d r × NoFault i) (is_ok i)
      (λ q k.
      let a = f k in
      let h = a.holds in
      (record { left = a.left; holds = record { ok = h.ok; size = h.size; high = h.high; is = h.is }; sound = a.sound }, q))
      (λ q k. untrue (sym q ∙ k))

  -- [n] OPTIONAL around one element that is opaque
  field_stands : (d tag inner : ℕ) (c : Cursor) → Stands (suc d) c → NoFault (field_of m tag inner c) → Stands (suc d) (field_of m tag inner c)
  unfolding field_of
  field_stands d tag inner c s =
      let o : Cursor = need_of m tag c in
      cond_both (λ (r : Cursor). NoFault r → Stands (suc d) r) (eqb (tag_at m c) tag)
      (λ q k. (found_stands o (done_of (need_of m inner (enter_of o))) (λ j. (need_passes d tag c s j).after) k).0)
      (λ q k. none_stands c s)

  -- ## The header

  pub small_stands : (d : ℕ) (c : Cursor) → Stands (suc d) c → NoFault (small_integer_of m c) → Stands (suc d) (small_integer_of m c)
  unfolding small_integer_of
  small_stands d c s =
      cond_both (λ (r : Cursor). NoFault r → Stands (suc d) r) (ltb 4 ((need_of m 0x02 c).to - (need_of m 0x02 c).from))
      (λ q. untrue) (λ q k. (need_passes d 0x02 c s k).after)

  -- a GeneralName, at depth 3
  name_stands : (c : Cursor) → Stands 14 c → NoFault (name_of m c) → Stands 14 (name_of m c) × (name_fits (part_of m (whole_span c (name_of m c))) ≡ true)
  unfolding name_of
  name_stands c s =
      let tag : ℕ = tag_at m c in
      cond_both (λ (r : Cursor). NoFault r → Stands 14 r × (name_fits (part_of m (whole_span c r)) ≡ true)) (name_tag tag)
      (λ q k.
      let p = need_passes 13 tag c s k in
      let e : List ℕ = element tag p.content in
      let sound : SoundAt 14 e = good-alone 13 tag p.content p.small p.good in
      (p.after, ap name_fits p.whole ∙ name_fits_lem e p.size tag p.content refl p.good.tags q sound))
      (λ q. untrue)

  record NamesFit (n : Names) : Type 0 where
    after : Stands 14 n.cur
    sender : name_fits (part_of m n.sender) ≡ true
    recipient : name_fits (part_of m n.recipient) ≡ true

  names_fit : (c : Cursor) → Stands 14 c → NoFault (names_of m c).cur → NamesFit (names_of m c)
  unfolding names_of
  names_fit c s k =
      let v : Cursor = small_integer_of m c in
      let n : Cursor = name_of m v in
      let ok_n : NoFault n = (name_takes m n k).along.ok in
      let ok_v : NoFault v = (name_takes m v ok_n).along.ok in
      let a = name_stands v (small_stands 13 c s ok_v) ok_n in
      let b = name_stands n a.0 k in
      record { after = b.0; sender = a.1; recipient = b.1 }

  record OptionsFit (o : Options) : Type 0 where
    after : Stands 14 o.cur
    alg : if_given typed_fits (optional_part m o.protection_alg) ≡ true

  options_fit : (c : Cursor) → Stands 14 c → NoFault (options_of m c).cur → OptionsFit (options_of m c)
  unfolding options_of typed_field
  options_fit c s k =
      let time : Cursor = field_of m 0xA0 0x18 c in
      let alg : Cursor = typed_field m 0xA1 time in
      let sender : Cursor = field_of m 0xA2 0x04 alg in
      let k3 : NoFault sender = (field_steps m 0xA3 0x04 sender k).along.ok in
      let k2 : NoFault alg = (field_steps m 0xA2 0x04 alg k3).along.ok in
      let k1 : NoFault time = (typed_field_steps m 0xA1 time k2).along.ok in
      let s1 = field_stands 13 0xA0 0x18 c s k1 in
      let s2 = optional-fits 13 0xA1 (typed_of m) typed_fits time refl (typed_here m bytes few) s1 k2 in
      let s3 = field_stands 13 0xA2 0x04 alg s2.0 k3 in
      record { after = field_stands 13 0xA3 0x04 sender s3 k; alg = s2.1 }

  record IdsFit (i : Ids) : Type 0 where
    text : if_given text_fits (optional_part m i.free_text) ≡ true
    info : if_given info_fits (optional_part m i.general_info) ≡ true

  ids_fit : (c : Cursor) → Stands 14 c → NoFault (ids_of m c).cur → IdsFit (ids_of m c)
  unfolding ids_of sequence_field
  ids_fit c s k =
      let id : Cursor = field_of m 0xA4 0x04 c in
      let sender : Cursor = field_of m 0xA5 0x04 id in
      let recip : Cursor = field_of m 0xA6 0x04 sender in
      let text : Cursor = sequence_field m 0xA7 Text recip in
      let k4 : NoFault text = (sequence_field_steps m 0xA8 Info text k).along.ok in
      let k3 : NoFault recip = (sequence_field_steps m 0xA7 Text recip k4).along.ok in
      let k2 : NoFault sender = (field_steps m 0xA6 0x04 sender k3).along.ok in
      let k1 : NoFault id = (field_steps m 0xA5 0x04 id k2).along.ok in
      let s1 = field_stands 13 0xA4 0x04 c s k1 in
      let s2 = field_stands 13 0xA5 0x04 id s1 k2 in
      let s3 = field_stands 13 0xA6 0x04 sender s2 k3 in
      let s4 = optional-fits 13 0xA7 (sequence_of m Text) text_fits recip refl (text_here m bytes few) s3 k4 in
      let s5 = optional-fits 13 0xA8 (sequence_of m Info) info_fits text refl (info_here m bytes few) s4.0 k in
      record { text = s4.1; info = s5.1 }

  -- each part that the header's rules found passes its test
  pub record HeaderFits (h : Header) : Type 0 where
    pub sender : name_fits (part_of m h.sender) ≡ true
    pub recipient : name_fits (part_of m h.recipient) ≡ true
    pub protection_alg : if_given typed_fits (optional_part m h.protection_alg) ≡ true
    pub free_text : if_given text_fits (optional_part m h.free_text) ≡ true
    pub general_info : if_given info_fits (optional_part m h.general_info) ≡ true

  pub header-fits : (c : Cursor) → Stands 15 c → NoFault (header_of m c).cur → Stands 15 (header_of m c).cur × HeaderFits (header_of m c).header
  unfolding header_of
  header-fits c s k =
      let o : Cursor = need_of m 0x30 c in
      let n : Cursor = (names_of m (enter_of o)).cur in
      let p : Cursor = (options_of m n).cur in
      let i : Cursor = (ids_of m p).cur in
      let l = left o (done_of i) k in
      let ki : NoFault i = (ended i l.0).0 in
      let kp : NoFault p = (ids_in m p ki).along.ok in
      let kn : NoFault n = (options_in m n kp).along.ok in
      let t = need_passes 14 0x30 c s (subst NoFault l.1 k) in
      let names = names_fit (enter_of o) (enter_stands t refl) kn in
      let options = options_fit n names.after kp in
      let ids = ids_fit p options.after ki in (
        subst (Stands 15) (sym l.1) t.after,
        record {
          sender = names.sender;
          recipient = names.recipient;
          protection_alg = options.alg;
          free_text = ids.text;
          general_info = ids.info;
        },
      )
