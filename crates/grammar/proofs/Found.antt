-- What a message's spans are worth: where the grammar is met, every place found lies inside the message and inside its parent,
-- and the four parts stand one after another up to the message's end.
use Rattle.std.specs.Prelude.{Ok, Err}
use Prim.Native.Nat.{ℕ, ◌+◌, ◌-◌, ◌<◌, ◌≤◌}
use mathlib.Core.Path.{◌≡◌, refl, sym, ◌∙◌, subst}
use mathlib.Core.Bool.{true}
use mathlib.Core.List.{List}
use mathlib.Core.Logic.{◌⊎◌, inl, inr}
use native.Mathlib.Omega.{arith}
use borrow.Author.Tests.{eqb-true}
use lib.ListN.{length}
use lib.Dec.{eqb}
use Rattle.der.specs.Types.{Head}
use Rattle.der.proofs.HeadLaws.{cond_both, cond-case}
use Rattle.grammar.specs.declared.Span.{Span}
use Rattle.grammar.specs.declared.Message.{Message}
use Rattle.grammar.specs.declared.cursor.Cursor.{Cursor}
use Rattle.grammar.specs.declared.parts.Each.{Each}
use Rattle.grammar.specs.declared.parts.Each.TheVariants.{Certificate}
use Rattle.grammar.specs.declared.pki_header.HeaderRead.{HeaderRead}
use Rattle.grammar.specs.declared.pki_body.BodyRead.{BodyRead}
use Rattle.grammar.specs.Cursor.{is_ok, head_in, tag_at, if_tag, need_of, done_of, enter_of, leave_of}
use Rattle.grammar.specs.Span.{span_from}
use Rattle.grammar.specs.Parts.{outer_span, whole_span, found_of, sequence_of, field_of, sequence_field}
use Rattle.grammar.specs.Header.{header_of}
use Rattle.grammar.specs.Body.{body_of}
use Rattle.grammar.specs.Message.{start_at, message_of}
use Rattle.grammar.proofs.CursorLaws.{untrue}
use Rattle.grammar.proofs.Places.{NoFault, Went, Took, Takes, ◌then◌, need_takes, ended, left, at_done, at_leave, Nest, nest}
use Rattle.grammar.proofs.PartPlaces.{Between, no_span_lem, whole_span_lem, field_steps, sequence_field_steps}
use Rattle.grammar.proofs.HeaderPlaces.{HeaderIn, header-takes, header_in}
use Rattle.grammar.proofs.BodyPlaces.{BodyIn, body-takes, body_in}

-- ## The statements

abbrev pub start_of : Span → ℕ
start_of s = s.start.0

abbrev pub end_of : Span → ℕ
end_of s = s.start.0 + s.len

-- a span is absent, at 0 with no length, or begins where its parent begins or later and ends where its parent ends or before
abbrev pub Inside : Span → Span → Type 0
Inside parent s = Between (start_of parent) (end_of parent) s

-- a span is absent, at 0 with no length, or begins at e
abbrev pub Next : ℕ → Span → Type 0
Next e s = ((start_of s ≡ 0) × (s.len ≡ 0)) ⊎ (start_of s ≡ e)

-- Every place found lies inside the message of n bytes and inside its parent: the eleven spans of the header in the header, and
-- the spans of the body in the body. No part begins at 0 (`absent_at_0`). The header is followed by the body,
-- and so on up to the message's end.
pub record FoundIn (n : ℕ) (f : Message) : Type 0 where
  pub header_span : Inside (span_from 0 n) f.header_span
  pub body_span : Inside (span_from 0 n) f.body_span
  pub protection : Inside (span_from 0 n) f.protection
  pub extra_certs : Inside (span_from 0 n) f.extra_certs
  pub header : HeaderIn (start_of f.header_span) (end_of f.header_span) f.header
  pub body : BodyIn (start_of f.body_span) (end_of f.body_span) f.body
  pub above : 0 < start_of f.header_span
  pub body_next : end_of f.header_span ≡ start_of f.body_span
  pub protection_next : Next (end_of f.body_span) f.protection
  pub extra_next : Next (end_of f.body_span + f.protection.len) f.extra_certs
  pub filled : end_of f.body_span + f.protection.len + f.extra_certs.len ≡ n

-- ## An optional element with its tag

-- where nothing was found, nothing was passed
abbrev Bare : Cursor → Cursor → Type 0
Bare c r = NoFault r → r.from ≡ 0 → r.at ≡ c.at

found-bare : (c o : Cursor) {i : Cursor} → Takes (enter_of o) i → Bare c (found_of o i)
unfolding found_of
found-bare c o {i} f = cond_both (Bare c) (is_ok i) (λ q k e. let t = f q in absurd (omega arith)) (λ q k. untrue (sym q ∙ k))

field-bare : (m : List ℕ) (tag inner : ℕ) (c : Cursor) → Bare c (field_of m tag inner c)
unfolding field_of
field-bare m tag inner c =
    let o : Cursor = need_of m tag c in
    cond-case (Bare c) (eqb (tag_at m c) tag) (found-bare c o (at_done (Took (enter_of o)) (need_takes m inner (enter_of o)))) (λ k e. refl)

sequence_field_bare : (m : List ℕ) (tag : ℕ) (what : Each) (c : Cursor) → Bare c (sequence_field m tag what c)
unfolding sequence_field
sequence_field_bare m tag what c =
    let o : Cursor = need_of m tag c in
    cond-case (Bare c) (eqb (tag_at m c) tag)
    (λ k e. let t = at_leave (Took c) (done_of (sequence_of m what (enter_of o))) (need_takes m tag c) k in absurd (omega arith)) (λ k e. refl)

outer_in : {a b : ℕ} (c r : Cursor) → a ≤ c.at → c.at ≤ r.at → r.at ≤ b → Between a b (outer_span c r)
outer_in {a} {b} c r h j k = cond-case (Between a b) (eqb r.from 0) no_span_lem (whole_span_lem h j k)

outer_next : (c r : Cursor) → Next c.at (outer_span c r)
outer_next c r = cond-case (Next c.at) (eqb r.from 0) (inl (refl, refl)) (inr refl)

outer_len : (c r : Cursor) → NoFault r → Bare c r → (outer_span c r).len ≡ r.at - c.at
outer_len c r k f =
    cond_both (λ (s : Span). s.len ≡ r.at - c.at) (eqb r.from 0) (λ q. omega (arith, f k (eqb-true r.from 0 q))) (λ q. refl)

-- an element is read up to its content's end
need_ends : (m : List ℕ) (tag : ℕ) (c : Cursor) → NoFault (need_of m tag c) → (need_of m tag c).to ≡ (need_of m tag c).at
unfolding need_of
need_ends m tag c = cond_both Ends (is_ok c) (λ q. past (head_in m c.at c.end)) (λ q k. untrue (sym q ∙ k))
  where
    Ends : Cursor → Type 0
    Ends r = NoFault r → r.to ≡ r.at

    past : (h : Head) → Ends (if_tag tag c h)
    past (Err rule) = untrue
    past (Ok hd) = cond-case Ends (eqb hd.tag tag) (λ k. refl) untrue

-- ## The theorem

-- EVERY PLACE FOUND: where the grammar is met, every span of the message lies inside the message and inside its parent
pub found_in : (m : List ℕ) → (message_of m).met ≡ true → FoundIn (length m) (message_of m).found
unfolding message_of start_at
found_in m k =
    let c₀ : Cursor = start_at (length m) in
    let s : Cursor = need_of m 0x30 c₀ in
    let c : Cursor = enter_of s in
    let h : HeaderRead = header_of m c in
    let b : BodyRead = body_of m h.cur in
    let p : Cursor = field_of m 0xA0 0x03 b.cur in
    let x : Cursor = sequence_field m 0xA1 Certificate p in
    let o = ended (leave_of s (done_of x)) k in
    let l = left s (done_of x) o.0 in
    let e = ended x l.0 in
    let wx : Went p x = sequence_field_steps m 0xA1 Certificate p e.0 in
    let wp : Went b.cur p = field_steps m 0xA0 0x03 b.cur wx.along.ok in
    let tb : Took h.cur b.cur = body-takes m h.cur wp.along.ok in
    let th : Took c h.cur = header-takes m c tb.along.ok in
    let v : Nest c₀ s x = nest (need_takes m 0x30 c₀) (th.along then tb.along then wp.along then wx.along) in
    let n1 : 0 < c.at = omega (arith, v.start, v.took.low) in
    let n2 : c.at ≤ h.cur.at = th.along.on in
    let n3 : h.cur.at ≤ b.cur.at = tb.along.on in
    let n4 : b.cur.at ≤ p.at = wp.along.on in
    let n5 : p.at ≤ x.at = wx.along.on in
    let es : s.end ≤ s.at = subst (λ (j : Cursor). j.end ≤ j.at) l.1 o.1 in
    let n6 : x.at ≡ length m = omega (arith, v.took, v.end, v.to, e.1, need_ends m 0x30 c₀ (subst NoFault l.1 o.0)) in
    let hh : start_of (whole_span c h.cur) + (whole_span c h.cur).len ≡ h.cur.at = omega arith in
    let bb : start_of (whole_span h.cur b.cur) + (whole_span h.cur b.cur).len ≡ b.cur.at = omega arith in
    let pl : (outer_span b.cur p).len ≡ p.at - b.cur.at = outer_len b.cur p wx.along.ok (field-bare m 0xA0 0x03 b.cur) in
    let xl : (outer_span p x).len ≡ x.at - p.at = outer_len p x e.0 (sequence_field_bare m 0xA1 Certificate p) in
    let bp : start_of (whole_span h.cur b.cur) + (whole_span h.cur b.cur).len + (outer_span b.cur p).len ≡ p.at = omega arith in
    record {
      header_span = whole_span_lem (omega arith) n2 (omega arith);
      body_span = whole_span_lem (omega arith) n3 (omega arith);
      protection = outer_in b.cur p (omega arith) n4 (omega arith);
      extra_certs = outer_in p x (omega arith) n5 (omega arith);
      header = rw hh (header_in m c tb.along.ok);
      body = rw bb (body_in m h.cur wp.along.ok);
      above = n1;
      body_next = hh;
      protection_next = rw bb (outer_next b.cur p);
      extra_next = rw bp (outer_next p x);
      filled = omega arith;
    }
