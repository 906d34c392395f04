-- ir, cr, kur around a given request message and p10cr around a given element, read where they were written.
use Prim.Native.Nat.{ℕ, ◌-◌, ◌<◌, ◌≤◌}
use mathlib.Core.Path.{◌≡◌, refl, sym, ◌∙◌, ap, subst}
use mathlib.Core.List.{List, [], ◌++◌, append-nil}
use mathlib.Core.Bool.{true}
use mathlib.Core.Option.{none, some}
use native.Mathlib.Omega.{arith}
use borrow.Author.Tests.{ltb-false}
use lib.ListN.{length}
use lib.Dec.{ltb}
use Rattle.der.specs.Head.{tag_ok}
use Rattle.der.proofs.HeadLaws.{cond_both}
use Rattle.der.proofs.OneForm.{Bytes}
use Rattle.grammar.specs.declared.cursor.Cursor.{Cursor}
use Rattle.grammar.specs.declared.entries.Entries.{Entries}
use Rattle.grammar.specs.declared.pki_body.Contents.{Contents}
use Rattle.grammar.specs.declared.entries.EntryKind.TheVariants as of
use Rattle.grammar.specs.Cursor.{is_ok, tag_at, need_of, any_of, enter_of, leave_of, small_integer_of}
use Rattle.der.specs.Integer.{signed32}
use Rattle.grammar.specs.Span.{no_span}
use Rattle.grammar.specs.Entries.{request_of, entry_of, no_entries, next, entries_of}
use Rattle.grammar.specs.Body.{from_entries, at_least_one, requests_of, p10cr_of}
use Rattle.grammar.proofs.CursorLaws.{untrue}
use Rattle.grammar.proofs.Places.{left}
use Rattle.encoding.specs.Element.{element}
use Rattle.encoding.specs.Message.{requests_bytes}
use Rattle.grammar.specs.Alone.{alone}
use Rattle.encoding.proofs.Holds.{Holds, need_took, leave_is, some_bytes, tag_is, element-tag}
use Rattle.encoding.proofs.Rules.{ShowsIf, whole_shows, value_is, small_took}
use Rattle.encoding.proofs.Inverse.{Is, need_only}
use Rattle.encoding.proofs.Shapes.{Only, alone_shape}
use Rattle.encoding.proofs.Body.{Said, Shown, ContentsAre, one_entry_lem}

-- ## A request message

pub record Request (e : List ℕ) : Type 0 where
  pub number : List ℕ
  pub a : List ℕ
  pub b : List ℕ
  pub is : e ≡ element 0x30 (element 0x30 (element 0x02 number ++ a) ++ b)
  pub short : length number ≤ 4

small-only : (m : List ℕ) → Bytes m → (c : Cursor) (x : List ℕ) → Holds m c x → is_ok (small_integer_of m c) ≡ true
    → (i : Is m 0x02 c (need_of m 0x02 c) x) × (length i.content ≤ 4)
unfolding small_integer_of
small-only m bytes c x h =
    cond_both (λ (r : Cursor). is_ok r ≡ true → (i : Is m 0x02 c (need_of m 0x02 c) x) × (length i.content ≤ 4))
    (ltb 4 ((need_of m 0x02 c).to - (need_of m 0x02 c).from))
    (λ q. untrue)
    (λ q k.
    let i = need_only m bytes c x h 0x02 k in
    (i, omega (arith, i.took.found.size, ltb-false 4 ((need_of m 0x02 c).to - (need_of m 0x02 c).from) q)))

pub request-only : (m : List ℕ) → Bytes m → Only m (λ c. (request_of m c).cur) Request
unfolding request_of
request-only m bytes c x h k =
    let s : Cursor = need_of m 0x30 c in
    let q : Cursor = need_of m 0x30 (enter_of s) in
    let n : Cursor = small_integer_of m (enter_of q) in
    let l = left s (leave_of q n) k in
    let r = left q n l.0 in
    let i = need_only m bytes c x h 0x30 (subst (λ (j : Cursor). is_ok j ≡ true) l.1 k) in
    let j = need_only m bytes (enter_of s) i.content i.took.into 0x30 (subst (λ (y : Cursor). is_ok y ≡ true) r.1 l.0) in
    let v = small-only m bytes (enter_of q) j.content j.took.into r.0 in
    record {
      part = element 0x30 i.content;
      rest = i.rest;
      is = i.is;
      shape = record {
        number = v.0.content;
        a = v.0.rest;
        b = j.rest;
        is = ap (element 0x30) (j.is ∙ ap (λ (y : List ℕ). element 0x30 y ++ j.rest) v.0.is);
        short = v.1;
      };
      left = subst (λ (y : Cursor). Holds m y i.rest) (sym l.1) i.took.left;
    }

-- one request message that says this number; the one element of a p10cr
abbrev pub request_said : List ℕ → ℕ → Said
request_said e n = record { entries = 1; number = n; status = none; hash = none; certificate = none; request = some e }

abbrev pub p10cr_said : List ℕ → Said
p10cr_said e = record { entries = 0; number = 0; status = none; hash = none; certificate = none; request = some e }

module _ (m : List ℕ) (few : length m < 65536) where
  request-reads : (e : List ℕ) (p : Request e) (c : Cursor) (rest : List ℕ) → 0 < c.at → Holds m c (e ++ rest)
      → Holds m (request_of m c).cur rest × Shown m (request_said e (signed32 p.number)) 1 (request_of m c).entry
  unfolding request_of tag_ok ShowsIf
  request-reads e p c rest pos h =
      let s : Cursor = need_of m 0x30 c in
      let q : Cursor = need_of m 0x30 (enter_of s) in
      let n : Cursor = small_integer_of m (enter_of q) in
      let inside : List ℕ = element 0x02 p.number ++ p.a in
      let t = need_took m c 0x30 (element 0x30 inside ++ p.b) rest few refl (subst (λ (l : List ℕ). Holds m c (l ++ rest)) p.is h) in
      let u = need_took m (enter_of s) 0x30 inside p.b few refl t.into in
      let v = small_took m few (enter_of q) p.number p.a p.short u.into in
      let out : leave_of s (leave_of q n) ≡ s = ap (leave_of s) (leave_is q n v.left) ∙ leave_is s q u.left in (
        subst (λ (y : Cursor). Holds m y rest) (sym out) t.left,
        record {
          entries = refl;
          number = value_is n v.found;
          status = refl;
          hash = (refl, refl);
          hash_alg = (refl, refl);
          certificate = (refl, refl);
          request = whole_shows m e rest c s pos h t.left t.end;
        },
      )

  -- ir, cr, kur around one request message
  pub requests_are : (e : List ℕ) (p : Request e) (c : Cursor) → Holds m c (requests_bytes e ++ [])
      → ContentsAre m (request_said e (signed32 p.number)) (requests_of m c)
  unfolding requests_bytes requests_of entry_of at_least_one tag_ok ShowsIf
  requests_are e p c h =
      let s : Cursor = need_of m 0x30 c in
      let t = need_took m c 0x30 (e ++ []) [] few refl h in
      let r = request-reads e p (enter_of s) [] t.above t.into in
      let x : List ℕ = element 0x30 (element 0x02 p.number ++ p.a) ++ p.b in
      let long : 0 < length (e ++ []) = rw (append-nil e, p.is, ← append-nil (element 0x30 x)) (some_bytes 0x30 x []) in
      let one : entries_of m of.Request (enter_of s) ≡ next m of.Request (no_entries (enter_of s)) =
      one_entry_lem m few of.Request (enter_of s) (e ++ []) long t.into r.0 in
      let contents : Entries → Contents = λ (j : Entries). from_entries (leave_of s (at_least_one j)) no_span j in
      subst (λ (j : Entries). ContentsAre m (request_said e (signed32 p.number)) (contents j)) (sym one)
      (record {
        left = subst (λ (k : Cursor). Holds m k []) (sym (leave_is s (request_of m (enter_of s)).cur r.0)) t.left;
        ca_pubs = (refl, refl);
        says = r.1;
      })

  -- p10cr around one element
  pub p10cr-is : (e : List ℕ) (tag : ℕ) (v : List ℕ) → e ≡ element tag v → tag_ok tag ≡ true → (c : Cursor) → 0 < c.at
      → Holds m c (e ++ []) → ContentsAre m (p10cr_said e) (p10cr_of m c)
  unfolding p10cr_of any_of ShowsIf
  p10cr-is e tag v is ok c pos h =
      let k : Holds m c (element tag v ++ []) = subst (λ (l : List ℕ). Holds m c (l ++ [])) is h in
      let a : tag_at m c ≡ tag = tag_is m c (element tag v ++ []) k ∙ element-tag tag v [] in
      let t = need_took m c tag v [] few ok k in
      rw a
      (record {
        left = t.left;
        ca_pubs = (refl, refl);
        says =
            record {
              entries = refl;
              number = refl;
              status = refl;
              hash = (refl, refl);
              hash_alg = (refl, refl);
              certificate = (refl, refl);
              request = whole_shows m e [] c (need_of m tag c) pos h t.left t.end;
            };
      })

-- 36: a request that stands alone may stand in the body
pub request-alone : (e : List ℕ) → Bytes e → alone (λ m c. (request_of m c).cur) e ≡ true → Request e
request-alone e bytes k = alone_shape (λ c. (request_of e c).cur) e Request (request-only e bytes) k
