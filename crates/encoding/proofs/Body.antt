-- The body, read where it was written; what its entries say.
use Prim.Native.Nat.{ℕ, zero, suc, ◌+◌, ◌-◌, ◌<◌, ◌≤◌}
use mathlib.Core.Path.{◌≡◌, refl, sym, ◌∙◌, ap, subst}
use mathlib.Core.List.{List, [], ◌∷◌, ◌++◌}
use mathlib.Core.Bool.{true, false}
use mathlib.Core.Option.{Option, none}
use native.Mathlib.Nat.{add-sub_cancel_left, lt_irrefl}
use native.Mathlib.Omega.{arith}
use borrow.Author.Tests.{lt-ltb, le-ltb, eq-eqb, ne_eqb}
use lib.ListN.{length}
use lib.Dec.{ltb, eqb}
use Rattle.der.specs.Head.{tag_ok}
use Rattle.grammar.specs.declared.Entry.{Entry}
use Rattle.grammar.specs.declared.cursor.Cursor.{Cursor}
use Rattle.grammar.specs.declared.entries.Entries.{Entries}
use Rattle.grammar.specs.declared.entries.EntryKind.{EntryKind}
use Rattle.grammar.specs.declared.pki_body.Contents.{Contents}
use Rattle.grammar.specs.declared.pki_body.BodyRead.{BodyRead}
use Rattle.grammar.specs.Cursor.{tag_at, done_of, enter_of, leave_of, more_at, left_at, repeat}
use Rattle.grammar.specs.Entries.{entry_of, no_entries, next, entries_of}
use Rattle.grammar.specs.Body.{other_of, contents_of, body_tag, body_of}
use Rattle.protocol.specs.Message.{optional_status}
use Rattle.encoding.specs.Element.{element}
use Rattle.encoding.proofs.Holds.{Holds, Took, need_took, tag_is, element-tag, out_is}
use Rattle.encoding.proofs.Rules.{ShowsIf}

-- ## Loops

pub more-is : (m : List ℕ) (c : Cursor) (x : List ℕ) → Holds m c x → more_at c ≡ ltb 0 (length x)
unfolding more_at
more-is m c [] h = simp h.ok (le-ltb c.at c.end (omega (arith, h.size)))
more-is m c (y ∷ x) h = simp (h.ok, lt-ltb 0 (suc (length x)) (omega arith)) (lt-ltb c.at c.end (omega (arith, h.size)))

module _ {S : Type 0} (cur : S → Cursor) (step : S → S) where
  pub repeat-stop : (n : ℕ) (s : S) → more_at (cur s) ≡ false → repeat cur step n s ≡ s
  unfolding repeat
  repeat-stop zero s e = refl
  repeat-stop (suc n) s e = rw e

  repeat-one : (n : ℕ) (s : S) → 0 < n → more_at (cur s) ≡ true → more_at (cur (step s)) ≡ false → repeat cur step n s ≡ step s
  unfolding repeat
  repeat-one zero s h e q = absurd (lt_irrefl 0 h)
  repeat-one (suc n) s h e q = rw e (repeat-stop n (step s) q)

-- ## What the entries say

-- how many there are, and what the only one says
pub record Said : Type 0 where
  pub entries : ℕ
  pub number : ℕ
  pub status : Option ℕ
  pub hash : Option (List ℕ)
  pub certificate : Option (List ℕ)
  pub request : Option (List ℕ)

pub record Shown (m : List ℕ) (s : Said) (count : ℕ) (e : Entry) : Type 0 where
  pub entries : count ≡ s.entries
  pub number : e.number ≡ s.number
  pub status : optional_status e.status ≡ s.status
  pub hash : ShowsIf m e.cert_hash s.hash
  pub hash_alg : ShowsIf m e.hash_alg none
  pub certificate : ShowsIf m e.certificate s.certificate
  pub request : ShowsIf m e.request s.request

-- a body that says nothing
unfoldable pub nothing : Said
nothing = record { entries = 0; number = 0; status = none; hash = none; certificate = none; request = none }

-- the content is read to its end, and says this
pub record ContentsAre (m : List ℕ) (s : Said) (i : Contents) : Type 0 where
  pub left : Holds m i.cur []
  pub ca_pubs : ShowsIf m i.ca_pubs none
  pub says : Shown m s i.entries i.entry

module _ (m : List ℕ) (few : length m < 65536) where
  -- one entry and nothing else
  pub one_entry_lem : (what : EntryKind) (c : Cursor) (x : List ℕ) → 0 < length x → Holds m c x
      → Holds m (entry_of m what c).cur [] → entries_of m what c ≡ next m what (no_entries c)
  unfolding entries_of
  one_entry_lem what c x pos h k =
      repeat-one (λ (e : Entries). e.cur) (next m what) (left_at c) (no_entries c) (rw h.ok (omega (arith, h.size)))
      (more-is m c x h ∙ lt-ltb 0 (length x) pos) (more-is m (entry_of m what c).cur [] k)

  -- ## The next tag

  pub nothing-next : (c : Cursor) (tag : ℕ) → Holds m c [] → 0 < tag → eqb (tag_at m c) tag ≡ false
  nothing-next c tag h pos = rw (tag_is m c [] h) (ne_eqb 0 tag (λ e. omega arith))

  pub other_next : (c : Cursor) (tag t : ℕ) (v rest : List ℕ) → Holds m c (element t v ++ rest) → (t ≡ tag → ⊥)
      → eqb (tag_at m c) tag ≡ false
  other_next c tag t v rest h n = rw (tag_is m c (element t v ++ rest) h, element-tag t v rest) (ne_eqb t tag n)

  pub same_next : (c : Cursor) (tag : ℕ) (v rest : List ℕ) → Holds m c (element tag v ++ rest) → eqb (tag_at m c) tag ≡ true
  same_next c tag v rest h = rw (tag_is m c (element tag v ++ rest) h, element-tag tag v rest) (eq-eqb tag tag refl)

  -- ## The body

  pub record BodyIs (k : ℕ) (c : Cursor) (b : BodyRead) (rest : List ℕ) : Type 0 where
    pub left : Holds m b.cur rest
    pub end : b.cur.end ≡ c.end
    pub kind : b.body.kind ≡ k

  module _
      (k : ℕ) (low : k ≤ 26) (ok : tag_ok (0xA0 + k) ≡ true) (c : Cursor) (v rest : List ℕ)
      (h : Holds m c (element (0xA0 + k) v ++ rest))
    where
      tag_here : tag_at m c ≡ 0xA0 + k
      tag_here = tag_is m c (element (0xA0 + k) v ++ rest) h ∙ element-tag (0xA0 + k) v rest

      kind_here : tag_at m c - 0xA0 ≡ k
      kind_here = ap (λ (t : ℕ). t - 0xA0) tag_here ∙ add-sub_cancel_left 0xA0 k

      pub tag_took : Took m c (body_tag m c) v rest
      unfolding body_tag
      tag_took =
          rw (tag_here, le-ltb (0xA0 + k) 0xA0 (omega arith), le-ltb 0xBA (0xA0 + k) (omega arith)) (need_took m c (0xA0 + k) v rest few ok h)

      -- BODY: what its kind's rule reads to the end, the body reads
      pub body_is : Holds m (contents_of m k (enter_of (body_tag m c))).cur [] → BodyIs k c (body_of m c) rest
      unfolding body_of
      body_is inner =
          let b : Cursor = body_tag m c in
          let t = tag_took in
          let i : Cursor = (contents_of m (tag_at m c - 0xA0) (enter_of b)).cur in
          let read : Holds m i [] = rw kind_here inner in
          let out : leave_of b (done_of i) ≡ b = out_is b i read in
          record {
            left = subst (λ (j : Cursor). Holds m j rest) (sym out) t.left;
            end = ap (λ (j : Cursor). j.end) out ∙ t.end;
            kind = kind_here;
          }

      pub says_here : (s : Said) → ContentsAre m s (contents_of m k (enter_of (body_tag m c)))
          → Shown m s (body_of m c).body.entries (body_of m c).body.entry
      unfolding body_of
      says_here s i =
          let at : ℕ → Contents = λ (j : ℕ). contents_of m j (enter_of (body_tag m c)) in
          subst (λ (j : ℕ). Shown m s (at j).entries (at j).entry) (sym kind_here) i.says

      pub no_pubs_here : (s : Said) → ContentsAre m s (contents_of m k (enter_of (body_tag m c))) → ShowsIf m (body_of m c).body.ca_pubs none
      unfolding body_of
      no_pubs_here s i =
          subst (λ (j : ℕ). ShowsIf m (contents_of m j (enter_of (body_tag m c))).ca_pubs none) (sym kind_here) i.ca_pubs

  -- pkiconf: NULL
  pub null_is : (c : Cursor) → Holds m c (element 0x05 [] ++ []) → ContentsAre m nothing (contents_of m 19 c)
  unfolding contents_of other_of tag_ok ShowsIf nothing
  null_is c h =
      record {
        left = (need_took m c 0x05 [] [] few refl h).left;
        ca_pubs = (refl, refl);
        says =
            record {
              entries = refl;
              number = refl;
              status = refl;
              hash = (refl, refl);
              hash_alg = (refl, refl);
              certificate = (refl, refl);
              request = (refl, refl);
            };
      }
