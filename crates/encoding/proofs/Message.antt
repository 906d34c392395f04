-- A message, read back.
use Prim.Native.Nat.{ℕ, ◌+◌, ◌-◌, ◌<◌, ◌≤◌}
use mathlib.Core.Path.{◌≡◌, refl, ◌∙◌, ap}
use mathlib.Core.List.{List, [], ◌++◌}
use mathlib.Core.Bool.{true}
use mathlib.Core.Option.{Option, none, some}
use native.Mathlib.Omega.{arith}
use borrow.Author.Tests.{eq-eqb, ne_eqb}
use lib.ListN.{length}
use lib.Seq.{take_all}
use lib.Dec.{lit<}
use Rattle.der.specs.Head.{tag_ok}
use Rattle.grammar.specs.declared.Message.{Message}
use Rattle.grammar.specs.declared.cursor.Cursor.{Cursor}
use Rattle.grammar.specs.declared.parts.Each.TheVariants.{Certificate}
use Rattle.grammar.specs.declared.pki_message.MessageRead.{MessageRead}
use Rattle.grammar.specs.Cursor.{is_ok, need_of, done_of, enter_of, leave_of}
use Rattle.grammar.specs.Parts.{found_span, outer_span, field_of, sequence_of, sequence_field}
use Rattle.grammar.specs.Header.{header_of}
use Rattle.grammar.specs.Body.{contents_of, body_tag, body_of}
use Rattle.grammar.specs.Message.{start_at, message_of}
use Rattle.protocol.specs.declared.Outgoing.{Outgoing}
use Rattle.encoding.specs.Element.{element, field, wrapped}
use Rattle.encoding.specs.Given.{Given}
use Rattle.encoding.specs.Message.{header_bytes, content_bytes, body_bytes, encode}
use Rattle.encoding.specs.ReadBack.{if_there}
use Rattle.encoding.proofs.Holds.{Holds, need_took, done-is, out_is}
use Rattle.encoding.proofs.Rules.{Shows, ShowsIf, whole_shows, moved, Passed, field_passed, ReadsIf, around_passed}
use Rattle.encoding.proofs.Rules.Beyond.{ends}
use Rattle.encoding.proofs.Header.{Fits, HeaderShows, header_is}
use Rattle.encoding.proofs.Body.{Said, Shown, ContentsAre, tag_took, body_is, says_here, no_pubs_here}

-- WHAT A READING GIVES BACK: the four parts, the header's fields, and what the body says
pub record Back (g : Given) (o : Outgoing) (s : Said) (x : Message) : Type 0 where
  pub header_span : Shows (encode g o) x.header_span (header_bytes g o)
  pub body_span : Shows (encode g o) x.body_span (body_bytes g o)
  pub protection : ShowsIf (encode g o) x.protection (if_there g.protection (field 0xA0 0x03 g.protection))
  pub extra_certs : ShowsIf (encode g o) x.extra_certs none
  pub header : HeaderShows (encode g o) g o x.header
  pub kind : x.body.kind ≡ o.kind
  pub ca_pubs : ShowsIf (encode g o) x.body.ca_pubs none
  pub says : Shown (encode g o) s x.body.entries x.body.entry

outer_shows : (m : List ℕ) (v : Option (List ℕ)) (rest : List ℕ) (c r : Cursor) (tag inner : ℕ) → 0 < c.at
    → Holds m c (field tag inner v ++ rest) → Passed m c r v rest → ShowsIf m (outer_span c r) (if_there v (field tag inner v))
unfolding ShowsIf field
outer_shows m none rest c r tag inner pos h p = rw (eq-eqb r.from 0 p.shows.0) (refl, refl)
outer_shows m (some v) rest c r tag inner pos h p =
    rw (ne_eqb r.from 0 (λ e. omega (arith, p.shows.low)))
    (whole_shows m (element tag (element inner v ++ [])) rest c r pos h p.left p.end)

pub start-holds : (m : List ℕ) → Holds m (start_at (length m)) m
unfolding start_at
start-holds m = record { ok = refl; size = omega arith; high = omega arith; is = take_all (length m - 0) m (omega arith) }

none_outer : (m : List ℕ) (c r : Cursor) → ShowsIf m (found_span r) none → ShowsIf m (outer_span c r) none
unfolding ShowsIf
none_outer m c r e = rw (eq-eqb r.from 0 e.0) (refl, refl)

-- what the body holds
abbrev pub content : Given → Outgoing → List ℕ
content g o = content_bytes g o.kind o.contents

-- the kind's rule reads the body's content to its end
abbrev pub ReadsContent : Given → Outgoing → Said → Type 0
ReadsContent g o s =
    (c : Cursor) → 0 < c.at → Holds (encode g o) c (content g o ++ []) → ContentsAre (encode g o) s (contents_of (encode g o) o.kind c)

module _
    (g : Given) (o : Outgoing) (few : length (encode g o) < 65536) (fits : Fits (encode g o) g) (low : o.kind ≤ 26)
    (tags : tag_ok (0xA0 + o.kind) ≡ true) (said : Said) (inner : ReadsContent g o said)
  where
    after_body : List ℕ
    after_body = field 0xA0 0x03 g.protection ++ []

    after_header : List ℕ
    after_header = body_bytes g o ++ after_body

    at-start : Holds (encode g o) (start_at (length (encode g o))) (element 0x30 (header_bytes g o ++ after_header) ++ [])
    unfolding encode after_header after_body
    at-start = start-holds (encode g o)

    pub record Met (r : MessageRead) : Type 0 where
      pub met : r.met ≡ true
      pub back : Back g o said r.found

    -- GRAMMAR: the message is met, and its parts are those that were written
    pub message_met : Met (message_of (encode g o))
    unfolding message_of tag_ok body_bytes after_header after_body sequence_field ReadsIf wrapped
    message_met =
        let m : List ℕ = encode g o in
        let s : Cursor = need_of m 0x30 (start_at (length m)) in
        let t = need_took m (start_at (length m)) 0x30 (header_bytes g o ++ after_header) [] few refl at-start in
        let c : Cursor = enter_of s in
        let h = header_is m few g fits o c after_header t.into in
        let hc : Cursor = (header_of m c).cur in
        let p1 = moved m (header_bytes g o) after_header c hc t.into h.left h.end in
        let bt = tag_took m few o.kind low tags hc (content g o ++ []) after_body h.left in
        let i = inner (enter_of (body_tag m hc)) bt.above bt.into in
        let b = body_is m few o.kind low tags hc (content g o ++ []) after_body h.left i.left in
        let bc : Cursor = (body_of m hc).cur in
        let p2 = moved m (body_bytes g o) after_body hc bc h.left b.left b.end in
        let p : Cursor = field_of m 0xA0 0x03 bc in
        let q = field_passed m few bc 0xA0 0x03 g.protection [] refl refl (lit< tt) (ends refl) b.left in
        let y : Passed m p (sequence_field m 0xA1 Certificate p) none [] =
        around_passed m few p (sequence_of m Certificate) 0xA1 none [] refl (lit< tt) (ends refl) tt q.left in
        let xc : Cursor = sequence_field m 0xA1 Certificate p in
        let pos : 0 < c.at = t.above in
        let out : done_of (leave_of s (done_of xc)) ≡ s = ap done_of (out_is s xc y.left) ∙ done-is s t.left in
        record {
          met = ap is_ok out ∙ t.left.ok;
          back =
              record {
                header_span = whole_shows m (header_bytes g o) after_header c hc pos t.into h.left h.end;
                body_span = whole_shows m (body_bytes g o) after_body hc bc (omega arith) h.left b.left b.end;
                protection = outer_shows m g.protection [] bc p 0xA0 0x03 (omega arith) b.left q;
                extra_certs = none_outer m p xc y.shows;
                header = h.header;
                kind = b.kind;
                ca_pubs = no_pubs_here m few o.kind low tags hc (content g o ++ []) after_body h.left said i;
                says = says_here m few o.kind low tags hc (content g o ++ []) after_body h.left said i;
              };
        }
