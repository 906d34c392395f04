-- The header, read where it was written.
use Prim.Native.Nat.{ℕ, ◌<◌}
use mathlib.Core.Path.{◌≡◌, refl, sym, ◌∙◌, ap, subst}
use mathlib.Core.List.{List, [], ◌++◌}
use mathlib.Core.Bool.{true}
use mathlib.Core.Option.{some}
use native.Mathlib.Omega.{arith}
use lib.ListN.{length}
use lib.Dec.{lit<}
use Rattle.der.specs.Head.{tag_ok}
use Rattle.grammar.specs.declared.Header.{Header}
use Rattle.grammar.specs.declared.cursor.Cursor.{Cursor}
use Rattle.grammar.specs.declared.parts.Each.TheVariants.{Text, Info}
use Rattle.grammar.specs.declared.pki_header.Names.{Names}
use Rattle.grammar.specs.declared.pki_header.Options.{Options}
use Rattle.grammar.specs.declared.pki_header.Ids.{Ids}
use Rattle.grammar.specs.declared.pki_header.HeaderRead.{HeaderRead}
use Rattle.grammar.specs.Cursor.{need_of, done_of, enter_of, leave_of, small_integer_of}
use Rattle.grammar.specs.Parts.{whole_span, field_of, typed_of, typed_field, sequence_of, sequence_field}
use Rattle.grammar.specs.Header.{name_tag, name_of, names_of, options_of, ids_of, header_of}
use Rattle.protocol.specs.declared.Outgoing.{Outgoing}
use Rattle.encoding.specs.Element.{element, field, wrapped, integer_bytes, integer}
use Rattle.encoding.specs.Given.{Given}
use Rattle.encoding.specs.Message.{recip_nonce, names_bytes, options_bytes, ids_bytes, header_bytes}
use Rattle.encoding.proofs.Holds.{Holds, need_took, out_is}
use Rattle.encoding.proofs.Rules.{Shows, ShowsIf, whole_shows, moved, value_is, small_took, name_took, Beyond, beyond_field, beyond_wrapped, field_passed, ReadsIf, around_passed}
use Rattle.encoding.proofs.Rules.Beyond.{ends}
use Rattle.encoding.proofs.Integer.{integer-short, integer_value}

-- a GeneralName
pub record Name (e : List ℕ) : Type 0 where
  pub tag : ℕ
  pub content : List ℕ
  pub is : e ≡ element tag content
  pub tags : tag_ok tag ≡ true
  pub names : name_tag tag ≡ true

-- what is asked of the given fields, read as parts of m
pub record Fits (m : List ℕ) (g : Given) : Type 0 where
  pub version : g.version < 4294967296
  pub sender : Name g.sender
  pub recipient : Name g.recipient
  pub protection_alg : ReadsIf m (typed_of m) g.protection_alg
  pub free_text : ReadsIf m (sequence_of m Text) g.free_text
  pub general_info : ReadsIf m (sequence_of m Info) g.general_info

pub record NamesAre (m : List ℕ) (g : Given) (c : Cursor) (n : Names) (rest : List ℕ) : Type 0 where
  pub left : Holds m n.cur rest
  pub end : n.cur.end ≡ c.end
  pub version : n.version ≡ g.version
  pub sender : Shows m n.sender g.sender
  pub recipient : Shows m n.recipient g.recipient

pub record OptionsAre (m : List ℕ) (g : Given) (c : Cursor) (o : Options) (rest : List ℕ) : Type 0 where
  pub left : Holds m o.cur rest
  pub end : o.cur.end ≡ c.end
  pub message_time : ShowsIf m o.message_time g.message_time
  pub protection_alg : ShowsIf m o.protection_alg g.protection_alg
  pub sender_kid : ShowsIf m o.sender_kid g.sender_kid
  pub recip_kid : ShowsIf m o.recip_kid g.recip_kid

pub record IdsAre (m : List ℕ) (g : Given) (o : Outgoing) (c : Cursor) (i : Ids) : Type 0 where
  pub left : Holds m i.cur []
  pub end : i.cur.end ≡ c.end
  pub id : ShowsIf m i.transaction_id (some o.id.bytes)
  pub sender_nonce : ShowsIf m i.sender_nonce (some o.sender_nonce.bytes)
  pub recip_nonce : ShowsIf m i.recip_nonce (recip_nonce o)
  pub free_text : ShowsIf m i.free_text g.free_text
  pub general_info : ShowsIf m i.general_info g.general_info

-- each field of the header shows what was given, and each of the order's what the order says
pub record HeaderShows (m : List ℕ) (g : Given) (o : Outgoing) (h : Header) : Type 0 where
  pub version : h.version ≡ g.version
  pub sender : Shows m h.sender g.sender
  pub recipient : Shows m h.recipient g.recipient
  pub message_time : ShowsIf m h.message_time g.message_time
  pub protection_alg : ShowsIf m h.protection_alg g.protection_alg
  pub sender_kid : ShowsIf m h.sender_kid g.sender_kid
  pub recip_kid : ShowsIf m h.recip_kid g.recip_kid
  pub id : ShowsIf m h.transaction_id (some o.id.bytes)
  pub sender_nonce : ShowsIf m h.sender_nonce (some o.sender_nonce.bytes)
  pub recip_nonce : ShowsIf m h.recip_nonce (recip_nonce o)
  pub free_text : ShowsIf m h.free_text g.free_text
  pub general_info : ShowsIf m h.general_info g.general_info

module _ (m : List ℕ) (few : length m < 65536) (g : Given) (fits : Fits m g) where
  name_at : (e rest : List ℕ) (c : Cursor) → Name e → 0 < c.at → Holds m c (e ++ rest)
      → Holds m (name_of m c) rest × ((name_of m c).end ≡ c.end) × Shows m (whole_span c (name_of m c)) e
  name_at e rest c n pos h =
      let t = name_took m few c n.tag n.content rest n.names n.tags (subst (λ (l : List ℕ). Holds m c (l ++ rest)) n.is h) in
      (t.left, t.end, whole_shows m e rest c (name_of m c) pos h t.left t.end)

  pub names_are : (c : Cursor) (rest : List ℕ) → 0 < c.at → Holds m c (names_bytes g rest) → NamesAre m g c (names_of m c) rest
  unfolding names_bytes integer names_of
  names_are c rest pos h =
      let v : Cursor = small_integer_of m c in
      let a = small_took m few c (integer_bytes g.version) (g.sender ++ (g.recipient ++ rest)) (integer-short g.version) h in
      let p = moved m (element 2 (integer_bytes g.version)) (g.sender ++ (g.recipient ++ rest)) c v h a.left a.end in
      let s = name_at g.sender (g.recipient ++ rest) v fits.sender (omega arith) a.left in
      let q = moved m g.sender (g.recipient ++ rest) v (name_of m v) a.left s.0 s.1 in
      let r = name_at g.recipient rest (name_of m v) fits.recipient (omega arith) s.0 in
      record {
        left = r.0;
        end = r.1 ∙ s.1 ∙ a.end;
        version = value_is v a.found ∙ integer_value g.version fits.version;
        sender = s.2;
        recipient = r.2;
      }

  pub options_are : (c : Cursor) (rest : List ℕ) → Beyond 0xA3 rest → Holds m c (options_bytes g rest)
      → OptionsAre m g c (options_of m c) rest
  unfolding options_bytes options_of typed_field tag_ok
  options_are c rest b h =
      let sk : List ℕ = field 0xA2 0x04 g.sender_kid ++ (field 0xA3 0x04 g.recip_kid ++ rest) in
      let b3 = beyond_field 0xA2 0xA3 0x04 g.recip_kid rest (lit< tt) b in
      let b2 = beyond_field 0xA1 0xA2 0x04 g.sender_kid (field 0xA3 0x04 g.recip_kid ++ rest) (lit< tt) b3 in
      let b1 = beyond_wrapped 0xA0 0xA1 g.protection_alg sk (lit< tt) b2 in
      let time = field_passed m few c 0xA0 0x18 g.message_time (wrapped 0xA1 g.protection_alg ++ sk) refl refl (lit< tt) b1 h in
      let alg =
      around_passed m few (field_of m 0xA0 0x18 c) (typed_of m) 0xA1 g.protection_alg sk refl (lit< tt) b2 fits.protection_alg
      time.left in
      let sender =
      field_passed m few _ 0xA2 0x04 g.sender_kid (field 0xA3 0x04 g.recip_kid ++ rest) refl refl (lit< tt) b3 alg.left in
      let recip = field_passed m few _ 0xA3 0x04 g.recip_kid rest refl refl (lit< tt) b sender.left in
      record {
        left = recip.left;
        end = recip.end ∙ sender.end ∙ alg.end ∙ time.end;
        message_time = time.shows;
        protection_alg = alg.shows;
        sender_kid = sender.shows;
        recip_kid = recip.shows;
      }

  pub ids_are : (o : Outgoing) (c : Cursor) → Holds m c (ids_bytes g o) → IdsAre m g o c (ids_of m c)
  unfolding ids_bytes ids_of sequence_field tag_ok
  ids_are o c h =
      let x8 : List ℕ = wrapped 0xA8 g.general_info ++ [] in
      let x7 : List ℕ = wrapped 0xA7 g.free_text ++ x8 in
      let x6 : List ℕ = field 0xA6 0x04 (recip_nonce o) ++ x7 in
      let x5 : List ℕ = field 0xA5 0x04 (some o.sender_nonce.bytes) ++ x6 in
      let b8 : Beyond 0xA8 [] = ends refl in
      let b7 = beyond_wrapped 0xA7 0xA8 g.general_info [] (lit< tt) b8 in
      let b6 = beyond_wrapped 0xA6 0xA7 g.free_text x8 (lit< tt) b7 in
      let b5 = beyond_field 0xA5 0xA6 0x04 (recip_nonce o) x7 (lit< tt) b6 in
      let b4 = beyond_field 0xA4 0xA5 0x04 (some o.sender_nonce.bytes) x6 (lit< tt) b5 in
      let id = field_passed m few c 0xA4 0x04 (some o.id.bytes) x5 refl refl (lit< tt) b4 h in
      let sender = field_passed m few _ 0xA5 0x04 (some o.sender_nonce.bytes) x6 refl refl (lit< tt) b5 id.left in
      let recip = field_passed m few _ 0xA6 0x04 (recip_nonce o) x7 refl refl (lit< tt) b6 sender.left in
      let text = around_passed m few _ (sequence_of m Text) 0xA7 g.free_text x8 refl (lit< tt) b7 fits.free_text recip.left in
      let info = around_passed m few _ (sequence_of m Info) 0xA8 g.general_info [] refl (lit< tt) b8 fits.general_info text.left in
      record {
        left = info.left;
        end = info.end ∙ text.end ∙ recip.end ∙ sender.end ∙ id.end;
        id = id.shows;
        sender_nonce = sender.shows;
        recip_nonce = recip.shows;
        free_text = text.shows;
        general_info = info.shows;
      }

  beyond_ids : (o : Outgoing) → Beyond 0xA3 (ids_bytes g o)
  unfolding ids_bytes
  beyond_ids o =
      let x8 : List ℕ = wrapped 0xA8 g.general_info ++ [] in
      let x7 : List ℕ = wrapped 0xA7 g.free_text ++ x8 in
      let x6 : List ℕ = field 0xA6 0x04 (recip_nonce o) ++ x7 in
      beyond_field 0xA3 0xA4 0x04 (some o.id.bytes) (field 0xA5 0x04 (some o.sender_nonce.bytes) ++ x6) (lit< tt)
      (beyond_field 0xA4 0xA5 0x04 (some o.sender_nonce.bytes) x6 (lit< tt)
      (beyond_field 0xA5 0xA6 0x04 (recip_nonce o) x7 (lit< tt)
      (beyond_wrapped 0xA6 0xA7 g.free_text x8 (lit< tt) (beyond_wrapped 0xA7 0xA8 g.general_info [] (lit< tt) (ends refl)))))

  pub record HeaderIs (o : Outgoing) (c : Cursor) (h : HeaderRead) (rest : List ℕ) : Type 0 where
    pub left : Holds m h.cur rest
    pub end : h.cur.end ≡ c.end
    pub header : HeaderShows m g o h.header

  -- HEADER: read back
  pub header_is : (o : Outgoing) (c : Cursor) (rest : List ℕ) → Holds m c (header_bytes g o ++ rest) → HeaderIs o c (header_of m c) rest
  unfolding header_bytes header_of tag_ok
  header_is o c rest h =
      let s : Cursor = need_of m 0x30 c in
      let t = need_took m c 0x30 (names_bytes g (options_bytes g (ids_bytes g o))) rest few refl h in
      let pos : 0 < (enter_of s).at = t.above in
      let n = names_are (enter_of s) (options_bytes g (ids_bytes g o)) pos t.into in
      let p = options_are (names_of m (enter_of s)).cur (ids_bytes g o) (beyond_ids o) n.left in
      let i = ids_are o (options_of m (names_of m (enter_of s)).cur).cur p.left in
      let out : leave_of s (done_of (ids_of m (options_of m (names_of m (enter_of s)).cur).cur).cur) ≡ s =
      out_is s (ids_of m (options_of m (names_of m (enter_of s)).cur).cur).cur i.left in
      record {
        left = subst (λ (k : Cursor). Holds m k rest) (sym out) t.left;
        end = ap (λ (k : Cursor). k.end) out ∙ t.end;
        header =
            record {
              version = n.version;
              sender = n.sender;
              recipient = n.recipient;
              message_time = p.message_time;
              protection_alg = p.protection_alg;
              sender_kid = p.sender_kid;
              recip_kid = p.recip_kid;
              id = i.id;
              sender_nonce = i.sender_nonce;
              recip_nonce = i.recip_nonce;
              free_text = i.free_text;
              general_info = i.general_info;
            };
      }
