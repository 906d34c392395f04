-- Where the header's rules go: each of its eleven spans lies in the bytes of the header.
use Prim.Native.Nat.{ℕ, ◌≤◌}
use mathlib.Core.Path.{◌≡◌, ap}
use mathlib.Core.List.{List}
use native.Mathlib.Omega.{arith}
use Rattle.der.proofs.HeadLaws.{cond-case}
use Rattle.grammar.specs.declared.Header.{Header}
use Rattle.grammar.specs.declared.cursor.Cursor.{Cursor}
use Rattle.grammar.specs.declared.parts.Each.TheVariants.{Text, Info}
use Rattle.grammar.specs.declared.pki_header.Names.{Names}
use Rattle.grammar.specs.declared.pki_header.Options.{Options}
use Rattle.grammar.specs.declared.pki_header.Ids.{Ids}
use Rattle.grammar.specs.Cursor.{tag_at, need_of, done_of, enter_of, leave_of, small_integer_of}
use Rattle.grammar.specs.Parts.{field_of, typed_field, sequence_field}
use Rattle.grammar.specs.Header.{name_tag, name_of, names_of, options_of, ids_of, header_of}
use Rattle.grammar.proofs.CursorLaws.{untrue}
use Rattle.grammar.proofs.Places.{NoFault, wide, On, Went, Took, Takes, ◌then◌, need_takes, small-takes, ended, left, at_leave, Nest, nest}
use Rattle.grammar.proofs.PartPlaces.{Between, whole_span_lem, found_span_lem, field_steps, typed_field_steps, sequence_field_steps}

pub name_takes : (m : List ℕ) (c : Cursor) → Takes c (name_of m c)
unfolding name_of
name_takes m c = cond-case (Takes c) (name_tag (tag_at m c)) (need_takes m (tag_at m c) c) untrue

-- ## The header's three parts, each from c on

pub record NamesIn (c : Cursor) (n : Names) : Type 0 where
  pub along : On c n.cur
  pub sender : Between c.at n.cur.at n.sender
  pub recipient : Between c.at n.cur.at n.recipient

pub names_in : (m : List ℕ) (c : Cursor) → NoFault (names_of m c).cur → NamesIn c (names_of m c)
unfolding names_of
names_in m c k =
    let v : Cursor = small_integer_of m c in
    let s : Cursor = name_of m v in
    let r : Cursor = name_of m s in
    let tr : Took s r = name_takes m s k in
    let ts : Took v s = name_takes m v tr.along.ok in
    let tv : Took c v = small-takes m c ts.along.ok in
    record {
      along = tv.along then ts.along then tr.along;
      sender = whole_span_lem tv.along.on ts.along.on tr.along.on;
      recipient = whole_span_lem (omega arith) tr.along.on (omega arith);
    }

pub record OptionsIn (c : Cursor) (o : Options) : Type 0 where
  pub along : On c o.cur
  pub time : Between c.at o.cur.at o.message_time
  pub alg : Between c.at o.cur.at o.protection_alg
  pub sender : Between c.at o.cur.at o.sender_kid
  pub recip : Between c.at o.cur.at o.recip_kid

pub options_in : (m : List ℕ) (c : Cursor) → NoFault (options_of m c).cur → OptionsIn c (options_of m c)
unfolding options_of
options_in m c k =
    let time : Cursor = field_of m 0xA0 0x18 c in
    let alg : Cursor = typed_field m 0xA1 time in
    let sender : Cursor = field_of m 0xA2 0x04 alg in
    let recip : Cursor = field_of m 0xA3 0x04 sender in
    let w4 : Went sender recip = field_steps m 0xA3 0x04 sender k in
    let w3 : Went alg sender = field_steps m 0xA2 0x04 alg w4.along.ok in
    let w2 : Went time alg = typed_field_steps m 0xA1 time w3.along.ok in
    let w1 : Went c time = field_steps m 0xA0 0x18 c w2.along.ok in
    let n1 : c.at ≤ time.at = w1.along.on in
    let n2 : time.at ≤ alg.at = w2.along.on in
    let n3 : alg.at ≤ sender.at = w3.along.on in
    let n4 : sender.at ≤ recip.at = w4.along.on in
    record {
      along = w1.along then w2.along then w3.along then w4.along;
      time = found_span_lem (omega arith) (omega arith) w1;
      alg = found_span_lem (omega arith) (omega arith) w2;
      sender = found_span_lem (omega arith) (omega arith) w3;
      recip = found_span_lem (omega arith) (omega arith) w4;
    }

pub record IdsIn (c : Cursor) (i : Ids) : Type 0 where
  pub along : On c i.cur
  pub id : Between c.at i.cur.at i.transaction_id
  pub sender : Between c.at i.cur.at i.sender_nonce
  pub recip : Between c.at i.cur.at i.recip_nonce
  pub text : Between c.at i.cur.at i.free_text
  pub info : Between c.at i.cur.at i.general_info

pub ids_in : (m : List ℕ) (c : Cursor) → NoFault (ids_of m c).cur → IdsIn c (ids_of m c)
unfolding ids_of
ids_in m c k =
    let id : Cursor = field_of m 0xA4 0x04 c in
    let sender : Cursor = field_of m 0xA5 0x04 id in
    let recip : Cursor = field_of m 0xA6 0x04 sender in
    let text : Cursor = sequence_field m 0xA7 Text recip in
    let info : Cursor = sequence_field m 0xA8 Info text in
    let w5 : Went text info = sequence_field_steps m 0xA8 Info text k in
    let w4 : Went recip text = sequence_field_steps m 0xA7 Text recip w5.along.ok in
    let w3 : Went sender recip = field_steps m 0xA6 0x04 sender w4.along.ok in
    let w2 : Went id sender = field_steps m 0xA5 0x04 id w3.along.ok in
    let w1 : Went c id = field_steps m 0xA4 0x04 c w2.along.ok in
    let n1 : c.at ≤ id.at = w1.along.on in
    let n2 : id.at ≤ sender.at = w2.along.on in
    let n3 : sender.at ≤ recip.at = w3.along.on in
    let n4 : recip.at ≤ text.at = w4.along.on in
    let n5 : text.at ≤ info.at = w5.along.on in
    record {
      along = w1.along then w2.along then w3.along then w4.along then w5.along;
      id = found_span_lem (omega arith) (omega arith) w1;
      sender = found_span_lem (omega arith) (omega arith) w2;
      recip = found_span_lem (omega arith) (omega arith) w3;
      text = found_span_lem (omega arith) (omega arith) w4;
      info = found_span_lem (omega arith) (omega arith) w5;
    }

-- ## The whole header

-- the eleven spans of a header, each absent or between a and b
pub record HeaderIn (a b : ℕ) (h : Header) : Type 0 where
  pub sender : Between a b h.sender
  pub recipient : Between a b h.recipient
  pub message_time : Between a b h.message_time
  pub protection_alg : Between a b h.protection_alg
  pub sender_kid : Between a b h.sender_kid
  pub recip_kid : Between a b h.recip_kid
  pub transaction_id : Between a b h.transaction_id
  pub sender_nonce : Between a b h.sender_nonce
  pub recip_nonce : Between a b h.recip_nonce
  pub free_text : Between a b h.free_text
  pub general_info : Between a b h.general_info

pub header-takes : (m : List ℕ) (c : Cursor) → Takes c (header_of m c).cur
unfolding header_of
header-takes m c = at_leave (Took c) _ (need_takes m 0x30 c)

-- every span of a header lies in the bytes of its element
pub header_in : (m : List ℕ) (c : Cursor) → NoFault (header_of m c).cur → HeaderIn c.at (header_of m c).cur.at (header_of m c).header
unfolding header_of
header_in m c k =
    let s : Cursor = need_of m 0x30 c in
    let n : Names = names_of m (enter_of s) in
    let o : Options = options_of m n.cur in
    let i : Ids = ids_of m o.cur in
    let l = left s (done_of i.cur) k in
    let wi : IdsIn o.cur i = ids_in m o.cur (ended i.cur l.0).0 in
    let wo : OptionsIn n.cur o = options_in m n.cur wi.along.ok in
    let wn : NamesIn (enter_of s) n = names_in m (enter_of s) wo.along.ok in
    let x : Nest c s i.cur = nest (need_takes m 0x30 c) (wn.along then wo.along then wi.along) in
    let b : (leave_of s (done_of i.cur)).at ≡ s.at = ap (λ (j : Cursor). j.at) l.1 in
    let low : c.at ≤ (enter_of s).at = omega (arith, x.start, x.took.low) in
    let n1 : (enter_of s).at ≤ n.cur.at = wn.along.on in
    let n2 : n.cur.at ≤ o.cur.at = wo.along.on in
    let n3 : o.cur.at ≤ i.cur.at = wi.along.on in
    let high : i.cur.at ≤ (leave_of s (done_of i.cur)).at = omega (arith, x.to, x.took.high, b) in
    record {
      sender = wide low (omega arith) wn.sender;
      recipient = wide low (omega arith) wn.recipient;
      message_time = wide (omega arith) (omega arith) wo.time;
      protection_alg = wide (omega arith) (omega arith) wo.alg;
      sender_kid = wide (omega arith) (omega arith) wo.sender;
      recip_kid = wide (omega arith) (omega arith) wo.recip;
      transaction_id = wide (omega arith) high wi.id;
      sender_nonce = wide (omega arith) high wi.sender;
      recip_nonce = wide (omega arith) high wi.recip;
      free_text = wide (omega arith) high wi.text;
      general_info = wide (omega arith) high wi.info;
    }
