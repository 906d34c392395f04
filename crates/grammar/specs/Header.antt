-- PKIHeader (document 01, "The parts of a message"; RFC 9810 5.1.1).
use Rattle.std.specs.Prelude.{ℕ, List, Bool, cond, ◌||◌, eqb}
use Rattle.grammar.specs.declared.Header.{Header}
use Rattle.grammar.specs.declared.cursor.Cursor.{Cursor}
use Rattle.grammar.specs.declared.parts.Each.TheVariants.{Text, Info}
use Rattle.grammar.specs.declared.pki_header.Names.{Names}
use Rattle.grammar.specs.declared.pki_header.Options.{Options}
use Rattle.grammar.specs.declared.pki_header.Ids.{Ids}
use Rattle.grammar.specs.declared.pki_header.HeaderRead.{HeaderRead}
use Rattle.grammar.specs.Cursor.{tag_at, fault_at, need_of, done_of, enter_of, leave_of, value_of, small_integer_of}
use Rattle.grammar.specs.Parts.{found_span, whole_span, field_of, typed_field, sequence_field}

-- A GeneralName is one context element 0 to 8; 0, 3, 4, 5 constructed, the rest primitive.
unfoldable pub name_tag : ℕ → Bool
name_tag t =
    eqb t 0xA0 || (eqb t 0x81 || (eqb t 0x82 || (eqb t 0xA3 || (eqb t 0xA4 || (eqb t 0xA5 || (eqb t 0x86 || (eqb t 0x87 || eqb t 0x88)))))))

unfoldable pub name_of : List ℕ → Cursor → Cursor
name_of m c = let t : ℕ = tag_at m c in cond (name_tag t) (need_of m t c) (fault_at c)

-- pvno INTEGER; sender GeneralName; recipient GeneralName
unfoldable pub names_of : List ℕ → Cursor → Names
names_of m c =
    let v : Cursor = small_integer_of m c in
    let s : Cursor = name_of m v in
    let r : Cursor = name_of m s in
    record { cur = r; version = value_of m v; sender = whole_span v s; recipient = whole_span s r }

-- messageTime [0] GeneralizedTime; protectionAlg [1] AlgorithmIdentifier; senderKID [2], recipKID [3] KeyIdentifier: all OPTIONAL
unfoldable pub options_of : List ℕ → Cursor → Options
options_of m c =
    let time : Cursor = field_of m 0xA0 0x18 c in
    let alg : Cursor = typed_field m 0xA1 time in
    let sender : Cursor = field_of m 0xA2 0x04 alg in
    let recip : Cursor = field_of m 0xA3 0x04 sender in
    record { cur = recip; message_time = found_span time; protection_alg = found_span alg; sender_kid = found_span sender; recip_kid = found_span recip }

-- transactionID [4], senderNonce [5], recipNonce [6] OCTET STRING; freeText [7] PKIFreeText; generalInfo [8] SEQUENCE SIZE (1..MAX)
-- OF InfoTypeAndValue: all OPTIONAL
unfoldable pub ids_of : List ℕ → Cursor → Ids
ids_of m c =
    let id : Cursor = field_of m 0xA4 0x04 c in
    let sender : Cursor = field_of m 0xA5 0x04 id in
    let recip : Cursor = field_of m 0xA6 0x04 sender in
    let text : Cursor = sequence_field m 0xA7 Text recip in
    let info : Cursor = sequence_field m 0xA8 Info text in
    record {
      cur = info;
      transaction_id = found_span id;
      sender_nonce = found_span sender;
      recip_nonce = found_span recip;
      free_text = found_span text;
      general_info = found_span info;
    }

abbrev pub joined : Names → Options → Ids → Header
joined n o i =
    record {
      version = n.version;
      sender = n.sender;
      recipient = n.recipient;
      message_time = o.message_time;
      protection_alg = o.protection_alg;
      sender_kid = o.sender_kid;
      recip_kid = o.recip_kid;
      transaction_id = i.transaction_id;
      sender_nonce = i.sender_nonce;
      recip_nonce = i.recip_nonce;
      free_text = i.free_text;
      general_info = i.general_info;
    }

-- PKIHeader ::= SEQUENCE, all of these in this order and nothing else
unfoldable pub header_of : List ℕ → Cursor → HeaderRead
header_of m c =
    let s : Cursor = need_of m 0x30 c in
    let n : Names = names_of m (enter_of s) in
    let o : Options = options_of m n.cur in
    let i : Ids = ids_of m o.cur in
    record { cur = leave_of s (done_of i.cur); header = joined n o i }
