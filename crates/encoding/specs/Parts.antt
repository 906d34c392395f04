-- "The bytes are the only DER for those fields": what a message says, part by part, and the bytes that say it.
use Rattle.std.specs.Prelude.{ℕ, ◌+◌, ◌≤◌, ◌≡◌, List, [], Bool, true, cond, length, eqb}
use Rattle.std.proofs.Math.Option.{Option, none as absent, some}
use Rattle.der.specs.Content.{integer_ok}
use Rattle.grammar.specs.declared.cursor.Cursor.{Cursor}
use Rattle.grammar.specs.Cursor.{is_ok, need_of, any_of, enter_of, content_of, value_of}
use Rattle.grammar.specs.Span.{part_of}
use Rattle.grammar.specs.Parts.{whole_span}
use Rattle.grammar.specs.Message.{start_at}
use Rattle.protocol.specs.Types.{FailureInfo}
use Rattle.protocol.specs.declared.OutgoingContents.{OutgoingContents}
use Rattle.protocol.specs.declared.Outgoing.{Outgoing}
use Rattle.protocol.specs.Bytes.{bytes_of}
use Rattle.protocol.specs.Message.{is_enrolment_kind, is_response, p10cr, cert_conf, error_kind}
use Rattle.encoding.specs.Given.{Given}
use Rattle.encoding.specs.Message.{recip_nonce, failure_bits, encode}
use Rattle.encoding.specs.Write.{refusal_of}
use Rattle.encoding.specs.ReadBack.{Bytes, GivenTyped, OrderTyped}

-- Elements one after another: one that holds bytes, an INTEGER, one that holds elements, one that is given whole.
pub data Parts : Type 0 where
  none : Parts
  leaf : (tag : ℕ) (content : List ℕ) (rest : Parts) → Parts
  number : (n : ℕ) (rest : Parts) → Parts
  node : (tag : ℕ) (inside : Parts) (rest : Parts) → Parts
  whole : (bytes : List ℕ) (rest : Parts) → Parts

-- What a reader with its cursor at c finds, by its own verbs: these parts, and nothing more. Of an INTEGER DER's rule is asked, too.
-- There is no word on how a tag, a length or a number is written.
unfoldable pub Says : List ℕ → Cursor → Parts → Type 0
Says m c none = c.end ≤ c.at
Says m c (leaf tag content rest) =
    (is_ok (need_of m tag c) ≡ true) × (content_of m (need_of m tag c) ≡ content) × Says m (need_of m tag c) rest
Says m c (number n rest) =
    (is_ok (need_of m 0x02 c) ≡ true)
    × (integer_ok (content_of m (need_of m 0x02 c)) ≡ true)
    × (length (content_of m (need_of m 0x02 c)) ≤ 4)
    × (value_of m (need_of m 0x02 c) ≡ n)
    × Says m (need_of m 0x02 c) rest
Says m c (node tag inside rest) =
    (is_ok (need_of m tag c) ≡ true) × Says m (enter_of (need_of m tag c)) inside × Says m (need_of m tag c) rest
Says m c (whole bytes rest) =
    (is_ok (any_of m c) ≡ true) × (part_of m (whole_span c (any_of m c)) ≡ bytes) × Says m (any_of m c) rest

-- ## A message, part by part

abbrev pub field_parts : (tag inner : ℕ) → Option (List ℕ) → Parts → Parts
field_parts tag inner absent rest = rest
field_parts tag inner (some v) rest = node tag (leaf inner v none) rest

abbrev pub wrapped_parts : (tag : ℕ) → Option (List ℕ) → Parts → Parts
wrapped_parts tag absent rest = rest
wrapped_parts tag (some e) rest = node tag (whole e none) rest

unfoldable pub header_parts : Given → Outgoing → Parts
header_parts g o =
    number g.version
    (whole g.sender
    (whole g.recipient
    (field_parts 0xA0 0x18 g.message_time
    (wrapped_parts 0xA1 g.protection_alg
    (field_parts 0xA2 0x04 g.sender_kid
    (field_parts 0xA3 0x04 g.recip_kid
    (field_parts 0xA4 0x04 (some o.id.bytes)
    (field_parts 0xA5 0x04 (some o.sender_nonce.bytes)
    (field_parts 0xA6 0x04 (recip_nonce o)
    (wrapped_parts 0xA7 g.free_text
    (wrapped_parts 0xA8 g.general_info none)))))))))))

-- PKIStatusInfo: a status and perhaps a failInfo
abbrev pub bit_parts : Option (List ℕ) → Parts
bit_parts absent = none
bit_parts (some v) = leaf 0x03 v none

abbrev pub status_parts : ℕ → Option (List ℕ) → Parts → Parts
status_parts s f rest = node 0x30 (number s (bit_parts f)) rest

abbrev pub key_pair_parts : Option (List ℕ) → Parts
key_pair_parts absent = none
key_pair_parts (some e) = node 0x30 (node 0xA0 (whole e none) none) none

unfoldable pub responses_parts : (number status : ℕ) → Option (List ℕ) → Parts
responses_parts n s e = node 0x30 (node 0x30 (node 0x30 (number n (status_parts s absent (key_pair_parts e))) none) none) none

-- "a certConf's status 0 being left out"
unfoldable pub confirmations_parts : (hash : List ℕ) (number status : ℕ) → Parts
confirmations_parts h n s = node 0x30 (node 0x30 (leaf 0x04 h (number n (cond (eqb s 0) none (status_parts s absent none)))) none) none

unfoldable pub error_parts : ℕ → FailureInfo → Parts
error_parts s f = node 0x30 (status_parts s (failure_bits f) none) none

unfoldable pub content_parts : Given → (kind : ℕ) → OutgoingContents → Parts
content_parts g k c =
    cond (eqb k p10cr) (whole (bytes_of g.request) none)
    (cond (is_enrolment_kind k) (node 0x30 (whole (bytes_of g.request) none) none)
    (cond (is_response k) (responses_parts c.number c.status g.certificate)
    (cond (eqb k error_kind) (error_parts c.status c.failure)
    (cond (eqb k cert_conf) (confirmations_parts c.hash.bytes c.number c.status) (leaf 0x05 [] none)))))

unfoldable pub message_parts : Given → Outgoing → Parts
message_parts g o =
    node 0x30
    (node 0x30 (header_parts g o)
    (node (0xA0 + o.kind) (content_parts g o.kind o.contents) (field_parts 0xA0 0x03 g.protection none)))
    none

-- m is these parts
abbrev pub SaysAll : List ℕ → Parts → Type 0
SaysAll m p = Says m (start_at (length m)) p

-- ## The claims

-- no other bytes say the order and the given parts, whether they are refused or not
abbrev pub TheOnlyDer : Type 0
TheOnlyDer = (m : List ℕ) → Bytes m → (g : Given) (o : Outgoing) → SaysAll m (message_parts g o) → m ≡ encode g o

-- and those that are written say them
abbrev pub WrittenSays : Type 0
WrittenSays =
    (inside : Bool) (g : Given) (o : Outgoing) (room : ℕ) → GivenTyped g → OrderTyped o → refusal_of inside g o room ≡ 0
    → SaysAll (encode g o) (message_parts g o)
