-- "Reading what was written gives the order back": what the reader finds in the bytes that are written, the order and each given part.
use Rattle.std.specs.Prelude.{ℕ, ◌<◌, ◌^◌, List, ◌++◌, Bool, cond, ◌||◌, ◌≡◌, length, eqb, Ok}
use Rattle.std.proofs.Math.Option.{Option, none, some}
use Rattle.der.specs.Head.{byte}
use Rattle.grammar.specs.declared.Entry.{Entry}
use Rattle.grammar.specs.declared.Message.{Message}
use Rattle.grammar.specs.Span.{part_of}
use Rattle.message.specs.Read.{reading_of}
use Rattle.protocol.specs.Types.{FailureInfo}
use Rattle.protocol.specs.declared.OutgoingContents.{OutgoingContents}
use Rattle.protocol.specs.declared.Outgoing.{Outgoing}
use Rattle.protocol.specs.Bytes.{no_nonce}
use Rattle.protocol.specs.Message.{is_response, cert_conf, error_kind, is_present, optional_part, optional_status, status_or0}
use Rattle.protocol.specs.Outgoing.{no_contents, with_status, with_hash, with_failure, with_number}
use Rattle.protocol.specs.Run.{Event, End}
use Rattle.protocol.specs.Agreement.{HasPart, Carries, Issued, IssuedMessage}
use Rattle.encoding.specs.Element.{element, field}
use Rattle.encoding.specs.Given.{Given}
use Rattle.encoding.specs.Message.{header_bytes, body_bytes, encode}
use Rattle.encoding.specs.Write.{refusal_of}

-- ## What the code's types say: bytes, numbers of 32 bits, arrays of their lengths. Only what is needed of it.

abbrev pub Bytes : List ℕ → Type 0
Bytes s = (i : ℕ) → byte s i < 256

abbrev pub BytesIf : Option (List ℕ) → Type 0
BytesIf none = Unit {0}
BytesIf (some s) = Bytes s

pub record GivenTyped (g : Given) : Type 0 where
  pub version : g.version < 2 ^ 32
  pub sender : Bytes g.sender
  pub recipient : Bytes g.recipient
  pub protection_alg : BytesIf g.protection_alg
  pub free_text : BytesIf g.free_text
  pub general_info : BytesIf g.general_info
  pub request : BytesIf g.request
  pub certificate : BytesIf g.certificate

pub record OrderTyped (o : Outgoing) : Type 0 where
  pub recip_nonce : length o.recip_nonce.bytes ≡ 16
  pub status : o.contents.status < 2 ^ 32
  pub hash : length o.contents.hash.bytes ≡ 32
  pub number : o.contents.number < 2 ^ 32

-- ## The order that a reading says

-- what only some kinds carry. "In a certConf none counts as 0"; the reader does not look into failInfo, so that the bit is handed in.
unfoldable pub contents_read : List ℕ → Message → FailureInfo → OutgoingContents
contents_read bytes m f =
    let e : Entry = m.body.entry in
    let status : ℕ = status_or0 (optional_status e.status) in
    cond (is_response m.body.kind) (with_number e.number (with_status status no_contents))
    (cond (eqb m.body.kind cert_conf)
    (with_number e.number (with_hash (record { bytes = part_of bytes e.cert_hash }) (with_status status no_contents)))
    (cond (eqb m.body.kind error_kind) (with_failure f (with_status status no_contents)) no_contents))

unfoldable pub order_of : List ℕ → Message → FailureInfo → Outgoing
order_of bytes m f =
    record {
      kind = m.body.kind;
      id = record { bytes = part_of bytes m.header.transaction_id };
      sender_nonce = record { bytes = part_of bytes m.header.sender_nonce };
      has_recip_nonce = is_present m.header.recip_nonce;
      recip_nonce = cond (is_present m.header.recip_nonce) (record { bytes = part_of bytes m.header.recip_nonce }) no_nonce;
      contents = contents_read bytes m f;
    }

-- ## The given parts

-- a whole field, there exactly if its content is
abbrev pub if_there : Option (List ℕ) → List ℕ → Option (List ℕ)
if_there none x = none
if_there (some v) x = some x

-- ir, cr and kur, with one request; ip, cp and kup, with one response; certConf, with one certificate status
abbrev pub has_entry : (kind : ℕ) → Bool
has_entry k = eqb k 0 || eqb k 2 || eqb k 7 || is_response k || eqb k cert_conf

-- each at its place, and there exactly if it is given; one entry, no caPubs, hashAlg and extraCerts. What the reader has no place for
-- (statusString, failInfo, errorCode and errorDetails, privateKey and rspInfo) is not said here: `message_parts` has none of it but failInfo
pub record GivenBack (bytes : List ℕ) (g : Given) (o : Outgoing) (m : Message) : Type 0 where
  pub version : m.header.version ≡ g.version
  pub sender : HasPart bytes m.header.sender g.sender
  pub recipient : HasPart bytes m.header.recipient g.recipient
  pub message_time : optional_part bytes m.header.message_time ≡ g.message_time
  pub protection_alg : optional_part bytes m.header.protection_alg ≡ g.protection_alg
  pub sender_kid : optional_part bytes m.header.sender_kid ≡ g.sender_kid
  pub recip_kid : optional_part bytes m.header.recip_kid ≡ g.recip_kid
  pub free_text : optional_part bytes m.header.free_text ≡ g.free_text
  pub general_info : optional_part bytes m.header.general_info ≡ g.general_info
  pub request : optional_part bytes m.body.entry.request ≡ g.request
  pub certificate : optional_part bytes m.body.entry.certificate ≡ g.certificate
  pub protection : optional_part bytes m.protection ≡ if_there g.protection (field 0xA0 0x03 g.protection)
  pub entries : m.body.entries ≡ cond (has_entry o.kind) 1 0
  pub ca_pubs : optional_part bytes m.body.ca_pubs ≡ none
  pub hash_alg : optional_part bytes m.body.entry.hash_alg ≡ none
  pub extra_certs : optional_part bytes m.extra_certs ≡ none
  -- what the host protects (RFC 9810 5.1.3): these two, neither of which depends on the protection (`ProtectionApart`)
  pub header_span : HasPart bytes m.header_span (header_bytes g o)
  pub body_span : HasPart bytes m.body_span (body_bytes g o)

-- the same parts with another protection
abbrev pub protected_by : Option (List ℕ) → Given → Given
protected_by p g =
    record {
      version = g.version;
      sender = g.sender;
      recipient = g.recipient;
      message_time = g.message_time;
      protection_alg = g.protection_alg;
      sender_kid = g.sender_kid;
      recip_kid = g.recip_kid;
      free_text = g.free_text;
      general_info = g.general_info;
      protection = p;
      request = g.request;
      certificate = g.certificate;
    }

-- ## The claims

-- "Protection is handed in": the bytes that it is made of are the same before and after. What is written without one is itself the
-- ProtectedPart (RFC 9810 5.1.3), "SEQUENCE { header PKIHeader, body PKIBody }": a host protects that result as it is, and writes again.
abbrev pub ProtectionApart : Type 0
ProtectionApart =
    (g : Given) (o : Outgoing) (p : Option (List ℕ))
    → (header_bytes (protected_by p g) o ≡ header_bytes g o)
    × (body_bytes (protected_by p g) o ≡ body_bytes g o)
    × (encode (protected_by none g) o ≡ element 0x30 (header_bytes g o ++ body_bytes g o))

-- the bytes read clean, and as the order and the given parts; for demand 3 they carry the order
pub record ReadsBack (g : Given) (o : Outgoing) : Type 0 where
  pub found : Message
  pub clean : reading_of (encode g o) ≡ Ok found
  pub order : order_of (encode g o) found o.contents.failure ≡ o
  pub given : GivenBack (encode g o) g o found
  pub carries : Carries (encode g o) found o

-- "Reading what was written gives the order back"
abbrev pub WrittenReadsBack : Type 0
WrittenReadsBack =
    (inside : Bool) (g : Given) (o : Outgoing) (room : ℕ) → GivenTyped g → OrderTyped o → refusal_of inside g o room ≡ 0 → ReadsBack g o

-- "For demand 3, show that bytes written from an order are a message issued by the end that gave it."
abbrev pub WrittenIsIssued : Type 0
WrittenIsIssued =
    (inside : Bool) (g : Given) (o : Outgoing) (room : ℕ) → GivenTyped g → OrderTyped o → refusal_of inside g o room ≡ 0
    → (end : End) (past : List Event) → Issued end o past → IssuedMessage end (encode g o) past

-- So the bytes say all of it: those of one order and its given parts are of no other, in the failure bit neither.
abbrev pub SameBytesSameOrder : Type 0
SameBytesSameOrder =
    (inside inside' : Bool) (g g' : Given) (o o' : Outgoing) (room room' : ℕ) → GivenTyped g → GivenTyped g' → OrderTyped o → OrderTyped o'
    → refusal_of inside g o room ≡ 0 → refusal_of inside' g' o' room' ≡ 0 → encode g o ≡ encode g' o' → (g ≡ g') × (o ≡ o')
