-- What the steps look at in a message: the kinds, and the fields that the reader found, taken from the message's bytes.
use Rattle.std.specs.Prelude.{ℕ, List, Bool, true, false, not, cond, ◌&&◌, ◌||◌, eqb, Some, None}
use Rattle.std.proofs.Math.Option.{Option, none, some}
use Rattle.protocol.specs.Types.{GivenStatus}
use Rattle.grammar.specs.declared.Span.{Span}
use Rattle.grammar.specs.declared.Message.{Message}
use Rattle.grammar.specs.Span.{part_of}
use Rattle.protocol.specs.declared.Hash.{Hash}

-- ## Kinds

-- the requests that enrol: ir, cr, p10cr, kur
abbrev pub is_enrolment_kind : ℕ → Bool
is_enrolment_kind k = eqb k 0 || eqb k 2 || eqb k 4 || eqb k 7

-- what opens a transaction at the registrar
abbrev pub is_opening_kind : ℕ → Bool
is_opening_kind k = is_enrolment_kind k

-- what an end entity starts with
abbrev pub is_starting_kind : ℕ → Bool
is_starting_kind k = is_enrolment_kind k

-- ip, cp, kup
abbrev pub is_response : ℕ → Bool
is_response k = eqb k 1 || eqb k 3 || eqb k 8

abbrev pub cert_conf : ℕ
cert_conf = 24

abbrev pub pki_conf : ℕ
pki_conf = 19

abbrev pub error_kind : ℕ
error_kind = 23

-- what is given for a kind that no pair names, as no transaction has one: cp
abbrev pub unpaired : ℕ
unpaired = 3

-- the response to a request: "0:1, 2:3, 4:3, 7:8"
abbrev pub response_to : ℕ → ℕ
response_to k = cond (eqb k 0) 1 (cond (eqb k 2) 3 (cond (eqb k 4) 3 (cond (eqb k 7) 8 unpaired)))

abbrev pub p10cr : ℕ
p10cr = 4

-- -1 in four bytes, two's complement, as the reader hands it on
abbrev pub minus_one : ℕ
minus_one = 4294967295

-- the certReqId of a transaction of this kind: "-1 for p10cr", "0 for the others" (M-100)
abbrev pub request_number : ℕ → ℕ
request_number k = cond (eqb k p10cr) minus_one 0

-- ## Fields

-- entries counts the entries; the five below it are of the one entry, where there is just one
pub record Fields : Type 0 where
  pub kind : ℕ
  pub version : ℕ
  pub id : Option (List ℕ)
  pub sender_nonce : Option (List ℕ)
  pub recip_nonce : Option (List ℕ)
  pub protected : Bool
  pub entries : ℕ
  pub request : ℕ
  pub status : Option ℕ
  pub hash : Hash
  pub hash_alg : Bool
  pub certificate : Bool

-- a span that starts at 0 is absent
abbrev pub is_present : Span → Bool
is_present s = not (eqb s.start.0 0)

abbrev pub optional_part : List ℕ → Span → Option (List ℕ)
optional_part bytes s = cond (is_present s) (some (part_of bytes s)) none

abbrev pub optional_status : GivenStatus → Option ℕ
optional_status (Some s) = some s
optional_status None = none

unfoldable pub fields_of : List ℕ → Message → Fields
fields_of bytes m =
    record {
      kind = m.body.kind;
      version = m.header.version;
      id = optional_part bytes m.header.transaction_id;
      sender_nonce = optional_part bytes m.header.sender_nonce;
      recip_nonce = optional_part bytes m.header.recip_nonce;
      protected = is_present m.protection && is_present m.header.protection_alg;
      entries = m.body.entries;
      request = m.body.entry.number;
      status = optional_status m.body.entry.status;
      hash = record { bytes = part_of bytes m.body.entry.cert_hash };
      hash_alg = is_present m.body.entry.hash_alg;
      certificate = is_present m.body.entry.certificate;
    }

-- a certConf's status: absent status info counts as 0
abbrev pub status_or0 : Option ℕ → ℕ
status_or0 none = 0
status_or0 (some s) = s
