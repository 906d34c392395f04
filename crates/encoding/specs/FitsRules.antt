-- Refusal 36 from the other side: "a given element or field doesn't fit document 01's grammar at its place". An order and its parts fit
-- exactly if the order is of a kind that is written, and the bytes with each part at its place are read clean, give the order back and have
-- every part there, so that no test of `Fits`, of a given part or of the order, is too strict or too weak: none stands on the right.
use Rattle.std.specs.Prelude.{ℕ, ◌≤◌, Bool, true, false, ◌&&◌, ◌||◌, ◌≡◌, ◌⊎◌, ◌↔◌, length, eqb, Ok}
use Rattle.grammar.specs.declared.Message.{Message}
use Rattle.message.specs.Read.{max_message, reading_of}
use Rattle.protocol.specs.declared.Outgoing.{Outgoing}
use Rattle.protocol.specs.Bytes.{present}
use Rattle.protocol.specs.Message.{is_enrolment_kind, is_response, cert_conf, pki_conf, error_kind}
use Rattle.encoding.specs.Given.{Given}
use Rattle.encoding.specs.Message.{encode}
use Rattle.encoding.specs.Fits.{fits}
use Rattle.encoding.specs.Write.{refusal_of}
use Rattle.encoding.specs.ReadBack.{Bytes, BytesIf, GivenTyped, OrderTyped, order_of, GivenBack}

-- What the code's types say of the other parts, which are copied as they are: bytes, too.
pub record CopiedTyped (g : Given) (o : Outgoing) : Type 0 where
  pub message_time : BytesIf g.message_time
  pub sender_kid : BytesIf g.sender_kid
  pub recip_kid : BytesIf g.recip_kid
  pub protection : BytesIf g.protection
  pub id : Bytes o.id.bytes
  pub sender_nonce : Bytes o.sender_nonce.bytes
  pub recip_nonce : Bytes o.recip_nonce.bytes
  pub hash : Bytes o.contents.hash.bytes

-- the ten kinds: ir, cr, kur and p10cr; ip, cp and kup; pkiconf, error and certConf. A body of another kind may read clean, too: 5 with NULL
abbrev pub is_written : (kind : ℕ) → Bool
is_written k = is_enrolment_kind k || is_response k || eqb k pki_conf || eqb k error_kind || eqb k cert_conf

pub record FitsInPlace (g : Given) (o : Outgoing) : Type 0 where
  pub kind : is_written o.kind ≡ true
  -- ir, cr, kur and p10cr with "a caller's request element", the other kinds without one
  pub request : present g.request ≡ is_enrolment_kind o.kind
  -- "ip, cp, kup, at status 0 with a caller's certificate", else without one
  pub certificate : present g.certificate ≡ (is_response o.kind && eqb o.contents.status 0)
  -- the bytes with each part at its place are read clean; the order is read back, so that it has what its kind has and nothing else is
  -- set in it; and each part is found at its place
  pub found : Message
  pub clean : reading_of (encode g o) ≡ Ok found
  pub order : order_of (encode g o) found o.contents.failure ≡ o
  pub given : GivenBack (encode g o) g o found

-- within the message limit (above it refusal 34 comes first)
abbrev pub FitsExactly : Type 0
FitsExactly =
    (g : Given) (o : Outgoing) → GivenTyped g → OrderTyped o → CopiedTyped g o → length (encode g o) ≤ max_message
    → (fits g o ≡ true) ↔ FitsInPlace g o

-- So 36 is given exactly if, within the limit and the room, a part lies outside the lent bytes or is not read back at its place.
abbrev pub RefusedExactly : Type 0
RefusedExactly =
    (inside : Bool) (g : Given) (o : Outgoing) (room : ℕ) → GivenTyped g → OrderTyped o → CopiedTyped g o
    → (refusal_of inside g o room ≡ 36)
    ↔ ((length (encode g o) ≤ max_message) × (length (encode g o) ≤ room) × ((inside ≡ false) ⊎ (FitsInPlace g o → ⊥)))
