-- A message as it is written, in the order of document 01, "The parts of a message": the order and what the caller gives. The parts of an
-- order or a caller that do not fit are written all the same, so that every message has its length; `Fits` tells which are refused.
use Rattle.std.specs.Prelude.{ℕ, ◌+◌, ◌-◌, ◌/◌, ◌%◌, ◌^◌, List, [], ◌∷◌, ◌++◌, cond, eqb, Some, None}
use Rattle.std.proofs.Math.Option.{Option, none, some}
use Rattle.protocol.specs.Types.{FailureInfo}
use Rattle.protocol.specs.declared.OutgoingContents.{OutgoingContents}
use Rattle.protocol.specs.declared.Outgoing.{Outgoing}
use Rattle.protocol.specs.Bytes.{zeros, bytes_of}
use Rattle.protocol.specs.Message.{is_enrolment_kind, is_response, p10cr, cert_conf, error_kind}
use Rattle.encoding.specs.Element.{element, field, wrapped, optional, integer}
use Rattle.encoding.specs.Given.{Given}

-- ## PKIHeader (RFC 9810 5.1.1)

abbrev pub recip_nonce : Outgoing → Option (List ℕ)
recip_nonce o = cond o.has_recip_nonce (some o.recip_nonce.bytes) none

-- pvno, sender, recipient, before the rest
unfoldable pub names_bytes : Given → List ℕ → List ℕ
names_bytes g rest = integer g.version ++ (g.sender ++ (g.recipient ++ rest))

-- messageTime [0], protectionAlg [1], senderKID [2], recipKID [3], before the rest
unfoldable pub options_bytes : Given → List ℕ → List ℕ
options_bytes g rest =
    field 0xA0 0x18 g.message_time
    ++ (wrapped 0xA1 g.protection_alg ++ (field 0xA2 0x04 g.sender_kid ++ (field 0xA3 0x04 g.recip_kid ++ rest)))

-- transactionID [4], senderNonce [5], recipNonce [6] of the order; freeText [7], generalInfo [8]
unfoldable pub ids_bytes : Given → Outgoing → List ℕ
ids_bytes g o =
    field 0xA4 0x04 (some o.id.bytes)
    ++ (field 0xA5 0x04 (some o.sender_nonce.bytes)
    ++ (field 0xA6 0x04 (recip_nonce o) ++ (wrapped 0xA7 g.free_text ++ (wrapped 0xA8 g.general_info ++ []))))

unfoldable pub header_bytes : Given → Outgoing → List ℕ
header_bytes g o = element 0x30 (names_bytes g (options_bytes g (ids_bytes g o)))

-- ## PKIStatusInfo

-- the shortest BIT STRING in which this bit is set: how many bits of the last byte are unused, zeros, and the byte with the bit
unfoldable pub bit_content : ℕ → List ℕ
bit_content b = (7 - b % 8) ∷ (zeros (b / 8) ++ ((2 ^ (7 - b % 8)) ∷ []))

abbrev pub failure_bits : FailureInfo → Option (List ℕ)
failure_bits None = none
failure_bits (Some b) = some (bit_content b)

-- a status and perhaps a failInfo
unfoldable pub status_bytes : ℕ → Option (List ℕ) → List ℕ
status_bytes s f = element 0x30 (integer s ++ (optional 0x03 f ++ []))

-- ## PKIBody (RFC 9810 5.1.2, 5.3)

-- 0 ir, 2 cr, 7 kur: the caller's request message
unfoldable pub requests_bytes : List ℕ → List ℕ
requests_bytes e = element 0x30 (e ++ [])

-- CertifiedKeyPair: the caller's certificate, [0] in the choice
unfoldable pub key_pair_bytes : Option (List ℕ) → List ℕ
key_pair_bytes none = []
key_pair_bytes (some e) = element 0x30 (element 0xA0 (e ++ []) ++ [])

-- 1 ip, 3 cp, 8 kup: no caPubs, one response: certReqId, status info, and the key pair
unfoldable pub responses_bytes : (number status : ℕ) → Option (List ℕ) → List ℕ
responses_bytes n s e = element 0x30 (element 0x30 (element 0x30 (integer n ++ (status_bytes s none ++ (key_pair_bytes e ++ []))) ++ []) ++ [])

-- 24 certConf: one certificate status: certHash, certReqId, and the status info, "status 0 being left out"
unfoldable pub confirmations_bytes : (hash : List ℕ) (number status : ℕ) → List ℕ
confirmations_bytes h n s = element 0x30 (element 0x30 (element 0x04 h ++ (integer n ++ (cond (eqb s 0) [] (status_bytes s none) ++ []))) ++ [])

-- 23 error: the status info
unfoldable pub error_bytes : ℕ → FailureInfo → List ℕ
error_bytes s f = element 0x30 (status_bytes s (failure_bits f) ++ [])

-- what a body holds, by its kind; 4 p10cr the caller's certification request, 19 pkiconf NULL
unfoldable pub content_bytes : Given → (kind : ℕ) → OutgoingContents → List ℕ
content_bytes g k c =
    cond (eqb k p10cr) (bytes_of g.request)
    (cond (is_enrolment_kind k) (requests_bytes (bytes_of g.request))
    (cond (is_response k) (responses_bytes c.number c.status g.certificate)
    (cond (eqb k error_kind) (error_bytes c.status c.failure)
    (cond (eqb k cert_conf) (confirmations_bytes c.hash.bytes c.number c.status) (element 0x05 [])))))

unfoldable pub body_bytes : Given → Outgoing → List ℕ
body_bytes g o = element (0xA0 + o.kind) (content_bytes g o.kind o.contents ++ [])

-- ## PKIMessage (RFC 9810 5.1): header, body, protection [0]; no extraCerts

unfoldable pub encode : Given → Outgoing → List ℕ
encode g o = element 0x30 (header_bytes g o ++ (body_bytes g o ++ (field 0xA0 0x03 g.protection ++ []))) ++ []
