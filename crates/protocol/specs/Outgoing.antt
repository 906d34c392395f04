-- The messages that the steps give to be sent, each with all it carries.
use Rattle.std.specs.Prelude.{ℕ, true, false, None}
use Rattle.protocol.specs.declared.TransactionId.{TransactionId}
use Rattle.protocol.specs.declared.Nonce.{Nonce}
use Rattle.protocol.specs.declared.FreshNonce.{FreshNonce}
use Rattle.protocol.specs.declared.Hash.{Hash}
use Rattle.protocol.specs.Types.{FailureInfo}
use Rattle.protocol.specs.declared.OutgoingContents.{OutgoingContents}
use Rattle.protocol.specs.declared.Outgoing.{Outgoing}
use Rattle.protocol.specs.Bytes.{no_id, no_nonce, no_hash, nonce_from}
use Rattle.protocol.specs.Message.{cert_conf, pki_conf, error_kind, response_to, request_number}

-- ## What only some kinds carry

abbrev pub no_contents : OutgoingContents
no_contents = record { has_status = false; status = 0; hash = no_hash; failure = None; has_number = false; number = 0 }

-- Each of these sets a part of the contents and leaves the others.
abbrev pub with_status : ℕ → OutgoingContents → OutgoingContents
with_status s c = record { has_status = true; status = s; hash = c.hash; failure = c.failure; has_number = c.has_number; number = c.number }

abbrev pub with_hash : Hash → OutgoingContents → OutgoingContents
with_hash h c = record { has_status = c.has_status; status = c.status; hash = h; failure = c.failure; has_number = c.has_number; number = c.number }

abbrev pub with_failure : FailureInfo → OutgoingContents → OutgoingContents
with_failure f c = record { has_status = c.has_status; status = c.status; hash = c.hash; failure = f; has_number = c.has_number; number = c.number }

abbrev pub with_number : ℕ → OutgoingContents → OutgoingContents
with_number n c = record { has_status = c.has_status; status = c.status; hash = c.hash; failure = c.failure; has_number = true; number = n }

-- ## The messages

-- what stands in an answer that sends nothing
unfoldable pub silent : Outgoing
silent = record { kind = 0; id = no_id; sender_nonce = no_nonce; has_recip_nonce = false; recip_nonce = no_nonce; contents = no_contents }

-- ir, cr, p10cr or kur, at a start: the only message that answers none, so it has no recipNonce
abbrev pub request_out : (kind : ℕ) → TransactionId → FreshNonce → Outgoing
request_out k i n = record { kind = k; id = i; sender_nonce = nonce_from n; has_recip_nonce = false; recip_nonce = no_nonce; contents = no_contents }

-- "every answer carries the id and, as recipNonce, the senderNonce of the message answered"
abbrev pub answer_out : (kind : ℕ) → TransactionId → FreshNonce → (answered : Nonce) → OutgoingContents → Outgoing
answer_out k i n a c = record { kind = k; id = i; sender_nonce = nonce_from n; has_recip_nonce = true; recip_nonce = a; contents = c }

-- ip, cp or kup to a request of this kind, with its number and the status
abbrev pub response_out : (request : ℕ) → TransactionId → FreshNonce → (answered : Nonce) → (status : ℕ) → Outgoing
response_out k i n a s = answer_out (response_to k) i n a (with_number (request_number k) (with_status s no_contents))

-- certConf in an enrolment of this kind, with its number, the status and the certificate's hash
abbrev pub cert_conf_out : (request : ℕ) → TransactionId → FreshNonce → (answered : Nonce) → (status : ℕ) → Hash → Outgoing
cert_conf_out k i n a s h = answer_out cert_conf i n a (with_number (request_number k) (with_hash h (with_status s no_contents)))

-- pkiconf
abbrev pub pki_conf_out : TransactionId → FreshNonce → (answered : Nonce) → Outgoing
pki_conf_out i n a = answer_out pki_conf i n a no_contents

-- error, "with status 2 and that bit"
abbrev pub error_out : TransactionId → FreshNonce → (answered : Nonce) → FailureInfo → Outgoing
error_out i n a f = answer_out error_kind i n a (with_failure f (with_status 2 no_contents))
