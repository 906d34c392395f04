-- Three lists of calls, built from message bytes, on which demand 3 is not idle: one ends Sure with Confirmed, one Declined with Declined,
-- and one by p10cr, with the request number -1, ends as the first.
use Rattle.std.specs.Prelude.{ℕ, List, [], ◌∷◌, ◌++◌, Bool, true, false, ◌≡◌, replicate, Some}
use Rattle.std.proofs.Math.Option.{Option, none, some}
use Rattle.std.proofs.Math.ListN.{get_elem?}
use Rattle.protocol.specs.declared.Board.{Board}
use Rattle.protocol.specs.declared.TransactionId.{TransactionId}
use Rattle.protocol.specs.declared.FreshNonce.{FreshNonce}
use Rattle.protocol.specs.declared.Hash.{Hash}
use Rattle.protocol.specs.declared.TransactionState.{TransactionState}
use Rattle.protocol.specs.declared.EnrolmentState.{EnrolmentState}
use Rattle.protocol.specs.declared.EnrolmentState.TheVariants as at_board
use Rattle.protocol.specs.declared.TransactionState.TheVariants as at_registrar
use Rattle.protocol.specs.Table.{lookup}
use Rattle.protocol.specs.Run.{Call, Start, ToRegistrar, Issue, ToEndEntity, World, run}
use Rattle.protocol.specs.Agreement.{Fair}

abbrev pub board : Board
board = record { 0 = 5 }

abbrev pub id : TransactionId
id = record { bytes = replicate 16 0x11 }

abbrev pub nonce : ℕ → FreshNonce
nonce n = record { bytes = replicate 16 n }

abbrev pub hash : Hash
hash = record { bytes = replicate 32 0xAB }

-- ## Messages, in bytes

-- the header of 01's W up to its transactionID, and the senderNonce
abbrev head : ℕ → List ℕ
head n =
    0x02 ∷ 0x01 ∷ 0x02
    ∷ 0xA4 ∷ 0x02 ∷ 0x30 ∷ 0x00
    ∷ 0xA4 ∷ 0x02 ∷ 0x30 ∷ 0x00
    ∷ 0xA1 ∷ 0x0D ∷ 0x30 ∷ 0x0B ∷ 0x06 ∷ 0x09 ∷ 0x2A ∷ 0x86 ∷ 0x48 ∷ 0x86 ∷ 0xF6 ∷ 0x7D ∷ 0x07 ∷ 0x42 ∷ 0x0D
    ∷ 0xA4 ∷ 0x12 ∷ 0x04 ∷ 0x10
    ∷ (replicate 16 0x11 ++ (0xA5 ∷ 0x12 ∷ 0x04 ∷ 0x10 ∷ replicate 16 n))

-- with the recipNonce a
abbrev answer_head : ℕ → ℕ → List ℕ
answer_head n a = 0x30 ∷ 0x56 ∷ (head n ++ (0xA6 ∷ 0x12 ∷ 0x04 ∷ 0x10 ∷ replicate 16 a))

abbrev protection : List ℕ
protection = 0xA0 ∷ 0x04 ∷ 0x03 ∷ 0x02 ∷ 0x00 ∷ 0x5A ∷ []

-- ir with one request of number 0
abbrev pub ir_bytes : List ℕ
ir_bytes =
    0x30 ∷ 0x55
    ∷ 0x30 ∷ 0x42
    ∷ (head 1 ++ (0xA0 ∷ 0x09 ∷ 0x30 ∷ 0x07 ∷ 0x30 ∷ 0x05 ∷ 0x30 ∷ 0x03 ∷ 0x02 ∷ 0x01 ∷ 0x00 ∷ protection))

-- p10cr with one element
abbrev pub p10cr_bytes : List ℕ
p10cr_bytes =
    0x30 ∷ 0x4E
    ∷ 0x30 ∷ 0x42
    ∷ (head 1 ++ (0xA4 ∷ 0x02 ∷ 0x30 ∷ 0x00 ∷ protection))

-- one response: the number n, status 0, and a certificate
abbrev response_body : (tag n : ℕ) → List ℕ → List ℕ
response_body tag n s =
    tag ∷ 0x14 ∷ 0x30 ∷ 0x12 ∷ 0x30 ∷ 0x10 ∷ 0x30 ∷ 0x0E
    ∷ 0x02 ∷ 0x01 ∷ n
    ∷ 0x30 ∷ 0x03 ∷ 0x02 ∷ 0x01 ∷ 0x00
    ∷ 0x30 ∷ 0x04 ∷ 0xA0 ∷ 0x02 ∷ 0x30 ∷ 0x00
    ∷ s

-- ip
abbrev pub ip_bytes : List ℕ
ip_bytes = 0x30 ∷ 0x74 ∷ (answer_head 3 1 ++ response_body 0xA1 0x00 protection)

-- cp of number -1
abbrev pub cp_bytes : List ℕ
cp_bytes = 0x30 ∷ 0x74 ∷ (answer_head 3 1 ++ response_body 0xA3 0xFF protection)

-- certConf with one entry: the hash and the number n, and no status info
abbrev acceptance : ℕ → List ℕ
acceptance n =
    0x30 ∷ 0x81 ∷ 0x89
    ∷ (answer_head 4 3 ++ (0xB8 ∷ 0x29 ∷ 0x30 ∷ 0x27 ∷ 0x30 ∷ 0x25 ∷ 0x04 ∷ 0x20 ∷ (replicate 32 0xAB ++ (0x02 ∷ 0x01 ∷ n ∷ protection))))

-- of number 0
abbrev pub accept_bytes : List ℕ
accept_bytes = acceptance 0x00

-- of number -1
abbrev pub accept_p10cr_bytes : List ℕ
accept_p10cr_bytes = acceptance 0xFF

-- status info: status 2
abbrev rejection : List ℕ → List ℕ
rejection s = 0x30 ∷ 0x03 ∷ 0x02 ∷ 0x01 ∷ 0x02 ∷ s

-- the same of number 0 with status 2
abbrev pub decline_bytes : List ℕ
decline_bytes =
    0x30 ∷ 0x81 ∷ 0x8E
    ∷ (answer_head 4 3 ++ (0xB8 ∷ 0x2E ∷ 0x30 ∷ 0x2C ∷ 0x30 ∷ 0x2A ∷ 0x04 ∷ 0x20 ∷ (replicate 32 0xAB ++ (0x02 ∷ 0x01 ∷ 0x00 ∷ rejection protection))))

-- pkiconf
abbrev pub pki_conf_bytes : List ℕ
pki_conf_bytes = 0x30 ∷ 0x62 ∷ (answer_head 5 4 ++ (0xB3 ∷ 0x02 ∷ 0x05 ∷ 0x00 ∷ protection))

-- ## The calls

-- one enrolment through: start, request, issue, response, certConf, pkiconf; the host accepts the certificate or not
abbrev pub enrols_by : (kind : ℕ) → (request_bytes response_bytes : List ℕ) → Bool → (cert_conf_bytes : List ℕ) → List Call
enrols_by kind request_bytes response_bytes accept cert_conf_bytes =
    Start board kind id (nonce 1)
    ∷ ToRegistrar request_bytes (record { verdict = Some board; nonce = nonce 2 })
    ∷ Issue id hash (nonce 3)
    ∷ ToEndEntity 0 response_bytes (record { good = true; accept = accept; hash = hash; nonce = nonce 4 })
    ∷ ToRegistrar cert_conf_bytes (record { verdict = Some board; nonce = nonce 5 })
    ∷ ToEndEntity 0 pki_conf_bytes (record { good = true; accept = accept; hash = hash; nonce = nonce 6 })
    ∷ []

-- by ir
abbrev pub enrols : Bool → (cert_conf_bytes : List ℕ) → List Call
enrols = enrols_by 0 ir_bytes ip_bytes

-- what the first enrolment says, and what the registrar says of the id
unfoldable pub board_says : World → Option EnrolmentState
board_says w = elim (get_elem? w.enrolments 0) [ none ↦ none | some x ↦ some x.enrolment.state ]

unfoldable pub registrar_says : World → Option TransactionState
registrar_says w = elim (lookup w.table.transactions id) [ none ↦ none | some r ↦ some r.state ]

-- the premises hold of the list, and it ends so
pub record EndsIn (calls : List Call) (b : EnrolmentState) (r : TransactionState) : Type 0 where
  pub fair : Fair (run calls).past
  pub says : board_says (run calls) ≡ some b
  pub heard : registrar_says (run calls) ≡ some r

pub record Witnesses : Type 0 where
  pub accepted : EndsIn (enrols true accept_bytes) at_board.Sure at_registrar.Confirmed
  pub declined : EndsIn (enrols false decline_bytes) at_board.Declined at_registrar.Declined
  pub p10cr : EndsIn (enrols_by 4 p10cr_bytes cp_bytes true accept_p10cr_bytes) at_board.Sure at_registrar.Confirmed
