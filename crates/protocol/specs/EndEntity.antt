-- "The board's states": an end entity's calls on one enrolment. The start, a message, and a time out.
use Rattle.std.specs.Prelude.{ℕ, List, Bool, true, false, cond, ◌||◌, eqb, Ok, Err, None, Some}
use Rattle.message.specs.Read.{reading_of}
use Rattle.message.specs.declared.ReadFault.{ReadFault}
use Rattle.message.specs.Types.{Reading}
use Rattle.protocol.specs.declared.TransactionId.{TransactionId}
use Rattle.protocol.specs.declared.Nonce.{Nonce}
use Rattle.protocol.specs.declared.FreshNonce.{FreshNonce}
use Rattle.protocol.specs.declared.Hash.{Hash}
use Rattle.protocol.specs.declared.EndEntityInput.{EndEntityInput}
use Rattle.protocol.specs.declared.EnrolmentState.{EnrolmentState}
use Rattle.protocol.specs.declared.Enrolment.{Enrolment}
use Rattle.protocol.specs.declared.EndEntityAnswer.{EndEntityAnswer}
use Rattle.protocol.specs.declared.EnrolmentState.TheVariants.{Asked, Failed}
use Rattle.protocol.specs.declared.Outcome.TheVariants as outcome
use Rattle.protocol.specs.Bytes.{no_nonce, no_hash, no_id, as_nonce, nonce_from}
use Rattle.protocol.specs.Message.{is_starting_kind, Fields, status_or0, fields_of}
use Rattle.protocol.specs.Outgoing.{silent, request_out, cert_conf_out}
use Rattle.protocol.specs.States.{decided, decision, assured, broken_state, is_waiting, is_confirming}
use Rattle.protocol.specs.Refusals.{bit_of, LowestRow, stop, pass, read_refusal, lowest_row, no_fault}
use Rattle.protocol.specs.EndEntityRows.{acknowledges, reports, responds, end_entity_rows}

-- ## Answers

-- refused, with nothing to send ("a board never does")
abbrev pub enrolment_refused : ℕ → Enrolment → EndEntityAnswer
enrolment_refused k x = record { outcome = outcome.Refused k (bit_of k false); fault = no_fault; outgoing = None; enrolment = x }

-- the bytes do not read: the reader's refusal, with its fault
abbrev pub enrolment_unread : ReadFault → Enrolment → EndEntityAnswer
enrolment_unread f x = record { outcome = outcome.Refused (read_refusal f) (bit_of (read_refusal f) false); fault = f; outgoing = None; enrolment = x }

abbrev pub enrolment_moved : Enrolment → EndEntityAnswer
enrolment_moved x = record { outcome = outcome.Done; fault = no_fault; outgoing = None; enrolment = x }

-- the enrolment in another state
abbrev pub in_state : Enrolment → EnrolmentState → Enrolment
in_state x s = record { id = x.id; kind = x.kind; last = x.last; taken = x.taken; hash = x.hash; state = s }

-- ## Start

-- "Start gives Asked"
abbrev pub started_enrolment : ℕ → TransactionId → FreshNonce → Enrolment
started_enrolment k i n = record { id = i; kind = k; last = nonce_from n; taken = no_nonce; hash = no_hash; state = Asked }

-- what stands in the answer to a refused start: no enrolment, and it takes nothing
abbrev pub no_enrolment : Enrolment
no_enrolment = record { id = no_id; kind = 0; last = no_nonce; taken = no_nonce; hash = no_hash; state = Failed }

-- 32: "board start, kind not 0, 2, 4 or 7"
unfoldable pub end_entity_start : ℕ → TransactionId → FreshNonce → EndEntityAnswer
end_entity_start k i n =
    cond (is_starting_kind k)
    (record { outcome = outcome.Done; fault = no_fault; outgoing = Some (request_out k i n); enrolment = started_enrolment k i n })
    (enrolment_refused 32 no_enrolment)

-- ## A message

-- the enrolment after a message was refused by this number: "here a refused message changes nothing"
unfoldable pub after_refusal : ℕ → Fields → Enrolment → Enrolment
after_refusal k m x = x

-- the confirmation is sent: the host's hash is kept, the nonce sent, and the nonce of the response taken
abbrev pub confirmed_enrolment : Enrolment → Bool → Hash → FreshNonce → Nonce → Enrolment
confirmed_enrolment x accept h n a = record { id = x.id; kind = x.kind; last = nonce_from n; taken = a; hash = h; state = decided accept }

-- "0 or 1 gives, by the host's decision, Confirming or Declining, with the host's hash and a certConf order of status 0 or 2"
abbrev pub confirming : Enrolment → Bool → Hash → FreshNonce → Nonce → EndEntityAnswer
confirming x accept h n a =
    record { outcome = outcome.Done; fault = no_fault; outgoing = Some (cert_conf_out x.kind x.id n a (decision accept) h); enrolment = confirmed_enrolment x accept h n a }

-- "Asked with a response: status 2 gives Failed"
abbrev pub response_taken : Enrolment → EndEntityInput → Fields → EndEntityAnswer
response_taken x d m = cond (eqb (status_or0 m.status) 2) (enrolment_moved (in_state x Failed)) (confirming x d.accept d.hash d.nonce (as_nonce m.sender_nonce))

-- a message that no row refuses, by its kind; of another kind none comes here
abbrev pub end_entity_taken : Enrolment → EndEntityInput → Fields → EndEntityAnswer
end_entity_taken x d m =
    cond (acknowledges m)
    (enrolment_moved (in_state x (assured x.state)))
    (cond (reports m) (enrolment_moved (in_state x (broken_state x.state))) (cond (responds m) (response_taken x d m) (enrolment_refused 8 x)))

unfoldable pub end_entity_checked : LowestRow → Enrolment → EndEntityInput → Fields → EndEntityAnswer
end_entity_checked (stop k) x d m = enrolment_refused k (after_refusal k m x)
end_entity_checked pass x d m = end_entity_taken x d m

-- "The reading is taken apart; a refusal ends the step at once"
unfoldable pub end_entity_read : Reading → Enrolment → EndEntityInput → List ℕ → EndEntityAnswer
end_entity_read (Err f) x d bytes = enrolment_unread f x
end_entity_read (Ok m) x d bytes = end_entity_checked (lowest_row (end_entity_rows x d.good (fields_of bytes m))) x d (fields_of bytes m)

-- A message at an end entity.
unfoldable pub end_entity_message : Enrolment → EndEntityInput → (bytes : List ℕ) → EndEntityAnswer
end_entity_message x d bytes = end_entity_read (reading_of bytes) x d bytes

-- ## Time out: the same as an error; "the rest is ... (time out: 31)"

unfoldable pub end_entity_time_out : Enrolment → EndEntityAnswer
end_entity_time_out x = cond (is_waiting x.state || is_confirming x.state) (enrolment_moved (in_state x (broken_state x.state))) (enrolment_refused 31 x)
