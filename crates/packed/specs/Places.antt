-- Where each field stands in lent bytes: a place is the one before and its width.
use Rattle.std.specs.Prelude.{ℕ, ◌+◌, ◌-◌}

-- ## Widths in bytes

abbrev pub id_bytes : ℕ
id_bytes = 16

abbrev pub nonce_bytes : ℕ
nonce_bytes = 16

abbrev pub hash_bytes : ℕ
hash_bytes = 32

abbrev pub board_bytes : ℕ
board_bytes = 2

abbrev pub kind_bytes : ℕ
kind_bytes = 1

abbrev pub state_bytes : ℕ
state_bytes = 1

abbrev pub flag_bytes : ℕ
flag_bytes = 1

abbrev pub status_bytes : ℕ
status_bytes = 4

abbrev pub bit_bytes : ℕ
bit_bytes = 1

-- a certReqId
abbrev pub number_bytes : ℕ
number_bytes = 4

abbrev pub code_bytes : ℕ
code_bytes = 1

abbrev pub refusal_bytes : ℕ
refusal_bytes = 1

abbrev pub fault_bytes : ℕ
fault_bytes = 1

abbrev pub offset_bytes : ℕ
offset_bytes = 8

abbrev pub rule_bytes : ℕ
rule_bytes = 1

abbrev pub slot_number_bytes : ℕ
slot_number_bytes = 1

-- ## A transaction, from the start of its slot

abbrev pub transaction_id_at : ℕ
transaction_id_at = 0

abbrev pub transaction_board_at : ℕ
transaction_board_at = transaction_id_at + id_bytes

abbrev pub transaction_kind_at : ℕ
transaction_kind_at = transaction_board_at + board_bytes

abbrev pub transaction_taken_at : ℕ
transaction_taken_at = transaction_kind_at + kind_bytes

abbrev pub transaction_sent_at : ℕ
transaction_sent_at = transaction_taken_at + nonce_bytes

abbrev pub transaction_hash_at : ℕ
transaction_hash_at = transaction_sent_at + nonce_bytes

abbrev pub transaction_state_at : ℕ
transaction_state_at = transaction_hash_at + hash_bytes

abbrev pub transaction_end : ℕ
transaction_end = transaction_state_at + state_bytes

-- its part from "taken" on
abbrev pub progress_part_bytes : ℕ
progress_part_bytes = transaction_end - transaction_taken_at

-- ## An enrolment

abbrev pub enrolment_id_at : ℕ
enrolment_id_at = 0

abbrev pub enrolment_kind_at : ℕ
enrolment_kind_at = enrolment_id_at + id_bytes

abbrev pub enrolment_last_at : ℕ
enrolment_last_at = enrolment_kind_at + kind_bytes

abbrev pub enrolment_taken_at : ℕ
enrolment_taken_at = enrolment_last_at + nonce_bytes

abbrev pub enrolment_hash_at : ℕ
enrolment_hash_at = enrolment_taken_at + nonce_bytes

abbrev pub enrolment_state_at : ℕ
enrolment_state_at = enrolment_hash_at + hash_bytes

abbrev pub enrolment_end : ℕ
enrolment_end = enrolment_state_at + state_bytes

-- ## A message to be sent, from its own start

abbrev pub outgoing_kind_at : ℕ
outgoing_kind_at = 0

abbrev pub outgoing_id_at : ℕ
outgoing_id_at = outgoing_kind_at + kind_bytes

abbrev pub outgoing_sender_nonce_at : ℕ
outgoing_sender_nonce_at = outgoing_id_at + id_bytes

abbrev pub outgoing_has_recip_nonce_at : ℕ
outgoing_has_recip_nonce_at = outgoing_sender_nonce_at + nonce_bytes

abbrev pub outgoing_recip_nonce_at : ℕ
outgoing_recip_nonce_at = outgoing_has_recip_nonce_at + flag_bytes

-- what only some kinds carry
abbrev pub outgoing_contents_at : ℕ
outgoing_contents_at = outgoing_recip_nonce_at + nonce_bytes

abbrev pub outgoing_has_status_at : ℕ
outgoing_has_status_at = outgoing_contents_at

abbrev pub outgoing_status_at : ℕ
outgoing_status_at = outgoing_has_status_at + flag_bytes

abbrev pub outgoing_hash_at : ℕ
outgoing_hash_at = outgoing_status_at + status_bytes

abbrev pub outgoing_failure_at : ℕ
outgoing_failure_at = outgoing_hash_at + hash_bytes

abbrev pub outgoing_has_number_at : ℕ
outgoing_has_number_at = outgoing_failure_at + bit_bytes

abbrev pub outgoing_number_at : ℕ
outgoing_number_at = outgoing_has_number_at + flag_bytes

abbrev pub outgoing_end : ℕ
outgoing_end = outgoing_number_at + number_bytes

abbrev pub contents_part_bytes : ℕ
contents_part_bytes = outgoing_end - outgoing_contents_at

-- ## An answer: first what both ends say, then each end's own

abbrev pub answer_code_at : ℕ
answer_code_at = 0

abbrev pub answer_refusal_at : ℕ
answer_refusal_at = answer_code_at + code_bytes

abbrev pub answer_bit_at : ℕ
answer_bit_at = answer_refusal_at + refusal_bytes

abbrev pub answer_fault_at : ℕ
answer_fault_at = answer_bit_at + bit_bytes

abbrev pub answer_offset_at : ℕ
answer_offset_at = answer_fault_at + fault_bytes

abbrev pub answer_rule_at : ℕ
answer_rule_at = answer_offset_at + offset_bytes

abbrev pub answer_own_at : ℕ
answer_own_at = answer_rule_at + rule_bytes

-- the reader's fault
abbrev pub fault_part_bytes : ℕ
fault_part_bytes = answer_own_at - answer_fault_at

-- the registrar's
abbrev pub registrar_slot_at : ℕ
registrar_slot_at = answer_own_at

abbrev pub registrar_sends_at : ℕ
registrar_sends_at = registrar_slot_at + slot_number_bytes

abbrev pub registrar_outgoing_at : ℕ
registrar_outgoing_at = registrar_sends_at + flag_bytes

abbrev pub registrar_end : ℕ
registrar_end = registrar_outgoing_at + outgoing_end

-- an end entity's
abbrev pub end_entity_sends_at : ℕ
end_entity_sends_at = answer_own_at

abbrev pub end_entity_outgoing_at : ℕ
end_entity_outgoing_at = end_entity_sends_at + flag_bytes

abbrev pub end_entity_end : ℕ
end_entity_end = end_entity_outgoing_at + outgoing_end
