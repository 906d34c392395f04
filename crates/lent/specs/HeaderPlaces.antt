-- The places that the C header names, each the one before and its width: said here anew, widths too, apart from those of the code.
use Rattle.std.specs.Prelude.{ℕ, ◌+◌}

-- ## Widths in bytes

abbrev pub id_width : ℕ
id_width = 16

abbrev pub nonce_width : ℕ
nonce_width = 16

-- a nonce that the host hands in
abbrev pub fresh_width : ℕ
fresh_width = 16

abbrev pub hash_width : ℕ
hash_width = 32

abbrev pub board_width : ℕ
board_width = 2

abbrev pub kind_width : ℕ
kind_width = 1

abbrev pub flag_width : ℕ
flag_width = 1

abbrev pub status_width : ℕ
status_width = 4

abbrev pub bit_width : ℕ
bit_width = 1

abbrev pub code_width : ℕ
code_width = 1

abbrev pub refusal_width : ℕ
refusal_width = 1

abbrev pub fault_width : ℕ
fault_width = 1

abbrev pub offset_width : ℕ
offset_width = 8

abbrev pub rule_width : ℕ
rule_width = 1

abbrev pub slot_number_width : ℕ
slot_number_width = 1

-- ## DUSKSTALL_TRANSACTION_*

abbrev pub transaction_id_place : ℕ
transaction_id_place = 0

abbrev pub transaction_board_place : ℕ
transaction_board_place = transaction_id_place + id_width

abbrev pub transaction_kind_place : ℕ
transaction_kind_place = transaction_board_place + board_width

abbrev pub transaction_taken_place : ℕ
transaction_taken_place = transaction_kind_place + kind_width

abbrev pub transaction_sent_place : ℕ
transaction_sent_place = transaction_taken_place + nonce_width

abbrev pub transaction_hash_place : ℕ
transaction_hash_place = transaction_sent_place + nonce_width

abbrev pub transaction_state_place : ℕ
transaction_state_place = transaction_hash_place + hash_width

-- ## DUSKSTALL_ENROLMENT_*

abbrev pub enrolment_id_place : ℕ
enrolment_id_place = 0

abbrev pub enrolment_kind_place : ℕ
enrolment_kind_place = enrolment_id_place + id_width

abbrev pub enrolment_last_place : ℕ
enrolment_last_place = enrolment_kind_place + kind_width

abbrev pub enrolment_taken_place : ℕ
enrolment_taken_place = enrolment_last_place + nonce_width

abbrev pub enrolment_hash_place : ℕ
enrolment_hash_place = enrolment_taken_place + nonce_width

abbrev pub enrolment_state_place : ℕ
enrolment_state_place = enrolment_hash_place + hash_width

-- ## DUSKSTALL_OUTGOING_*

abbrev pub outgoing_kind_place : ℕ
outgoing_kind_place = 0

abbrev pub outgoing_id_place : ℕ
outgoing_id_place = outgoing_kind_place + kind_width

abbrev pub outgoing_sender_nonce_place : ℕ
outgoing_sender_nonce_place = outgoing_id_place + id_width

abbrev pub outgoing_has_recip_nonce_place : ℕ
outgoing_has_recip_nonce_place = outgoing_sender_nonce_place + nonce_width

abbrev pub outgoing_recip_nonce_place : ℕ
outgoing_recip_nonce_place = outgoing_has_recip_nonce_place + flag_width

abbrev pub outgoing_has_status_place : ℕ
outgoing_has_status_place = outgoing_recip_nonce_place + nonce_width

abbrev pub outgoing_status_place : ℕ
outgoing_status_place = outgoing_has_status_place + flag_width

abbrev pub outgoing_hash_place : ℕ
outgoing_hash_place = outgoing_status_place + status_width

abbrev pub outgoing_failure_place : ℕ
outgoing_failure_place = outgoing_hash_place + hash_width

abbrev pub outgoing_has_cert_req_id_place : ℕ
outgoing_has_cert_req_id_place = outgoing_failure_place + bit_width

abbrev pub outgoing_cert_req_id_place : ℕ
outgoing_cert_req_id_place = outgoing_has_cert_req_id_place + flag_width

-- ## DUSKSTALL_ANSWER_*

abbrev pub answer_code_place : ℕ
answer_code_place = 0

abbrev pub answer_refusal_place : ℕ
answer_refusal_place = answer_code_place + code_width

abbrev pub answer_bit_place : ℕ
answer_bit_place = answer_refusal_place + refusal_width

abbrev pub answer_fault_place : ℕ
answer_fault_place = answer_bit_place + bit_width

abbrev pub answer_fault_offset_place : ℕ
answer_fault_offset_place = answer_fault_place + fault_width

abbrev pub answer_fault_rule_place : ℕ
answer_fault_rule_place = answer_fault_offset_place + offset_width

-- ## DUSKSTALL_REGISTRAR_*

abbrev pub registrar_slot_place : ℕ
registrar_slot_place = answer_fault_rule_place + rule_width

abbrev pub registrar_sends_place : ℕ
registrar_sends_place = registrar_slot_place + slot_number_width

abbrev pub registrar_outgoing_place : ℕ
registrar_outgoing_place = registrar_sends_place + flag_width

-- ## DUSKSTALL_END_ENTITY_*

abbrev pub end_entity_sends_place : ℕ
end_entity_sends_place = answer_fault_rule_place + rule_width

abbrev pub end_entity_outgoing_place : ℕ
end_entity_outgoing_place = end_entity_sends_place + flag_width

-- ## DUSKSTALL_GIVEN_*, in the numbers that duskstall_write is handed: a start, and after it a length

abbrev pub span_width : ℕ
span_width = 2

abbrev pub given_sender_place : ℕ
given_sender_place = 0

abbrev pub given_recipient_place : ℕ
given_recipient_place = given_sender_place + span_width

abbrev pub given_message_time_place : ℕ
given_message_time_place = given_recipient_place + span_width

abbrev pub given_protection_alg_place : ℕ
given_protection_alg_place = given_message_time_place + span_width

abbrev pub given_sender_kid_place : ℕ
given_sender_kid_place = given_protection_alg_place + span_width

abbrev pub given_recip_kid_place : ℕ
given_recip_kid_place = given_sender_kid_place + span_width

abbrev pub given_free_text_place : ℕ
given_free_text_place = given_recip_kid_place + span_width

abbrev pub given_general_info_place : ℕ
given_general_info_place = given_free_text_place + span_width

abbrev pub given_protection_place : ℕ
given_protection_place = given_general_info_place + span_width

abbrev pub given_request_place : ℕ
given_request_place = given_protection_place + span_width

abbrev pub given_certificate_place : ℕ
given_certificate_place = given_request_place + span_width

abbrev pub given_end : ℕ
given_end = given_certificate_place + span_width
