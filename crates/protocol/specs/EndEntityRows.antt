-- The table of refusals for a message at an end entity, a definition for each row, in 01's order.
use Rattle.std.specs.Prelude.{ℕ, List, [], ◌∷◌, ◌++◌, Bool, not, ◌&&◌, ◌||◌, eqb}
use Rattle.protocol.specs.declared.Enrolment.{Enrolment}
use Rattle.protocol.specs.Bytes.{is_id, is_nonce}
use Rattle.protocol.specs.Message.{Fields, is_response, pki_conf, error_kind, status_or0, response_to, request_number}
use Rattle.protocol.specs.States.{is_waiting, is_confirming}
use Rattle.protocol.specs.Refusals.{Row, head_rows, row}

abbrev pub responds : Fields → Bool
responds m = is_response m.kind

abbrev pub acknowledges : Fields → Bool
acknowledges m = eqb m.kind pki_conf

abbrev pub reports : Fields → Bool
reports m = eqb m.kind error_kind

abbrev pub one_response : Fields → Bool
one_response m = eqb m.entries 1

abbrev pub has_status : ℕ → Fields → Bool
has_status s m = eqb (status_or0 m.status) s

-- 8: "B takes kinds 19, 23 and the answer to its request"
abbrev pub other_answer : Enrolment → Fields → Bool
other_answer x m = not (acknowledges m || reports m || eqb m.kind (response_to x.kind))

-- 12: "id not its own"
abbrev pub other_id : Enrolment → Fields → Bool
other_id x m = not (is_id m.id x.id)

-- 14: "recipNonce absent or not the last nonce this record sent"
abbrev pub other_nonce : Enrolment → Fields → Bool
other_nonce x m = not (is_nonce m.recip_nonce x.last)

-- 15: "not exactly one entry (1, 3, 8)"
abbrev pub not_one_response : Fields → Bool
not_one_response m = responds m && not (one_response m)

-- 16: certReqId in that one entry "not -1 for p10cr, not 0 for the others", by the enrolment's kind
abbrev pub other_number : Enrolment → Fields → Bool
other_number x m = responds m && one_response m && not (eqb m.request (request_number x.kind))

-- 18: "response status not 0, 1, 2; error status not 2"
abbrev pub bad_status : Fields → Bool
bad_status m = responds m && one_response m && not (has_status 0 m || has_status 1 m || has_status 2 m) || reports m && not (has_status 2 m)

-- 20: "the state doesn't take it"
abbrev pub not_awaited : Enrolment → Fields → Bool
not_awaited x m =
    responds m && not (is_waiting x.state)
    || acknowledges m && not (is_confirming x.state)
    || reports m && not (is_waiting x.state || is_confirming x.state)

-- 21: "status 0 or 1 and no plain certificate"
abbrev pub no_certificate : Fields → Bool
no_certificate m = responds m && not (has_status 2 m) && not m.certificate

-- 8 to 21
abbrev pub answer_rows : Enrolment → Fields → List Row
answer_rows x m =
    row 8 (other_answer x m)
    ∷ row 12 (other_id x m)
    ∷ row 14 (other_nonce x m)
    ∷ row 15 (not_one_response m)
    ∷ row 16 (other_number x m)
    ∷ row 18 (bad_status m)
    ∷ row 20 (not_awaited x m)
    ∷ row 21 (no_certificate m)
    ∷ []

-- the whole table
unfoldable pub end_entity_rows : Enrolment → Bool → Fields → List Row
end_entity_rows x good m = head_rows good m ++ answer_rows x m
