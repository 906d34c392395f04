-- What the host is answered: a reading as numbers at fixed places.
use Rattle.std.specs.Prelude.{ℕ, ◌+◌, ◌*◌, List, cond, length, set, ltb, Ok, Err, is_some, unwrap_or}
use Rattle.der.specs.Element.{check}
use Rattle.der.specs.Types.{Check}
use Rattle.grammar.specs.declared.Span.{Span}
use Rattle.grammar.specs.declared.Header.{Header}
use Rattle.grammar.specs.declared.Entry.{Entry}
use Rattle.grammar.specs.declared.Body.{Body}
use Rattle.grammar.specs.declared.Message.{Message}
use Rattle.message.specs.Types.{Reading}
use Rattle.message.specs.Read.{reading_of, protected_length}

-- ## The check

abbrev pub check_number : Check → ℕ
check_number (Ok _) = 0
check_number (Err fault) = fault.at.0 * 8 + fault.rule

unfoldable pub check_answer : List ℕ → ℕ
check_answer s = cond (ltb 4294967295 (length s)) 7 (check_number (check s))

-- ## The places of a reading's numbers

-- how many numbers there are
abbrev pub field_count : ℕ
field_count = 47

-- a number at its place; nothing where there is no such place
unfoldable pub put_number : ℕ → ℕ → List ℕ → List ℕ
put_number at v l = set l at v

-- start and length
unfoldable pub put_span : ℕ → ℕ → Span → List ℕ → List ℕ
put_span a b s l = put_number b s.len (put_number a s.start.0 l)

unfoldable pub put_names : Header → List ℕ → List ℕ
put_names h l =
    let l1 : List ℕ = put_number 1 h.version l in
    let l2 : List ℕ = put_span 11 12 h.sender l1 in
    let l3 : List ℕ = put_span 13 14 h.recipient l2 in
    let l4 : List ℕ = put_span 15 16 h.message_time l3 in
    let l5 : List ℕ = put_span 17 18 h.protection_alg l4 in
    let l6 : List ℕ = put_span 19 20 h.sender_kid l5 in
    put_span 21 22 h.recip_kid l6

unfoldable pub put_ids : Header → List ℕ → List ℕ
put_ids h l =
    let l1 : List ℕ = put_span 23 24 h.transaction_id l in
    let l2 : List ℕ = put_span 25 26 h.sender_nonce l1 in
    let l3 : List ℕ = put_span 27 28 h.recip_nonce l2 in
    let l4 : List ℕ = put_span 29 30 h.free_text l3 in
    put_span 31 32 h.general_info l4

unfoldable pub put_entry : Entry → List ℕ → List ℕ
put_entry e l =
    let l1 : List ℕ = put_number 35 e.number l in
    let l2 : List ℕ = put_number 36 (cond (is_some e.status) 1 0) l1 in
    let l3 : List ℕ = put_number 37 (unwrap_or e.status 0) l2 in
    let l4 : List ℕ = put_span 38 39 e.cert_hash l3 in
    let l5 : List ℕ = put_span 40 41 e.hash_alg l4 in
    let l6 : List ℕ = put_span 42 43 e.certificate l5 in
    put_span 44 45 e.request l6

unfoldable pub put_body : Body → List ℕ → List ℕ
put_body b l =
    let l1 : List ℕ = put_number 0 b.kind l in
    let l2 : List ℕ = put_number 2 b.entries l1 in
    let l3 : List ℕ = put_span 33 34 b.ca_pubs l2 in
    put_entry b.entry l3

unfoldable pub put_protected : Message → List ℕ → List ℕ
put_protected m l = put_number 46 (protected_length m) l

unfoldable pub put_message : Message → List ℕ → List ℕ
put_message m l =
    let l1 : List ℕ = put_span 3 4 m.header_span l in
    let l2 : List ℕ = put_span 5 6 m.body_span l1 in
    let l3 : List ℕ = put_span 7 8 m.protection l2 in
    let l4 : List ℕ = put_span 9 10 m.extra_certs l3 in
    let l5 : List ℕ = put_names m.header l4 in
    let l6 : List ℕ = put_ids m.header l5 in
    let l7 : List ℕ = put_body m.body l6 in
    put_protected m l7

-- ## The answer

abbrev pub read_number : Reading → ℕ
read_number (Ok m) = 0
read_number (Err f) = f.number

abbrev pub read_numbers : Reading → List ℕ → List ℕ
read_numbers (Ok m) l = put_message m l
read_numbers (Err f) l = put_number 1 f.rule (put_number 0 f.at.0 l)

-- 255 where there is no room
unfoldable pub read_answer : List ℕ → List ℕ → ℕ
read_answer s l = cond (ltb (length l) field_count) 255 (read_number (reading_of s))

unfoldable pub read_fields : List ℕ → List ℕ → List ℕ
read_fields s l = cond (ltb (length l) field_count) l (read_numbers (reading_of s) l)
