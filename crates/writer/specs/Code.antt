-- Definitions that only follow the code: a reader of the paper need not look at them.
use Rattle.std.specs.Prelude.{ℕ, List, [], ◌++◌, cond, ◌||◌, ltb, leb, eqb}
use Rattle.std.proofs.Math.Option.{Option, none}
use Rattle.protocol.specs.Types.{FailureInfo}
use Rattle.protocol.specs.declared.Outgoing.{Outgoing}
use Rattle.encoding.specs.Element.{element, field, optional, integer}
use Rattle.encoding.specs.Given.{Given}
use Rattle.encoding.specs.Message.{failure_bits, status_bytes, key_pair_bytes, names_bytes, options_bytes, ids_bytes, header_bytes, body_bytes}

-- how many of a number's four bytes its INTEGER does not need
unfoldable pub unneeded : ℕ → ℕ
unneeded n =
    cond (ltb n 0x80 || leb 0xFFFFFF80 n) 3
    (cond (ltb n 0x8000 || leb 0xFFFF8000 n) 2
    (cond (ltb n 0x800000 || leb 0xFF800000 n) 1 0))

-- ## What an element holds, where its head and its content are put in one after the other

abbrev pub header_content : Given → Outgoing → List ℕ
header_content g o = names_bytes g (options_bytes g (ids_bytes g o))

abbrev pub status_content : ℕ → FailureInfo → List ℕ
status_content s f = integer s ++ (optional 0x03 (failure_bits f) ++ [])

abbrev pub response_content : (number status : ℕ) → Option (List ℕ) → List ℕ
response_content n s e = integer n ++ (status_bytes s none ++ (key_pair_bytes e ++ []))

abbrev pub confirmation_content : (hash : List ℕ) (number status : ℕ) → List ℕ
confirmation_content h n s = element 0x04 h ++ (integer n ++ (cond (eqb s 0) [] (status_bytes s none) ++ []))

abbrev pub message_content : Given → Outgoing → List ℕ
message_content g o = header_bytes g o ++ (body_bytes g o ++ (field 0xA0 0x03 g.protection ++ []))
