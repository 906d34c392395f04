-- Reading a message: the check of the whole as DER, and the grammar. The fault named is the lower one of the two.
use Rattle.std.specs.Prelude.{ℕ, ◌+◌, List, cond, ◌||◌, length, ltb, eqb, Ok, Err}
use Rattle.der.specs.declared.Offset.{Offset}
use Rattle.der.specs.Element.{check}
use Rattle.der.specs.Types.{Check}
use Rattle.grammar.specs.declared.Message.{Message}
use Rattle.message.specs.Types.{Reading}
use Rattle.grammar.specs.declared.pki_message.MessageRead.{MessageRead}
use Rattle.grammar.specs.Message.{message_of}

-- messages of 1 to 16,384 bytes
abbrev pub max_message : ℕ
max_message = 16384

-- refusal 1: length 0 or above the limit
abbrev pub bad_length : Reading
bad_length = Err (record { number = 1; at = record { 0 = 0 }; rule = 0 })

-- refusal 2: not DER or not the grammar, at an offset, by the lowest rule broken there
abbrev pub broken_at : Offset → ℕ → Reading
broken_at at rule = Err (record { number = 2; at = at; rule = rule })

-- the lower of the two faults, if there is one; at one offset DER's rules 1 to 4 come before the grammar's 5
unfoldable pub lowest : Check → MessageRead → Reading
lowest (Ok _) g = cond g.met (Ok g.found) (broken_at g.at 5)
lowest (Err fault) g = cond g.met (broken_at fault.at fault.rule) (cond (ltb g.at.0 fault.at.0) (broken_at g.at 5) (broken_at fault.at fault.rule))

unfoldable pub reading_of : List ℕ → Reading
reading_of m = cond (eqb (length m) 0 || ltb max_message (length m)) bad_length (lowest (check m) (message_of m))

-- the content length of the protected part, the DER SEQUENCE of header and body (RFC 9810 5.1.3); 0 where one of the two is longer than a message may be
unfoldable pub protected_length : Message → ℕ
protected_length m = cond (ltb max_message m.header_span.len || ltb max_message m.body_span.len) 0 (m.header_span.len + m.body_span.len)
