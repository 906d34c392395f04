-- The sizes that a host is told, so that it can hold its header to the library.
use Rattle.std.specs.Prelude.{ℕ, cond, eqb}
use Rattle.message.specs.Read.{max_message}
use Rattle.fields.specs.Fields.{field_count}
use Rattle.given.specs.Numbers.{given_count}
use Rattle.packed.specs.Outgoing.{outgoing_bytes}
use Rattle.packed.specs.Table.{table_bytes}
use Rattle.packed.specs.Enrolment.{enrolment_bytes}
use Rattle.packed.specs.Answer.{registrar_answer_bytes, end_entity_answer_bytes}

-- 0 a table, 1 an enrolment, 2 a registrar's answer, 3 an end entity's answer, 4 the numbers of a reading, 5 the longest message,
-- 6 the numbers of what is given, 7 a message to be sent; else 0
abbrev pub lent_size : ℕ → ℕ
lent_size n =
    cond (eqb n 0) table_bytes
    (cond (eqb n 1) enrolment_bytes
    (cond (eqb n 2) registrar_answer_bytes
    (cond (eqb n 3) end_entity_answer_bytes
    (cond (eqb n 4) field_count
    (cond (eqb n 5) max_message
    (cond (eqb n 6) given_count
    (cond (eqb n 7) outgoing_bytes 0)))))))
