-- The call: its answer, and the buffer after it.
use Rattle.std.specs.Prelude.{ℕ, List, cond, length, eqb, Ok, Err}
use Rattle.std.proofs.lemmas.List.Edits.{sets}
use Rattle.protocol.specs.declared.Outgoing.{Outgoing}
use Rattle.encoding.specs.Message.{encode}
use Rattle.encoding.specs.Write.{refusal_of}
use Rattle.given.specs.declared.GivenSpans.{GivenSpans}
use Rattle.writer.specs.Types.{Written}
use Rattle.given.specs.Spans.{given_of, spans_inside}

-- the number of the refusal; 0: none
abbrev pub write_refusal : (src : List ℕ) → GivenSpans → Outgoing → (buf : List ℕ) → ℕ
write_refusal src g o buf = refusal_of (spans_inside src g) (given_of src g) o (length buf)

-- how many bytes are written, or the refusal
unfoldable pub write_answer : (src : List ℕ) → GivenSpans → Outgoing → (buf : List ℕ) → Written
write_answer src g o buf =
    cond (eqb (write_refusal src g o buf) 0) (Ok (length (encode (given_of src g) o))) (Err (write_refusal src g o buf))

-- "the buffer then as before; otherwise only the result's bytes change"
unfoldable pub buffer_after : (src : List ℕ) → GivenSpans → Outgoing → (buf : List ℕ) → List ℕ
buffer_after src g o buf = cond (eqb (write_refusal src g o buf) 0) (sets buf 0 (encode (given_of src g) o)) buf
