-- Writing over lent bytes: the number that is returned, and the buffer.
use Rattle.std.specs.Prelude.{ℕ, ◌*◌, List, Bool, cond, ◌&&◌, length, eqb, is_some, Ok, Err}
use Rattle.packed.specs.Outgoing.{unpack_outgoing, outgoing_held}
use Rattle.given.specs.Numbers.{given_count, spans_of}
use Rattle.writer.specs.Types.{Written}
use Rattle.writer.specs.Write.{write_answer, buffer_after}

-- a number that tells why nothing is written stands in the high 32 bits
abbrev pub not_written : ℕ → ℕ
not_written k = k * 4294967296

-- the message's size, or the refusal
abbrev pub written_number : Written → ℕ
written_number (Ok n) = n
written_number (Err k) = not_written k

-- the lengths are those of an order and of the given numbers
abbrev pub write_args : (outgoing given : List ℕ) → Bool
write_args out given = is_some (unpack_outgoing out) && eqb (length given) given_count

-- 252: another length, and the call is not made
unfoldable pub write_number : (outgoing : List ℕ) → (version : ℕ) → (given source buffer : List ℕ) → ℕ
write_number out v given src buf =
    cond (write_args out given) (written_number (write_answer src (spans_of v given) (outgoing_held out) buf)) (not_written 252)

unfoldable pub write_buffer : (outgoing : List ℕ) → (version : ℕ) → (given source buffer : List ℕ) → List ℕ
write_buffer out v given src buf = cond (write_args out given) (buffer_after src (spans_of v given) (outgoing_held out) buf) buf
