-- The refusals of writing, lowest first: "the result is over the message limit (34), the buffer is too short (35), or a given element or
-- field doesn't fit (36)". 34 and 35 are judged on parts that do not fit, too. 0: it is written.
use Rattle.std.specs.Prelude.{ℕ, Bool, cond, ◌&&◌, length, ltb}
use Rattle.message.specs.Read.{max_message}
use Rattle.protocol.specs.declared.Outgoing.{Outgoing}
use Rattle.encoding.specs.Given.{Given}
use Rattle.encoding.specs.Message.{encode}
use Rattle.encoding.specs.Fits.{fits}

-- `inside`: every given part lies in the bytes that the caller lends
unfoldable pub refusal_of : (inside : Bool) → Given → Outgoing → (room : ℕ) → ℕ
refusal_of inside g o room =
    cond (ltb max_message (length (encode g o))) 34
    (cond (ltb room (length (encode g o))) 35
    (cond (inside && fits g o) 0 36))
