-- The refusals of writing in the paper's words: "the result is over the message limit (34), the buffer is too short (35), or a given
-- element or field doesn't fit document 01's grammar at its place (36), lowest first".
use Rattle.std.specs.Prelude.{ℕ, ◌<◌, ◌≤◌, Bool, true, false, ◌≡◌, ◌⊎◌, ◌↔◌, length}
use Rattle.message.specs.Read.{max_message}
use Rattle.protocol.specs.declared.Outgoing.{Outgoing}
use Rattle.encoding.specs.Given.{Given}
use Rattle.encoding.specs.Message.{encode}
use Rattle.encoding.specs.Fits.{fits}

-- the lowest refusal, or 0: `n` of an answer with this room, where `inside` says that every given part lies in the lent bytes
pub record RefusalRules (inside : Bool) (g : Given) (o : Outgoing) (room n : ℕ) : Type 0 where
  -- "the result is over the message limit (34)"
  pub over : (n ≡ 34) ↔ (max_message < length (encode g o))
  -- "the buffer is too short (35)"
  pub short : (n ≡ 35) ↔ ((length (encode g o) ≤ max_message) × (room < length (encode g o)))
  -- "a given element or field doesn't fit (36)", or lies outside
  pub unfit : (n ≡ 36) ↔ ((length (encode g o) ≤ max_message) × (length (encode g o) ≤ room) × ((inside ≡ false) ⊎ (fits g o ≡ false)))
  -- otherwise it is written
  pub written : (n ≡ 0) ↔ ((length (encode g o) ≤ max_message) × (length (encode g o) ≤ room) × (inside ≡ true) × (fits g o ≡ true))
