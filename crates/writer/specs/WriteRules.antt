-- The call in the paper's words: "Refuse exactly when ..., lowest first, ..., the buffer then as before; otherwise only the result's bytes change."
use Rattle.std.specs.Prelude.{ℕ, List, ◌++◌, ◌≡◌, ◌≢◌, length, drop, Ok, Err}
use Rattle.protocol.specs.declared.Outgoing.{Outgoing}
use Rattle.encoding.specs.Message.{encode}
use Rattle.encoding.specs.WriteRules.{RefusalRules}
use Rattle.given.specs.declared.GivenSpans.{GivenSpans}
use Rattle.given.specs.Spans.{given_of, spans_inside}
use Rattle.writer.specs.Types.{Written}
use Rattle.writer.specs.Write.{write_answer, buffer_after}

-- the refusal that an answer has; 0: none
abbrev pub refusal_in : Written → ℕ
refusal_in (Ok n) = 0
refusal_in (Err k) = k

pub record WriteRules (src : List ℕ) (g : GivenSpans) (o : Outgoing) (buf : List ℕ) (a : Written) (after : List ℕ) : Type 0 where
  -- "Refuse exactly when", "lowest first"
  pub refusal : RefusalRules (spans_inside src g) (given_of src g) o (length buf) (refusal_in a)
  -- "the buffer then as before"; 0 is no refusal
  pub refused : (k : ℕ) → a ≡ Err k → (after ≡ buf) × (k ≢ 0)
  -- "otherwise only the result's bytes change", and the answer says how many
  pub written : (n : ℕ) → a ≡ Ok n → (n ≡ length (encode (given_of src g) o)) × (after ≡ encode (given_of src g) o ++ drop n buf)

abbrev pub Writes : Type 0
Writes = (src : List ℕ) (g : GivenSpans) (o : Outgoing) (buf : List ℕ) → WriteRules src g o buf (write_answer src g o buf) (buffer_after src g o buf)
