-- What the call does, in the paper's words.
use Rattle.std.specs.Prelude.{Ok, Err}
use Prim.Native.Nat.{ℕ, ◌+◌, ◌≤◌}
use mathlib.Core.List.{List, ◌++◌}
use mathlib.Core.Bool.{Bool, true, false, cond, true≢false}
use mathlib.Core.Path.{◌≡◌, refl, sym, ◌∙◌, ap, subst}
use native.Mathlib.Omega.{arith}
use borrow.Author.Tests.{eqb-true, eqb-false}
use lib.ListN.{length, drop}
use lib.Seq.{sets, sets-eq}
use lib.Dec.{eqb}
use Rattle.protocol.specs.declared.Outgoing.{Outgoing}
use Rattle.encoding.specs.Message.{encode}
use Rattle.encoding.specs.WriteRules.{RefusalRules}
use Rattle.encoding.proofs.Refusals.{refusals}
use Rattle.given.specs.declared.GivenSpans.{GivenSpans}
use Rattle.given.specs.Spans.{given_of, spans_inside}
use Rattle.writer.specs.Types.{Written}
use Rattle.writer.specs.Write.{write_refusal, write_answer, buffer_after}
use Rattle.writer.specs.WriteRules.{refusal_in, WriteRules, Writes}

-- the two constructors are apart
abbrev size_in : Written → ℕ
size_in (Ok n) = n
size_in (Err k) = 0

abbrev is_bytes : Written → Bool
is_bytes (Ok n) = true
is_bytes (Err k) = false

module _ (src : List ℕ) (g : GivenSpans) (o : Outgoing) (buf : List ℕ) where
  abbrev message : List ℕ
  message = encode (given_of src g) o

  rules : RefusalRules (spans_inside src g) (given_of src g) o (length buf) (write_refusal src g o buf)
  rules = refusals (spans_inside src g) (given_of src g) o (length buf)

  by : (b : Bool) → eqb (write_refusal src g o buf) 0 ≡ b
      → WriteRules src g o buf (cond b (Ok (length message)) (Err (write_refusal src g o buf))) (cond b (sets buf 0 message) buf)
  by true e =
      let z = eqb-true (write_refusal src g o buf) 0 e in
      let room : length message ≤ length buf = (rules.written.0 z).1 in
      record {
        refusal = subst (RefusalRules (spans_inside src g) (given_of src g) o (length buf)) z rules;
        refused = λ k q. absurd (true≢false (ap is_bytes q));
        written = λ n q.
            let size : length message ≡ n = ap size_in q in
            let end : 0 + length message ≡ n = omega (arith, size) in
            (sym size, sets-eq message buf 0 (omega (arith, room)) ∙ ap (λ (k : ℕ). message ++ drop k buf) end);
      }
  by false e = record {
    refusal = rules;
    refused = λ k q. (refl, λ z. eqb-false (write_refusal src g o buf) 0 e (ap refusal_in q ∙ z));
    written = λ n q. absurd (true≢false (sym (ap is_bytes q)));
  }

-- WRITES
pub writes : Writes
unfolding write_answer buffer_after
writes src g o buf = by src g o buf (eqb (write_refusal src g o buf) 0) refl
