-- Calls over lent bytes: a fault of the bytes ends the call with nothing changed; else the answer of the call goes back.
use Rattle.std.specs.Prelude.{Result, leb}
use Prim.Native.Nat.{ℕ}
use mathlib.Core.List.{List}
use mathlib.Core.Bool.{Bool, true, false}
use mathlib.Core.Path.{◌≡◌, refl}
use lib.Dec.{eqb}
use lib.ListN.{length}
use Rattle.protocol.specs.declared.RegistrarAnswer.{RegistrarAnswer}
use Rattle.protocol.specs.declared.EndEntityAnswer.{EndEntityAnswer}
use Rattle.packed.specs.Enrolment.{enrolment_bytes}
use Rattle.packed.specs.Answer.{registrar_answer_bytes, end_entity_answer_bytes}
use Rattle.duskstall.specs.declared.boundary.BoundaryFault.{BoundaryFault}
use Rattle.duskstall.specs.Boundary.{Crossing, Crosses, boundary_fault, unless_faulty, answered_if, returned, registrar_written, registrar_answered, end_entity_written, end_entity_answered, start_written, start_crossing}

-- the faults that a call found before, and the room for its answer, are the boundary's
same : {A : Type 0} (ok args room : Bool) (a : A) (f : A → Crossing) (s b : List ℕ) → returned (answered_if ok args a) room f s b ≡ unless_faulty (boundary_fault ok args room) s b (f a)
same true true true a f s b = refl
same true true false a f s b = refl
same true false room a f s b = refl
same false args room a f s b = refl

module _ (k : ℕ) (s s' b b' : List ℕ) where
  crosses : {A : Type 0} (ok args room : Bool) (a : A) (f : A → Crossing) (r : Result A BoundaryFault) → r ≡ answered_if ok args a → Crosses k s' b' (returned r room f s b)
      → Crosses k s' b' (unless_faulty (boundary_fault ok args room) s b (f a))
  crosses ok args room a f r e h = rw (← same ok args room a f s b, ← e) h

  pub registrar_crosses : (ok args : Bool) (a : RegistrarAnswer) (r : Result RegistrarAnswer BoundaryFault) → r ≡ answered_if ok args a
      → Crosses k s' b' (returned r (leb registrar_answer_bytes (length b)) (λ x. registrar_written x s b) s b) → Crosses k s' b' (registrar_answered ok args a s b)
  unfolding registrar_answered
  registrar_crosses ok args a r e h = crosses ok args (leb registrar_answer_bytes (length b)) a (λ x. registrar_written x s b) r e h

  pub end_entity_crosses : (ok args : Bool) (a : EndEntityAnswer) (r : Result EndEntityAnswer BoundaryFault) → r ≡ answered_if ok args a
      → Crosses k s' b' (returned r (leb end_entity_answer_bytes (length b)) (λ x. end_entity_written x s b) s b) → Crosses k s' b' (end_entity_answered ok args a s b)
  unfolding end_entity_answered
  end_entity_crosses ok args a r e h = crosses ok args (leb end_entity_answer_bytes (length b)) a (λ x. end_entity_written x s b) r e h

  pub start_crosses : (args : Bool) (a : EndEntityAnswer) (r : Result EndEntityAnswer BoundaryFault) → r ≡ answered_if (eqb (length s) enrolment_bytes) args a
      → Crosses k s' b' (returned r (leb end_entity_answer_bytes (length b)) (λ x. start_written x s b) s b) → Crosses k s' b' (start_crossing args a s b)
  unfolding start_crossing
  start_crosses args a r e h = crosses (eqb (length s) enrolment_bytes) args (leb end_entity_answer_bytes (length b)) a (λ x. start_written x s b) r e h
