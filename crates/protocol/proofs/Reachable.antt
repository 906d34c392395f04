-- After any list of calls at all, an id has at most one transaction in use, and what is not set is zero.
use Prim.Native.Nat.{ℕ, zero, suc}
use mathlib.Core.List.{List, [], ◌∷◌}
use mathlib.Core.Option.{Option, none, some}
use mathlib.Core.Path.{◌≡◌, sym, ap, subst}
use lib.ListN.{get_elem?, replicate}
use Rattle.protocol.specs.declared.Board.{Board}
use Rattle.protocol.specs.declared.TransactionId.{TransactionId}
use Rattle.protocol.specs.declared.Transaction.{Transaction}
use Rattle.protocol.specs.declared.TransactionTable.{TransactionTable}
use Rattle.protocol.specs.declared.Enrolment.{Enrolment}
use Rattle.protocol.specs.declared.RegistrarAnswer.{RegistrarAnswer}
use Rattle.protocol.specs.declared.EndEntityAnswer.{EndEntityAnswer}
use Rattle.protocol.specs.Table.{free_transaction, empty_table, capacity}
use Rattle.protocol.specs.EndEntity.{end_entity_start, end_entity_message, end_entity_time_out}
use Rattle.protocol.specs.Run.{World, Call, start_did, BoardEnrolment, enrolment_did, step, Start, unless_refused, Refuse, ToRegistrar, ToEndEntity, Issue, Lapse, Close, TimeOut, after, run, beginning}
use Rattle.protocol.specs.Promises.{AtMostOne, AllUnsetZero, UnsetZero, RegistrarPromise, registrar_numbers, host_numbers}
use Rattle.protocol.proofs.Tests.{none_some, some_some}
use Rattle.protocol.proofs.RegistrarPromises.{free-unset, message-promise, issue-promise, refuse-promise, lapse-promise, close-promise}

pub record Sound (t : TransactionTable) : Type 0 where
  pub one : AtMostOne t
  pub unset : AllUnsetZero t

-- ## The beginning

free-at : (n p : ℕ) (r : Transaction) → get_elem? (replicate n free_transaction) p ≡ some r → free_transaction ≡ r
free-at zero p r e = none_some e
free-at (suc n) zero r e = some_some e
free-at (suc n) (suc p) r e = free-at n p r e

empty_sound : Sound empty_table
unfolding empty_table
empty_sound =
    record {
      one = λ p q r s a b f g e. absurd (f (ap (λ (y : Transaction). y.state) (sym (free-at capacity p r a))));
      unset = λ p r a. subst UnsetZero (free-at capacity p r a) free-unset;
    }

-- ## A call

by_promise : (ns : List ℕ) (t : TransactionTable) (a : RegistrarAnswer) → RegistrarPromise ns t a → Sound t → Sound a.table
by_promise ns t a p s = record { one = p.one s.one; unset = p.unset s.unset }

start-table : (w : World) (c : Call) (b : Board) (a : EndEntityAnswer) (d : Option TransactionId) → Sound w.table → Sound (start_did w c b a d).table
start-table w c b a none s = s
start-table w c b a (some i) s = s

enrolment-table : (w : World) (c : Call) (k : ℕ) (f : Enrolment → EndEntityAnswer) (x : Option BoardEnrolment) → Sound w.table → Sound (enrolment_did w c k x f).table
enrolment-table w c k f none s = s
enrolment-table w c k f (some x) s = s

step_sound : (w : World) (c : Call) → Sound w.table → Sound (step w c).table
unfolding step
step_sound w (Start b k i n) s = start-table w (Start b k i n) b (end_entity_start k i n) (unless_refused (end_entity_start k i n).outcome i) s
step_sound w (ToRegistrar bytes d) s = by_promise registrar_numbers w.table _ (message-promise w.table d bytes) s
step_sound w (ToEndEntity k bytes d) s = enrolment-table w (ToEndEntity k bytes d) k (λ x. end_entity_message x d bytes) (get_elem? w.enrolments k) s
step_sound w (Issue i h n) s = by_promise host_numbers w.table _ (issue-promise w.table i n h) s
step_sound w (Refuse i n) s = by_promise host_numbers w.table _ (refuse-promise w.table i n) s
step_sound w (Lapse i) s = by_promise host_numbers w.table _ (lapse-promise w.table i) s
step_sound w (Close i) s = by_promise host_numbers w.table _ (close-promise w.table i) s
step_sound w (TimeOut k) s = enrolment-table w (TimeOut k) k end_entity_time_out (get_elem? w.enrolments k) s

after_sound : (cs : List Call) (w : World) → Sound w.table → Sound (after w cs).table
unfolding after
after_sound [] w s = s
after_sound (c ∷ cs) w s = after_sound cs (step w c) (step_sound w c s)

pub reachable : (calls : List Call) → Sound (run calls).table
reachable calls = after_sound calls beginning empty_sound
