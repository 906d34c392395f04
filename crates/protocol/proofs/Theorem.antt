-- Demand 3: after any list of fair calls from the beginning, the registrar and its boards agree.
use Rattle.std.specs.Prelude.{Some}
use Prim.Native.Nat.{ℕ}
use mathlib.Core.List.{List, [], ◌∷◌}
use mathlib.Core.Bool.{Bool, true, false, cond}
use mathlib.Core.Option.{Option, none, some}
use mathlib.Core.Path.{◌≡◌, refl, sym, ◌∙◌, subst}
use lib.ListN.{get_elem?, set}
use Rattle.protocol.specs.declared.Board.{Board}
use Rattle.protocol.specs.declared.TransactionId.{TransactionId}
use Rattle.protocol.specs.declared.FreshNonce.{FreshNonce}
use Rattle.protocol.specs.declared.Enrolment.{Enrolment}
use Rattle.protocol.specs.declared.RegistrarAnswer.{RegistrarAnswer}
use Rattle.protocol.specs.declared.EndEntityAnswer.{EndEntityAnswer}
use Rattle.protocol.specs.declared.Outcome.TheVariants.{Done}
use Rattle.protocol.proofs.RegistrarMessage as at_registrar
use Rattle.protocol.proofs.EndEntityForms as forms
use Rattle.protocol.proofs.EndEntitySteps as at_board
use Rattle.protocol.specs.Message.{is_starting_kind}
use Rattle.protocol.specs.Refusals.{no_fault}
use Rattle.protocol.specs.Outgoing.{request_out}
use Rattle.protocol.specs.Registrar.{registrar_message, registrar_issue, registrar_refuse, registrar_lapse, registrar_close}
use Rattle.protocol.specs.EndEntity.{end_entity_start, end_entity_message, end_entity_time_out, started_enrolment, enrolment_refused, no_enrolment}
use Rattle.protocol.specs.Run.{beginning, World, Call, Event, start_did, BoardEnrolment, enrolment_did, step, Start, unless_refused, Refuse, ToRegistrar, ToEndEntity, Issue, Lapse, Close, TimeOut, after, sent_by, registrar_did, run}
use Rattle.protocol.specs.Agreement.{Fair, SenderIssued, Demand3}
use Rattle.protocol.proofs.Tests.{none_some}
use Rattle.protocol.proofs.Lookup.{lookup-empty, unique_empty}
use Rattle.protocol.proofs.Invariant.{Inv, At}
use Rattle.protocol.proofs.Preserve.{board_preserves, nowhere_preserves, registrar_preserves}
use Rattle.protocol.proofs.Consequence.{agreement}
use Rattle.protocol.proofs.RegistrarSteps.{StepOf, open_still, issue-step, refuse-step, lapse-step, close-step}

-- ## The beginning

begins : Inv beginning
begins =
    record {
      stands = λ b o i k. absurd i;
      sent = λ k x s h t. none_some h;
      answered = λ k x h t. none_some h;
      acknowledges = λ p i k. absurd i;
      responded = λ i r h t. none_some (sym (lookup-empty i) ∙ h);
      settled = λ i r s h t. none_some (sym (lookup-empty i) ∙ h);
      said = λ i h. absurd h;
      drawn = λ k x h. none_some h;
      distinct = λ j k x y h h' e. none_some h;
      unique = unique_empty;
    }

-- ## A call adds one event

start_grows : (w : World) (c : Call) (b : Board) (a : EndEntityAnswer) (d : Option TransactionId) → (e : Event) × ((start_did w c b a d).past ≡ e ∷ w.past)
start_grows w c b a none = (_, refl)
start_grows w c b a (some i) = (_, refl)

enrolment_grows : (w : World) (c : Call) (k : ℕ) (f : Enrolment → EndEntityAnswer) (x : Option BoardEnrolment) → (e : Event) × ((enrolment_did w c k x f).past ≡ e ∷ w.past)
enrolment_grows w c k f none = (_, refl)
enrolment_grows w c k f (some x) = (_, refl)

grows : (w : World) (c : Call) → (e : Event) × ((step w c).past ≡ e ∷ w.past)
unfolding step
grows w (Start b k i n) = start_grows w (Start b k i n) b (end_entity_start k i n) (unless_refused (end_entity_start k i n).outcome i)
grows w (ToRegistrar bytes d) = (_, refl)
grows w (ToEndEntity k bytes d) = enrolment_grows w (ToEndEntity k bytes d) k (λ x. end_entity_message x d bytes) (get_elem? w.enrolments k)
grows w (Issue i h n) = (_, refl)
grows w (Refuse i n) = (_, refl)
grows w (Lapse i) = (_, refl)
grows w (Close i) = (_, refl)
grows w (TimeOut k) = enrolment_grows w (TimeOut k) k end_entity_time_out (get_elem? w.enrolments k)

fair-step : (w : World) (c : Call) → Fair (step w c).past → Fair w.past
fair-step w c f = let g : (e : Event) × ((step w c).past ≡ e ∷ w.past) = grows w c in (subst Fair g.1 f).1

fair-after : (cs : List Call) (w : World) → Fair (after w cs).past → Fair w.past
unfolding after
fair-after [] w f = f
fair-after (c ∷ cs) w f = fair-step w c (fair-after cs (step w c) f)

-- ## A call leaves the invariant standing

abbrev did : World → Board → ℕ → TransactionId → FreshNonce → EndEntityAnswer → World
did w b k i n a = start_did w (Start b k i n) b a (unless_refused a.outcome i)

start-at : (w : World) (b : Board) (k : ℕ) (i : TransactionId) (n : FreshNonce) → Inv w → (t : Bool) → is_starting_kind k ≡ t
    → (let a : EndEntityAnswer = cond t (record { outcome = Done; fault = no_fault; outgoing = Some (request_out k i n); enrolment = started_enrolment k i n }) (enrolment_refused 32 no_enrolment) in Fair (did w b k i n a).past → Inv (did w b k i n a))
start-at w b k i n v true o f = board_preserves w (Start b k i n) b (some (request_out k i n)) (some i) (forms.more w v b k i n) v f.0.id (forms.start-step w v b k i n o)
start-at w b k i n v false o f = board_preserves w (Start b k i n) b none none w.enrolments v f.0.id (forms.board-none w v b)

enrolment-at : (w : World) (v : Inv w) (c : Call) (k : ℕ) (f : Enrolment → EndEntityAnswer) (x : Option BoardEnrolment) → get_elem? w.enrolments k ≡ x
    → Fair (enrolment_did w c k x f).past
    → (SenderIssued c w.past → (y : BoardEnrolment) (h : At w.enrolments k y) → at_board.EnrolmentStep w v k y h (f y.enrolment))
    → Inv (enrolment_did w c k x f)
enrolment-at w v c k f none h q s = nowhere_preserves w c v
enrolment-at w v c k f (some y) h q s =
    board_preserves
    w
    c
    y.board
    (sent_by (f y.enrolment).outgoing)
    none
    (set w.enrolments k (record { board = y.board; enrolment = (f y.enrolment).enrolment }))
    v
    q.0.id
    (s q.0.verdict y h)

registrar_at : (w : World) (v : Inv w) (c : Call) (cl : RegistrarAnswer → Option TransactionId) (a : RegistrarAnswer) → StepOf w v cl a → Inv (registrar_did w c (cl a) a)
registrar_at w v c cl a s = registrar_preserves w c (sent_by a.outgoing) (cl a) a.table v s

step_preserves : (w : World) (c : Call) → Inv w → Fair (step w c).past → Inv (step w c)
unfolding step end_entity_start
step_preserves w (Start b k i n) v f = start-at w b k i n v (is_starting_kind k) refl f
step_preserves w (ToRegistrar bytes d) v f = registrar_at w v (ToRegistrar bytes d) (open_still w v) (registrar_message w.table d bytes) (at_registrar.message-step w v bytes d f.0.verdict)
step_preserves w (ToEndEntity k bytes d) v f =
    enrolment-at w v (ToEndEntity k bytes d) k (λ x. end_entity_message x d bytes) (get_elem? w.enrolments k) refl f (λ q y e. at_board.message-step w v k y e bytes d q)
step_preserves w (Issue i h n) v f = registrar_at w v (Issue i h n) (open_still w v) (registrar_issue w.table i n h) (issue-step w v i n h)
step_preserves w (Refuse i n) v f = registrar_at w v (Refuse i n) (open_still w v) (registrar_refuse w.table i n) (refuse-step w v i n)
step_preserves w (Lapse i) v f = registrar_at w v (Lapse i) (open_still w v) (registrar_lapse w.table i) (lapse-step w v i)
step_preserves w (Close i) v f = registrar_at w v (Close i) (λ a. unless_refused a.outcome i) (registrar_close w.table i) (close-step w v i)
step_preserves w (TimeOut k) v f = enrolment-at w v (TimeOut k) k end_entity_time_out (get_elem? w.enrolments k) refl f (λ q y e. at_board.time_out_step w v k y e)

after_preserves : (cs : List Call) (w : World) → Inv w → Fair (after w cs).past → Inv (after w cs)
unfolding after
after_preserves [] w v f = v
after_preserves (c ∷ cs) w v f = after_preserves cs (step w c) (step_preserves w c v (fair-after cs (step w c) f)) f

pub demand3 : Demand3
demand3 calls fair = agreement (run calls) (after_preserves calls beginning begins fair) fair
