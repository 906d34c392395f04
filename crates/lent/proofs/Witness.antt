-- Two enrolments over lent bytes, from an empty table: the premises hold, and the ends agree.
use Rattle.std.specs.Prelude.{is_some}
use Prim.Native.Nat.{ℕ, ◌<◌, ◌≤◌}
use mathlib.Core.List.{List, [], ◌∷◌, ◌++◌}
use mathlib.Core.Bool.{Bool, true, false, cond}
use mathlib.Core.Option.{Option, none, some}
use mathlib.Core.Path.{◌≡◌, refl, sym, ◌∙◌, ap, subst}
use mathlib.Core.Logic.{◌⊎◌, inl, inr}
use native.Mathlib.Omega.{arith}
use lib.ListN.{length, replicate, get_elem?, length-append, length-set}
use lib.Dec.{ltb}
use Rattle.protocol.specs.Bytes.{zeros}
use Rattle.protocol.specs.declared.EnrolmentState.{EnrolmentState}
use Rattle.protocol.specs.declared.EnrolmentState.TheVariants.{Sure, Declined}
use Rattle.protocol.specs.declared.TransactionState.{TransactionState}
use Rattle.protocol.specs.EndEntity.{end_entity_start}
use Rattle.protocol.specs.Run.{Call, World, BoardEnrolment, beginning, run}
use Rattle.protocol.specs.Agreement.{Fair}
use Rattle.protocol.specs.Witness.{board, ir_bytes, ip_bytes, pki_conf_bytes, enrols, accept_bytes, decline_bytes, board_says, EndsIn}
use Rattle.protocol.proofs.Tests.{none_some, some_some}
use Rattle.protocol.proofs.Witness.{witnesses}
use Rattle.packed.specs.Arrays.{unpack}
use Rattle.packed.specs.Answer.{registrar_answer_bytes, end_entity_answer_bytes}
use Rattle.packed.specs.Table.{table_bytes}
use Rattle.packed.specs.Enrolment.{enrolment_state_number, enrolment_bytes, unpack_enrolment}
use Rattle.duskstall.specs.Boundary.{Crossing, yes, start_crossing}
use Rattle.lent.specs.Calls.{RegistrarMessage, RegistrarIssue, EndEntityMessage}
use Rattle.lent.specs.Lent.{LentCall, AtRegistrar, AtEndEntity, EndEntityStart, call_of, LentEnrolment, LentWorld, enrolments_of, crossing, is_made, lent_step, lent_after, lent_beginning, made, world_of, enrolment_lent}
use Rattle.lent.specs.Made.{Fits}
use Rattle.lent.specs.Places.{enrolment_state, outgoing_recip_nonce}
use Rattle.lent.specs.Header.{FairBytes, IsClose, ClosedBytes, FoundBytes, HeaderAgreement}
use Rattle.lent.specs.Witness.{lent_enrols, LentEnds, LentWitnesses}
use Rattle.lent.proofs.Events.{Adds, call_adds}
use Rattle.lent.proofs.Stand.{Stands}
use Rattle.lent.proofs.Places.{shown, held_bytes_lem, said}
use Rattle.lent.proofs.Premises.{same_premise}
use Rattle.lent.proofs.Header.{header_demand3}
use Rattle.lent.proofs.Theorem.{lent_step_lem, begins, lent_runs, step_if}
use Rattle.lent.proofs.Made.{some_at, is_made_lem}

-- ## Calls whose arrays have their lengths

abbrev AllFit : LentWorld → List LentCall → Type 0
AllFit l [] = Unit {0}
AllFit l (c ∷ cs) = Fits l c × AllFit (lent_step l c) cs

abbrev calls_of : List LentCall → List Call
calls_of [] = []
calls_of (c ∷ cs) = call_of c ∷ calls_of cs

all_made : (cs : List LentCall) (l : LentWorld) (w : World) → Stands l w → AllFit l cs → made l cs ≡ calls_of cs
unfolding made
all_made [] l w st h = refl
all_made (c ∷ cs) l w st h = rw (is_made_lem l w st c h.0, all_made cs (lent_step l c) (step_if (is_made (crossing l c).code) w (call_of c)) (lent_step_lem l w st c) h.1)

-- a call takes no enrolment away
grown : (b : Bool) (es : List LentEnrolment) (e : LentEnrolment) → length es ≤ length (cond b (es ++ (e ∷ [])) es)
grown true es e = omega (arith, length-append es (e ∷ []))
grown false es e = omega arith

kept : (w : LentWorld) (c : LentCall) (k : ℕ) (e : Option LentEnrolment) (x : Crossing) → length w.enrolments ≤ length (enrolment_lent w c k e x).enrolments
kept w c k none x = omega arith
kept w c k (some e) x = omega (arith, length-set w.enrolments k (record { board = e.board; bytes = x.state }))

stays : (l : LentWorld) (c : LentCall) → length l.enrolments ≤ length (lent_step l c).enrolments
unfolding lent_step
stays l (AtRegistrar c b) = omega arith
stays l (AtEndEntity k c b) = kept l _ k (get_elem? l.enrolments k) _
stays l (EndEntityStart d s k i n b) = let x : Crossing = crossing l (EndEntityStart d s k i n b) in grown (ltb x.code 2) l.enrolments (record { board = d; bytes = x.state })

-- only a close closes
pub still_open : (i n : List ℕ) (l : LentWorld) (c : LentCall) → (IsClose i c → ⊥) → (ClosedBytes i n l.past → ⊥) → ClosedBytes i n (lent_step l c).past → ⊥
still_open i n l c d f h = let a : Adds l c (crossing l c) (lent_step l c).past = call_adds l c in go a (subst (ClosedBytes i n) a.adds h)
  where
    go : (a : Adds l c (crossing l c) (lent_step l c).past) → ClosedBytes i n (a.event ∷ l.past) → ⊥
    go a (inl x) = d (subst (IsClose i) a.call x.1)
    go a (inr x) = f x

says-state : (w : World) (x : BoardEnrolment) (b : EnrolmentState) → get_elem? w.enrolments 0 ≡ some x → board_says w ≡ some b → x.enrolment.state ≡ b
unfolding board_says
says-state w x b h q = some_some (rw (h, board_says) at q)

open_slot : {A B : Type 0} → A ⊎ B → (A → ⊥) → B
open_slot (inl x) d = absurd (d x)
open_slot (inr x) d = x

-- ## One enrolment

module _ (s : List ℕ) (e : length s ≡ table_bytes) (accept : ℕ) (confirm : List ℕ) where
  abbrev l₁ : LentWorld
  l₁ = lent_step (lent_beginning s) (EndEntityStart board (zeros enrolment_bytes) 0 (replicate 16 0x11) (replicate 16 1) (zeros end_entity_answer_bytes))

  started : length l₁.enrolments ≡ 1
  unfolding lent_step start_crossing end_entity_start unpack
  started = refl

  abbrev l₂ : LentWorld
  l₂ = lent_step l₁ (AtRegistrar (RegistrarMessage ir_bytes 1 5 (replicate 16 2)) (zeros registrar_answer_bytes))

  abbrev l₃ : LentWorld
  l₃ = lent_step l₂ (AtRegistrar (RegistrarIssue (replicate 16 0x11) (replicate 16 3) (replicate 32 0xAB)) (zeros registrar_answer_bytes))

  abbrev l₄ : LentWorld
  l₄ = lent_step l₃ (AtEndEntity 0 (EndEntityMessage ip_bytes 1 accept (replicate 32 0xAB) (replicate 16 4)) (zeros end_entity_answer_bytes))

  abbrev l₅ : LentWorld
  l₅ = lent_step l₄ (AtRegistrar (RegistrarMessage confirm 1 5 (replicate 16 5)) (zeros registrar_answer_bytes))

  abbrev l₆ : LentWorld
  l₆ = lent_after (lent_beginning s) (lent_enrols accept confirm)

  there₃ : 0 < length l₃.enrolments
  there₃ =
      omega (
        arith,
        started,
        stays l₁ (AtRegistrar (RegistrarMessage ir_bytes 1 5 (replicate 16 2)) (zeros registrar_answer_bytes)),
        stays l₂ (AtRegistrar (RegistrarIssue (replicate 16 0x11) (replicate 16 3) (replicate 32 0xAB)) (zeros registrar_answer_bytes)),
      )

  there₅ : 0 < length l₅.enrolments
  there₅ =
      omega (
        arith,
        there₃,
        stays l₃ (AtEndEntity 0 (EndEntityMessage ip_bytes 1 accept (replicate 32 0xAB) (replicate 16 4)) (zeros end_entity_answer_bytes)),
        stays l₄ (AtRegistrar (RegistrarMessage confirm 1 5 (replicate 16 5)) (zeros registrar_answer_bytes)),
      )

  there₆ : 0 < length l₆.enrolments
  unfolding lent_after
  there₆ = omega (arith, there₅, stays l₅ (AtEndEntity 0 (EndEntityMessage pki_conf_bytes 1 accept (replicate 32 0xAB) (replicate 16 6)) (zeros end_entity_answer_bytes)))

  fit : AllFit (lent_beginning s) (lent_enrols accept confirm)
  fit = (
    (refl, refl, refl, omega arith),
    (
      (refl, omega arith),
      (
        ((refl, refl, refl), omega arith),
        (
          (there₃, (refl, refl), omega arith),
          (
            (refl, omega arith),
            (
              (there₅, (refl, refl), omega arith),
              tt,
            ),
          ),
        ),
      ),
    ),
  )

  calls_are : made (lent_beginning s) (lent_enrols accept confirm) ≡ enrols (yes accept) confirm
  unfolding unpack
  calls_are = all_made (lent_enrols accept confirm) (lent_beginning s) beginning (begins s e) fit

  same : world_of l₆ ≡ run (enrols (yes accept) confirm)
  same = (lent_runs s e (lent_enrols accept confirm)).same ∙ ap run calls_are

  -- no close is among the calls
  not_closed : (i n : List ℕ) → ClosedBytes i n l₆.past → ⊥
  unfolding lent_after
  not_closed i n =
      still_open i n l₅ _ (λ h. h) (still_open i n l₄ _ none_some (still_open i n l₃ _ (λ h. h) (still_open i n l₂ _ none_some (still_open i n l₁ _ none_some (still_open i n (lent_beginning s) _ (λ h. h) (λ h. h))))))

  module _ (b : EnrolmentState) (r : TransactionState) (ends_in_lem : EndsIn (enrols (yes accept) confirm) b r) where
    fair : FairBytes l₆.past
    fair = (same_premise s (lent_enrols accept confirm)).1 (subst (λ (w : World). Fair w.past) (sym same) ends_in_lem.fair)

    -- the state's number is that of Sure or Declined, for which the agreement finds the transaction
    ends : ((x : LentEnrolment) → HeaderAgreement l₆ → get_elem? l₆.enrolments 0 ≡ some x → enrolment_state x.bytes ≡ enrolment_state_number b → FoundBytes l₆ x (enrolment_state_number b))
        → LentEnds s (lent_enrols accept confirm) (enrolment_state_number b)
    ends find =
        let g : (x : LentEnrolment) × (get_elem? l₆.enrolments 0 ≡ some x) = some_at l₆.enrolments 0 there₆ in
        let h : (get_elem? (enrolments_of l₆.enrolments) 0 ≡ some (shown g.0)) × (is_some (unpack_enrolment g.0.bytes) ≡ true) = held_bytes_lem l₆.enrolments (lent_runs s e (lent_enrols accept confirm)).enrolments 0 g.0 g.1 in
        let state : enrolment_state g.0.bytes ≡ enrolment_state_number b = said g.0.bytes h.1 b (says-state (world_of l₆) (shown g.0) b h.0 (ap board_says same ∙ ends_in_lem.says)) in
        let agrees : HeaderAgreement l₆ = header_demand3 s e (lent_enrols accept confirm) fair in
        let f : FoundBytes l₆ g.0 (enrolment_state_number b) = find g.0 agrees g.1 state in
        record { fair = fair; agrees = agrees; held = g.0; holds = g.1; says = state; nonce = outgoing_recip_nonce f.0; slot = open_slot f.3 (not_closed _ _) }

pub lent_witnesses : LentWitnesses
lent_witnesses =
    record {
      accepted = ends (zeros table_bytes) refl 1 accept_bytes Sure _ witnesses.accepted (λ x a. a.sure 0 x);
      declined = ends (zeros table_bytes) refl 0 decline_bytes Declined _ witnesses.declined (λ x a. a.declined 0 x);
    }
