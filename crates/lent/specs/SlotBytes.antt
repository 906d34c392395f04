-- A registrar's call changes no slot's bytes but those of the slot in its answer.
use Rattle.std.specs.Prelude.{ℕ, ◌*◌, List, true, ◌≡◌, ◌≢◌, length, get_or}
use Rattle.packed.specs.Bytes.{part, AllBytes}
use Rattle.packed.specs.Table.{transaction_bytes, table_bytes}
use Rattle.lent.specs.HeaderPlaces.{registrar_slot_place}
use Rattle.lent.specs.Calls.{RegistrarCall, registrar_crosses}
use Rattle.lent.specs.Lent.{LentCall, LentWorld, is_made, lent_after, lent_beginning}

-- the bytes of a slot
abbrev pub slot_bytes : (slot : ℕ) → (table : List ℕ) → List ℕ
slot_bytes p t = part (p * transaction_bytes) transaction_bytes t

-- DUSKSTALL_REGISTRAR_SLOT
abbrev pub answer_slot : (answer : List ℕ) → ℕ
answer_slot b = get_or b registrar_slot_place 0

abbrev pub OnlyItsSlot : LentWorld → Type 0
OnlyItsSlot w =
    (c : RegistrarCall) (b : List ℕ)
    → is_made (registrar_crosses c w.table b).code ≡ true
    → (p : ℕ)
    → p ≢ answer_slot (registrar_crosses c w.table b).answer
    → slot_bytes p (registrar_crosses c w.table b).state ≡ slot_bytes p w.table

-- whatever is lent
abbrev pub LentSlots : Type 0
LentSlots = (w : LentWorld) → AllBytes w.table → OnlyItsSlot w

-- after any list of calls: nothing is supposed of the bytes
abbrev pub LentSlotsAfter : Type 0
LentSlotsAfter = (s : List ℕ) → length s ≡ table_bytes → (calls : List LentCall) → OnlyItsSlot (lent_after (lent_beginning s) calls)
