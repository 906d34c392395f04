-- Demand 3 needs a host that lends the bytes as they were left: one that lends an empty table again loses what an end entity is sure of.
use Rattle.std.specs.Prelude.{ℕ, List, [], ◌∷◌, ◌++◌, ◌≡◌}
use Rattle.std.proofs.Math.Option.{some}
use Rattle.std.proofs.Math.ListN.{get_elem?}
use Rattle.protocol.specs.Bytes.{zeros}
use Rattle.protocol.specs.Table.{empty_table}
use Rattle.packed.specs.Answer.{registrar_answer_bytes}
use Rattle.packed.specs.Table.{table_bytes, pack_table}
use Rattle.lent.specs.Calls.{RegistrarLapse}
use Rattle.lent.specs.Lent.{LentCall, AtRegistrar, LentEnrolment, crossing, lent_after, lent_beginning}
use Rattle.lent.specs.Places.{enrolment_state}
use Rattle.lent.specs.Header.{IsClose, FairBytes, HeaderAgreement}
use Rattle.lent.specs.OtherBytes.{HostCall, lent_by, host_after, as_left}

-- a lapse for an id that no transaction has, and the bytes of an empty table: those that the first call was lent
abbrev pub forgetful : HostCall
forgetful = record { call = AtRegistrar (RegistrarLapse (zeros 16)) (zeros registrar_answer_bytes); state = pack_table empty_table }

-- the premises of demand 3 hold after these calls, and its claim does not
pub record Disagrees (s : List ℕ) (hs : List HostCall) : Type 0 where
  pub fair : FairBytes (host_after (lent_beginning s) hs).past
  pub fails : HeaderAgreement (host_after (lent_beginning s) hs) → ⊥

abbrev pub NoneCloses : List LentCall → Type 0
NoneCloses [] = Unit {0}
NoneCloses (c ∷ cs) = ((i : List ℕ) → IsClose i c → ⊥) × NoneCloses cs

pub record Forgotten (s : List ℕ) (calls : List LentCall) : Type 0 where
  -- the call itself is refused, so it changes no byte of the table it was lent
  pub refused : (crossing (lent_by (lent_after (lent_beginning s) calls) forgetful) forgetful.call).code ≡ 2
  pub unchanged : (crossing (lent_by (lent_after (lent_beginning s) calls) forgetful) forgetful.call).state ≡ pack_table empty_table
  pub disagrees : Disagrees s (as_left (lent_beginning s) calls ++ (forgetful ∷ []))

-- whenever an enrolment says Sure and nothing was closed
abbrev pub ForgottenTable : Type 0
ForgottenTable =
    (s : List ℕ)
    → (calls : List LentCall)
    → NoneCloses calls
    → FairBytes (lent_after (lent_beginning s) calls).past
    → (k : ℕ) (e : LentEnrolment)
    → get_elem? (lent_after (lent_beginning s) calls).enrolments k ≡ some e
    → enrolment_state e.bytes ≡ 3
    → Forgotten s calls

-- and there is such a list
abbrev pub PremiseNeeded : Type 0
PremiseNeeded = (hs : List HostCall) × Disagrees (zeros table_bytes) hs
