-- The table after any list of calls, and refusal 11. Full is said by the slots alone; of the steps' definitions `lookup` is used, and in
-- Means11 the rows, for those below 11.
use Rattle.std.specs.Prelude.{ℕ, ◌<◌, List, ◌≡◌, ◌≢◌, length, Ok, Some}
use Rattle.std.proofs.Math.Option.{none, some}
use Rattle.std.proofs.Math.ListN.{get_elem?}
use Rattle.message.specs.Read.{reading_of}
use Rattle.grammar.specs.declared.Message.{Message}
use Rattle.protocol.specs.declared.Board.{Board}
use Rattle.protocol.specs.declared.RegistrarInput.{RegistrarInput}
use Rattle.protocol.specs.declared.Transaction.{Transaction}
use Rattle.protocol.specs.declared.TransactionTable.{TransactionTable}
use Rattle.protocol.specs.declared.TransactionState.TheVariants.{Free}
use Rattle.protocol.specs.declared.Outcome.TheVariants as outcome
use Rattle.protocol.specs.Bytes.{as_id}
use Rattle.protocol.specs.Message.{fields_of}
use Rattle.protocol.specs.Table.{capacity, lookup}
use Rattle.protocol.specs.RegistrarRows.{registrar_rows}
use Rattle.protocol.specs.Registrar.{registrar_message}
use Rattle.protocol.specs.Run.{Call, run}
use Rattle.protocol.specs.Request.{IsRequest, Opening}
use Rattle.protocol.specs.MessageRules.{Means}

-- no call adds a slot or loses one
abbrev pub SlotsStay : Type 0
SlotsStay = (calls : List Call) → length (run calls).table.transactions ≡ capacity

-- "no free place": each of the table's slots holds a transaction in use
abbrev pub Full : TransactionTable → Type 0
Full t = (p : ℕ) → p < capacity → (r : Transaction) × (get_elem? t.transactions p ≡ some r) × (r.state ≢ Free)

-- 11, bit 24: "opening, no free place", in every table that calls reach
abbrev pub Means11 : Type 0
Means11 =
    (calls : List Call) (d : RegistrarInput) (bytes : List ℕ) (m : Message) → reading_of bytes ≡ Ok m
    → (let t : TransactionTable = (run calls).table in
    Means 11 (Some 24) (IsRequest m.body.kind × Full t)
    (registrar_rows t.transactions (lookup t.transactions (as_id (fields_of bytes m).id)) d.verdict (fields_of bytes m))
    (registrar_message t d bytes).outcome)

-- and a request that another table would open is refused so by one that is full and has not its id
abbrev pub FullRefuses : Type 0
FullRefuses =
    (calls : List Call) (d : RegistrarInput) (bytes : List ℕ) (m : Message) (b : Board) (other : TransactionTable) (c : Opening other d bytes m b)
    → Full (run calls).table
    → lookup (run calls).table.transactions c.id ≡ none
    → (registrar_message (run calls).table d bytes).outcome ≡ outcome.Refused 11 (Some 24)
