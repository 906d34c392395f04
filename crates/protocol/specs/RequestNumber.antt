-- The request number (certReqId) of a record, and where a message has another, in the words of M-100.
use Rattle.std.specs.Prelude.{ℕ, ◌≡◌, ◌⊎◌, ◌≢◌}
use Rattle.std.proofs.Math.Option.{some}
use Rattle.grammar.specs.declared.Message.{Message}
use Rattle.protocol.specs.declared.TransactionId.{TransactionId}
use Rattle.protocol.specs.declared.Transaction.{Transaction}
use Rattle.protocol.specs.declared.TransactionTable.{TransactionTable}
use Rattle.protocol.specs.declared.Enrolment.{Enrolment}
use Rattle.protocol.specs.Table.{lookup}

-- "-1 for p10cr", "0 for the others", of a record of this kind: -1 in four bytes, two's complement
abbrev pub NumberIs : (kind : ℕ) → (number : ℕ) → Type 0
NumberIs k n = ((k ≡ 4) × (n ≡ 0xFFFFFFFF)) ⊎ ((k ≢ 4) × (n ≡ 0))

-- "by the record's own kind": the one entry of a certConf has another number than the transaction with its id i, or that of an ir, cr
-- or kur another than 0
abbrev pub OtherAtRegistrar : TransactionTable → TransactionId → Message → Type 0
OtherAtRegistrar t i m =
    (m.body.entries ≡ 1)
    × (((m.body.kind ≡ 24) × (r : Transaction) × (lookup t.transactions i ≡ some r) × (NumberIs r.kind m.body.entry.number → ⊥))
    ⊎ (((m.body.kind ≡ 0) ⊎ (m.body.kind ≡ 2) ⊎ (m.body.kind ≡ 7)) × (m.body.entry.number ≢ 0)))

-- the one entry of an ip, cp or kup has another number than the enrolment
abbrev pub OtherAtEndEntity : Enrolment → Message → Type 0
OtherAtEndEntity x m =
    (m.body.entries ≡ 1)
    × ((m.body.kind ≡ 1) ⊎ (m.body.kind ≡ 3) ⊎ (m.body.kind ≡ 8))
    × (NumberIs x.kind m.body.entry.number → ⊥)
