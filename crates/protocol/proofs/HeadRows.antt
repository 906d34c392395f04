-- The rows 3 to 7 refuse no message that has what every message must have, at either end.
use Prim.Native.Nat.{ℕ}
use mathlib.Core.List.{List, ◌++◌}
use mathlib.Core.Bool.{Bool, true, false, ◌||◌}
use mathlib.Core.Path.{◌≡◌}
use mathlib.Core.Logic.{◌⊎◌, ◌≢◌}
use lib.Dec.{eqb}
use Rattle.grammar.specs.declared.Message.{Message}
use Rattle.protocol.specs.Message.{Fields, fields_of, is_present}
use Rattle.protocol.specs.Refusals.{Row, LowestRow, head_rows, other_version, no_transaction_id, no_sender_nonce, unprotected}
use Rattle.protocol.specs.Confirmation.{Sixteen}
use Rattle.protocol.proofs.Tests.{holds_not, either, both}
use Rattle.protocol.proofs.Rows.{Lowest, skip}
use Rattle.protocol.proofs.ConfirmationMoves.{present_test, part-present}

module _ (bytes : List ℕ) (m : Message) where
  abbrev f : Fields
  f = fields_of bytes m

  version_off : (m.header.version ≡ 2) ⊎ (m.header.version ≡ 3) → other_version f ≡ false
  unfolding fields_of
  version_off e = holds_not (eqb f.version 2 || eqb f.version 3) (either f.version 2 3 e)

  id_off : (i : List ℕ) → Sixteen bytes m.header.transaction_id i → no_transaction_id f ≡ false
  unfolding fields_of
  id_off i h = present_test bytes m.header.transaction_id i h

  nonce_off : (n : List ℕ) → Sixteen bytes m.header.sender_nonce n → no_sender_nonce f ≡ false
  unfolding fields_of
  nonce_off n h = present_test bytes m.header.sender_nonce n h

  protection_off : m.protection.start.0 ≢ 0 → m.header.protection_alg.start.0 ≢ 0 → unprotected f ≡ false
  unfolding fields_of
  protection_off p a = holds_not f.protected (both (is_present m.protection) (is_present m.header.protection_alg) (part-present m.protection p) (part-present m.header.protection_alg a))

  pub passes_head :
      {good : Bool} {rows : List Row} {k : LowestRow}
      → (m.header.version ≡ 2) ⊎ (m.header.version ≡ 3)
      → {i : List ℕ} → Sixteen bytes m.header.transaction_id i
      → {n : List ℕ} → Sixteen bytes m.header.sender_nonce n
      → m.protection.start.0 ≢ 0
      → m.header.protection_alg.start.0 ≢ 0
      → good ≡ true
      → Lowest rows k
      → Lowest (head_rows good f ++ rows) k
  passes_head version {i} id {n} nonce protection algorithm good rest =
      skip (version_off version) (skip (id_off i id) (skip (nonce_off n nonce) (skip (protection_off protection algorithm) (skip (holds_not _ good) rest))))
