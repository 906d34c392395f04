-- At the registrar a message of another kind than those it takes is refused, by 8 where no row before it applies.
use Rattle.std.specs.Prelude.{Ok}
use Prim.Native.Nat.{ℕ}
use mathlib.Core.List.{List}
use mathlib.Core.Bool.{Bool, true, false, not, ◌||◌}
use mathlib.Core.Option.{Option}
use mathlib.Core.Path.{◌≡◌, refl}
use mathlib.Core.Logic.{◌⊎◌, inl, inr}
use Rattle.message.specs.Read.{reading_of}
use Rattle.grammar.specs.declared.Message.{Message}
use Rattle.protocol.specs.declared.RegistrarInput.{RegistrarInput}
use Rattle.protocol.specs.declared.Transaction.{Transaction}
use Rattle.protocol.specs.declared.TransactionTable.{TransactionTable}
use Rattle.protocol.specs.Bytes.{as_id, as_nonce}
use Rattle.protocol.specs.Message.{Fields, fields_of}
use Rattle.protocol.specs.Table.{lookup}
use Rattle.protocol.specs.Refusals.{lowest_row, pass, LowestRow, stop, Row, head_rows, bit_of}
use Rattle.protocol.specs.RegistrarRows.{is_good, opens, confirms, other_kind, registrar_rows}
use Rattle.protocol.specs.Registrar.{registrar_checked, registrar_message, registrar_fields}
use Rattle.protocol.specs.MessageRules.{OtherKind, IsRefused, NotBefore8, refused_by8}
use Rattle.der.proofs.Auto.{or_cases}
use Rattle.protocol.proofs.Tests.{eqb_eq, not_false, passes}
use Rattle.protocol.proofs.Rows.{stops, check-is, skip, halt}
use Rattle.protocol.proofs.ConfirmationMoves.{message-at}
use Rattle.protocol.proofs.EndEntityPromises.{is-request}

module _ (t : TransactionTable) (d : RegistrarInput) (m : Fields) (k : OtherKind m.kind) where
  not_taken_lem : (opens m || confirms m) ≡ true → ⊥
  not_taken_lem e = go (or_cases (opens m) (confirms m) e)
    where
      go : (opens m ≡ true) ⊎ (confirms m ≡ true) → ⊥
      go (inl q) = k.1 (is-request m.kind q)
      go (inr q) = k.0 (eqb_eq m.kind 24 q)

  row_8 : (g : Option Transaction) → lowest_row (registrar_rows t.transactions g d.verdict m) ≡ pass → (opens m || confirms m) ≡ true
  unfolding registrar_rows
  row_8 g e = not_false _ (passes 8 (registrar_rows t.transactions g d.verdict m) e)

  refused_by : (g : Option Transaction) (c : LowestRow) → lowest_row (registrar_rows t.transactions g d.verdict m) ≡ c → IsRefused (registrar_checked c g t d m).outcome
  unfolding registrar_checked
  refused_by g (stop n) e = (n, _, refl)
  refused_by g pass e = absurd (not_taken_lem (row_8 g e))

  applies_8 : other_kind m ≡ true
  applies_8 = by (opens m || confirms m) not_taken_lem
    where
      by : (b : Bool) → (b ≡ true → ⊥) → not b ≡ true
      by true n = absurd (n refl)
      by false n = refl

  module _ (before : NotBefore8 d.verdict m) where
    abbrev head : List Row
    head = head_rows (is_good d.verdict) m

    head_passes : (c : LowestRow) → lowest_row head ≡ c → c ≡ pass
    head_passes pass e = refl
    head_passes (stop n) e = absurd (before n (stops head n e))

    lowest_8 : (g : Option Transaction) → lowest_row (registrar_rows t.transactions g d.verdict m) ≡ stop 8
    unfolding registrar_rows
    lowest_8 g =
        let e : lowest_row head ≡ pass = head_passes (lowest_row head) refl in
        check-is (skip (passes 3 head e) (skip (passes 4 head e) (skip (passes 5 head e) (skip (passes 6 head e) (skip (passes 7 head e) (halt applies_8))))))

    refused_8 : registrar_fields t d m ≡ refused_by8 t (as_id m.id) d.nonce (as_nonce m.sender_nonce)
    unfolding registrar_fields registrar_checked bit_of
    refused_8 = rw (lowest_8 (lookup t.transactions (as_id m.id)))

-- a message that reads
pub other_kinds : (t : TransactionTable) (d : RegistrarInput) (bytes : List ℕ) (m : Message) → reading_of bytes ≡ Ok m → OtherKind (fields_of bytes m).kind → IsRefused (registrar_message t d bytes).outcome
unfolding registrar_fields
other_kinds t d bytes m e k = rw (message-at t d bytes m e) (refused_by t d (fields_of bytes m) k (lookup t.transactions (as_id (fields_of bytes m).id)) (lowest_row (registrar_rows t.transactions (lookup t.transactions (as_id (fields_of bytes m).id)) d.verdict (fields_of bytes m))) refl)

pub other_kinds_by_8 : (t : TransactionTable) (d : RegistrarInput) (bytes : List ℕ) (m : Message) → reading_of bytes ≡ Ok m
    → OtherKind (fields_of bytes m).kind
    → NotBefore8 d.verdict (fields_of bytes m)
    → registrar_message t d bytes ≡ refused_by8 t (as_id (fields_of bytes m).id) d.nonce (as_nonce (fields_of bytes m).sender_nonce)
other_kinds_by_8 t d bytes m e k before = rw (message-at t d bytes m e) (refused_8 t d (fields_of bytes m) k before)
