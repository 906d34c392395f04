-- What a refused message sends, and the corners of the table that 01 and its list of slips name.
use Rattle.std.specs.Prelude.{ℕ, ◌<◌, ◌≤◌, List, true, false, ◌≡◌, ◌⊎◌, replicate, Some, None}
use Rattle.std.proofs.Math.Option.{none}
use Rattle.message.specs.declared.ReadFault.{ReadFault}
use Rattle.protocol.specs.declared.TransactionId.{TransactionId}
use Rattle.protocol.specs.declared.Nonce.{Nonce}
use Rattle.protocol.specs.declared.FreshNonce.{FreshNonce}
use Rattle.protocol.specs.Types.{Verdict}
use Rattle.protocol.specs.declared.Transaction.{Transaction}
use Rattle.protocol.specs.declared.TransactionTable.{TransactionTable}
use Rattle.protocol.specs.Types.{FailureInfo}
use Rattle.protocol.specs.declared.Outgoing.{Outgoing}
use Rattle.protocol.specs.declared.Outcome.{Outcome}
use Rattle.protocol.specs.declared.RegistrarAnswer.{RegistrarAnswer}
use Rattle.protocol.specs.declared.Outcome.TheVariants as outcome
use Rattle.protocol.specs.declared.TransactionState.TheVariants.{Asked, Refused, Lapsed}
use Rattle.protocol.specs.Message.{Fields, response_to}
use Rattle.protocol.specs.Refusals.{Row, bit_of, head_rows, no_fault}
use Rattle.protocol.specs.Outgoing.{silent}
use Rattle.protocol.specs.Slots.{ours, bare}
use Rattle.protocol.specs.RegistrarRows.{is_good, confirms_other_nonce, other_hash, not_taken}
use Rattle.protocol.specs.Promises.{Applies}

-- an error message with status 2 and this bit
abbrev pub error_message : TransactionId → FreshNonce → Nonce → FailureInfo → Outgoing
error_message i n a b =
    record {
      kind = 23;
      id = i;
      sender_nonce = ours n;
      has_recip_nonce = true;
      recip_nonce = a;
      contents = record { has_status = true; status = 2; hash = record { bytes = replicate 32 0 }; failure = b; has_number = false; number = 0 };
    }

-- "For numbers 6 up in message steps the desk also issues an error order with status 2 and that bit": i and a are the message's
-- id and senderNonce, n the fresh nonce
pub record ErrorRule (i : TransactionId) (n : FreshNonce) (a : Nonce) (answer : RegistrarAnswer) : Type 0 where
  pub from6 : (k : ℕ) (b : FailureInfo) → answer.outcome ≡ outcome.Refused k b → 6 ≤ k → answer.outgoing ≡ Some (error_message i n a b)
  pub below6 : (k : ℕ) (b : FailureInfo) → answer.outcome ≡ outcome.Refused k b → k < 6 → answer.outgoing ≡ None

-- bytes that do not read are refused by 1 (their length) or 2, both with bit 5
pub record UnreadRule (f : ReadFault) (o : Outcome) : Type 0 where
  pub one : f.number ≡ 1 → o ≡ outcome.Refused 1 (Some 5)
  pub two : (f.number ≡ 1 → ⊥) → o ≡ outcome.Refused 2 (Some 5)

-- 8 at the registrar: a message that is neither a request (0, 2, 4, 7) nor a certConf (24) is refused
abbrev pub OtherKind : ℕ → Type 0
OtherKind k = (k ≡ 24 → ⊥) × ((k ≡ 0) ⊎ (k ≡ 2) ⊎ (k ≡ 4) ⊎ (k ≡ 7) → ⊥)

abbrev pub IsRefused : Outcome → Type 0
IsRefused o = (n : ℕ) × (b : FailureInfo) × (o ≡ outcome.Refused n b)

-- none of the rows 3 to 7 applies to the message
abbrev pub NotBefore8 : Verdict → Fields → Type 0
NotBefore8 v m = (k : ℕ) → Applies k (head_rows (is_good v) m) → ⊥

-- then it is refused by 8, with bit 2 and an error message, and the table stays: i and a are its id and senderNonce, n the fresh nonce
abbrev pub refused_by8 : TransactionTable → TransactionId → FreshNonce → Nonce → RegistrarAnswer
refused_by8 t i n a =
    record {
      outcome = outcome.Refused 8 (Some 2);
      fault = no_fault;
      slot = record { 0 = 0 };
      outgoing = Some (error_message i n a (Some 2));
      table = t;
    }

-- refusal n means This: it is given only where This holds, and there it is, with the bit b, unless a lower row applies
pub record Means (n : ℕ) (b : FailureInfo) (This : Type 0) (rows : List Row) (o : Outcome) : Type 0 where
  pub only : (c : FailureInfo) → o ≡ outcome.Refused n c → (c ≡ b) × This
  pub given : This → ((k : ℕ) → Applies k rows → n ≤ k) → o ≡ outcome.Refused n b

-- a certConf with one entry, for the transaction r
pub record Corners (r : Transaction) (m : Fields) : Type 0 where
  -- 14: "a record that sent none matches nothing", whatever recipNonce it carries
  pub asked14 : r.state ≡ Asked → confirms_other_nonce r m ≡ true
  -- 14: an absent recipNonce is no match in any state
  pub absent14 : m.recip_nonce ≡ none → confirms_other_nonce r m ≡ true
  -- 19: at Refused "no hash set", whatever hash it carries
  pub refused19 : r.state ≡ Refused → other_hash r m ≡ true
  -- 20: Lapsed takes none
  pub lapsed20 : r.state ≡ Lapsed → not_taken r m ≡ true

-- the pairing and the bits, as 01 writes them, and what stands where nothing is sent
pub record Tables : Type 0 where
  -- "0:1, 2:3, 4:3, 7:8"
  pub pairing : (response_to 0 ≡ 1) × (response_to 2 ≡ 3) × (response_to 4 ≡ 3) × (response_to 7 ≡ 8)
  -- "11 if Confirmed, else 2"
  pub bit20 : (bit_of 20 true ≡ Some 11) × (bit_of 20 false ≡ Some 2)
  -- "none" is no bit, and not bit 0
  pub no_bit : (bit_of 21 false ≡ None) × (bit_of 30 false ≡ None) × (bit_of 31 false ≡ None) × (bit_of 32 false ≡ None)
  -- where no message is to be sent: zeros, no flag and no bit
  pub unsent :
      silent
      ≡ record {
        kind = 0;
        id = record { bytes = replicate 16 0 };
        sender_nonce = record { bytes = replicate 16 0 };
        has_recip_nonce = false;
        recip_nonce = record { bytes = replicate 16 0 };
        contents = bare;
      }
