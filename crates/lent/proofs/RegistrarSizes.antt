-- Every call of the registrar keeps the table's sizes, and what it answers reads back.
use Rattle.std.specs.Prelude.{Ok, Err}
use Prim.Native.Nat.{ℕ, ◌<◌}
use mathlib.Core.List.{List}
use mathlib.Core.Bool.{Bool, false}
use mathlib.Core.Option.{Option, none, some}
use mathlib.Core.Path.{◌≡◌, refl, sym, ◌∙◌, subst}
use native.Mathlib.Omega.{arith}
use lib.ListN.{length}
use lib.Dec.{leb}
use Rattle.message.specs.Read.{reading_of}
use Rattle.message.specs.Types.{Reading}
use Rattle.protocol.specs.Types.{ToSend}
use Rattle.protocol.specs.declared.TransactionId.{TransactionId}
use Rattle.protocol.specs.declared.FreshNonce.{FreshNonce}
use Rattle.protocol.specs.declared.Hash.{Hash}
use Rattle.protocol.specs.declared.RegistrarInput.{RegistrarInput}
use Rattle.protocol.specs.declared.Transaction.{Transaction}
use Rattle.protocol.specs.declared.TransactionTable.{TransactionTable}
use Rattle.protocol.specs.declared.RegistrarAnswer.{RegistrarAnswer}
use Rattle.protocol.specs.Bytes.{as_id, as_nonce}
use Rattle.protocol.specs.Message.{Fields, fields_of}
use Rattle.protocol.specs.Refusals.{LowestRow, pass, stop, lowest_row}
use Rattle.protocol.specs.RegistrarRows.{registrar_rows}
use Rattle.protocol.specs.States.{is_granted, may_issue, may_refuse, may_lapse, may_close}
use Rattle.protocol.specs.Table.{lookup, slot_of, free_slot}
use Rattle.protocol.specs.Registrar.{host_step, refused_quietly, registrar_issue, registrar_refuse, registrar_lapse, registrar_close, registrar_checked, registrar_fields, registrar_read, registrar_message}
use Rattle.protocol.proofs.Tests.{cases}
use Rattle.protocol.proofs.RegistrarPasses.{taken_by}
use Rattle.packed.specs.Table.{TransactionSized, TableSized}
use Rattle.packed.specs.Outgoing.{OutgoingSized}
use Rattle.packed.specs.Answer.{sent_or_silent, OutcomeBack}
use Rattle.lent.proofs.Sizes.{bit-back, silent_sized, Late, late, sixteen, lookup_sized, replace_sized, put_sized, free_sized, slot_bound, free_bound}

pub record RegistrarSized (a : RegistrarAnswer) : Type 0 where
  pub table : TableSized a.table
  pub outgoing : OutgoingSized (sent_or_silent a.outgoing)
  pub outcome : OutcomeBack a.outcome
  pub slot : a.slot.0 < 255

module _ (t : TransactionTable) (z : TableSized t) where
  slot_small : (i : TransactionId) → slot_of t.transactions i < 255
  slot_small i = omega (arith, slot_bound t.transactions i, z.slots)

  free-small : free_slot t.transactions < 255
  free-small = omega (arith, free_bound t.transactions, z.slots)

module _ (t : TransactionTable) (z : TableSized t) where
  -- ## The host's steps

  module _ (i : TransactionId) (e : length i.bytes ≡ 16) where
    host : (ok : Transaction → Bool) (g : Transaction → RegistrarAnswer) (f : Option Transaction) → lookup t.transactions i ≡ f
        → ((r : Transaction) → TransactionSized r → RegistrarSized (g r)) → RegistrarSized (host_step f t ok g)
    host ok g none h s = record { table = z; outgoing = silent_sized; outcome = bit-back 30 false; slot = omega arith }
    host ok g (some r) h s =
        cases RegistrarSized (ok r) (g r) (refused_quietly 31 t) (λ _. s r (lookup_sized t.transactions i z.each r h))
        (λ _. record { table = z; outgoing = silent_sized; outcome = bit-back 31 false; slot = omega arith })

    pub issue_sized : (n : FreshNonce) (h : Hash) → length n.bytes ≡ 16 → length h.bytes ≡ 32 → RegistrarSized (registrar_issue t i n h)
    unfolding registrar_issue
    issue_sized n h p q =
        host may_issue _ _ refl
        (λ r s.
        record {
          table = replace_sized t z i _ (record { id = s.id; taken = s.taken; sent = p; hash = q });
          outgoing = record { id = e; sender = p; recip = s.taken; hash = refl; failure = refl };
          outcome = tt;
          slot = slot_small t z i;
        })

    pub refuse_sized : (n : FreshNonce) → length n.bytes ≡ 16 → RegistrarSized (registrar_refuse t i n)
    unfolding registrar_refuse
    refuse_sized n p =
        host may_refuse _ _ refl
        (λ r s.
        record {
          table = replace_sized t z i _ (record { id = s.id; taken = s.taken; sent = p; hash = s.hash });
          outgoing = record { id = e; sender = p; recip = s.taken; hash = refl; failure = refl };
          outcome = tt;
          slot = slot_small t z i;
        })

    pub lapse_sized : RegistrarSized (registrar_lapse t i)
    unfolding registrar_lapse
    lapse_sized =
        host may_lapse _ _ refl
        (λ r s. record { table = replace_sized t z i _ (record { id = s.id; taken = s.taken; sent = s.sent; hash = s.hash }); outgoing = silent_sized; outcome = tt; slot = slot_small t z i })

    pub close_sized : RegistrarSized (registrar_close t i)
    unfolding registrar_close
    close_sized = host may_close _ _ refl (λ r s. record { table = replace_sized t z i _ free_sized; outgoing = silent_sized; outcome = tt; slot = slot_small t z i })

  -- ## A message

  module _ (d : RegistrarInput) (n : length d.nonce.bytes ≡ 16) where
    -- the message's id and senderNonce
    abbrev NamesSized : Fields → Type 0
    NamesSized m = (length (as_id m.id).bytes ≡ 16) × (length (as_nonce m.sender_nonce).bytes ≡ 16)

    names : (m : Fields) (f : Option Transaction) (c : LowestRow) → lowest_row (registrar_rows t.transactions f d.verdict m) ≡ c → Late c → NamesSized m
    unfolding registrar_rows
    names m f c e l = let q : _ × _ = late _ _ _ _ (subst Late (sym e) l) in (sixteen m.id q.0, sixteen m.sender_nonce q.1)

    checked_sized : (m : Fields) (f : Option Transaction) → lookup t.transactions (as_id m.id) ≡ f → (c : LowestRow)
        → lowest_row (registrar_rows t.transactions f d.verdict m) ≡ c → RegistrarSized (registrar_checked c f t d m)
    unfolding registrar_checked
    checked_sized m f h (stop k) e =
        record {
          table = z;
          outgoing = cases (λ (o : ToSend). OutgoingSized (sent_or_silent o)) (leb 6 k) _ _ (λ l. let q : NamesSized m = names m f (stop k) e l in record { id = q.0; sender = n; recip = q.1; hash = refl; failure = bit-back k _ }) (λ _. silent_sized);
          outcome = bit-back k _;
          slot = omega arith;
        }
    checked_sized m f h pass e =
        let q : NamesSized m = names m f pass e tt in
        let o : OutgoingSized _ = record { id = q.0; sender = n; recip = q.1; hash = refl; failure = refl } in
        taken_by t d m RegistrarSized f e
        (λ _ _ _. record { table = put_sized t z _ (record { id = q.0; taken = q.1; sent = refl; hash = refl }); outgoing = silent_sized; outcome = tt; slot = free-small t z })
        (λ r _ w _.
        let s : TransactionSized r = lookup_sized t.transactions (as_id m.id) z.each r (h ∙ w) in
        cases RegistrarSized (is_granted r.state) _ _
        (λ _. record { table = replace_sized t z (as_id m.id) _ (record { id = s.id; taken = q.1; sent = s.sent; hash = s.hash }); outgoing = o; outcome = tt; slot = slot_small t z (as_id m.id) })
        (λ _. record { table = z; outgoing = o; outcome = tt; slot = slot_small t z (as_id m.id) }))

    read_sized : (bytes : List ℕ) (r : Reading) → RegistrarSized (registrar_read r t d bytes)
    unfolding registrar_read registrar_fields
    read_sized bytes (Err f) = record { table = z; outgoing = silent_sized; outcome = bit-back _ false; slot = omega arith }
    read_sized bytes (Ok m) = checked_sized (fields_of bytes m) _ refl _ refl

    pub message_sized : (bytes : List ℕ) → RegistrarSized (registrar_message t d bytes)
    unfolding registrar_message
    message_sized bytes = read_sized bytes (reading_of bytes)
