-- A message at the registrar shows a RegistrarStep.
use Rattle.std.specs.Prelude.{Ok, Err, Some, None}
use Prim.Native.Nat.{ℕ}
use mathlib.Core.List.{List}
use mathlib.Core.Bool.{Bool, true, false, cond}
use mathlib.Core.Option.{Option, none, some}
use mathlib.Core.Path.{◌≡◌, refl, sym, ◌∙◌, ap, subst}
use mathlib.Core.Logic.{◌⊎◌, inr}
use native.Mathlib.Omega.{arith}
use lib.Dec.{leb}
use Rattle.message.specs.Read.{reading_of}
use Rattle.grammar.specs.declared.Message.{Message}
use Rattle.message.specs.Types.{Reading}
use Rattle.protocol.specs.declared.Board.{Board}
use Rattle.protocol.specs.declared.TransactionId.{TransactionId}
use Rattle.protocol.specs.declared.Nonce.{Nonce}
use Rattle.protocol.specs.declared.FreshNonce.{FreshNonce}
use Rattle.protocol.specs.Types.{Verdict}
use Rattle.protocol.specs.declared.RegistrarInput.{RegistrarInput}
use Rattle.protocol.specs.declared.Transaction.{Transaction}
use Rattle.protocol.specs.Types.{FailureInfo}
use Rattle.protocol.specs.declared.Outgoing.{Outgoing}
use Rattle.protocol.specs.Bytes.{as_id, as_nonce}
use Rattle.protocol.specs.Message.{Fields, cert_conf, status_or0, fields_of}
use Rattle.protocol.specs.Outgoing.{pki_conf_out, error_out, silent}
use Rattle.protocol.specs.Table.{lookup, replace, is_free, has_free_slot, put}
use Rattle.protocol.specs.States.{is_granted, settled_by, settled_state}
use Rattle.protocol.specs.Refusals.{lowest_row, pass, LowestRow, stop}
use Rattle.protocol.specs.RegistrarRows.{confirms, registrar_rows}
use Rattle.protocol.specs.Registrar.{settled, confirmed, opened, opened_transaction, registrar_checked, registrar_read, registrar_fields, registrar_message}
use Rattle.protocol.specs.Run.{Event, OneBoard, World, sent_by, ToRegistrar}
use Rattle.protocol.specs.Agreement.{Issued, IssuedReading, ByVerdict, Carries, SenderIssued}
use Rattle.protocol.proofs.Tests.{board_eq, eqb_eq, true_false, some_some, cases, none_some}
use Rattle.protocol.proofs.RegistrarStates.{settled_live, granted-unsettled, settled-state, granted-sent, settled-status}
use Rattle.protocol.proofs.Lookup.{replace-same, is_for_make, put_same, put_other, is_for_other, unique_put}
use Rattle.protocol.proofs.Carried.{kind_read, id_read, sender_read, recip_read, hash_read, status_read}
use Rattle.protocol.proofs.Invariant.{Inv, Acknowledged, RegistrarStep}
use Rattle.protocol.proofs.RegistrarForms.{registrar_same, registrar_one, Quiet, registrar_idle, quiet_none}
use Rattle.protocol.proofs.RegistrarSteps.{own, recs, replaces, StepOf, open_still}
use Rattle.protocol.proofs.RegistrarPasses.{kind-is, names_it, one_it, recip_it, hash_it, known_it, takes_it, room, taken_by}

-- what a certConf that is not refused shows: r is the record with its id, s its status
pub record Confirms (past : List Event) (r : Transaction) (m : Fields) (o : Outgoing) : Type 0 where
  pub issued : Issued (OneBoard r.board) o past
  pub kind : o.kind ≡ cert_conf
  pub id : o.id ≡ as_id m.id
  pub sender : o.sender_nonce ≡ as_nonce m.sender_nonce
  pub recip : o.recip_nonce ≡ r.sent
  pub hash : o.contents.hash ≡ r.hash
  pub status : o.contents.status ≡ status_or0 m.status
  pub known : (status_or0 m.status ≡ 0) ⊎ (status_or0 m.status ≡ 2)
  pub takes : is_granted r.state ≡ false → settled_by r.state (status_or0 m.status) ≡ true

-- ## A certConf that moves the record, or is answered again

-- the premise, by the verdict and the reading
abbrev ByReading : Verdict → List ℕ → Reading → List Event → Type 0
ByReading None bytes r past = Unit {0}
ByReading (Some b) bytes r past = IssuedReading (OneBoard b) bytes r past

by_reading : (vd : Verdict) (bytes : List ℕ) (past : List Event) → ByVerdict vd bytes past → ByReading vd bytes (reading_of bytes) past
by_reading None bytes past q = tt
by_reading (Some b) bytes past q = q

module _ (w : World) (v : Inv w) (bytes : List ℕ) (m : Message) where
  abbrev f : Fields
  f = fields_of bytes m

  confirms_by : (r : Transaction) (a : Board) → lowest_row (registrar_rows (recs w v) (some r) (Some a) f) ≡ pass → confirms f ≡ true → (o : Outgoing) → Issued (OneBoard a) o w.past → Carries bytes m o → Confirms w.past r f o
  confirms_by r a e conf o q c =
      let k : o.kind ≡ cert_conf = sym (kind_read bytes m o c) ∙ kind-is (recs w v) r (Some a) f e conf in
      let b : a ≡ r.board = board_eq a r.board (eqb_eq a.0 r.board.0 (names_it (recs w v) r (Some a) f e conf)) in
      let one : f.entries ≡ 1 = eqb_eq f.entries 1 (one_it (recs w v) r (Some a) f e conf) in
      record {
        issued = subst (λ (y : Board). Issued (OneBoard y) o w.past) b q;
        kind = k;
        id = sym (ap as_id (id_read bytes m o c));
        sender = sym (ap as_nonce (sender_read bytes m o c));
        recip = recip_read bytes m o c r.sent (v.stands a o q k).answers (recip_it (recs w v) r (Some a) f e conf);
        hash = hash_read bytes m o c (kind-is (recs w v) r (Some a) f e conf) one ∙ hash_it (recs w v) r (Some a) f e conf;
        status = status_read bytes m o c (v.stands a o q k).rated one;
        known = known_it (recs w v) r (Some a) f e conf;
        takes = takes_it (recs w v) r (Some a) f e conf;
      }

  confirms_with : (r : Transaction) (vd : Verdict) → lowest_row (registrar_rows (recs w v) (some r) vd f) ≡ pass → confirms f ≡ true → ByReading vd bytes (Ok m) w.past → (o : Outgoing) × Confirms w.past r f o
  confirms_with r None e conf q = true_false (sym (names_it (recs w v) r None f e conf))
  confirms_with r (Some a) e conf (o, q, c) = (o, confirms_by r a e conf o q c)

module _ (w : World) (v : Inv w) (m : Fields) (n : FreshNonce) where
  abbrev i : TransactionId
  i = as_id m.id

  -- the pkiconf
  abbrev pkiconf : Outgoing
  pkiconf = pki_conf_out i n (as_nonce m.sender_nonce)

  acknowledged : (r : Transaction) (o : Outgoing) → Confirms w.past r m o → (p : Outgoing) → some pkiconf ≡ some p → Acknowledged w.past p
  acknowledged r o c p e =
      let q : pkiconf ≡ p = some_some e in
      record {
        board = r.board;
        message = o;
        issued = c.issued;
        kind = c.kind;
        sender = c.sender ∙ ap (λ (y : Outgoing). y.recip_nonce) q;
        id = c.id ∙ ap (λ (y : Outgoing). y.id) q;
        answers = ap (λ (y : Outgoing). y.has_recip_nonce) (sym q);
      }

  again : (r : Transaction) (o : Outgoing) → Confirms w.past r m o → lookup (recs w v) i ≡ some r → is_granted r.state ≡ false → RegistrarStep w.past w.table w.table (some pkiconf) none
  unfolding acknowledged
  again r o c h g =
      registrar_same
      w
      v
      (some pkiconf)
      (λ p e k. (
        acknowledged r o c p e,
        record {
          found = r;
          holds = ap (lookup (recs w v)) c.id ∙ h;
          sent = sym c.recip;
          hash = sym c.hash;
          state = ap (settled_by r.state) c.status ∙ c.takes g;
        },
      ))

  abbrev next : Transaction → Transaction
  next r = settled r (settled_state (status_or0 m.status)) (as_nonce m.sender_nonce)

  moves : (r : Transaction) (o : Outgoing) → Confirms w.past r m o → lookup (recs w v) i ≡ some r → is_granted r.state ≡ true → RegistrarStep w.past w.table (record { transactions = replace (recs w v) i (next r) }) (some pkiconf) none
  unfolding acknowledged
  moves r o c h g =
      let live : is_free (next r).state ≡ false = settled_live (status_or0 m.status) c.known in
      replaces
      w
      v
      i
      r
      (next r)
      (some pkiconf)
      h
      live
      (own w v i r h)
      (λ s. granted-unsettled r.state s g)
      (λ p e k. (
        acknowledged r o c p e,
        record {
          found = next r;
          holds = ap (lookup (replace (recs w v) i (next r))) c.id ∙ replace-same (recs w v) i (next r) r (is_for_make i (next r) live (own w v i r h)) h;
          sent = sym c.recip;
          hash = sym c.hash;
          state = ap (settled_by (next r).state) c.status ∙ settled-state (status_or0 m.status) c.known;
        },
      ))
      (λ _. inr (v.responded i r h (granted-sent r.state g)))
      (λ s q.
      record {
        message = o;
        issued = c.issued;
        kind = c.kind;
        id = c.id;
        hash = c.hash;
        status = c.status ∙ settled-status (status_or0 m.status) s c.known q;
      })

  confirmed-step : (r : Transaction) (o : Outgoing) → Confirms w.past r m o → lookup (recs w v) i ≡ some r → StepOf w v (open_still w v) (confirmed w.table r n m)
  confirmed-step r o c h = cases (StepOf w v (open_still w v)) (is_granted r.state) _ _ (moves r o c h) (again r o c h)

-- ## A request

module _ (w : World) (v : Inv w) (m : Fields) (n : FreshNonce) where
  opens : (vd : Verdict) → lookup (recs w v) (as_id m.id) ≡ none → has_free_slot (recs w v) ≡ true → StepOf w v (open_still w v) (opened w.table vd m)
  opens vd h room =
      let x : Transaction = opened_transaction vd m in
      registrar_one
      w
      v
      (record { transactions = put (recs w v) x })
      (as_id m.id)
      x
      none
      (λ r s h' t. none_some (sym h ∙ h'))
      (put_same (recs w v) (as_id m.id) x (is_for_make (as_id m.id) x refl refl) h room)
      (λ j d. put_other (recs w v) j x (is_for_other (as_id m.id) j x refl d))
      (unique_put (recs w v) x h v.unique)
      (λ p q k. none_some q)
      (λ q. true_false (sym q))
      (λ s q. true_false (sym q))

-- ## A message

module _ (w : World) (v : Inv w) (bytes : List ℕ) (m : Message) (d : RegistrarInput) where
  abbrev fields : Fields
  fields = fields_of bytes m

  error_quiet : (t : Bool) (i : TransactionId) (n : FreshNonce) (a : Nonce) (b : FailureInfo) → Quiet (sent_by (cond t (Some (error_out i n a b)) None))
  error_quiet true i n a b p e k = let z : ◌≡◌ {A = ℕ} 23 19 = ap (λ (y : Outgoing). y.kind) (some_some e) ∙ k in omega arith
  error_quiet false i n a b p e k = none_some e

  checked : ByReading d.verdict bytes (Ok m) w.past → (g : Option Transaction) → lookup (recs w v) (as_id fields.id) ≡ g → (k : LowestRow) → lowest_row (registrar_rows (recs w v) g d.verdict fields) ≡ k → StepOf w v (open_still w v) (registrar_checked k g w.table d fields)
  unfolding registrar_checked
  checked q g h (stop k) e = registrar_idle w v (sent_by (cond (leb 6 k) _ None)) (error_quiet (leb 6 k) _ _ _ _)
  checked q g h pass e =
      taken_by w.table d fields (StepOf w v (open_still w v)) g e
      (λ o n p. opens w v fields d.nonce d.verdict (h ∙ n) (room (recs w v) none d.verdict fields p o))
      (λ r k n p.
      let c : (o : Outgoing) × Confirms w.past r fields o = confirms_with w v bytes m r d.verdict p k q in
      confirmed-step w v fields d.nonce r c.0 c.1 (h ∙ n))

read_step : (w : World) (v : Inv w) (bytes : List ℕ) (d : RegistrarInput) (r : Reading) → ByReading d.verdict bytes r w.past → StepOf w v (open_still w v) (registrar_read r w.table d bytes)
unfolding registrar_read registrar_fields
read_step w v bytes d (Err f) q = registrar_idle w v none quiet_none
read_step w v bytes d (Ok m) q =
    checked w v bytes m d q (lookup (recs w v) (as_id (fields_of bytes m).id)) refl (lowest_row (registrar_rows (recs w v) (lookup (recs w v) (as_id (fields_of bytes m).id)) d.verdict (fields_of bytes m))) refl

pub message-step : (w : World) (v : Inv w) (bytes : List ℕ) (d : RegistrarInput) → SenderIssued (ToRegistrar bytes d) w.past → StepOf w v (open_still w v) (registrar_message w.table d bytes)
unfolding registrar_message
message-step w v bytes d q = read_step w v bytes d (reading_of bytes) (by_reading d.verdict bytes w.past q)
