-- Every order that a call gives fits.
use Rattle.std.specs.Prelude.{Ok, Err, Some, None}
use Prim.Native.Nat.{ℕ}
use mathlib.Core.List.{List, [], ◌∷◌}
use mathlib.Core.Bool.{Bool, true, false, cond, ◌||◌}
use mathlib.Core.Option.{Option, none, some}
use mathlib.Core.Path.{◌≡◌, refl, subst}
use mathlib.Core.Logic.{◌⊎◌, inl, inr}
use lib.ListN.{get_elem?}
use lib.Dec.{leb, eqb}
use Rattle.der.proofs.HeadLaws.{cond_both, cond-case}
use Rattle.message.specs.Types.{Reading}
use Rattle.message.specs.Read.{reading_of}
use Rattle.protocol.specs.declared.Board.{Board}
use Rattle.protocol.specs.declared.TransactionId.{TransactionId}
use Rattle.protocol.specs.declared.Nonce.{Nonce}
use Rattle.protocol.specs.declared.FreshNonce.{FreshNonce}
use Rattle.protocol.specs.declared.Hash.{Hash}
use Rattle.protocol.specs.Types.{FailureInfo}
use Rattle.protocol.specs.declared.Outgoing.{Outgoing}
use Rattle.protocol.specs.declared.Transaction.{Transaction}
use Rattle.protocol.specs.declared.TransactionTable.{TransactionTable}
use Rattle.protocol.specs.declared.Enrolment.{Enrolment}
use Rattle.protocol.specs.declared.RegistrarInput.{RegistrarInput}
use Rattle.protocol.specs.declared.RegistrarAnswer.{RegistrarAnswer}
use Rattle.protocol.specs.declared.EndEntityInput.{EndEntityInput}
use Rattle.protocol.specs.declared.EndEntityAnswer.{EndEntityAnswer}
use Rattle.protocol.specs.Bytes.{as_id, as_nonce}
use Rattle.protocol.specs.declared.EnrolmentState.TheVariants.{Failed}
use Rattle.protocol.specs.declared.TransactionState.TheVariants as at_registrar
use Rattle.protocol.specs.Table.{lookup, free_transaction}
use Rattle.protocol.specs.Message.{is_starting_kind, Fields, fields_of, status_or0}
use Rattle.protocol.specs.Outgoing.{silent, request_out, response_out, cert_conf_out, pki_conf_out, error_out}
use Rattle.protocol.specs.Refusals.{bit_of, LowestRow, stop, pass}
use Rattle.protocol.specs.States.{is_granted, is_waiting, is_confirming, decision, may_issue, may_refuse, may_lapse, may_close}
use Rattle.protocol.specs.RegistrarRows.{opens, confirms}
use Rattle.protocol.specs.EndEntityRows.{acknowledges, reports, responds}
use Rattle.protocol.specs.Registrar.{confirmed_at, confirmed_found, settled, host_step, respond, replaced, registrar_checked, registrar_fields, registrar_read, registrar_message, registrar_issue, registrar_refuse, registrar_lapse, registrar_close}
use Rattle.protocol.specs.EndEntity.{enrolment_moved, in_state, confirming, response_taken, end_entity_start, end_entity_taken, end_entity_checked, end_entity_read, end_entity_message, end_entity_time_out}
use Rattle.protocol.specs.Run.{Call, Start, ToRegistrar, ToEndEntity, Issue, Refuse, Lapse, Close, TimeOut, End, TheRegistrar, OneBoard, NoEnd, BoardEnrolment, Event, World, beginning, sent_by, unless_refused, registrar_did, start_did, enrolment_did, step, after}
use Rattle.protocol.specs.Agreement.{Issued}
use Rattle.protocol.proofs.Tests.{some_some, none_some}
use Rattle.encoding.specs.Fits.{blank, contents_with, contents_fit, order_fits}
use Rattle.encoding.specs.Orders.{OrdersFit}

-- ## The five forms

request-fits : (k : ℕ) (i : TransactionId) (n : FreshNonce) → is_starting_kind k ≡ true → order_fits (request_out k i n) ≡ true
unfolding contents_fit contents_with blank
request-fits k i n e = rw e

response-fits : (k : ℕ) (i : TransactionId) (n : FreshNonce) (a : Nonce) (s : ℕ) → order_fits (response_out k i n a s) ≡ true
unfolding contents_fit contents_with blank
response-fits k i n a s =
    let P : ℕ → Type 0 = λ (j : ℕ). contents_fit j (response_out k i n a s).contents ≡ true in
    cond-case P (eqb k 0) refl (cond-case P (eqb k 2) refl (cond-case P (eqb k 4) refl (cond-case P (eqb k 7) refl refl)))

cert_conf_fits : (k : ℕ) (i : TransactionId) (n : FreshNonce) (a : Nonce) (s : ℕ) (h : Hash) → order_fits (cert_conf_out k i n a s h) ≡ true
unfolding contents_fit contents_with
cert_conf_fits k i n a s h = refl

pki_conf_fits : (i : TransactionId) (n : FreshNonce) (a : Nonce) → order_fits (pki_conf_out i n a) ≡ true
unfolding contents_fit contents_with blank
pki_conf_fits i n a = refl

error_fits : (i : TransactionId) (n : FreshNonce) (a : Nonce) (f : FailureInfo) → order_fits (error_out i n a f) ≡ true
unfolding contents_fit contents_with blank
error_fits i n a f = refl

-- ## What a call sent

abbrev SentFits : Option Outgoing → Type 0
SentFits none = Unit {0}
SentFits (some o) = order_fits o ≡ true

abbrev RegistrarFits : RegistrarAnswer → Type 0
RegistrarFits a = SentFits (sent_by a.outgoing)

abbrev BoardFits : EndEntityAnswer → Type 0
BoardFits a = SentFits (sent_by a.outgoing)

-- ## The registrar

-- "for numbers 6 up in message steps the desk also issues an error order"
error_sent : (b : Bool) (o : Outgoing) → order_fits o ≡ true → SentFits (sent_by (cond b (Some o) None))
error_sent true o h = h
error_sent false o h = tt

confirmed-fits : (f : Option Transaction) (t : TransactionTable) (n : FreshNonce) (m : Fields) → RegistrarFits (confirmed_found f t n m)
confirmed-fits none t n m = tt
confirmed-fits (some r) t n m =
    let h = pki_conf_fits (as_id m.id) n (as_nonce m.sender_nonce) in
    cond-case RegistrarFits (is_granted r.state) h h

checked_fits : (x : LowestRow) (f : Option Transaction) (t : TransactionTable) (d : RegistrarInput) (m : Fields)
    → RegistrarFits (registrar_checked x f t d m)
unfolding registrar_checked
checked_fits (stop k) f t d m =
    let bit : FailureInfo = bit_of k (confirmed_at f) in
    error_sent (leb 6 k) (error_out (as_id m.id) d.nonce (as_nonce m.sender_nonce) bit)
    (error_fits (as_id m.id) d.nonce (as_nonce m.sender_nonce) bit)
checked_fits pass f t d m = cond-case RegistrarFits (opens m) tt (cond-case RegistrarFits (confirms m) (confirmed-fits f t d.nonce m) tt)

read_fits : (r : Reading) (t : TransactionTable) (d : RegistrarInput) (bytes : List ℕ) → RegistrarFits (registrar_read r t d bytes)
unfolding registrar_read registrar_fields
read_fits (Err f) t d bytes = tt
read_fits (Ok m) t d bytes = checked_fits _ _ t d (fields_of bytes m)

host_fits : (r : Option Transaction) (t : TransactionTable) (ok : Transaction → Bool) (f : Transaction → RegistrarAnswer)
    → ((x : Transaction) → RegistrarFits (f x)) → RegistrarFits (host_step r t ok f)
host_fits none t ok f h = tt
host_fits (some r) t ok f h = cond-case RegistrarFits (ok r) (h r) tt

module _ (t : TransactionTable) (i : TransactionId) where
  issue-fits : (n : FreshNonce) (h : Hash) → RegistrarFits (registrar_issue t i n h)
  unfolding registrar_issue
  issue-fits n h =
      host_fits (lookup t.transactions i) t may_issue (λ r. respond t i r at_registrar.Granted 0 n h)
      (λ r. response-fits r.kind i n r.taken 0)

  refuse-fits : (n : FreshNonce) → RegistrarFits (registrar_refuse t i n)
  unfolding registrar_refuse
  refuse-fits n =
      host_fits (lookup t.transactions i) t may_refuse (λ r. respond t i r at_registrar.Refused 2 n r.hash)
      (λ r. response-fits r.kind i n r.taken 2)

  lapse-fits : RegistrarFits (registrar_lapse t i)
  unfolding registrar_lapse
  lapse-fits =
      host_fits (lookup t.transactions i) t may_lapse (λ r. replaced t i (settled r at_registrar.Lapsed r.taken)) (λ r. tt)

  close-fits : RegistrarFits (registrar_close t i)
  unfolding registrar_close
  close-fits = host_fits (lookup t.transactions i) t may_close (λ r. replaced t i free_transaction) (λ r. tt)

-- ## A board

response-taken : (x : Enrolment) (d : EndEntityInput) (m : Fields) → BoardFits (response_taken x d m)
response-taken x d m =
    cond-case BoardFits (eqb (status_or0 m.status) 2) {x = enrolment_moved (in_state x Failed)}
    {y = confirming x d.accept d.hash d.nonce (as_nonce m.sender_nonce)} tt
    (cert_conf_fits x.kind x.id d.nonce (as_nonce m.sender_nonce) (decision d.accept) d.hash)

taken-fits : (x : Enrolment) (d : EndEntityInput) (m : Fields) → BoardFits (end_entity_taken x d m)
taken-fits x d m =
    cond-case BoardFits (acknowledges m) tt
    (cond-case BoardFits (reports m) tt (cond-case BoardFits (responds m) {x = response_taken x d m} (response-taken x d m) tt))

board_checked : (r : LowestRow) (x : Enrolment) (d : EndEntityInput) (m : Fields) → BoardFits (end_entity_checked r x d m)
unfolding end_entity_checked
board_checked (stop k) x d m = tt
board_checked pass x d m = taken-fits x d m

board_read : (r : Reading) (x : Enrolment) (d : EndEntityInput) (bytes : List ℕ) → BoardFits (end_entity_read r x d bytes)
unfolding end_entity_read
board_read (Err f) x d bytes = tt
board_read (Ok m) x d bytes = board_checked _ x d (fields_of bytes m)

time_out_fits : (x : Enrolment) → BoardFits (end_entity_time_out x)
unfolding end_entity_time_out
time_out_fits x = cond-case BoardFits (is_waiting x.state || is_confirming x.state) tt tt

-- ## A list of calls

-- every order that an event of the list gave fits
abbrev AllFit : List Event → Type 0
AllFit past = (p : End) (o : Outgoing) → Issued p o past → order_fits o ≡ true

sent-fits : (s : Option Outgoing) (o : Outgoing) → SentFits s → s ≡ some o → order_fits o ≡ true
sent-fits none o h e = none_some e
sent-fits (some u) o h e = subst (λ (z : Outgoing). order_fits z ≡ true) (some_some e) h

one_more : (end : End) (s : Option Outgoing) (past : List Event) → SentFits s → AllFit past
    → (p : End) (o : Outgoing) → ((end ≡ p) × (s ≡ some o)) ⊎ Issued p o past → order_fits o ≡ true
one_more end s past h all p o (inl g) = sent-fits s o h g.1
one_more end s past h all p o (inr g) = all p o g

module _ (w : World) (c : Call) (all : AllFit w.past) where
  registrar_did_lem : (closed : Option TransactionId) (a : RegistrarAnswer) → RegistrarFits a → AllFit (registrar_did w c closed a).past
  registrar_did_lem closed a h = one_more TheRegistrar (sent_by a.outgoing) w.past h all

  board_did_lem : (b : Board) (a : EndEntityAnswer) → BoardFits a
      → (p : End) (o : Outgoing) → ((OneBoard b ≡ p) × (sent_by a.outgoing ≡ some o)) ⊎ Issued p o w.past → order_fits o ≡ true
  board_did_lem b a h = one_more (OneBoard b) (sent_by a.outgoing) w.past h all

  start_did_lem : (b : Board) (a : EndEntityAnswer) (i : Option TransactionId) → BoardFits a → AllFit (start_did w c b a i).past
  start_did_lem b a none h = board_did_lem b a h
  start_did_lem b a (some i) h = board_did_lem b a h

  enrolment_did_lem : (k : ℕ) (x : Option BoardEnrolment) (f : Enrolment → EndEntityAnswer) → ((y : Enrolment) → BoardFits (f y))
      → AllFit (enrolment_did w c k x f).past
  enrolment_did_lem k none f h = one_more NoEnd none w.past tt all
  enrolment_did_lem k (some x) f h = board_did_lem x.board (f x.enrolment) (h x.enrolment)

start_fits : (k : ℕ) (i : TransactionId) (n : FreshNonce) → BoardFits (end_entity_start k i n)
unfolding end_entity_start
start_fits k i n = cond_both BoardFits (is_starting_kind k) (λ e. request-fits k i n e) (λ e. tt)

step_fits : (w : World) (c : Call) → AllFit w.past → AllFit (step w c).past
unfolding step registrar_message end_entity_message
step_fits w (Start b k i n) all =
    let a : EndEntityAnswer = end_entity_start k i n in
    start_did_lem w (Start b k i n) all b a (unless_refused a.outcome i) (start_fits k i n)
step_fits w (ToRegistrar bytes d) all =
    registrar_did_lem w (ToRegistrar bytes d) all none (registrar_message w.table d bytes) (read_fits (reading_of bytes) w.table d bytes)
step_fits w (ToEndEntity k bytes d) all =
    enrolment_did_lem w (ToEndEntity k bytes d) all k (get_elem? w.enrolments k) (λ x. end_entity_message x d bytes)
    (λ x. board_read (reading_of bytes) x d bytes)
step_fits w (Issue i h n) all = registrar_did_lem w (Issue i h n) all none (registrar_issue w.table i n h) (issue-fits w.table i n h)
step_fits w (Refuse i n) all = registrar_did_lem w (Refuse i n) all none (registrar_refuse w.table i n) (refuse-fits w.table i n)
step_fits w (Lapse i) all = registrar_did_lem w (Lapse i) all none (registrar_lapse w.table i) (lapse-fits w.table i)
step_fits w (Close i) all =
    let a : RegistrarAnswer = registrar_close w.table i in
    registrar_did_lem w (Close i) all (unless_refused a.outcome i) a (close-fits w.table i)
step_fits w (TimeOut k) all = enrolment_did_lem w (TimeOut k) all k (get_elem? w.enrolments k) end_entity_time_out time_out_fits

after-fits : (w : World) (calls : List Call) → AllFit w.past → AllFit (after w calls).past
unfolding after
after-fits w [] all = all
after-fits w (c ∷ calls) all = after-fits (step w c) calls (step_fits w c all)

-- ORDERS: every order that a call gave fits
pub orders_fit : OrdersFit
orders_fit calls = after-fits beginning calls (λ p o h. absurd h)
