-- The witnesses: the premises hold on them, and they end Sure with Confirmed, by ir and by p10cr, and Declined with Declined.
use Rattle.std.specs.Prelude.{Some}
use Prim.Native.Nat.{ℕ}
use mathlib.Core.List.{List, [], ◌∷◌}
use mathlib.Core.Bool.{Bool, true, false, ◌||◌}
use mathlib.Core.Option.{Option, none, some}
use mathlib.Core.Path.{◌≡◌, refl, sym, ◌∙◌, ap, subst}
use mathlib.Core.Logic.{inl, inr}
use native.Mathlib.Omega.{arith}
use Rattle.protocol.specs.declared.TransactionId.{TransactionId}
use Rattle.protocol.specs.declared.Nonce.{Nonce}
use Rattle.protocol.specs.declared.TransactionState.{TransactionState}
use Rattle.protocol.specs.declared.EnrolmentState.{EnrolmentState}
use Rattle.protocol.specs.declared.Outgoing.{Outgoing}
use Rattle.protocol.specs.declared.EnrolmentState.TheVariants as at_board
use Rattle.protocol.specs.declared.TransactionState.TheVariants as at_registrar
use Rattle.protocol.specs.Bytes.{same_nonce, same_id, same_bytes}
use Rattle.protocol.specs.Message.{Fields}
use Rattle.protocol.specs.Outgoing.{silent}
use Rattle.protocol.specs.Table.{lookup, replace, slot_of, free_slot, has_free_slot, put, empty_table}
use Rattle.protocol.specs.Refusals.{lowest_row}
use Rattle.protocol.specs.RegistrarRows.{registrar_rows}
use Rattle.protocol.specs.Registrar.{registrar_fields, registrar_checked, registrar_issue}
use Rattle.protocol.specs.EndEntityRows.{end_entity_rows}
use Rattle.protocol.specs.EndEntity.{end_entity_start, end_entity_checked}
use Rattle.protocol.specs.Run.{Event, End, Issue, step, Start, ToRegistrar, ToEndEntity, World, run, beginning}
use Rattle.protocol.specs.Agreement.{Issued, SomeEvent, SenderIssued, FairEvent, Fair}
use Rattle.protocol.specs.Witness.{nonce, id, board, ir_bytes, hash, ip_bytes, pki_conf_bytes, board_says, registrar_says, EndsIn, enrols_by, enrols, accept_bytes, decline_bytes, p10cr_bytes, cp_bytes, accept_p10cr_bytes, Witnesses}
use Rattle.protocol.proofs.Tests.{same_bytes_refl, none_some, true_false, some_some}
use Rattle.protocol.proofs.WitnessReadings.{ReadsAs, ir_fields, ir_reads, ip_fields, ip_reads, pki_conf_fields, pkiconf_reads, accept_fields, accept_reads, decline_fields, decline_reads, p10cr_fields, p10cr-reads, cp_fields, cp_reads, accept_p10cr_fields, accept_p10cr_reads}
use Rattle.protocol.proofs.WitnessRuns.{ReadCall, run_by, run_by_lem, issued_by}

-- ## Tests for "drawn twice"

abbrev sends : Nonce → Option Outgoing → Bool
sends n none = false
sends n (some o) = same_nonce o.sender_nonce n

abbrev draws : TransactionId → Option TransactionId → Bool
draws i none = false
draws i (some j) = same_id j i

abbrev sent_in : Nonce → List Event → Bool
sent_in n [] = false
sent_in n (e ∷ past) = sends n e.sent || sent_in n past

abbrev drawn_in : TransactionId → List Event → Bool
drawn_in n [] = false
drawn_in n (e ∷ past) = draws n e.drawn || drawn_in n past

or_true_right : (a : Bool) → (a || true) ≡ true
or_true_right true = refl
or_true_right false = refl

sent_in_lem : (past : List Event) (p : End) (o : Outgoing) → Issued p o past → sent_in o.sender_nonce past ≡ true
sent_in_lem [] p o i = absurd i
sent_in_lem (e ∷ past) p o (inl g) = rw (g.1, same_bytes_refl o.sender_nonce.bytes)
sent_in_lem (e ∷ past) p o (inr i) = rw (sent_in_lem past p o i) (or_true_right (sends o.sender_nonce e.sent))

drawn_in_lem : (past : List Event) (i : TransactionId) → SomeEvent (λ f. f.drawn ≡ some i) past → drawn_in i past ≡ true
drawn_in_lem [] i h = absurd h
drawn_in_lem (e ∷ past) i (inl g) = rw (g, same_bytes_refl i.bytes)
drawn_in_lem (e ∷ past) i (inr h) = rw (drawn_in_lem past i h) (or_true_right (draws i e.drawn))

abbrev nonce_new : Option Outgoing → List Event → Type 0
nonce_new none past = Unit {0}
nonce_new (some o) past = sent_in o.sender_nonce past ≡ false

abbrev id_new : Option TransactionId → List Event → Type 0
id_new none past = Unit {0}
id_new (some i) past = drawn_in i past ≡ false

nonce_new_lem : (q : Option Outgoing) (past : List Event) → nonce_new q past → (o : Outgoing) → q ≡ some o → (p : End) (u : Outgoing) → Issued p u past → o.sender_nonce ≡ u.sender_nonce → ⊥
nonce_new_lem none past t o e p u i s = none_some e
nonce_new_lem (some r) past t o e p u i s =
    true_false (sym (sent_in_lem past p u i) ∙ ap (λ (n : Nonce). sent_in n past) (sym s) ∙ ap (λ (y : Outgoing). sent_in y.sender_nonce past) (sym (some_some e)) ∙ t)

id_new_lem : (q : Option TransactionId) (past : List Event) → id_new q past → (i : TransactionId) → q ≡ some i → SomeEvent (λ f. f.drawn ≡ some i) past → ⊥
id_new_lem none past t i e h = none_some e
id_new_lem (some j) past t i e h = true_false (sym (drawn_in_lem past i h) ∙ ap (λ (y : TransactionId). drawn_in y past) (sym (some_some e)) ∙ t)

-- one event: its verdict, and the two tests
one : (e : Event) (past : List Event) → SenderIssued e.call past → nonce_new e.sent past → id_new e.drawn past → FairEvent e past
one e past s n i = record { verdict = s; id = id_new_lem e.drawn past i; nonce = nonce_new_lem e.sent past n }

-- ## The run

-- a request and its response
record Asking : Type 0 where
  kind : ℕ
  request_bytes : List ℕ
  request_fields : Fields
  request : ReadsAs request_bytes request_fields
  response_bytes : List ℕ
  response_fields : Fields
  response : ReadsAs response_bytes response_fields

abbrev by_ir : Asking
by_ir = record { kind = 0; request_bytes = ir_bytes; request_fields = ir_fields; request = ir_reads; response_bytes = ip_bytes; response_fields = ip_fields; response = ip_reads }

abbrev by_p10cr : Asking
by_p10cr = record { kind = 4; request_bytes = p10cr_bytes; request_fields = p10cr_fields; request = p10cr-reads; response_bytes = cp_bytes; response_fields = cp_fields; response = cp_reads }

module _ (q : Asking) (accept : Bool) (bytes : List ℕ) (f : Fields) (r : ReadsAs bytes f) where
  abbrev steps : List ReadCall
  steps =
      record { call = Start board q.kind id (nonce 1); fields = q.request_fields; reads = tt }
      ∷ record { call = ToRegistrar q.request_bytes (record { verdict = Some board; nonce = nonce 2 }); fields = q.request_fields; reads = q.request }
      ∷ record { call = Issue id hash (nonce 3); fields = q.request_fields; reads = tt }
      ∷ record { call = ToEndEntity 0 q.response_bytes (record { good = true; accept = accept; hash = hash; nonce = nonce 4 }); fields = q.response_fields; reads = q.response }
      ∷ record { call = ToRegistrar bytes (record { verdict = Some board; nonce = nonce 5 }); fields = f; reads = r }
      ∷ record { call = ToEndEntity 0 pki_conf_bytes (record { good = true; accept = accept; hash = hash; nonce = nonce 6 }); fields = pki_conf_fields; reads = pkiconf_reads }
      ∷ []

  abbrev end : World
  end = run_by beginning steps

  -- the six events, the last first: what each message carries was issued, and no nonce or id comes twice
  ends : (b : EnrolmentState) (s : TransactionState) → Fair end.past → board_says end ≡ some b → registrar_says end ≡ some s → EndsIn (enrols_by q.kind q.request_bytes q.response_bytes accept bytes) b s
  ends b s p x y =
      let e : run (enrols_by q.kind q.request_bytes q.response_bytes accept bytes) ≡ end = run_by_lem steps beginning in
      record {
        fair = subst (λ (w : World). Fair w.past) (sym e) p;
        says = ap board_says e ∙ x;
        heard = ap registrar_says e ∙ y;
      }

accepted-fair : Fair (end by_ir true accept_bytes accept_fields accept_reads).past
unfolding step registrar_fields registrar_checked registrar_rows lowest_row lookup replace slot_of free_slot has_free_slot put empty_table registrar_issue end_entity_start end_entity_checked end_entity_rows same_bytes silent
accepted-fair = (
  one _ _ (issued_by pki_conf_bytes pki_conf_fields pkiconf_reads _ (record { kind = refl; id = refl; sender_nonce = refl; recip_nonce = refl; status = λ t. true_false (sym t); hash = λ e. absurd (omega arith) }) _ _ (inl (refl, refl))) tt tt,
  (
    one _ _ (issued_by accept_bytes accept_fields accept_reads _ (record { kind = refl; id = refl; sender_nonce = refl; recip_nonce = refl; status = λ t. inr (refl, refl, refl); hash = λ e. refl }) _ _ (inl (refl, refl))) refl tt,
    (
      one _ _ (issued_by ip_bytes ip_fields ip_reads _ (record { kind = refl; id = refl; sender_nonce = refl; recip_nonce = refl; status = λ t. inl refl; hash = λ e. absurd (omega arith) }) _ _ (inl (refl, refl))) refl tt,
      (
        one _ _ tt refl tt,
        (
          one _ _ (issued_by ir_bytes ir_fields ir_reads _ (record { kind = refl; id = refl; sender_nonce = refl; recip_nonce = refl; status = λ t. true_false (sym t); hash = λ e. absurd (omega arith) }) _ _ (inl (refl, refl))) tt tt,
          (one _ _ tt refl refl, tt),
        ),
      ),
    ),
  ),
)

accepted-ends : EndsIn (enrols true accept_bytes) at_board.Sure at_registrar.Confirmed
unfolding board_says registrar_says step registrar_fields registrar_checked registrar_rows lowest_row lookup replace slot_of free_slot has_free_slot put empty_table registrar_issue end_entity_start end_entity_checked end_entity_rows same_bytes silent
accepted-ends = ends by_ir true accept_bytes accept_fields accept_reads at_board.Sure at_registrar.Confirmed accepted-fair refl refl

declined-fair : Fair (end by_ir false decline_bytes decline_fields decline_reads).past
unfolding step registrar_fields registrar_checked registrar_rows lowest_row lookup replace slot_of free_slot has_free_slot put empty_table registrar_issue end_entity_start end_entity_checked end_entity_rows same_bytes silent
declined-fair = (
  one _ _ (issued_by pki_conf_bytes pki_conf_fields pkiconf_reads _ (record { kind = refl; id = refl; sender_nonce = refl; recip_nonce = refl; status = λ t. true_false (sym t); hash = λ e. absurd (omega arith) }) _ _ (inl (refl, refl))) tt tt,
  (
    one _ _ (issued_by decline_bytes decline_fields decline_reads _ (record { kind = refl; id = refl; sender_nonce = refl; recip_nonce = refl; status = λ t. inl refl; hash = λ e. refl }) _ _ (inl (refl, refl))) refl tt,
    (
      one _ _ (issued_by ip_bytes ip_fields ip_reads _ (record { kind = refl; id = refl; sender_nonce = refl; recip_nonce = refl; status = λ t. inl refl; hash = λ e. absurd (omega arith) }) _ _ (inl (refl, refl))) refl tt,
      (
        one _ _ tt refl tt,
        (
          one _ _ (issued_by ir_bytes ir_fields ir_reads _ (record { kind = refl; id = refl; sender_nonce = refl; recip_nonce = refl; status = λ t. true_false (sym t); hash = λ e. absurd (omega arith) }) _ _ (inl (refl, refl))) tt tt,
          (one _ _ tt refl refl, tt),
        ),
      ),
    ),
  ),
)

declined-ends : EndsIn (enrols false decline_bytes) at_board.Declined at_registrar.Declined
unfolding board_says registrar_says step registrar_fields registrar_checked registrar_rows lowest_row lookup replace slot_of free_slot has_free_slot put empty_table registrar_issue end_entity_start end_entity_checked end_entity_rows same_bytes silent
declined-ends = ends by_ir false decline_bytes decline_fields decline_reads at_board.Declined at_registrar.Declined declined-fair refl refl

p10cr-fair : Fair (end by_p10cr true accept_p10cr_bytes accept_p10cr_fields accept_p10cr_reads).past
unfolding step registrar_fields registrar_checked registrar_rows lowest_row lookup replace slot_of free_slot has_free_slot put empty_table registrar_issue end_entity_start end_entity_checked end_entity_rows same_bytes silent
p10cr-fair = (
  one _ _ (issued_by pki_conf_bytes pki_conf_fields pkiconf_reads _ (record { kind = refl; id = refl; sender_nonce = refl; recip_nonce = refl; status = λ t. true_false (sym t); hash = λ e. absurd (omega arith) }) _ _ (inl (refl, refl))) tt tt,
  (
    one _ _ (issued_by accept_p10cr_bytes accept_p10cr_fields accept_p10cr_reads _ (record { kind = refl; id = refl; sender_nonce = refl; recip_nonce = refl; status = λ t. inr (refl, refl, refl); hash = λ e. refl }) _ _ (inl (refl, refl))) refl tt,
    (
      one _ _ (issued_by cp_bytes cp_fields cp_reads _ (record { kind = refl; id = refl; sender_nonce = refl; recip_nonce = refl; status = λ t. inl refl; hash = λ e. absurd (omega arith) }) _ _ (inl (refl, refl))) refl tt,
      (
        one _ _ tt refl tt,
        (
          one _ _ (issued_by p10cr_bytes p10cr_fields p10cr-reads _ (record { kind = refl; id = refl; sender_nonce = refl; recip_nonce = refl; status = λ t. true_false (sym t); hash = λ e. absurd (omega arith) }) _ _ (inl (refl, refl))) tt tt,
          (one _ _ tt refl refl, tt),
        ),
      ),
    ),
  ),
)

p10cr-ends : EndsIn (enrols_by 4 p10cr_bytes cp_bytes true accept_p10cr_bytes) at_board.Sure at_registrar.Confirmed
unfolding board_says registrar_says step registrar_fields registrar_checked registrar_rows lowest_row lookup replace slot_of free_slot has_free_slot put empty_table registrar_issue end_entity_start end_entity_checked end_entity_rows same_bytes silent
p10cr-ends = ends by_p10cr true accept_p10cr_bytes accept_p10cr_fields accept_p10cr_reads at_board.Sure at_registrar.Confirmed p10cr-fair refl refl

pub witnesses : Witnesses
witnesses = record { accepted = accepted-ends; declined = declined-ends; p10cr = p10cr-ends }
