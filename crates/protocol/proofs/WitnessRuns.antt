-- A run whose messages are known to read as certain fields, and the premises of demand 3 over those fields.
use Rattle.std.specs.Prelude.{Some, None}
use Prim.Native.Nat.{ℕ}
use mathlib.Core.List.{List, [], ◌∷◌}
use mathlib.Core.Bool.{Bool, true, false}
use mathlib.Core.Option.{Option, none, some}
use mathlib.Core.Path.{◌≡◌, refl, sym, ◌∙◌, ap, subst}
use mathlib.Core.Logic.{◌⊎◌, inl, inr}
use lib.ListN.{get_elem?}
use Rattle.grammar.specs.declared.Span.{Span}
use Rattle.grammar.specs.declared.Message.{Message}
use Rattle.message.specs.Types.{Reading}
use Rattle.protocol.specs.Types.{GivenStatus}
use Rattle.protocol.specs.declared.RegistrarInput.{RegistrarInput}
use Rattle.protocol.specs.declared.EndEntityInput.{EndEntityInput}
use Rattle.protocol.specs.declared.TransactionTable.{TransactionTable}
use Rattle.protocol.specs.declared.Enrolment.{Enrolment}
use Rattle.protocol.specs.declared.Outgoing.{Outgoing}
use Rattle.protocol.specs.declared.EndEntityAnswer.{EndEntityAnswer}
use Rattle.protocol.specs.Message.{Fields, optional_status, fields_of, optional_part, is_present}
use Rattle.protocol.specs.Refusals.{lowest_row}
use Rattle.protocol.specs.Registrar.{registrar_fields, registrar_message}
use Rattle.protocol.specs.EndEntityRows.{end_entity_rows}
use Rattle.protocol.specs.EndEntity.{end_entity_checked, end_entity_message, end_entity_read}
use Rattle.protocol.specs.Run.{End, step, World, Call, Start, ToRegistrar, registrar_did, ToEndEntity, enrolment_did, Issue, Refuse, Lapse, Close, TimeOut, after, Event}
use Rattle.protocol.specs.Agreement.{Carries, HasPart, Issued, IssuedMessage, IssuedReading}
use Rattle.protocol.proofs.Tests.{none_some, some_some}
use Rattle.protocol.proofs.ConfirmationMoves.{message-at, part_of_lem}
use Rattle.protocol.proofs.WitnessReadings.{ReadsAs}

-- ## A run over fields

abbrev end_entity_fields : Enrolment → EndEntityInput → Fields → EndEntityAnswer
end_entity_fields x d m = end_entity_checked (lowest_row (end_entity_rows x d.good m)) x d m

-- a call, with the fields of its message
abbrev pub step_by : World → Call → Fields → World
step_by w (Start b k i n) m = step w (Start b k i n)
step_by w (ToRegistrar bytes d) m = registrar_did w (ToRegistrar bytes d) none (registrar_fields w.table d m)
step_by w (ToEndEntity k bytes d) m = enrolment_did w (ToEndEntity k bytes d) k (get_elem? w.enrolments k) (λ x. end_entity_fields x d m)
step_by w (Issue i h n) m = step w (Issue i h n)
step_by w (Refuse i n) m = step w (Refuse i n)
step_by w (Lapse i) m = step w (Lapse i)
step_by w (Close i) m = step w (Close i)
step_by w (TimeOut k) m = step w (TimeOut k)

abbrev pub ReadsCall : Call → Fields → Type 0
ReadsCall (Start b k i n) m = Unit {0}
ReadsCall (ToRegistrar bytes d) m = ReadsAs bytes m
ReadsCall (ToEndEntity k bytes d) m = ReadsAs bytes m
ReadsCall (Issue i h n) m = Unit {0}
ReadsCall (Refuse i n) m = Unit {0}
ReadsCall (Lapse i) m = Unit {0}
ReadsCall (Close i) m = Unit {0}
ReadsCall (TimeOut k) m = Unit {0}

registrar_by : (t : TransactionTable) (d : RegistrarInput) (bytes : List ℕ) (m : Fields) → ReadsAs bytes m → registrar_message t d bytes ≡ registrar_fields t d m
registrar_by t d bytes m r = message-at t d bytes r.message r.reads ∙ ap (registrar_fields t d) r.fields

end_entity_by : (d : EndEntityInput) (bytes : List ℕ) (m : Fields) → ReadsAs bytes m → (x : Enrolment) → end_entity_message x d bytes ≡ end_entity_fields x d m
unfolding end_entity_message end_entity_read
end_entity_by d bytes m r x = rw (r.reads, r.fields)

step_by_lem : (w : World) (c : Call) (m : Fields) → ReadsCall c m → step w c ≡ step_by w c m
unfolding step
step_by_lem w (Start b k i n) m r = refl
step_by_lem w (ToRegistrar bytes d) m r = ap (registrar_did w (ToRegistrar bytes d) none) (registrar_by w.table d bytes m r)
step_by_lem w (ToEndEntity k bytes d) m r = ap (enrolment_did w (ToEndEntity k bytes d) k (get_elem? w.enrolments k)) (λ i x. end_entity_by d bytes m r x i)
step_by_lem w (Issue i h n) m r = refl
step_by_lem w (Refuse i n) m r = refl
step_by_lem w (Lapse i) m r = refl
step_by_lem w (Close i) m r = refl
step_by_lem w (TimeOut k) m r = refl

pub record ReadCall : Type 0 where
  pub call : Call
  pub fields : Fields
  pub reads : ReadsCall call fields

abbrev pub calls_of : List ReadCall → List Call
calls_of [] = []
calls_of (c ∷ cs) = c.call ∷ calls_of cs

abbrev pub run_by : World → List ReadCall → World
run_by w [] = w
run_by w (c ∷ cs) = run_by (step_by w c.call c.fields) cs

pub run_by_lem : (cs : List ReadCall) (w : World) → after w (calls_of cs) ≡ run_by w cs
unfolding after
run_by_lem [] w = refl
run_by_lem (c ∷ cs) w = ap (λ (v : World). after v (calls_of cs)) (step_by_lem w c.call c.fields c.reads) ∙ run_by_lem cs (step_by w c.call c.fields)

-- ## The premise on verdicts, over fields

abbrev pub recip_of : Bool → List ℕ → Option (List ℕ)
recip_of true n = some n
recip_of false n = none

pub record CarriesFields (f : Fields) (o : Outgoing) : Type 0 where
  pub kind : f.kind ≡ o.kind
  pub id : f.id ≡ some o.id.bytes
  pub sender_nonce : f.sender_nonce ≡ some o.sender_nonce.bytes
  pub recip_nonce : f.recip_nonce ≡ recip_of o.has_recip_nonce o.recip_nonce.bytes
  pub status : o.contents.has_status ≡ true → (f.status ≡ some o.contents.status) ⊎ ((f.kind ≡ 24) × (f.status ≡ none) × (o.contents.status ≡ 0))
  pub hash : f.kind ≡ 24 → f.hash.bytes ≡ o.contents.hash.bytes

status_some : (o : GivenStatus) (v : ℕ) → optional_status o ≡ some v → o ≡ Some v
status_some (Some s) v e = ap Some (some_some e)
status_some None v e = none_some e

status-none : (o : GivenStatus) → optional_status o ≡ none → o ≡ None
status-none (Some s) e = none_some (sym e)
status-none None e = refl

module _ (bytes : List ℕ) (f : Fields) (r : ReadsAs bytes f) (o : Outgoing) (c : CarriesFields f o) where
  abbrev m : Message
  m = r.message

  field : {A : Type 0} (g : Fields → A) → g (fields_of bytes m) ≡ g f
  field g = ap g r.fields

  there : (s : Span) (x : List ℕ) → optional_part bytes s ≡ some x → HasPart bytes s x
  there s x e = part_of_lem bytes s x (is_present s) refl e

  recip_there : optional_part bytes m.header.recip_nonce ≡ f.recip_nonce → o.has_recip_nonce ≡ true → HasPart bytes m.header.recip_nonce o.recip_nonce.bytes
  recip_there e h = there m.header.recip_nonce o.recip_nonce.bytes (e ∙ c.recip_nonce ∙ ap (λ (b : Bool). recip_of b o.recip_nonce.bytes) h)

  status_there :
      optional_status m.body.entry.status ≡ f.status → m.body.kind ≡ f.kind →
      (f.status ≡ some o.contents.status) ⊎ ((f.kind ≡ 24) × (f.status ≡ none) × (o.contents.status ≡ 0)) →
      (m.body.entry.status ≡ Some o.contents.status) ⊎ ((m.body.kind ≡ 24) × (m.body.entry.status ≡ None) × (o.contents.status ≡ 0))
  status_there e k (inl g) = inl (status_some m.body.entry.status o.contents.status (e ∙ g))
  status_there e k (inr g) = inr (k ∙ g.0, status-none m.body.entry.status (e ∙ g.1), g.2)

  carries : Carries bytes m o
  unfolding fields_of
  carries =
      record {
        kind = field (λ (z : Fields). z.kind) ∙ c.kind;
        id = there m.header.transaction_id o.id.bytes (field (λ (z : Fields). z.id) ∙ c.id);
        sender_nonce = there m.header.sender_nonce o.sender_nonce.bytes (field (λ (z : Fields). z.sender_nonce) ∙ c.sender_nonce);
        recip_nonce = recip_there (field (λ (z : Fields). z.recip_nonce));
        status = λ h _. status_there (field (λ (z : Fields). z.status)) (field (λ (z : Fields). z.kind)) (c.status h);
        hash = λ k _. field (λ (z : Fields). z.hash.bytes) ∙ c.hash (sym (field (λ (z : Fields). z.kind)) ∙ k);
      }

  pub issued_by : (p : End) (past : List Event) → Issued p o past → IssuedMessage p bytes past
  issued_by p past i = subst (λ (z : Reading). IssuedReading p bytes z past) (sym r.reads) (o, i, carries)
