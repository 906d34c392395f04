-- WRITTEN: what is written without a refusal reads clean and gives the order and the given parts back; it is a message issued.
use Rattle.std.specs.Prelude.{Ok, Some, None}
use Prim.Native.Nat.{ℕ}
use mathlib.Core.Path.{◌≡◌, refl, sym, ◌∙◌, ap, subst}
use mathlib.Core.List.{List}
use mathlib.Core.Bool.{Bool, true, false, cond, ◌||◌, true≢false}
use mathlib.Core.Option.{Option, none, some}
use mathlib.Core.Logic.{◌⊎◌, inl, inr}
use native.Mathlib.Omega.{arith}
use borrow.Author.Tests.{ne_eqb, eq-eqb}
use lib.ListN.{take, drop}
use lib.Dec.{eqb}
use Rattle.grammar.specs.declared.Span.{Span}
use Rattle.grammar.specs.declared.Entry.{Entry}
use Rattle.grammar.specs.declared.Message.{Message}
use Rattle.grammar.specs.Span.{part_of}
use Rattle.message.specs.Types.{Reading}
use Rattle.message.specs.Read.{reading_of}
use Rattle.protocol.specs.Types.{GivenStatus}
use Rattle.protocol.specs.declared.OutgoingContents.{OutgoingContents}
use Rattle.protocol.specs.declared.Outgoing.{Outgoing}
use Rattle.protocol.specs.Bytes.{bytes_of, zeros, no_nonce}
use Rattle.protocol.specs.Message.{is_response, cert_conf, error_kind, is_present, optional_part, optional_status, status_or0}
use Rattle.protocol.specs.Outgoing.{no_contents, with_status, with_hash, with_failure, with_number}
use Rattle.protocol.specs.Agreement.{HasPart, Carries, IssuedReading}
use Rattle.protocol.proofs.Carried.{part_there, part-absent}
use Rattle.encoding.specs.Given.{Given}
use Rattle.encoding.specs.Message.{encode}
use Rattle.encoding.specs.Fits.{blank}
use Rattle.encoding.specs.Write.{refusal_of}
use Rattle.encoding.specs.ReadBack.{GivenTyped, OrderTyped, contents_read, order_of, GivenBack, ReadsBack, WrittenReadsBack, WrittenIsIssued}
use Rattle.encoding.proofs.Rules.{Shows, ShowsIf}
use Rattle.encoding.proofs.Message.{Back}
use Rattle.encoding.proofs.WrittenKinds.{kind_of_lem, blank-is}
use Rattle.encoding.proofs.Refusals.{unrefused}
use Rattle.encoding.proofs.ReadBack.{contents_said, StatusSaid, Reads, all_reads}

-- ## Parts

has : {m : List ℕ} (s : Span) {v : List ℕ} → Shows m s v → HasPart m s v
has s h = ((λ e. omega (arith, h.low)), h.is)

optional-is : (m : List ℕ) (s : Span) (v : Option (List ℕ)) → ShowsIf m s v → optional_part m s ≡ v
unfolding ShowsIf
optional-is m s none h = part-absent m s h.0
optional-is m s (some v) h = part_there m s v (has s h)

-- an absent part has no bytes
part-is : (m : List ℕ) (s : Span) (v : Option (List ℕ)) → ShowsIf m s v → part_of m s ≡ bytes_of v
unfolding ShowsIf
part-is m s none h = ap (λ (n : ℕ). take n (drop s.start.0 m)) h.1
part-is m s (some v) h = h.is

-- the status that an entry gives
is_some : Option ℕ → Bool
is_some none = false
is_some (some s) = true

status_there : (o : GivenStatus) (s : ℕ) → optional_status o ≡ some s → o ≡ Some s
unfolding is_some
status_there (Some v) s e = let same : v ≡ s = cc e in ap Some same
status_there None s e = absurd (true≢false (sym (ap is_some e)))

status-absent : (o : GivenStatus) → optional_status o ≡ none → o ≡ None
unfolding is_some
status-absent (Some v) e = absurd (true≢false (ap is_some e))
status-absent None e = refl

-- ## The order

-- a recipNonce that is not sent is unset
abbrev Unset : Outgoing → Type 0
Unset o = (o.has_recip_nonce || blank o.recip_nonce.bytes) ≡ true

module _ (o : Outgoing) (types : OrderTyped o) (unset : Unset o) (m : List ℕ) (s : Span) where
  recip-back : (there : Bool) → o.has_recip_nonce ≡ there → ShowsIf m s (cond there (some o.recip_nonce.bytes) none)
      → (is_present s ≡ there) × (cond (is_present s) (record { bytes = part_of m s }) no_nonce ≡ o.recip_nonce)
  unfolding ShowsIf
  recip-back true q h =
      let e : o.recip_nonce.bytes ≡ part_of m s = sym h.is in
      rw (ne_eqb s.start.0 0 (λ z. omega (arith, h.low))) (refl, λ i. record { bytes = sym e i })
  recip-back false q h =
      let b : blank o.recip_nonce.bytes ≡ true = simp q at unset in
      let e : o.recip_nonce.bytes ≡ zeros 16 = blank-is o.recip_nonce.bytes b ∙ ap zeros types.recip_nonce in
      rw (eq-eqb s.start.0 0 h.0) (refl, λ i. record { bytes = sym e i })

module _ (g : Given) (o : Outgoing) (types : OrderTyped o) (unset : Unset o) (r : Reads g o) where
  m : List ℕ
  m = encode g o

  x : Message
  x = r.found

  b : Back g o r.said x
  unfolding x
  b = r.back

  contents_back : contents_read m x o.contents.failure ≡ o.contents
  unfolding contents_read contents_said m
  contents_back =
      let made : ℕ → ℕ → Option ℕ → List ℕ → OutgoingContents =
      λ k n st h.
      cond (is_response k) (with_number n (with_status (status_or0 st) no_contents))
      (cond (eqb k cert_conf) (with_number n (with_hash (record { bytes = h }) (with_status (status_or0 st) no_contents)))
      (cond (eqb k error_kind) (with_failure o.contents.failure (with_status (status_or0 st) no_contents)) no_contents)) in
      let k = b.kind in
      let n = b.says.number in
      let st = b.says.status in
      let h = part-is m x.body.entry.cert_hash r.said.hash b.says.hash in
      let e : contents_read m x o.contents.failure ≡ contents_said o.kind r.said o.contents.failure =
      λ i. made (k i) (n i) (st i) (h i) in
      e ∙ r.tells.contents

  order_is : order_of m x o.contents.failure ≡ o
  unfolding order_of ShowsIf m
  order_is =
      let n = recip-back o types unset m x.header.recip_nonce o.has_recip_nonce refl b.header.recip_nonce in
      let k = b.kind in
      let id = b.header.id.is in
      let sender = b.header.sender_nonce.is in
      let c = contents_back in
      λ i. record {
        kind = k i;
        id = record { bytes = id i };
        sender_nonce = record { bytes = sender i };
        has_recip_nonce = n.0 i;
        recip_nonce = n.1 i;
        contents = c i;
      }

  -- ## The given parts

  given_back : GivenBack m g o x
  unfolding m
  given_back =
      record {
        version = b.header.version;
        sender = has x.header.sender b.header.sender;
        recipient = has x.header.recipient b.header.recipient;
        message_time = optional-is m x.header.message_time g.message_time b.header.message_time;
        protection_alg = optional-is m x.header.protection_alg g.protection_alg b.header.protection_alg;
        sender_kid = optional-is m x.header.sender_kid g.sender_kid b.header.sender_kid;
        recip_kid = optional-is m x.header.recip_kid g.recip_kid b.header.recip_kid;
        free_text = optional-is m x.header.free_text g.free_text b.header.free_text;
        general_info = optional-is m x.header.general_info g.general_info b.header.general_info;
        request = optional-is m x.body.entry.request r.said.request b.says.request ∙ r.tells.request;
        certificate = optional-is m x.body.entry.certificate r.said.certificate b.says.certificate ∙ r.tells.certificate;
        protection = optional-is m x.protection _ b.protection;
        entries = b.says.entries ∙ r.tells.entries;
        ca_pubs = optional-is m x.body.ca_pubs none b.ca_pubs;
        hash_alg = optional-is m x.body.entry.hash_alg none b.says.hash_alg;
        extra_certs = optional-is m x.extra_certs none b.extra_certs;
        header_span = has x.header_span b.header_span;
        body_span = has x.body_span b.body_span;
      }

  -- ## What demand 3 asks

  recip_there : (there : Bool) → o.has_recip_nonce ≡ there → there ≡ true
      → HasPart m x.header.recip_nonce o.recip_nonce.bytes
  unfolding ShowsIf m
  recip_there true q e = has x.header.recip_nonce (simp q at b.header.recip_nonce)
  recip_there false q e = absurd (true≢false (sym e))

  abbrev e : Entry
  e = x.body.entry

  status_carried : StatusSaid o.kind r.said.status o.contents.status
      → (e.status ≡ Some o.contents.status)
      ⊎ ((x.body.kind ≡ 24) × (e.status ≡ None) × (o.contents.status ≡ 0))
  status_carried (inl p) = inl (status_there e.status o.contents.status (b.says.status ∙ p))
  status_carried (inr p) = inr (b.kind ∙ p.0, status-absent e.status (b.says.status ∙ p.1), p.2)

  carries : Carries m x o
  unfolding ShowsIf m
  carries =
      record {
        kind = b.kind;
        id = has x.header.transaction_id b.header.id;
        sender_nonce = has x.header.sender_nonce b.header.sender_nonce;
        recip_nonce = recip_there o.has_recip_nonce refl;
        status = λ h z. status_carried (r.tells.status h);
        hash = λ k n. part-is m e.cert_hash r.said.hash b.says.hash ∙ ap bytes_of (r.tells.hash (sym b.kind ∙ k));
      }

  pub reads-back : ReadsBack g o
  unfolding m x
  reads-back = record { found = r.found; clean = r.clean; order = order_is; given = given_back; carries = carries }

-- ## The theorems

-- WRITTEN
pub written : WrittenReadsBack
written inside g o room typed types h =
    let u = unrefused inside g o room h in
    let kind = kind_of_lem o.kind o.contents u.contents in
    reads-back g o types u.nonce (all_reads g typed u.header o u.short types kind u.contents u.request u.certificate)

-- the order alone
pub order-back : (inside : Bool) (g : Given) (o : Outgoing) (room : ℕ) → GivenTyped g → OrderTyped o → refusal_of inside g o room ≡ 0
    → (found : Message) × (reading_of (encode g o) ≡ Ok found) × (order_of (encode g o) found o.contents.failure ≡ o)
order-back inside g o room typed types h = let w = written inside g o room typed types h in (w.found, w.clean, w.order)

-- ISSUED: bytes written from an order are a message issued by the end that gave it
pub issued : WrittenIsIssued
issued inside g o room typed types h end past given =
    let w = written inside g o room typed types h in
    subst (λ (v : Reading). IssuedReading end (encode g o) v past) (sym w.clean) (o, given, w.carries)
