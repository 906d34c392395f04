-- FITS EXACTLY: the given parts fit (36) exactly if the bytes with each at its place are read clean and each is found there.
use Prim.Native.Nat.{ℕ, ◌<◌, ◌≤◌}
use mathlib.Core.Path.{◌≡◌, refl, sym, ◌∙◌, ap, subst}
use mathlib.Core.List.{List}
use mathlib.Core.Bool.{Bool, true, false, cond, ◌&&◌, ◌||◌, true≢false}
use mathlib.Core.Option.{Option, none, some}
use mathlib.Core.Logic.{◌⊎◌, inl, inr}
use native.Mathlib.Nat.{le_refl}
use native.Mathlib.Omega.{arith}
use lib.ListN.{length}
use lib.Dec.{eqb}
use Rattle.der.specs.Content.{bit_string_ok}
use Rattle.der.specs.Element.{check, is_element, is_sound}
use Rattle.der.proofs.Auto.{and_left}
use Rattle.der.proofs.OneForm.{Bytes}
use Rattle.grammar.specs.declared.Entry.{Entry}
use Rattle.grammar.specs.declared.Span.{Span}
use Rattle.grammar.specs.declared.Message.{Message}
use Rattle.grammar.specs.declared.pki_body.Contents.{Contents}
use Rattle.grammar.specs.Span.{part_of}
use Rattle.grammar.specs.Body.{requests_of, responses_of, p10cr_of, other_of, contents_of}
use Rattle.grammar.proofs.Places.{NoFault}
use Rattle.message.specs.Read.{max_message}
use Rattle.message.proofs.ReadingLaws.{CleanOf, clean_found}
use Rattle.protocol.specs.declared.Nonce.{Nonce}
use Rattle.protocol.specs.declared.Hash.{Hash}
use Rattle.protocol.specs.Types.{FailureInfo}
use Rattle.protocol.specs.declared.OutgoingContents.{OutgoingContents}
use Rattle.protocol.specs.declared.Outgoing.{Outgoing}
use Rattle.protocol.specs.Bytes.{no_nonce, present}
use Rattle.protocol.specs.Message.{is_enrolment_kind, is_response, cert_conf, error_kind, is_present, optional_part, optional_status, status_or0}
use Rattle.protocol.specs.Outgoing.{no_contents, with_status, with_hash, with_failure, with_number}
use Rattle.encoding.specs.Element.{field}
use Rattle.encoding.specs.Given.{Given}
use Rattle.encoding.specs.Message.{encode}
use Rattle.encoding.specs.Fits.{if_given, is_given, is_absent, blank, name_fits, typed_fits, text_fits, info_fits, header_fits, request_message_fits, certificate_fits, request_fits, response_fits, contents_with, contents_fit, order_fits, fits}
use Rattle.encoding.specs.Write.{refusal_of}
use Rattle.encoding.specs.ReadBack.{GivenTyped, OrderTyped, contents_read, order_of, if_there}
use Rattle.encoding.specs.FitsRules.{FitsInPlace, FitsExactly, RefusedExactly}
use Rattle.encoding.specs.WriteRules.{RefusalRules}
use Rattle.encoding.proofs.Sound.{sound_anywhere}
use Rattle.encoding.proofs.WrittenKinds.{Kind, ir, ip, cr, cp, p10cr, kur, kup, pkiconf, error, certconf, kind_of_lem, kind-named, named}
use Rattle.encoding.proofs.Refusals.{refusals, unrefused}
use Rattle.encoding.proofs.Written.{written}
use Rattle.encoding.proofs.SameBytes.{field-same, body-size}
use Rattle.encoding.proofs.EncodeBytes.{encode-bytes}
use Rattle.encoding.proofs.WalkedBody.{p10cr-fits, requests_fit, responses_fit, Protects, BodyWalked, MessageWalked, message_walked}

-- ## A part that is given, or is not

given-fits : (test : List ℕ → Bool) (r : Option (List ℕ)) → if_given test r ≡ true → present r ≡ true → is_given test r ≡ true
given-fits test none k q = absurd (true≢false (sym q))
given-fits test (some e) k q = k

absent-fits : (r : Option (List ℕ)) → present r ≡ false → is_absent r ≡ true
absent-fits none q = refl
absent-fits (some e) q = absurd (true≢false q)

given_there : (test : List ℕ → Bool) (r : Option (List ℕ)) → is_given test r ≡ true → present r ≡ true
given_there test none k = absurd (true≢false (sym k))
given_there test (some e) k = refl

absent_there : (r : Option (List ℕ)) → is_absent r ≡ true → present r ≡ false
absent_there none k = refl
absent_there (some e) k = absurd (true≢false (sym k))

just_there : (b : Bool) (test : List ℕ → Bool) (r : Option (List ℕ)) → cond b (is_given test r) (is_absent r) ≡ true → present r ≡ b
just_there true test r k = given_there test r k
just_there false test r k = absent_there r k

just_fits : (b : Bool) (test : List ℕ → Bool) (r : Option (List ℕ)) → present r ≡ b → (b ≡ true → if_given test r ≡ true)
    → cond b (is_given test r) (is_absent r) ≡ true
just_fits true test r q k = given-fits test r (k refl) q
just_fits false test r q k = absent-fits r q

-- ## From the test to the place

request_there : (k : ℕ) → Kind k → (r : Option (List ℕ)) → request_fits k r ≡ true → present r ≡ is_enrolment_kind k
unfolding request_fits
request_there _ ir r h = given_there request_message_fits r h
request_there _ ip r h = absent_there r h
request_there _ cr r h = given_there request_message_fits r h
request_there _ cp r h = absent_there r h
request_there _ p10cr r h = given_there (is_element 14) r h
request_there _ kur r h = given_there request_message_fits r h
request_there _ kup r h = absent_there r h
request_there _ pkiconf r h = absent_there r h
request_there _ error r h = absent_there r h
request_there _ certconf r h = absent_there r h

pub in_place : (g : Given) (o : Outgoing) → GivenTyped g → OrderTyped o → length (encode g o) ≤ max_message → fits g o ≡ true → FitsInPlace g o
unfolding fits response_fits
in_place g o typed types short h =
    let n : ℕ = length (encode g o) in
    let z : refusal_of true g o n ≡ 0 = (refusals true g o n).written.1 (short, le_refl n, refl, h) in
    let u = unrefused true g o n z in
    let w = written true g o n typed types z in
    let k = kind_of_lem o.kind o.contents u.contents in
    record {
      kind = named o.kind k;
      request = request_there o.kind k g.request u.request;
      certificate = just_there (is_response o.kind && eqb o.contents.status 0) certificate_fits g.certificate u.certificate;
      found = w.found;
      clean = w.clean;
      order = w.order;
      given = w.given;
    }

-- ## From the place to the test

-- the contents that are read of a body of this kind, which has this number, status, hash and failure
read : (k n s : ℕ) → Hash → FailureInfo → OutgoingContents
read k n s h f =
    cond (is_response k) (with_number n (with_status s no_contents))
    (cond (eqb k cert_conf) (with_number n (with_hash h (with_status s no_contents)))
    (cond (eqb k error_kind) (with_failure f (with_status s no_contents)) no_contents))

read_fits : (k : ℕ) → Kind k → (n s : ℕ) (h : Hash) (f : FailureInfo) → contents_fit k (read k n s h f) ≡ true
unfolding read contents_fit contents_with blank
read_fits _ ir n s h f = refl
read_fits _ ip n s h f = refl
read_fits _ cr n s h f = refl
read_fits _ cp n s h f = refl
read_fits _ p10cr n s h f = refl
read_fits _ kur n s h f = refl
read_fits _ kup n s h f = refl
read_fits _ pkiconf n s h f = refl
read_fits _ error n s h f = refl
read_fits _ certconf n s h f = refl

nonce-unset : (there : Bool) (n : Nonce) → (there || blank (cond there n no_nonce).bytes) ≡ true
unfolding blank
nonce-unset true n = refl
nonce-unset false n = refl

-- an order that was read fits
order-fits : (m : List ℕ) (x : Message) (f : FailureInfo) → Kind x.body.kind → order_fits (order_of m x f) ≡ true
unfolding order_of contents_read read
order-fits m x f k =
    let e : Entry = x.body.entry in
    let status : ℕ = status_or0 (optional_status e.status) in
    rw (
      nonce-unset (is_present x.header.recip_nonce) (record { bytes = part_of m x.header.recip_nonce }),
      read_fits x.body.kind k e.number status (record { bytes = part_of m e.cert_hash }) f,
    )

protection-fits : (m : List ℕ) (bytes : Bytes m) (few : length m < 65536) (p : Option (List ℕ)) → length (field 0xA0 0x03 p) < 65536
    → ((e : List ℕ) → if_there p (field 0xA0 0x03 p) ≡ some e → Protects m bytes few e) → if_given bit_string_ok p ≡ true
unfolding field
protection-fits m bytes few none small f = refl
protection-fits m bytes few (some v) small f =
    let p = f (field 0xA0 0x03 (some v)) refl in
    let same : some v ≡ some p.content = field-same (some v) (some p.content) small (ap some p.is) in
    ap (if_given bit_string_ok) same ∙ p.bits

module _ (m : List ℕ) (bytes : Bytes m) (few : length m < 65536) (e : Entry) where
  -- the part that the entry names is the part that is given
  same-part : (test : List ℕ → Bool) (s t : Span) (r : Option (List ℕ)) → s ≡ t → optional_part m s ≡ r
      → if_given test (optional_part m t) ≡ true → if_given test r ≡ true
  same-part test s t r same is k = ap (if_given test) (sym is ∙ ap (optional_part m) same) ∙ k

  module _ (r : Option (List ℕ)) (is : optional_part m e.request ≡ r) where
    requests_in : (k : ℕ) (w : BodyWalked m bytes few k e) → contents_of m k w.at ≡ requests_of m w.at → present r ≡ true
        → is_given request_message_fits r ≡ true
    requests_in k w rule =
        let x : Entry = (requests_of m w.at).entry in
        let same : e.request ≡ x.request = ap (λ (y : Entry). y.request) w.is ∙ ap (λ (y : Contents). y.entry.request) rule in
        let ok : NoFault (requests_of m w.at).cur = subst (λ (y : Contents). NoFault y.cur) rule w.ok in
        given-fits request_message_fits r
        (same-part request_message_fits e.request x.request r same is (requests_fit m bytes few w.at w.stands ok))

    p10cr_in : (w : BodyWalked m bytes few 4 e) → present r ≡ true → is_given (is_element 14) r ≡ true
    unfolding contents_of other_of
    p10cr_in w =
        let x : Entry = (p10cr_of m w.at).entry in
        let same : e.request ≡ x.request = ap (λ (y : Entry). y.request) w.is in
        given-fits (is_element 14) r
        (same-part (is_element 14) e.request x.request r same is (p10cr-fits m bytes few w.at w.stands w.ok))

    request_in : (k : ℕ) → Kind k → BodyWalked m bytes few k e → present r ≡ is_enrolment_kind k → request_fits k r ≡ true
    unfolding request_fits contents_of
    request_in _ ir w q = requests_in 0 w refl q
    request_in _ ip w q = absent-fits r q
    request_in _ cr w q = requests_in 2 w refl q
    request_in _ cp w q = absent-fits r q
    request_in _ p10cr w q = p10cr_in w q
    request_in _ kur w q = requests_in 7 w refl q
    request_in _ kup w q = absent-fits r q
    request_in _ pkiconf w q = absent-fits r q
    request_in _ error w q = absent-fits r q
    request_in _ certconf w q = absent-fits r q

  module _ (r : Option (List ℕ)) (is : optional_part m e.certificate ≡ r) where
    responses_in : (k : ℕ) (w : BodyWalked m bytes few k e) → contents_of m k w.at ≡ responses_of m w.at → if_given certificate_fits r ≡ true
    responses_in k w rule =
        let x : Entry = (responses_of m w.at).entry in
        let same : e.certificate ≡ x.certificate =
        ap (λ (y : Entry). y.certificate) w.is ∙ ap (λ (y : Contents). y.entry.certificate) rule in
        let ok : NoFault (responses_of m w.at).cur = subst (λ (y : Contents). NoFault y.cur) rule w.ok in
        same-part certificate_fits e.certificate x.certificate r same is (responses_fit m bytes few w.at w.stands ok)

    certificate_in_lem : (k : ℕ) → Kind k → BodyWalked m bytes few k e → is_response k ≡ true → if_given certificate_fits r ≡ true
    unfolding contents_of
    certificate_in_lem _ ir w q = absurd (true≢false (sym q))
    certificate_in_lem _ ip w q = responses_in 1 w refl
    certificate_in_lem _ cr w q = absurd (true≢false (sym q))
    certificate_in_lem _ cp w q = responses_in 3 w refl
    certificate_in_lem _ p10cr w q = absurd (true≢false (sym q))
    certificate_in_lem _ kur w q = absurd (true≢false (sym q))
    certificate_in_lem _ kup w q = responses_in 8 w refl
    certificate_in_lem _ pkiconf w q = absurd (true≢false (sym q))
    certificate_in_lem _ error w q = absurd (true≢false (sym q))
    certificate_in_lem _ certconf w q = absurd (true≢false (sym q))

module _ (g : Given) (o : Outgoing) (bytes : Bytes (encode g o)) (place : FitsInPlace g o) where
  clean : CleanOf (encode g o) place.found
  clean = clean_found (encode g o) place.found place.clean

  few : length (encode g o) < 65536
  few = omega (arith, clean.few)

  walked : MessageWalked (encode g o) bytes few place.found
  unfolding check
  walked =
      let sound = sound_anywhere 16 0 (encode g o) (ap is_sound clean.sound) in
      subst (MessageWalked (encode g o) bytes few) (sym clean.found) (message_walked (encode g o) bytes few sound clean.met)

  header_in : header_fits g ≡ true
  unfolding header_fits
  header_in =
      let h = walked.header in
      let b = place.given in
      let small : length (field 0xA0 0x03 g.protection) < 65536 = omega (arith, body-size g o, few) in
      let protection : if_given bit_string_ok g.protection ≡ true =
      protection-fits (encode g o) bytes few g.protection small (λ e q. walked.protection e (b.protection ∙ q)) in
      rw (
        ap name_fits (sym b.sender.1) ∙ h.sender,
        ap name_fits (sym b.recipient.1) ∙ h.recipient,
        ap (if_given typed_fits) (sym b.protection_alg) ∙ h.protection_alg,
        ap (if_given text_fits) (sym b.free_text) ∙ h.free_text,
        ap (if_given info_fits) (sym b.general_info) ∙ h.general_info,
        protection,
      )

  kind-is : place.found.body.kind ≡ o.kind
  unfolding order_of
  kind-is = ap (λ (z : Outgoing). z.kind) place.order

  kind : Kind o.kind
  kind = kind-named o.kind place.kind

  order_in : order_fits o ≡ true
  order_in =
      subst (λ (z : Outgoing). order_fits z ≡ true) place.order
      (order-fits (encode g o) place.found o.contents.failure (subst Kind (sym kind-is) kind))

  body_in : BodyWalked (encode g o) bytes few o.kind place.found.body.entry
  body_in = subst (λ (k : ℕ). BodyWalked (encode g o) bytes few k place.found.body.entry) kind-is walked.body

  pub fits_by : fits g o ≡ true
  unfolding fits response_fits
  fits_by =
      let e : Entry = place.found.body.entry in
      let b = place.given in
      let request = request_in (encode g o) bytes few e g.request b.request o.kind kind body_in place.request in
      let response : Bool = is_response o.kind && eqb o.contents.status 0 in
      let certificate =
      just_fits response certificate_fits g.certificate place.certificate
      (λ q.
      certificate_in_lem (encode g o) bytes few e g.certificate b.certificate o.kind kind body_in
      (and_left (is_response o.kind) (eqb o.contents.status 0) q)) in
      rw (order_in, header_in, request, certificate)

-- ## The theorem

-- FITS EXACTLY
pub fits_exactly : FitsExactly
fits_exactly g o typed types copied short = (
  in_place g o typed types short,
  λ p. fits_by g o (encode-bytes g o typed types copied (kind-named o.kind p.kind) (omega arith)) p,
)

unfit : {X : Type 0} (b : Bool) → (b ≡ true → X) → (X → ⊥) → b ≡ false
unfit true f n = absurd (n (f refl))
unfit false f n = refl

-- REFUSED EXACTLY
pub refused_exactly : RefusedExactly
refused_exactly inside g o room typed types copied = (
  (λ h.
      let u = rules.unfit.0 h in
      (u.0, u.1, out u.0 u.2)),
  λ u. rules.unfit.1 (u.0, u.1, back u.0 u.2),
)
  where
    rules : RefusalRules inside g o room (refusal_of inside g o room)
    rules = refusals inside g o room

    out : length (encode g o) ≤ max_message → (inside ≡ false) ⊎ (fits g o ≡ false) → (inside ≡ false) ⊎ (FitsInPlace g o → ⊥)
    out short (inl e) = inl e
    out short (inr e) = inr (λ p. true≢false (sym ((fits_exactly g o typed types copied short).1 p) ∙ e))

    back : length (encode g o) ≤ max_message → (inside ≡ false) ⊎ (FitsInPlace g o → ⊥) → (inside ≡ false) ⊎ (fits g o ≡ false)
    back short (inl e) = inl e
    back short (inr n) = inr (unfit (fits g o) (fits_exactly g o typed types copied short).0 n)
