-- The two forms of a message, its bytes and its parts: THE ONLY DER, and that what is written says its parts.
use Prim.Native.Nat.{ℕ, ◌+◌, ◌<◌}
use mathlib.Core.Path.{◌≡◌, refl, sym, ◌∙◌, ap, subst}
use mathlib.Core.List.{List, [], ◌++◌}
use mathlib.Core.Bool.{Bool, true, false, cond}
use mathlib.Core.Option.{Option, none as absent, some}
use native.Mathlib.Omega.{arith}
use lib.Dec.{eqb}
use Rattle.der.specs.Head.{tag_ok}
use Rattle.der.specs.Element.{is_element}
use Rattle.protocol.specs.Types.{FailureInfo}
use Rattle.protocol.specs.declared.OutgoingContents.{OutgoingContents}
use Rattle.protocol.specs.declared.Outgoing.{Outgoing}
use Rattle.protocol.specs.Bytes.{bytes_of}
use Rattle.protocol.specs.Message.{is_enrolment_kind, is_response, p10cr, cert_conf, error_kind}
use Rattle.encoding.specs.Element.{element, field, wrapped, optional, integer}
use Rattle.encoding.specs.Given.{Given}
use Rattle.encoding.specs.Message.{recip_nonce, names_bytes, options_bytes, ids_bytes, header_bytes, failure_bits, status_bytes, requests_bytes, key_pair_bytes, responses_bytes, confirmations_bytes, error_bytes, content_bytes, body_bytes, encode}
use Rattle.encoding.specs.Fits.{is_given, is_absent, request_message_fits, certificate_fits, request_fits, response_fits}
use Rattle.encoding.specs.ReadBack.{Bytes, BytesIf, GivenTyped}
use Rattle.encoding.specs.Parts.{Parts, none, leaf, node, whole, field_parts, wrapped_parts, header_parts, bit_parts, status_parts, key_pair_parts, responses_parts, confirmations_parts, error_parts, content_parts, message_parts, TheOnlyDer, WrittenSays}
use Rattle.encoding.proofs.Sound.{Whole-element, given-element}
use Rattle.encoding.proofs.Der.{If, DerFits}
use Rattle.encoding.proofs.GivenFits.{der_fits, request_sound}
use Rattle.encoding.proofs.WrittenKinds.{Kind, ir, ip, cr, cp, kur, kup, pkiconf, error, certconf, body-tag, kind_of_lem, given_is}
use Rattle.encoding.proofs.WrittenKinds.Kind.{p10cr as p10cr-kind}
use Rattle.encoding.proofs.ReadBack.{certificate_if}
use Rattle.encoding.proofs.Refusals.{unrefused}
use Rattle.encoding.proofs.Only.{parts_bytes, only_der, Proper, says_all}

-- ## The bytes of the parts

field_is : (tag inner : ℕ) (o : Option (List ℕ)) (p : Parts) {x : List ℕ} → parts_bytes p ≡ x
    → parts_bytes (field_parts tag inner o p) ≡ field tag inner o ++ x
unfolding parts_bytes field
field_is tag inner absent p e = e
field_is tag inner (some v) p e = ap (λ (l : List ℕ). element tag (element inner v ++ []) ++ l) e

wrapped-is : (tag : ℕ) (o : Option (List ℕ)) (p : Parts) {x : List ℕ} → parts_bytes p ≡ x
    → parts_bytes (wrapped_parts tag o p) ≡ wrapped tag o ++ x
unfolding parts_bytes wrapped
wrapped-is tag absent p e = e
wrapped-is tag (some v) p e = ap (λ (l : List ℕ). element tag (v ++ []) ++ l) e

-- the header's parts from each optional field on, by its tag
module _ (g : Given) (o : Outgoing) where
  abbrev from8 : Parts
  from8 = wrapped_parts 0xA8 g.general_info none

  abbrev from7 : Parts
  from7 = wrapped_parts 0xA7 g.free_text from8

  abbrev from6 : Parts
  from6 = field_parts 0xA6 0x04 (recip_nonce o) from7

  abbrev from5 : Parts
  from5 = field_parts 0xA5 0x04 (some o.sender_nonce.bytes) from6

  abbrev from4 : Parts
  from4 = field_parts 0xA4 0x04 (some o.id.bytes) from5

  abbrev from3 : Parts
  from3 = field_parts 0xA3 0x04 g.recip_kid from4

  abbrev from2 : Parts
  from2 = field_parts 0xA2 0x04 g.sender_kid from3

  abbrev from1 : Parts
  from1 = wrapped_parts 0xA1 g.protection_alg from2

  abbrev from0 : Parts
  from0 = field_parts 0xA0 0x18 g.message_time from1

  header_is : parts_bytes (header_parts g o) ≡ names_bytes g (options_bytes g (ids_bytes g o))
  unfolding parts_bytes header_parts names_bytes options_bytes ids_bytes
  header_is =
      ap (λ (l : List ℕ). integer g.version ++ (g.sender ++ (g.recipient ++ l)))
      (field_is 0xA0 0x18 g.message_time from1
      (wrapped-is 0xA1 g.protection_alg from2
      (field_is 0xA2 0x04 g.sender_kid from3
      (field_is 0xA3 0x04 g.recip_kid from4
      (field_is 0xA4 0x04 (some o.id.bytes) from5
      (field_is 0xA5 0x04 (some o.sender_nonce.bytes) from6
      (field_is 0xA6 0x04 (recip_nonce o) from7
      (wrapped-is 0xA7 g.free_text from8 (wrapped-is 0xA8 g.general_info none refl)))))))))

bit_is : (f : Option (List ℕ)) → parts_bytes (bit_parts f) ≡ optional 0x03 f ++ []
unfolding parts_bytes optional
bit_is absent = refl
bit_is (some v) = refl

status-is : (s : ℕ) (f : Option (List ℕ)) (p : Parts) {x : List ℕ} → parts_bytes p ≡ x
    → parts_bytes (status_parts s f p) ≡ status_bytes s f ++ x
unfolding parts_bytes status_bytes
status-is s f p {x} e =
    ap (λ (l : List ℕ). element 0x30 (integer s ++ l) ++ parts_bytes p) (bit_is f)
    ∙ ap (λ (l : List ℕ). element 0x30 (integer s ++ (optional 0x03 f ++ [])) ++ l) e

key_pair_is : (e : Option (List ℕ)) → parts_bytes (key_pair_parts e) ≡ key_pair_bytes e ++ []
unfolding parts_bytes key_pair_bytes
key_pair_is absent = refl
key_pair_is (some e) = refl

responses_are : (n s : ℕ) (e : Option (List ℕ)) → parts_bytes (responses_parts n s e) ≡ responses_bytes n s e ++ []
unfolding parts_bytes responses_parts responses_bytes
responses_are n s e =
    ap (λ (l : List ℕ). element 0x30 (element 0x30 (element 0x30 (integer n ++ l) ++ []) ++ []) ++ [])
    (status-is s absent (key_pair_parts e) (key_pair_is e))

maybe_is : (s : ℕ) (b : Bool) → parts_bytes (cond b none (status_parts s absent none)) ≡ cond b [] (status_bytes s absent) ++ []
unfolding parts_bytes
maybe_is s true = refl
maybe_is s false = status-is s absent none refl

confirmations_are : (h : List ℕ) (n s : ℕ) → parts_bytes (confirmations_parts h n s) ≡ confirmations_bytes h n s ++ []
unfolding parts_bytes confirmations_parts confirmations_bytes
confirmations_are h n s =
    ap (λ (l : List ℕ). element 0x30 (element 0x30 (element 0x04 h ++ (integer n ++ l)) ++ []) ++ []) (maybe_is s (eqb s 0))

error_is : (s : ℕ) (f : FailureInfo) → parts_bytes (error_parts s f) ≡ error_bytes s f ++ []
unfolding parts_bytes error_parts error_bytes
error_is s f = ap (λ (l : List ℕ). element 0x30 l ++ []) (status-is s (failure_bits f) none refl)

pick : (t : Bool) (p q : Parts) (x y : List ℕ) → parts_bytes p ≡ x ++ [] → parts_bytes q ≡ y ++ []
    → parts_bytes (cond t p q) ≡ cond t x y ++ []
pick true p q x y e f = e
pick false p q x y e f = f

content-is : (g : Given) (k : ℕ) (c : OutgoingContents) → parts_bytes (content_parts g k c) ≡ content_bytes g k c ++ []
unfolding parts_bytes content_parts content_bytes requests_bytes
content-is g k c =
    pick (eqb k p10cr) _ _ _ _ refl
    (pick (is_enrolment_kind k) _ _ _ _ refl
    (pick (is_response k) _ _ _ _ (responses_are c.number c.status g.certificate)
    (pick (eqb k error_kind) _ _ _ _ (error_is c.status c.failure)
    (pick (eqb k cert_conf) _ _ _ _ (confirmations_are c.hash.bytes c.number c.status) refl))))

encode-is : (g : Given) (o : Outgoing) → parts_bytes (message_parts g o) ≡ encode g o
unfolding parts_bytes message_parts encode header_bytes body_bytes
encode-is g o =
    let content : List ℕ = parts_bytes (content_parts g o.kind o.contents) in
    let protection : List ℕ = parts_bytes (field_parts 0xA0 0x03 g.protection none) in
    ap (λ (l : List ℕ). element 0x30 (element 0x30 l ++ (element (0xA0 + o.kind) content ++ protection)) ++ []) (header_is g o)
    ∙ ap (λ (l : List ℕ). element 0x30 (header_bytes g o ++ (element (0xA0 + o.kind) l ++ protection)) ++ [])
    (content-is g o.kind o.contents)
    ∙ ap (λ (l : List ℕ). element 0x30 (header_bytes g o ++ (body_bytes g o ++ l)) ++ []) (field_is 0xA0 0x03 g.protection none refl)

-- THE ONLY DER: bytes that say the order and the given parts are those that are written
pub the_only_der : TheOnlyDer
the_only_der m bytes g o s = only_der m bytes (message_parts g o) s ∙ encode-is g o

-- ## What is written says its parts

field_proper : (tag inner : ℕ) (o : Option (List ℕ)) (p : Parts) → tag_ok tag ≡ true → tag_ok inner ≡ true → Proper p
    → Proper (field_parts tag inner o p)
unfolding Proper
field_proper tag inner absent p a b h = h
field_proper tag inner (some v) p a b h = (a, (b, tt), h)

whole_proper : {d : ℕ} {e : List ℕ} (p : Parts) → Whole-element d e → Proper p → Proper (whole e p)
unfolding Proper
whole_proper p w h = (w.tag, w.content, w.is, w.good.tags, h)

wrapped_proper : (tag : ℕ) (o : Option (List ℕ)) (p : Parts) → tag_ok tag ≡ true → If (Whole-element 12) o → Proper p
    → Proper (wrapped_parts tag o p)
unfolding Proper If
wrapped_proper tag absent p a w h = h
wrapped_proper tag (some e) p a w h = (a, whole_proper none w tt, h)

module _ (g : Given) (o : Outgoing) (f : DerFits g) where
  header_proper : g.version < 4294967296 → Proper (header_parts g o)
  unfolding Proper header_parts tag_ok
  header_proper word =
      let p8 = wrapped_proper 0xA8 g.general_info none refl f.general_info tt in
      let p7 = wrapped_proper 0xA7 g.free_text (from8 g o) refl f.free_text p8 in
      let p6 = field_proper 0xA6 0x04 (recip_nonce o) (from7 g o) refl refl p7 in
      let p5 = field_proper 0xA5 0x04 (some o.sender_nonce.bytes) (from6 g o) refl refl p6 in
      let p4 = field_proper 0xA4 0x04 (some o.id.bytes) (from5 g o) refl refl p5 in
      let p3 = field_proper 0xA3 0x04 g.recip_kid (from4 g o) refl refl p4 in
      let p2 = field_proper 0xA2 0x04 g.sender_kid (from3 g o) refl refl p3 in
      let p1 = wrapped_proper 0xA1 g.protection_alg (from2 g o) refl f.protection_alg p2 in
      let p0 = field_proper 0xA0 0x18 g.message_time (from1 g o) refl refl p1 in
      (word, whole_proper (whole g.recipient (from0 g o)) f.sender (whole_proper (from0 g o) f.recipient p0))

bit_proper : (f : Option (List ℕ)) → Proper (bit_parts f)
unfolding Proper tag_ok
bit_proper absent = tt
bit_proper (some v) = (refl, tt)

key_pair_proper : (e : Option (List ℕ)) → If (Whole-element 8) e → Proper (key_pair_parts e)
unfolding Proper If tag_ok
key_pair_proper absent w = tt
key_pair_proper (some e) w = (refl, (refl, whole_proper none w tt, tt), tt)

maybe_proper : (s : ℕ) (b : Bool) → s < 4294967296 → Proper (cond b none (status_parts s absent none))
unfolding Proper tag_ok
maybe_proper s true word = tt
maybe_proper s false word = (refl, (word, tt), tt)

module _ (g : Given) (typed : GivenTyped g) (c : OutgoingContents) (wn : c.number < 4294967296) (ws : c.status < 4294967296) where
  one-request : (p : Parts) {d : ℕ} (test : List ℕ → Bool) → ((e : List ℕ) → Bytes e → test e ≡ true → Whole-element d e) → Proper p
      → is_given test g.request ≡ true → Proper (whole (bytes_of g.request) p)
  one-request p {d} test sound h q =
      let r = given_is test g.request q in
      let w : Whole-element d r.0 = sound r.0 (subst BytesIf r.1 typed.request) r.2 in
      subst (λ (v : Option (List ℕ)). Proper (whole (bytes_of v) p)) (sym r.1) (whole_proper p w h)

  request_proper : is_given request_message_fits g.request ≡ true → Proper (node 0x30 (whole (bytes_of g.request) none) none)
  unfolding Proper tag_ok
  request_proper q = (refl, one-request none request_message_fits request_sound tt q, tt)

  response_proper : cond (eqb c.status 0) (is_given certificate_fits g.certificate) (is_absent g.certificate) ≡ true
      → Proper (responses_parts c.number c.status g.certificate)
  unfolding Proper responses_parts tag_ok
  response_proper q =
      let k = key_pair_proper g.certificate (certificate_if (eqb c.status 0) g.certificate typed.certificate q).0 in
      (refl, (refl, (refl, (wn, (refl, (ws, tt), k)), tt), tt), tt)

  confirm_proper : Proper (confirmations_parts c.hash.bytes c.number c.status)
  unfolding Proper confirmations_parts tag_ok
  confirm_proper = (refl, (refl, (refl, (wn, maybe_proper c.status (eqb c.status 0) ws)), tt), tt)

  error_proper : Proper (error_parts c.status c.failure)
  unfolding Proper error_parts tag_ok
  error_proper = (refl, (refl, (ws, bit_proper (failure_bits c.failure)), tt), tt)

  null_proper : Proper (leaf 0x05 [] none)
  unfolding Proper tag_ok
  null_proper = (refl, tt)

  content_proper : (k : ℕ) → Kind k → request_fits k g.request ≡ true → response_fits k c.status g.certificate ≡ true
      → Proper (content_parts g k c)
  unfolding content_parts request_fits response_fits Proper
  content_proper _ ir r s = request_proper r
  content_proper _ cr r s = request_proper r
  content_proper _ kur r s = request_proper r
  content_proper _ p10cr-kind r s = one-request none (is_element 14) (given-element 13) tt r
  content_proper _ ip r s = response_proper s
  content_proper _ cp r s = response_proper s
  content_proper _ kup r s = response_proper s
  content_proper _ certconf r s = confirm_proper
  content_proper _ error r s = error_proper
  content_proper _ pkiconf r s = null_proper

pub written-says : WrittenSays
unfolding message_parts Proper tag_ok
written-says inside g o room typed types h =
    let u = unrefused inside g o room h in
    let few = u.short in
    let kind = kind_of_lem o.kind o.contents u.contents in
    let header = header_proper g o (der_fits g typed u.header) typed.version in
    let content = content_proper g typed o.contents types.number types.status o.kind kind u.request u.certificate in
    let protection = field_proper 0xA0 0x03 g.protection none refl refl tt in
    says_all (encode g o) (omega arith) (message_parts g o)
    (refl, (refl, header, ((body-tag o.kind kind).tags, content, protection)), tt) (sym (encode-is g o))
