-- The kinds that are written, and what the test of an order (36) gives for each: its contents, and what of the caller's it has.
use Rattle.std.specs.Prelude.{Some, None}
use Prim.Native.Nat.{ℕ, ◌+◌, ◌≤◌}
use mathlib.Core.Path.{◌≡◌, refl, sym, ◌∙◌, ap, subst}
use mathlib.Core.List.{List, [], ◌∷◌}
use mathlib.Core.Bool.{Bool, true, false, ◌||◌, true≢false}
use mathlib.Core.Option.{Option, none, some}
use borrow.Author.Tests.{eqb-true}
use lib.ListN.{length}
use lib.Dec.{eqb, lit≤}
use Rattle.der.specs.Head.{tag_ok}
use Rattle.der.specs.Element.{constructed, form_ok}
use Rattle.der.proofs.Auto.{and_left, and_right}
use Rattle.der.proofs.HeadLaws.{cond_both}
use Rattle.protocol.specs.declared.Hash.{Hash}
use Rattle.protocol.specs.Types.{FailureInfo}
use Rattle.protocol.specs.declared.OutgoingContents.{OutgoingContents}
use Rattle.protocol.specs.Bytes.{zeros, no_hash}
use Rattle.protocol.specs.Message.{is_enrolment_kind, is_response, cert_conf, pki_conf, error_kind}
use Rattle.protocol.specs.Outgoing.{no_contents, with_status, with_hash, with_failure, with_number}
use Rattle.encoding.specs.Fits.{is_given, is_absent, blank, has_just, no_bit, contents_with, contents_fit}
use Rattle.encoding.specs.FitsRules.{is_written}

pub data Kind : ℕ → Type 0 where
  ir : Kind 0
  ip : Kind 1
  cr : Kind 2
  cp : Kind 3
  p10cr : Kind 4
  kur : Kind 7
  kup : Kind 8
  pkiconf : Kind 19
  error : Kind 23
  certconf : Kind 24

one : (k a : ℕ) → Kind a → eqb k a ≡ true → Kind k
one k a p e = subst Kind (sym (eqb-true k a e)) p

or_one : (k : ℕ) (b : Bool) (a : ℕ) → (b ≡ true → Kind k) → Kind a → (b || eqb k a) ≡ true → Kind k
or_one k true a f p h = f refl
or_one k false a f p h = one k a p h

enrolment-kind : (k : ℕ) → is_enrolment_kind k ≡ true → Kind k
enrolment-kind k =
    or_one k (eqb k 0 || eqb k 2 || eqb k 4) 7 (or_one k (eqb k 0 || eqb k 2) 4 (or_one k (eqb k 0) 2 (one k 0 ir) cr) p10cr) kur

response-kind : (k : ℕ) → is_response k ≡ true → Kind k
response-kind k = or_one k (eqb k 1 || eqb k 3) 8 (or_one k (eqb k 1) 3 (one k 1 ip) cp) kup

pub kind_of_lem : (k : ℕ) (c : OutgoingContents) → contents_fit k c ≡ true → Kind k
unfolding contents_fit
kind_of_lem k c =
    let P : Bool → Type 0 = λ (b : Bool). b ≡ true → Kind k in
    cond_both P (is_enrolment_kind k || eqb k pki_conf) (λ q h. or_one k (is_enrolment_kind k) 19 (enrolment-kind k) pkiconf q) λ q.
    cond_both P (is_response k) (λ r h. response-kind k r) λ r.
    cond_both P (eqb k cert_conf) (λ s h. one k 24 certconf s) λ s.
    cond_both P (eqb k error_kind) (λ t h. one k 23 error t) λ t h. absurd (true≢false (sym h))

-- the ten kinds as they are named
either : {X : Type 0} (a b : Bool) → (a ≡ true → X) → (b ≡ true → X) → (a || b) ≡ true → X
either true b f g h = f refl
either false b f g h = g h

pub kind-named : (k : ℕ) → is_written k ≡ true → Kind k
kind-named k =
    or_one k (is_enrolment_kind k || is_response k || eqb k pki_conf || eqb k error_kind) 24
    (or_one k (is_enrolment_kind k || is_response k || eqb k pki_conf) 23
    (or_one k (is_enrolment_kind k || is_response k) 19 (either (is_enrolment_kind k) (is_response k) (enrolment-kind k) (response-kind k)) pkiconf)
    error)
    certconf

pub named : (k : ℕ) → Kind k → is_written k ≡ true
named _ ir = refl
named _ ip = refl
named _ cr = refl
named _ cp = refl
named _ p10cr = refl
named _ kur = refl
named _ kup = refl
named _ pkiconf = refl
named _ error = refl
named _ certconf = refl

-- the body's tag may stand, and is constructed
pub record BodyTag (k : ℕ) : Type 0 where
  pub low : k ≤ 26
  pub tags : tag_ok (0xA0 + k) ≡ true
  pub form : form_ok (0xA0 + k) ≡ true
  pub holds : constructed (0xA0 + k) ≡ true

pub body-tag : (k : ℕ) → Kind k → BodyTag k
unfolding tag_ok form_ok
body-tag _ ir = record { low = lit≤ tt; tags = refl; form = refl; holds = refl }
body-tag _ ip = record { low = lit≤ tt; tags = refl; form = refl; holds = refl }
body-tag _ cr = record { low = lit≤ tt; tags = refl; form = refl; holds = refl }
body-tag _ cp = record { low = lit≤ tt; tags = refl; form = refl; holds = refl }
body-tag _ p10cr = record { low = lit≤ tt; tags = refl; form = refl; holds = refl }
body-tag _ kur = record { low = lit≤ tt; tags = refl; form = refl; holds = refl }
body-tag _ kup = record { low = lit≤ tt; tags = refl; form = refl; holds = refl }
body-tag _ pkiconf = record { low = lit≤ tt; tags = refl; form = refl; holds = refl }
body-tag _ error = record { low = lit≤ tt; tags = refl; form = refl; holds = refl }
body-tag _ certconf = record { low = lit≤ tt; tags = refl; form = refl; holds = refl }

-- ## The caller's parts

pub given_is : (test : List ℕ → Bool) (r : Option (List ℕ)) → is_given test r ≡ true → (e : List ℕ) × (r ≡ some e) × (test e ≡ true)
given_is test none h = absurd (true≢false (sym h))
given_is test (some e) h = (e, refl, h)

pub absent-is : (r : Option (List ℕ)) → is_absent r ≡ true → r ≡ none
absent-is none h = refl
absent-is (some e) h = absurd (true≢false (sym h))

-- ## The order's contents

-- unset bytes are zeros
pub blank-is : (s : List ℕ) → blank s ≡ true → s ≡ zeros (length s)
unfolding blank
blank-is [] h = refl
blank-is (x ∷ s) h =
    let e : x ≡ 0 = eqb-true x 0 (and_left (eqb x 0) (blank s) h) in
    let f : s ≡ zeros (length s) = blank-is s (and_right (eqb x 0) (blank s) h) in
    λ i. e i ∷ f i

no_bit_lem : (f : FailureInfo) → no_bit f ≡ true → f ≡ None
no_bit_lem None h = refl
no_bit_lem (Some b) h = absurd (true≢false (sym h))

not_there : (there unset : Bool) → has_just false there unset ≡ true → (there ≡ false) × (unset ≡ true)
not_there true unset h = absurd (true≢false (sym h))
not_there false unset h = (refl, h)

same_contents : (c : OutgoingContents) {a b : Bool} {s n : ℕ} {h : Hash} {f : FailureInfo} → c.has_status ≡ a → c.status ≡ s
    → c.hash ≡ h → c.failure ≡ f → c.has_number ≡ b → c.number ≡ n
    → record { has_status = a; status = s; hash = h; failure = f; has_number = b; number = n } ≡ c
same_contents c p q r s t u =
    λ i. record { has_status = sym p i; status = sym q i; hash = sym r i; failure = sym s i; has_number = sym t i; number = sym u i }

module _ (c : OutgoingContents) (size : length c.hash.bytes ≡ 32) where
  no_hash_lem : blank c.hash.bytes ≡ true → c.hash ≡ no_hash
  no_hash_lem h = let e : c.hash.bytes ≡ zeros 32 = blank-is c.hash.bytes h ∙ ap zeros size in λ i. record { bytes = e i }

  record With (s n h b : Bool) : Type 0 where
    status : has_just s c.has_status (eqb c.status 0) ≡ true
    number : has_just n c.has_number (eqb c.number 0) ≡ true
    hash : (h || blank c.hash.bytes) ≡ true
    bit : (b || no_bit c.failure) ≡ true

  with_parts : (s n h b : Bool) → contents_with s n h b c ≡ true → With s n h b
  unfolding contents_with
  with_parts s n h b e =
      let r1 = and_right (has_just s c.has_status (eqb c.status 0)) _ e in
      let r2 = and_right (has_just n c.has_number (eqb c.number 0)) _ r1 in
      record {
        status = and_left (has_just s c.has_status (eqb c.status 0)) _ e;
        number = and_left (has_just n c.has_number (eqb c.number 0)) _ r1;
        hash = and_left (h || blank c.hash.bytes) _ r2;
        bit = and_right (h || blank c.hash.bytes) _ r2;
      }

  -- requests and pkiconf
  pub silent_are : contents_with false false false false c ≡ true → no_contents ≡ c
  silent_are e =
      let w = with_parts false false false false e in
      let s = not_there c.has_status _ w.status in
      let n = not_there c.has_number _ w.number in
      same_contents c s.0 (eqb-true c.status 0 s.1) (no_hash_lem w.hash) (no_bit_lem c.failure w.bit) n.0
      (eqb-true c.number 0 n.1)

  -- responses
  pub response_contents : contents_with true true false false c ≡ true → with_number c.number (with_status c.status no_contents) ≡ c
  response_contents e =
      let w = with_parts true true false false e in
      same_contents c w.status refl (no_hash_lem w.hash) (no_bit_lem c.failure w.bit) w.number refl

  -- certConf
  pub confirm_contents : contents_with true true true false c ≡ true
      → with_number c.number (with_hash c.hash (with_status c.status no_contents)) ≡ c
  confirm_contents e =
      let w = with_parts true true true false e in
      same_contents c w.status refl refl (no_bit_lem c.failure w.bit) w.number refl

  -- error
  pub error_contents : contents_with true false false true c ≡ true → with_failure c.failure (with_status c.status no_contents) ≡ c
  error_contents e =
      let w = with_parts true false false true e in
      let n = not_there c.has_number _ w.number in
      same_contents c w.status refl (no_hash_lem w.hash) refl n.0 (eqb-true c.number 0 n.1)

  pub no_status : contents_with false false false false c ≡ true → c.has_status ≡ false
  no_status e = (not_there c.has_status _ (with_parts false false false false e).status).0

-- only an error has a failure bit
pub no_failure : (s n h : Bool) (c : OutgoingContents) → contents_with s n h false c ≡ true → c.failure ≡ None
unfolding contents_with
no_failure s n h c e =
    let r1 = and_right (has_just s c.has_status (eqb c.status 0)) _ e in
    let r2 = and_right (has_just n c.has_number (eqb c.number 0)) _ r1 in
    no_bit_lem c.failure (and_right (h || blank c.hash.bytes) _ r2)
