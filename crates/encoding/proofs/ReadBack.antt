-- READ BACK: what was written reads clean, and says what was written, for each kind.
use Rattle.std.specs.Prelude.{Ok}
use Prim.Native.Nat.{ℕ, ◌<◌, ◌≤◌}
use mathlib.Core.Path.{◌≡◌, refl, sym, ◌∙◌, ap, subst}
use mathlib.Core.List.{List, [], ◌++◌}
use mathlib.Core.Bool.{Bool, true, false, cond, true≢false}
use mathlib.Core.Option.{Option, none, some}
use mathlib.Core.Logic.{◌⊎◌, inl, inr}
use native.Mathlib.Omega.{arith}
use borrow.Author.Tests.{le-ltb, ne_eqb, eqb-true}
use lib.ListN.{length}
use lib.Dec.{eqb}
use Rattle.der.specs.Element.{is_element, check}
use Rattle.der.specs.Integer.{signed32}
use Rattle.grammar.specs.declared.Message.{Message}
use Rattle.grammar.specs.declared.cursor.Cursor.{Cursor}
use Rattle.grammar.specs.Body.{requests_of, responses_of, other_of, contents_of}
use Rattle.grammar.specs.Message.{message_of}
use Rattle.message.specs.Read.{max_message, lowest, reading_of}
use Rattle.protocol.specs.Types.{FailureInfo}
use Rattle.protocol.specs.declared.OutgoingContents.{OutgoingContents}
use Rattle.protocol.specs.declared.Outgoing.{Outgoing}
use Rattle.protocol.specs.Bytes.{bytes_of}
use Rattle.protocol.specs.Message.{is_response, cert_conf, error_kind, status_or0}
use Rattle.protocol.specs.Outgoing.{no_contents, with_status, with_hash, with_failure, with_number}
use Rattle.encoding.specs.Element.{field}
use Rattle.encoding.specs.Given.{Given}
use Rattle.encoding.specs.Message.{header_bytes, failure_bits, requests_bytes, responses_bytes, error_bytes, content_bytes, body_bytes, encode}
use Rattle.encoding.specs.Fits.{is_given, is_absent, header_fits, request_message_fits, certificate_fits, request_fits, response_fits, contents_with, contents_fit}
use Rattle.encoding.specs.ReadBack.{Bytes, BytesIf, GivenTyped, OrderTyped, has_entry}
use Rattle.encoding.proofs.Holds.{Holds, some_bytes}
use Rattle.encoding.proofs.Sound.{Whole-element, given-element, Sounds, none_sounds, given_sounds}
use Rattle.encoding.proofs.Body.{Said, nothing, ContentsAre, null_is}
use Rattle.encoding.proofs.Status.{bits-set}
use Rattle.encoding.proofs.Answers.{confirm_said, error_said, response_said, Certificates, confirmations_are, error_is, responses_are}
use Rattle.encoding.proofs.Requests.{request_said, p10cr_said, requests_are, p10cr-is}
use Rattle.encoding.proofs.Message.{Back, message_met}
use Rattle.encoding.proofs.Der.{If, message_sounds}
use Rattle.encoding.proofs.ContentDer.{confirmations_sound, error_sounds, responses_sound, requests_sound, null_sounds}
use Rattle.encoding.proofs.GivenFits.{der_fits, grammar_fits, certificate_sound, certificate-is, request_sound, request-is}
use Rattle.encoding.proofs.WrittenKinds.{Kind, ir, ip, cr, cp, p10cr, kur, kup, pkiconf, error, certconf, body-tag, given_is, absent-is, silent_are, response_contents, confirm_contents, error_contents, no_status}

-- ## What is said is the order's and the caller's

-- the contents of the order that a body with these entries says
unfoldable pub contents_said : (kind : ℕ) → Said → FailureInfo → OutgoingContents
contents_said k s f =
    let status : ℕ = status_or0 s.status in
    cond (is_response k) (with_number s.number (with_status status no_contents))
    (cond (eqb k cert_conf) (with_number s.number (with_hash (record { bytes = bytes_of s.hash }) (with_status status no_contents)))
    (cond (eqb k error_kind) (with_failure f (with_status status no_contents)) no_contents))

-- the status is there; or it is a certConf's 0, which is left out
abbrev pub StatusSaid : ℕ → Option ℕ → ℕ → Type 0
StatusSaid k said s = (said ≡ some s) ⊎ ((k ≡ 24) × (said ≡ none) × (s ≡ 0))

pub record Tells (g : Given) (k : ℕ) (c : OutgoingContents) (s : Said) : Type 0 where
  pub entries : s.entries ≡ cond (has_entry k) 1 0
  pub request : s.request ≡ g.request
  pub certificate : s.certificate ≡ g.certificate
  pub status : c.has_status ≡ true → StatusSaid k s.status c.status
  pub hash : k ≡ 24 → s.hash ≡ some c.hash.bytes
  pub contents : contents_said k s c.failure ≡ c

-- ## A clean reading

not_empty : (g : Given) (o : Outgoing) → 0 < length (encode g o)
unfolding encode
not_empty g o = some_bytes 0x30 (header_bytes g o ++ (body_bytes g o ++ (field 0xA0 0x03 g.protection ++ []))) []

-- the reading is clean, and what it gives back is what was written
pub record Reads (g : Given) (o : Outgoing) : Type 0 where
  pub said : Said
  pub found : Message
  pub clean : reading_of (encode g o) ≡ Ok found
  pub back : Back g o said found
  pub tells : Tells g o.kind o.contents said

pub certificate_if : (zero? : Bool) (e : Option (List ℕ)) → BytesIf e → cond zero? (is_given certificate_fits e) (is_absent e) ≡ true
    → If (Whole-element 8) e × Certificates e
unfolding If Certificates
certificate_if zero? none b h = (tt, tt)
certificate_if true (some e) b h = (certificate_sound e b h, certificate-is e b h)
certificate_if false (some e) b h = absurd (true≢false (sym h))

-- a certConf's status, as it is said and as it is counted
confirm_status : (s : ℕ) (b : Bool) → eqb s 0 ≡ b → StatusSaid 24 (cond b none (some s)) s
confirm_status s true q = inr (refl, refl, eqb-true s 0 q)
confirm_status s false q = inl refl

counted : (s : ℕ) (b : Bool) → eqb s 0 ≡ b → status_or0 (cond b none (some s)) ≡ s
counted s true q = sym (eqb-true s 0 q)
counted s false q = refl

module _ (g : Given) (typed : GivenTyped g) (fit : header_fits g ≡ true) (o : Outgoing) (short : length (encode g o) ≤ max_message) where
  m : List ℕ
  m = encode g o

  few : length m < 65536
  unfolding m
  few = omega arith

  -- the rule of kind k reads x to its end, and finds this said
  abbrev ReadsTo : Said → ℕ → List ℕ → Type 0
  ReadsTo s k x = (c : Cursor) → 0 < c.at → Holds m c (x ++ []) → ContentsAre m s (contents_of m k c)

  clean_by : (s : Said) → Kind o.kind → Sounds 14 (content_bytes g o.kind o.contents ++ [])
      → ReadsTo s o.kind (content_bytes g o.kind o.contents) → Tells g o.kind o.contents s → Reads g o
  unfolding reading_of check lowest m
  clean_by s kind sounds reads tells =
      let t = body-tag o.kind kind in
      let met = message_met g o few (grammar_fits g typed fit m few) t.low t.tags s reads in
      let sound = message_sounds g o (der_fits g typed fit) t.tags t.form t.holds sounds few 0 in
      record {
        said = s;
        found = (message_of m).found;
        clean = rw (ne_eqb (length m) 0 (λ e. omega (arith, not_empty g o)), le-ltb max_message (length m) short, sound, met.met);
        back = met.back;
        tells = tells;
      }

  -- the same by the kind's number and its bytes
  at-kind : (s : Said) (k : ℕ) (x : List ℕ) → o.kind ≡ k → Kind k → content_bytes g k o.contents ≡ x → Sounds 14 (x ++ [])
      → ReadsTo s k x → Tells g k o.contents s → Reads g o
  at-kind s k x e kind is sounds reads tells =
      clean_by s (subst Kind (sym e) kind)
      (subst (λ (j : ℕ). Sounds 14 (content_bytes g j o.contents ++ [])) (sym e)
      (subst (λ (l : List ℕ). Sounds 14 (l ++ [])) (sym is) sounds))
      (subst (λ (j : ℕ). ReadsTo s j (content_bytes g j o.contents)) (sym e) (subst (ReadsTo s k) (sym is) reads))
      (subst (λ (j : ℕ). Tells g j o.contents s) (sym e) tells)

  module _ (types : OrderTyped o) where
    c : OutgoingContents
    c = o.contents

    -- 0 ir, 2 cr, 7 kur
    requesting : (k : ℕ) → o.kind ≡ k → Kind k → content_bytes g k c ≡ requests_bytes (bytes_of g.request)
        → ((y : List ℕ) (z : Cursor) → contents_of y k z ≡ requests_of y z) → (k ≡ 24 → ⊥) → has_entry k ≡ true
        → ((s : Said) (f : FailureInfo) → contents_said k s f ≡ no_contents)
        → contents_with false false false false c ≡ true → is_given request_message_fits g.request ≡ true
        → is_absent g.certificate ≡ true → Reads g o
    unfolding c
    requesting k e kind is rule other one none_said cs rq ca =
        let r = given_is request_message_fits g.request rq in
        let bytes : Bytes r.0 = subst BytesIf r.1 typed.request in
        let p = request-is r.0 bytes r.2 in
        let s : Said = request_said r.0 (signed32 p.number) in
        at-kind s k (requests_bytes r.0) e kind (is ∙ ap (λ (q : Option (List ℕ)). requests_bytes (bytes_of q)) r.1)
        (requests_sound r.0 (request_sound r.0 bytes r.2))
        (λ z pos h. subst (ContentsAre m s) (sym (rule m z)) (requests_are m few r.0 p z h))
        (record {
          entries = rw one;
          request = sym r.1;
          certificate = sym (absent-is g.certificate ca);
          status = λ h. absurd (true≢false (sym h ∙ no_status c types.hash cs));
          hash = λ h. absurd (other h);
          contents = none_said s c.failure ∙ silent_are c types.hash cs;
        })

    -- 4 p10cr
    p10cr-reads : o.kind ≡ 4 → contents_with false false false false c ≡ true → is_given (is_element 14) g.request ≡ true
        → is_absent g.certificate ≡ true → Reads g o
    unfolding c content_bytes contents_of other_of contents_said
    p10cr-reads e cs rq ca =
        let r = given_is (is_element 14) g.request rq in
        let w = given-element 13 r.0 (subst BytesIf r.1 typed.request) r.2 in
        at-kind (p10cr_said r.0) 4 r.0 e p10cr (ap bytes_of r.1) (given_sounds 13 [] w (none_sounds 14))
        (λ z pos h. p10cr-is m few r.0 w.tag w.content w.is w.good.tags z pos h)
        (record {
          entries = refl;
          request = sym r.1;
          certificate = sym (absent-is g.certificate ca);
          status = λ h. absurd (true≢false (sym h ∙ no_status c types.hash cs));
          hash = λ h. absurd (omega arith);
          contents = silent_are c types.hash cs;
        })

    -- 1 ip, 3 cp, 8 kup
    responding : (k : ℕ) → o.kind ≡ k → Kind k → content_bytes g k c ≡ responses_bytes c.number c.status g.certificate
        → ((y : List ℕ) (z : Cursor) → contents_of y k z ≡ responses_of y z) → (k ≡ 24 → ⊥) → has_entry k ≡ true
        → ((s : Said) (f : FailureInfo) → contents_said k s f ≡ with_number s.number (with_status (status_or0 s.status) no_contents))
        → contents_with true true false false c ≡ true → is_absent g.request ≡ true
        → cond (eqb c.status 0) (is_given certificate_fits g.certificate) (is_absent g.certificate) ≡ true → Reads g o
    unfolding c
    responding k e kind is rule other one said cs rq ca =
        let q = certificate_if (eqb c.status 0) g.certificate typed.certificate ca in
        let s : Said = response_said c.number c.status g.certificate in
        at-kind s k (responses_bytes c.number c.status g.certificate) e kind is
        (responses_sound c.number c.status g.certificate types.number types.status q.0)
        (λ z pos h.
        subst (ContentsAre m s) (sym (rule m z))
        (responses_are m few c.number c.status g.certificate z q.1 types.number types.status h))
        (record {
          entries = rw one;
          request = sym (absent-is g.request rq);
          certificate = refl;
          status = λ h. inl refl;
          hash = λ h. absurd (other h);
          contents = said s c.failure ∙ response_contents c types.hash cs;
        })

    -- 24 certConf
    confirm_reads : o.kind ≡ 24 → contents_with true true true false c ≡ true → is_absent g.request ≡ true
        → is_absent g.certificate ≡ true → Reads g o
    unfolding c content_bytes contents_of contents_said
    confirm_reads e cs rq ca =
        let s : Said = confirm_said c.hash.bytes c.number c.status in
        at-kind s 24 _ e certconf refl (confirmations_sound c.hash.bytes c.number c.status types.number types.status)
        (λ z pos h. confirmations_are m few c.hash.bytes c.number c.status z types.number types.status h)
        (record {
          entries = refl;
          request = sym (absent-is g.request rq);
          certificate = sym (absent-is g.certificate ca);
          status = λ h. confirm_status c.status (eqb c.status 0) refl;
          hash = λ h. refl;
          contents =
              ap (λ (n : ℕ). with_number c.number (with_hash c.hash (with_status n no_contents)))
              (counted c.status (eqb c.status 0) refl)
              ∙ confirm_contents c types.hash cs;
        })

    -- 23 error
    error_reads : o.kind ≡ 23 → contents_with true false false true c ≡ true → is_absent g.request ≡ true
        → is_absent g.certificate ≡ true → Reads g o
    unfolding c content_bytes contents_of contents_said error_bytes
    error_reads e cs rq ca =
        at-kind (error_said c.status) 23 _ e error refl (error_sounds c.status c.failure types.status)
        (λ z pos h. error_is m few c.status (failure_bits c.failure) z types.status (bits-set c.failure) h)
        (record {
          entries = refl;
          request = sym (absent-is g.request rq);
          certificate = sym (absent-is g.certificate ca);
          status = λ h. inl refl;
          hash = λ h. absurd (omega arith);
          contents = error_contents c types.hash cs;
        })

    -- 19 pkiconf
    null_reads : o.kind ≡ 19 → contents_with false false false false c ≡ true → is_absent g.request ≡ true
        → is_absent g.certificate ≡ true → Reads g o
    unfolding c content_bytes contents_said nothing
    null_reads e cs rq ca =
        at-kind nothing 19 _ e pkiconf refl null_sounds (λ z pos h. null_is m few z h)
        (record {
          entries = refl;
          request = sym (absent-is g.request rq);
          certificate = sym (absent-is g.certificate ca);
          status = λ h. absurd (true≢false (sym h ∙ no_status c types.hash cs));
          hash = λ h. absurd (omega arith);
          contents = silent_are c types.hash cs;
        })

    by_kind : (k : ℕ) → o.kind ≡ k → Kind k → contents_fit k c ≡ true → request_fits k g.request ≡ true
        → response_fits k c.status g.certificate ≡ true → Reads g o
    unfolding content_bytes contents_of contents_said contents_fit request_fits response_fits
    by_kind _ e ir = requesting 0 e ir refl (λ y z. refl) (λ h. omega arith) refl (λ s f. refl)
    by_kind _ e cr = requesting 2 e cr refl (λ y z. refl) (λ h. omega arith) refl (λ s f. refl)
    by_kind _ e kur = requesting 7 e kur refl (λ y z. refl) (λ h. omega arith) refl (λ s f. refl)
    by_kind _ e p10cr = p10cr-reads e
    by_kind _ e ip = responding 1 e ip refl (λ y z. refl) (λ h. omega arith) refl (λ s f. refl)
    by_kind _ e cp = responding 3 e cp refl (λ y z. refl) (λ h. omega arith) refl (λ s f. refl)
    by_kind _ e kup = responding 8 e kup refl (λ y z. refl) (λ h. omega arith) refl (λ s f. refl)
    by_kind _ e certconf = confirm_reads e
    by_kind _ e error = error_reads e
    by_kind _ e pkiconf = null_reads e

    pub all_reads : Kind o.kind → contents_fit o.kind o.contents ≡ true → request_fits o.kind g.request ≡ true
        → response_fits o.kind o.contents.status g.certificate ≡ true → Reads g o
    unfolding c
    all_reads = by_kind o.kind refl
