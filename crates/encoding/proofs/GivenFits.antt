-- What the test of the given parts (36) gives: DER and the grammar, each at its place.
use Prim.Native.Nat.{ℕ, ◌<◌}
use mathlib.Core.Path.{◌≡◌, sym, ◌∙◌, ap}
use mathlib.Core.List.{List, [], append-nil}
use mathlib.Core.Bool.{Bool, true}
use mathlib.Core.Option.{Option, none, some}
use borrow.Author.Tests.{eqb-true}
use lib.ListN.{length}
use Rattle.der.specs.Head.{byte}
use Rattle.der.specs.Content.{bit_string_ok}
use Rattle.der.specs.Element.{is_element}
use Rattle.der.proofs.Auto.{and_left, and_right}
use Rattle.grammar.specs.declared.cursor.Cursor.{Cursor}
use Rattle.grammar.specs.declared.parts.Each.TheVariants.{Text, Info}
use Rattle.grammar.specs.Parts.{typed_of, sequence_of}
use Rattle.grammar.specs.Header.{name_tag}
use Rattle.encoding.specs.Element.{element}
use Rattle.encoding.specs.Given.{Given}
use Rattle.encoding.specs.Fits.{if_given, name_fits, typed_fits, text_fits, info_fits, header_fits, request_message_fits, certificate_fits}
use Rattle.encoding.specs.ReadBack.{Bytes, BytesIf, GivenTyped}
use Rattle.encoding.proofs.Holds.{element-tag}
use Rattle.encoding.proofs.Rules.{Reads, ReadsIf}
use Rattle.encoding.proofs.Sound.{Whole-element, given-element}
use Rattle.encoding.proofs.Header.{Name, Fits}
use Rattle.encoding.proofs.Der.{If, DerFits}
use Rattle.encoding.proofs.Shapes.{typed_there, text_there, info_there}
use Rattle.encoding.proofs.Requests.{Request, request-alone}
use Rattle.encoding.proofs.Integer.{integer_ok_lem}

pub first_byte : (e : List ℕ) (tag : ℕ) (v : List ℕ) → e ≡ element tag v → byte e 0 ≡ tag
first_byte e tag v is = ap (λ (l : List ℕ). byte l 0) (is ∙ sym (append-nil (element tag v))) ∙ element-tag tag v []

-- ## The header's fields

name_of : (e : List ℕ) → Bytes e → name_fits e ≡ true → Whole-element 13 e × Name e
unfolding name_fits
name_of e bytes k =
    let w = given-element 13 e bytes (and_left (is_element 14 e) (name_tag (byte e 0)) k) in
    let t : byte e 0 ≡ w.tag = first_byte e w.tag w.content w.is in (
      w,
      record {
        tag = w.tag;
        content = w.content;
        is = w.is;
        tags = w.good.tags;
        names = sym (ap name_tag t) ∙ and_right (is_element 14 e) (name_tag (byte e 0)) k;
      },
    )

-- both halves of a test of a part that may be absent
der_if : (test : List ℕ → Bool) (o : Option (List ℕ)) → ((e : List ℕ) → test e ≡ true → is_element 13 e ≡ true)
    → BytesIf o → if_given test o ≡ true → If (Whole-element 12) o
unfolding If
der_if test none f bytes k = tt
der_if test (some e) f bytes k = given-element 12 e bytes (f e k)

reads_if : (m : List ℕ) (test : List ℕ → Bool) (rule : Cursor → Cursor) (o : Option (List ℕ))
    → ((e : List ℕ) → Bytes e → test e ≡ true → Reads m rule e) → BytesIf o → if_given test o ≡ true → ReadsIf m rule o
unfolding ReadsIf
reads_if m test rule none f bytes k = tt
reads_if m test rule (some e) f bytes k = f e bytes k

bits_if : (o : Option (List ℕ)) → if_given bit_string_ok o ≡ true → If (λ v. bit_string_ok v ≡ true) o
unfolding If
bits_if none k = tt
bits_if (some v) k = k

record Tests (g : Given) : Type 0 where
  sender : name_fits g.sender ≡ true
  recipient : name_fits g.recipient ≡ true
  protection_alg : if_given typed_fits g.protection_alg ≡ true
  free_text : if_given text_fits g.free_text ≡ true
  general_info : if_given info_fits g.general_info ≡ true
  protection : if_given bit_string_ok g.protection ≡ true

tests : (g : Given) → header_fits g ≡ true → Tests g
unfolding header_fits
tests g fit =
    let r1 = and_right (name_fits g.sender) _ fit in
    let r2 = and_right (name_fits g.recipient) _ r1 in
    let r3 = and_right (if_given typed_fits g.protection_alg) _ r2 in
    let r4 = and_right (if_given text_fits g.free_text) _ r3 in
    record {
      sender = and_left (name_fits g.sender) _ fit;
      recipient = and_left (name_fits g.recipient) _ r1;
      protection_alg = and_left (if_given typed_fits g.protection_alg) _ r2;
      free_text = and_left (if_given text_fits g.free_text) _ r3;
      general_info = and_left (if_given info_fits g.general_info) _ r4;
      protection = and_right (if_given info_fits g.general_info) _ r4;
    }

module _ (g : Given) (typed : GivenTyped g) (fit : header_fits g ≡ true) where
  pub der_fits : DerFits g
  unfolding typed_fits text_fits info_fits
  der_fits =
      let t = tests g fit in
      record {
        version = integer_ok_lem g.version typed.version;
        sender = (name_of g.sender typed.sender t.sender).0;
        recipient = (name_of g.recipient typed.recipient t.recipient).0;
        protection_alg = der_if typed_fits g.protection_alg (λ e k. and_left (is_element 13 e) _ k) typed.protection_alg t.protection_alg;
        free_text = der_if text_fits g.free_text (λ e k. and_left (is_element 13 e) _ k) typed.free_text t.free_text;
        general_info = der_if info_fits g.general_info (λ e k. and_left (is_element 13 e) _ k) typed.general_info t.general_info;
        protection = bits_if g.protection t.protection;
      }

  module _ (m : List ℕ) (few : length m < 65536) where
    typed_reads : ReadsIf m (typed_of m) g.protection_alg
    unfolding typed_fits
    typed_reads =
        reads_if m typed_fits (typed_of m) g.protection_alg (λ e b k. typed_there m e few b (and_right (is_element 13 e) _ k))
        typed.protection_alg (tests g fit).protection_alg

    text_reads : ReadsIf m (sequence_of m Text) g.free_text
    unfolding text_fits
    text_reads =
        reads_if m text_fits (sequence_of m Text) g.free_text (λ e b k. text_there m e few b (and_right (is_element 13 e) _ k))
        typed.free_text (tests g fit).free_text

    info_reads : ReadsIf m (sequence_of m Info) g.general_info
    unfolding info_fits
    info_reads =
        reads_if m info_fits (sequence_of m Info) g.general_info (λ e b k. info_there m e few b (and_right (is_element 13 e) _ k))
        typed.general_info (tests g fit).general_info

    pub grammar_fits : Fits m g
    grammar_fits =
        let t = tests g fit in
        record {
          version = typed.version;
          sender = (name_of g.sender typed.sender t.sender).1;
          recipient = (name_of g.recipient typed.recipient t.recipient).1;
          protection_alg = typed_reads;
          free_text = text_reads;
          general_info = info_reads;
        }

-- ## The caller's element

pub certificate_sound : (e : List ℕ) → Bytes e → certificate_fits e ≡ true → Whole-element 8 e
unfolding certificate_fits
certificate_sound e bytes k = given-element 8 e bytes (and_left (is_element 9 e) _ k)

pub certificate-is : (e : List ℕ) → Bytes e → certificate_fits e ≡ true → (v : List ℕ) × (e ≡ element 0x30 v)
unfolding certificate_fits
certificate-is e bytes k =
    let w = certificate_sound e bytes k in
    let t : w.tag ≡ 0x30 = sym (first_byte e w.tag w.content w.is) ∙ eqb-true (byte e 0) 0x30 (and_right (is_element 9 e) _ k) in
    (w.content, w.is ∙ ap (λ (j : ℕ). element j w.content) t)

pub request_sound : (e : List ℕ) → Bytes e → request_message_fits e ≡ true → Whole-element 12 e
unfolding request_message_fits
request_sound e bytes k = given-element 12 e bytes (and_left (is_element 13 e) _ k)

pub request-is : (e : List ℕ) → Bytes e → request_message_fits e ≡ true → Request e
unfolding request_message_fits
request-is e bytes k = request-alone e bytes (and_right (is_element 13 e) _ k)
