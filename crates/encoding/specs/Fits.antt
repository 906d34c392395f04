-- Refusal 36: "a given element or field doesn't fit document 01's grammar at its place". A given part is read alone, by the reader's own
-- rule, with the levels that are left at its place; it is one element. An order is of a kind that is written, and has what its kind has.
use Rattle.std.specs.Prelude.{ℕ, List, [], ◌∷◌, Bool, true, false, not, cond, ◌&&◌, ◌||◌, eqb, Some, None}
use Rattle.std.proofs.Math.Option.{Option, none, some}
use Rattle.der.specs.Head.{byte}
use Rattle.der.specs.Content.{bit_string_ok}
use Rattle.der.specs.Element.{is_element}
use Rattle.grammar.specs.declared.parts.Each.TheVariants.{Text, Info}
use Rattle.grammar.specs.Parts.{typed_of, sequence_of}
use Rattle.grammar.specs.Entries.{request_of}
use Rattle.grammar.specs.Header.{name_tag}
use Rattle.grammar.specs.Alone.{alone}
use Rattle.protocol.specs.Types.{FailureInfo}
use Rattle.protocol.specs.declared.OutgoingContents.{OutgoingContents}
use Rattle.protocol.specs.declared.Outgoing.{Outgoing}
use Rattle.protocol.specs.Message.{is_enrolment_kind, is_response, p10cr, cert_conf, pki_conf, error_kind}
use Rattle.encoding.specs.Given.{Given}

-- ## The header's fields

abbrev pub if_given : (List ℕ → Bool) → Option (List ℕ) → Bool
if_given test none = true
if_given test (some e) = test e

-- GeneralName: one element with its tag; at depth 3, so that 14 levels are left
unfoldable pub name_fits : List ℕ → Bool
name_fits e = is_element 14 e && name_tag (byte e 0)

-- protectionAlg, freeText, generalInfo: in an explicit tag, at depth 4
unfoldable pub typed_fits : List ℕ → Bool
typed_fits e = is_element 13 e && alone typed_of e

unfoldable pub text_fits : List ℕ → Bool
text_fits e = is_element 13 e && alone (λ m. sequence_of m Text) e

unfoldable pub info_fits : List ℕ → Bool
info_fits e = is_element 13 e && alone (λ m. sequence_of m Info) e

-- messageTime and the key identifiers are opaque; the protection is a BIT STRING's content
unfoldable pub header_fits : Given → Bool
header_fits g =
    name_fits g.sender
    && (name_fits g.recipient
    && (if_given typed_fits g.protection_alg
    && (if_given text_fits g.free_text && (if_given info_fits g.general_info && if_given bit_string_ok g.protection))))

-- ## The caller's element: just where the kind has one

abbrev pub is_given : (List ℕ → Bool) → Option (List ℕ) → Bool
is_given test none = false
is_given test (some e) = test e

abbrev pub is_absent : Option (List ℕ) → Bool
is_absent none = true
is_absent (some e) = false

-- a request message, at depth 4
unfoldable pub request_message_fits : List ℕ → Bool
request_message_fits e = is_element 13 e && alone (λ m c. (request_of m c).cur) e

-- a certificate is any SEQUENCE, at depth 8
unfoldable pub certificate_fits : List ℕ → Bool
certificate_fits e = is_element 9 e && eqb (byte e 0) 0x30

-- a p10cr's certification request is any element, at depth 3
unfoldable pub request_fits : (kind : ℕ) → Option (List ℕ) → Bool
request_fits k r = cond (eqb k p10cr) (is_given (is_element 14) r) (cond (is_enrolment_kind k) (is_given request_message_fits r) (is_absent r))

-- "ip, cp, kup, at status 0 with a caller's certificate", else without one
unfoldable pub response_fits : (kind status : ℕ) → Option (List ℕ) → Bool
response_fits k s c = cond (is_response k && eqb s 0) (is_given certificate_fits c) (is_absent c)

-- ## The order

-- all bytes are zero: what an order leaves unset
unfoldable pub blank : List ℕ → Bool
blank [] = true
blank (x ∷ s) = eqb x 0 && blank s

-- a value that the kind has is there; one that it has not is absent, and unset
abbrev pub has_just : (kind_has : Bool) → (there unset : Bool) → Bool
has_just true there unset = there
has_just false there unset = not there && unset

abbrev pub no_bit : FailureInfo → Bool
no_bit None = true
no_bit (Some b) = false

-- contents with just these: a status, a number, a hash; perhaps a failure bit
unfoldable pub contents_with : (status number hash bit : Bool) → OutgoingContents → Bool
contents_with s n h b c =
    has_just s c.has_status (eqb c.status 0)
    && (has_just n c.has_number (eqb c.number 0) && ((h || blank c.hash.bytes) && (b || no_bit c.failure)))

-- the kinds that are written, each with its contents
unfoldable pub contents_fit : (kind : ℕ) → OutgoingContents → Bool
contents_fit k c =
    cond (is_enrolment_kind k || eqb k pki_conf) (contents_with false false false false c)
    (cond (is_response k) (contents_with true true false false c)
    (cond (eqb k cert_conf) (contents_with true true true false c)
    (cond (eqb k error_kind) (contents_with true false false true c) false)))

-- a recipNonce that is not sent is unset
abbrev pub order_fits : Outgoing → Bool
order_fits o = (o.has_recip_nonce || blank o.recip_nonce.bytes) && contents_fit o.kind o.contents

-- ## All of it

unfoldable pub fits : Given → Outgoing → Bool
fits g o =
    order_fits o
    && (header_fits g && (request_fits o.kind g.request && response_fits o.kind o.contents.status g.certificate))
