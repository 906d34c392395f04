-- The message is DER.
use Prim.Native.Nat.{ℕ, suc, ◌+◌, ◌/◌, ◌%◌}
use mathlib.Core.Path.{◌≡◌, refl}
use mathlib.Core.List.{List, [], ◌++◌}
use mathlib.Core.Bool.{true, false}
use mathlib.Core.Option.{Option, none, some}
use lib.Dec.{eqb}
use Rattle.der.specs.Head.{tag_ok}
use Rattle.der.specs.Content.{content_ok, integer_ok, bit_string_ok}
use Rattle.der.specs.Element.{form_ok}
use Rattle.protocol.specs.declared.Outgoing.{Outgoing}
use Rattle.encoding.specs.Element.{element, field, wrapped, integer_bytes, integer}
use Rattle.encoding.specs.Given.{Given}
use Rattle.encoding.specs.Message.{recip_nonce, names_bytes, options_bytes, ids_bytes, header_bytes, content_bytes, body_bytes, encode}
use Rattle.encoding.proofs.Sound.{Whole-element, Sounds, none_sounds, node_sounds, leaf_sounds, given_sounds}

-- a part that may be absent
unfoldable pub If : (List ℕ → Type 0) → Option (List ℕ) → Type 0
If P none = Unit {0}
If P (some v) = P v

-- what DER asks of the given parts, each at its place
pub record DerFits (g : Given) : Type 0 where
  pub version : integer_ok (integer_bytes g.version) ≡ true
  pub sender : Whole-element 13 g.sender
  pub recipient : Whole-element 13 g.recipient
  pub protection_alg : If (Whole-element 12) g.protection_alg
  pub free_text : If (Whole-element 12) g.free_text
  pub general_info : If (Whole-element 12) g.general_info
  pub protection : If (λ v. bit_string_ok v ≡ true) g.protection

field_sounds : (d tag inner : ℕ) (o : Option (List ℕ)) (rest : List ℕ) → tag_ok tag ≡ true → form_ok tag ≡ true → eqb (tag / 32 % 2) 1 ≡ true
    → tag_ok inner ≡ true → form_ok inner ≡ true → eqb (inner / 32 % 2) 1 ≡ false → If (λ v. content_ok inner v ≡ true) o
    → Sounds (suc (suc d)) rest → Sounds (suc (suc d)) (field tag inner o ++ rest)
unfolding field If
field_sounds d tag inner none rest a b c e f g k h = h
field_sounds d tag inner (some v) rest a b c e f g k h =
    node_sounds (suc d) tag (element inner v ++ []) rest a b c (leaf_sounds d inner v [] e f g k (none_sounds (suc d))) h

wrapped_sounds : (d tag : ℕ) (o : Option (List ℕ)) (rest : List ℕ) → tag_ok tag ≡ true → form_ok tag ≡ true → eqb (tag / 32 % 2) 1 ≡ true
    → If (Whole-element d) o → Sounds (suc (suc d)) rest → Sounds (suc (suc d)) (wrapped tag o ++ rest)
unfolding wrapped If
wrapped_sounds d tag none rest a b c k h = h
wrapped_sounds d tag (some e) rest a b c k h = node_sounds (suc d) tag (e ++ []) rest a b c (given_sounds d [] k (none_sounds (suc d))) h

opaque : (inner : ℕ) → ((v : List ℕ) → content_ok inner v ≡ true) → (o : Option (List ℕ)) → If (λ v. content_ok inner v ≡ true) o
unfolding If
opaque inner f none = tt
opaque inner f (some v) = f v

octets : (v : List ℕ) → content_ok 0x04 v ≡ true
unfolding content_ok
octets v = refl

times : (v : List ℕ) → content_ok 0x18 v ≡ true
unfolding content_ok
times v = refl

pub integer_sounds : (d n : ℕ) (rest : List ℕ) → integer_ok (integer_bytes n) ≡ true → Sounds (suc d) rest
    → Sounds (suc d) (integer n ++ rest)
unfolding integer tag_ok form_ok content_ok
integer_sounds d n rest k h = leaf_sounds d 2 (integer_bytes n) rest refl refl refl k h

module _ (g : Given) (o : Outgoing) (fits : DerFits g) where
  ids_sound : Sounds 14 (ids_bytes g o)
  unfolding ids_bytes tag_ok form_ok
  ids_sound =
      field_sounds 12 0xA4 0x04 (some o.id.bytes) _ refl refl refl refl refl refl (opaque 0x04 octets (some o.id.bytes))
      (field_sounds 12 0xA5 0x04 (some o.sender_nonce.bytes) _ refl refl refl refl refl refl
      (opaque 0x04 octets (some o.sender_nonce.bytes))
      (field_sounds 12 0xA6 0x04 (recip_nonce o) _ refl refl refl refl refl refl (opaque 0x04 octets (recip_nonce o))
      (wrapped_sounds 12 0xA7 g.free_text _ refl refl refl fits.free_text
      (wrapped_sounds 12 0xA8 g.general_info [] refl refl refl fits.general_info (none_sounds 14)))))

  options_sound : Sounds 14 (options_bytes g (ids_bytes g o))
  unfolding options_bytes tag_ok form_ok
  options_sound =
      field_sounds 12 0xA0 0x18 g.message_time _ refl refl refl refl refl refl (opaque 0x18 times g.message_time)
      (wrapped_sounds 12 0xA1 g.protection_alg _ refl refl refl fits.protection_alg
      (field_sounds 12 0xA2 0x04 g.sender_kid _ refl refl refl refl refl refl (opaque 0x04 octets g.sender_kid)
      (field_sounds 12 0xA3 0x04 g.recip_kid (ids_bytes g o) refl refl refl refl refl refl (opaque 0x04 octets g.recip_kid) ids_sound)))

  names_sound : Sounds 14 (names_bytes g (options_bytes g (ids_bytes g o)))
  unfolding names_bytes
  names_sound =
      integer_sounds 13 g.version _ fits.version
      (given_sounds 13 _ fits.sender (given_sounds 13 (options_bytes g (ids_bytes g o)) fits.recipient options_sound))

  protection_sound : If (λ v. bit_string_ok v ≡ true) g.protection → Sounds 15 (field 0xA0 0x03 g.protection ++ [])
  unfolding tag_ok form_ok content_ok
  protection_sound k = field_sounds 13 0xA0 0x03 g.protection [] refl refl refl refl refl refl k (none_sounds 15)

  -- DER: the message is whole elements, if the body's content is
  pub message_sounds : tag_ok (0xA0 + o.kind) ≡ true → form_ok (0xA0 + o.kind) ≡ true → eqb ((0xA0 + o.kind) / 32 % 2) 1 ≡ true
      → Sounds 14 (content_bytes g o.kind o.contents ++ []) → Sounds 16 (encode g o)
  unfolding encode header_bytes body_bytes tag_ok form_ok
  message_sounds a b c inner =
      node_sounds 15 0x30 (header_bytes g o ++ (body_bytes g o ++ (field 0xA0 0x03 g.protection ++ []))) [] refl refl refl
      (node_sounds 14 0x30 (names_bytes g (options_bytes g (ids_bytes g o)))
      (body_bytes g o ++ (field 0xA0 0x03 g.protection ++ [])) refl refl refl names_sound
      (node_sounds 14 (0xA0 + o.kind) (content_bytes g o.kind o.contents ++ []) (field 0xA0 0x03 g.protection ++ []) a b c inner
      (protection_sound fits.protection)))
      (none_sounds 16)
