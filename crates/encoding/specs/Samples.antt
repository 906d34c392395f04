-- Orders of all ten kinds, each with the body that is written or refused by 36: one list, checked by computing it.
use Rattle.std.specs.Prelude.{ℕ, zero, suc, List, [], ◌∷◌, ◌++◌, Bool, true, ◌&&◌, ◌≡◌, replicate, eqb, Some, None}
use Rattle.std.proofs.Math.Option.{Option, none, some}
use Rattle.protocol.specs.Types.{FailureInfo}
use Rattle.protocol.specs.declared.OutgoingContents.{OutgoingContents}
use Rattle.protocol.specs.declared.Outgoing.{Outgoing}
use Rattle.protocol.specs.Bytes.{same_bytes}
use Rattle.protocol.specs.Message.{minus_one}
use Rattle.protocol.specs.Outgoing.{no_contents, with_status, with_hash, with_failure, with_number}
use Rattle.encoding.specs.Element.{element}
use Rattle.encoding.specs.Given.{Given}
use Rattle.encoding.specs.Message.{body_bytes}
use Rattle.encoding.specs.Write.{refusal_of}

-- a header with this sender, around this request and this certificate
unfoldable pub around : List ℕ → Option (List ℕ) → Option (List ℕ) → Given
around s r c =
    record {
      version = 2;
      sender = s;
      recipient = 0xA4 ∷ 0x02 ∷ 0x30 ∷ 0x00 ∷ [];
      message_time = none;
      protection_alg = none;
      sender_kid = none;
      recip_kid = none;
      free_text = none;
      general_info = none;
      protection = none;
      request = r;
      certificate = c;
    }

abbrev pub named : List ℕ
named = 0xA4 ∷ 0x02 ∷ 0x30 ∷ 0x00 ∷ []

unfoldable pub order_with : (kind : ℕ) → OutgoingContents → Outgoing
order_with k c =
    record {
      kind = k;
      id = record { bytes = replicate 16 0x11 };
      sender_nonce = record { bytes = replicate 16 0x22 };
      has_recip_nonce = true;
      recip_nonce = record { bytes = replicate 16 0x33 };
      contents = c;
    }

-- SEQUENCEs in one another, so many
unfoldable pub nest : ℕ → List ℕ
nest zero = []
nest (suc n) = element 0x30 (nest n)

-- contents: of a response; of a certConf; of an error
abbrev pub response : (number status : ℕ) → OutgoingContents
response n s = with_number n (with_status s no_contents)

abbrev pub confirmation : (status : ℕ) → OutgoingContents
confirmation s = with_number 0 (with_hash (record { bytes = replicate 32 0xAB }) (with_status s no_contents))

abbrev pub failure : FailureInfo → OutgoingContents
failure f = with_failure f (with_status 2 no_contents)

pub record Sample : Type 0 where
  pub given : Given
  pub order : Outgoing
  -- the body that is written; none: refused by 36
  pub body : Option (List ℕ)

unfoldable pub written : (kind : ℕ) → OutgoingContents → (request certificate : Option (List ℕ)) → (body : List ℕ) → Sample
written k c r e b = record { given = around named r e; order = order_with k c; body = some b }

unfoldable pub refused : (kind : ℕ) → OutgoingContents → (request certificate : Option (List ℕ)) → Sample
refused k c r e = record { given = around named r e; order = order_with k c; body = none }

abbrev pub holds : Given → Outgoing → Option (List ℕ) → Bool
holds g o none = eqb (refusal_of true g o 16384) 36
holds g o (some b) = eqb (refusal_of true g o 16384) 0 && same_bytes (body_bytes g o) b

unfoldable pub all_hold : List Sample → Bool
all_hold [] = true
all_hold (s ∷ ss) = holds s.given s.order s.body && all_hold ss

-- a request message with certReqId 0, and what is no such one: two of them, a SEQUENCE that is empty, certReqId in five bytes
abbrev pub asked : List ℕ
asked = 0x30 ∷ 0x05 ∷ 0x30 ∷ 0x03 ∷ 0x02 ∷ 0x01 ∷ 0x00 ∷ []

abbrev pub long_number : List ℕ
long_number = 0x30 ∷ 0x09 ∷ 0x30 ∷ 0x07 ∷ 0x02 ∷ 0x05 ∷ 0x01 ∷ 0x00 ∷ 0x00 ∷ 0x00 ∷ 0x00 ∷ []

unfoldable pub written_ones : List Sample
written_ones =
    written 0 no_contents (some asked) none (0xA0 ∷ 0x09 ∷ 0x30 ∷ 0x07 ∷ asked)
    ∷ written 2 no_contents (some asked) none (0xA2 ∷ 0x09 ∷ 0x30 ∷ 0x07 ∷ asked)
    ∷ written 7 no_contents (some asked) none (0xA7 ∷ 0x09 ∷ 0x30 ∷ 0x07 ∷ asked)
    ∷ written 4 no_contents (some (0x02 ∷ 0x01 ∷ 0x05 ∷ [])) none (0xA4 ∷ 0x03 ∷ 0x02 ∷ 0x01 ∷ 0x05 ∷ [])
    ∷ written 4 no_contents (some (nest 14)) none (0xA4 ∷ 0x1C ∷ nest 14)
    ∷ written 1 (response 0 0) none (some (0x30 ∷ 0x00 ∷ []))
    (0xA1 ∷ 0x14 ∷ 0x30 ∷ 0x12 ∷ 0x30 ∷ 0x10 ∷ 0x30 ∷ 0x0E ∷ 0x02 ∷ 0x01 ∷ 0x00 ∷ 0x30 ∷ 0x03 ∷ 0x02 ∷ 0x01 ∷ 0x00 ∷ 0x30 ∷ 0x04 ∷ 0xA0 ∷ 0x02 ∷ 0x30 ∷ 0x00 ∷ [])
    ∷ written 8 (response 0 0) none (some (nest 9))
    (0xA8 ∷ 0x24 ∷ 0x30 ∷ 0x22 ∷ 0x30 ∷ 0x20 ∷ 0x30 ∷ 0x1E ∷ 0x02 ∷ 0x01 ∷ 0x00 ∷ 0x30 ∷ 0x03 ∷ 0x02 ∷ 0x01 ∷ 0x00 ∷ 0x30 ∷ 0x14 ∷ 0xA0 ∷ 0x12 ∷ nest 9)
    ∷ written 1 (response 0 2) none none (0xA1 ∷ 0x0E ∷ 0x30 ∷ 0x0C ∷ 0x30 ∷ 0x0A ∷ 0x30 ∷ 0x08 ∷ 0x02 ∷ 0x01 ∷ 0x00 ∷ 0x30 ∷ 0x03 ∷ 0x02 ∷ 0x01 ∷ 0x02 ∷ [])
    ∷ written 3 (response minus_one 2) none none (0xA3 ∷ 0x0E ∷ 0x30 ∷ 0x0C ∷ 0x30 ∷ 0x0A ∷ 0x30 ∷ 0x08 ∷ 0x02 ∷ 0x01 ∷ 0xFF ∷ 0x30 ∷ 0x03 ∷ 0x02 ∷ 0x01 ∷ 0x02 ∷ [])
    ∷ written 24 (confirmation 0) none none ((0xB8 ∷ 0x29 ∷ 0x30 ∷ 0x27 ∷ 0x30 ∷ 0x25 ∷ 0x04 ∷ 0x20 ∷ []) ++ (replicate 32 0xAB ++ (0x02 ∷ 0x01 ∷ 0x00 ∷ [])))
    ∷ written 24 (confirmation 2) none none ((0xB8 ∷ 0x2E ∷ 0x30 ∷ 0x2C ∷ 0x30 ∷ 0x2A ∷ 0x04 ∷ 0x20 ∷ []) ++ (replicate 32 0xAB ++ (0x02 ∷ 0x01 ∷ 0x00 ∷ 0x30 ∷ 0x03 ∷ 0x02 ∷ 0x01 ∷ 0x02 ∷ [])))
    ∷ written 19 no_contents none none (0xB3 ∷ 0x02 ∷ 0x05 ∷ 0x00 ∷ [])
    ∷ written 23 (failure None) none none (0xB7 ∷ 0x07 ∷ 0x30 ∷ 0x05 ∷ 0x30 ∷ 0x03 ∷ 0x02 ∷ 0x01 ∷ 0x02 ∷ [])
    ∷ written 23 (failure (Some 5)) none none (0xB7 ∷ 0x0B ∷ 0x30 ∷ 0x09 ∷ 0x30 ∷ 0x07 ∷ 0x02 ∷ 0x01 ∷ 0x02 ∷ 0x03 ∷ 0x02 ∷ 0x02 ∷ 0x04 ∷ [])
    ∷ written 23 (failure (Some 13)) none none (0xB7 ∷ 0x0C ∷ 0x30 ∷ 0x0A ∷ 0x30 ∷ 0x08 ∷ 0x02 ∷ 0x01 ∷ 0x02 ∷ 0x03 ∷ 0x03 ∷ 0x02 ∷ 0x00 ∷ 0x04 ∷ [])
    ∷ written 23 (failure (Some 25)) none none (0xB7 ∷ 0x0E ∷ 0x30 ∷ 0x0C ∷ 0x30 ∷ 0x0A ∷ 0x02 ∷ 0x01 ∷ 0x02 ∷ 0x03 ∷ 0x05 ∷ 0x06 ∷ 0x00 ∷ 0x00 ∷ 0x00 ∷ 0x40 ∷ [])
    ∷ []

unfoldable pub refused_ones : List Sample
refused_ones =
    refused 0 no_contents none none
    ∷ refused 0 no_contents (some []) none
    ∷ refused 2 no_contents (some (asked ++ asked)) none
    ∷ refused 7 no_contents (some (0x30 ∷ 0x00 ∷ [])) none
    ∷ refused 7 no_contents (some long_number) none
    ∷ refused 0 no_contents (some asked) (some (0x30 ∷ 0x00 ∷ []))
    ∷ refused 0 (response 0 0) (some asked) none
    ∷ refused 4 no_contents (some (0x05 ∷ 0x00 ∷ 0x05 ∷ 0x00 ∷ [])) none
    ∷ refused 4 no_contents (some (nest 15)) none
    ∷ refused 1 (response 0 0) none none
    ∷ refused 1 (response 0 2) none (some (0x30 ∷ 0x00 ∷ []))
    ∷ refused 1 (response 0 0) none (some (0x02 ∷ 0x01 ∷ 0x00 ∷ []))
    ∷ refused 8 (response 0 0) none (some (nest 10))
    ∷ refused 3 no_contents none none
    ∷ refused 19 no_contents (some asked) none
    ∷ refused 19 (failure None) none none
    ∷ refused 24 no_contents none none
    ∷ refused 23 no_contents none none
    ∷ refused 5 no_contents none none
    ∷ record { given = around [] none none; order = order_with 19 no_contents; body = none }
    ∷ record { given = around (0x30 ∷ 0x00 ∷ []) none none; order = order_with 19 no_contents; body = none }
    ∷ record { given = around (named ++ named) none none; order = order_with 19 no_contents; body = none }
    ∷ []

-- the list is right
abbrev pub SamplesHold : Type 0
SamplesHold = all_hold (written_ones ++ refused_ones) ≡ true
