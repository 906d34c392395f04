-- W, "one message byte for byte" (document 01): what is given, the order, and the bytes.
use Rattle.std.specs.Prelude.{ℕ, ◌≡◌, List, [], ◌∷◌, ◌++◌, true, replicate, length, None}
use Rattle.std.proofs.Math.Option.{none, some}
use Rattle.protocol.specs.declared.Outgoing.{Outgoing}
use Rattle.encoding.specs.Given.{Given}
use Rattle.encoding.specs.Message.{encode}
use Rattle.encoding.specs.Write.{refusal_of}

unfoldable pub given : Given
given = record {
  version = 2;
  sender = 0xA4 ∷ 0x02 ∷ 0x30 ∷ 0x00 ∷ [];
  recipient = 0xA4 ∷ 0x02 ∷ 0x30 ∷ 0x00 ∷ [];
  message_time = none;
  protection_alg = some (0x30 ∷ 0x0B ∷ 0x06 ∷ 0x09 ∷ 0x2A ∷ 0x86 ∷ 0x48 ∷ 0x86 ∷ 0xF6 ∷ 0x7D ∷ 0x07 ∷ 0x42 ∷ 0x0D ∷ []);
  sender_kid = none;
  recip_kid = none;
  free_text = none;
  general_info = none;
  protection = some (0x00 ∷ 0x5A ∷ []);
  request = none;
  certificate = none;
}

unfoldable pub order : Outgoing
order = record {
  kind = 24;
  id = record { bytes = replicate 16 0x11 };
  sender_nonce = record { bytes = replicate 16 0x22 };
  has_recip_nonce = true;
  recip_nonce = record { bytes = replicate 16 0x33 };
  contents =
      record {
        has_status = true;
        status = 0;
        hash = record { bytes = replicate 32 0xAB };
        failure = None;
        has_number = true;
        number = 0;
      };
}

unfoldable pub w : List ℕ
w =
    (0x30 ∷ 0x81 ∷ 0x89 ∷ 0x30 ∷ 0x56 ∷ 0x02 ∷ 0x01 ∷ 0x02 ∷ 0xA4 ∷ 0x02 ∷ 0x30 ∷ 0x00 ∷ 0xA4 ∷ 0x02 ∷ 0x30 ∷ 0x00 ∷ [])
    ++ ((0xA1 ∷ 0x0D ∷ 0x30 ∷ 0x0B ∷ 0x06 ∷ 0x09 ∷ 0x2A ∷ 0x86 ∷ 0x48 ∷ 0x86 ∷ 0xF6 ∷ 0x7D ∷ 0x07 ∷ 0x42 ∷ 0x0D ∷ [])
    ++ ((0xA4 ∷ 0x12 ∷ 0x04 ∷ 0x10 ∷ []) ++ (replicate 16 0x11
    ++ ((0xA5 ∷ 0x12 ∷ 0x04 ∷ 0x10 ∷ []) ++ (replicate 16 0x22
    ++ ((0xA6 ∷ 0x12 ∷ 0x04 ∷ 0x10 ∷ []) ++ (replicate 16 0x33
    ++ ((0xB8 ∷ 0x29 ∷ 0x30 ∷ 0x27 ∷ 0x30 ∷ 0x25 ∷ 0x04 ∷ 0x20 ∷ []) ++ (replicate 32 0xAB
    ++ (0x02 ∷ 0x01 ∷ 0x00 ∷ 0xA0 ∷ 0x04 ∷ 0x03 ∷ 0x02 ∷ 0x00 ∷ 0x5A ∷ []))))))))))

-- "W must come out byte for byte": it is what is written, in a buffer of its 140 bytes and in no shorter one
pub record WComesOut : Type 0 where
  pub bytes : encode given order ≡ w
  pub size : length w ≡ 140
  pub written : refusal_of true given order 140 ≡ 0
  pub short : refusal_of true given order 139 ≡ 35
