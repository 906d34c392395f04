-- What the caller gives beside the order (M-101: "given header fields", "a caller's request element", "a caller's certificate",
-- "protection is handed in"), by its bytes.
use Rattle.std.specs.Prelude.{ℕ, List}
use Rattle.std.proofs.Math.Option.{Option}

-- Names, protectionAlg, freeText, generalInfo, request and certificate are whole elements; the others are contents, of the protection
-- the BIT STRING's.
pub record Given : Type 0 where
  pub version : ℕ
  pub sender : List ℕ
  pub recipient : List ℕ
  pub message_time : Option (List ℕ)
  pub protection_alg : Option (List ℕ)
  pub sender_kid : Option (List ℕ)
  pub recip_kid : Option (List ℕ)
  pub free_text : Option (List ℕ)
  pub general_info : Option (List ℕ)
  pub protection : Option (List ℕ)
  -- the request message of an ir, cr or kur, or the certification request of a p10cr
  pub request : Option (List ℕ)
  -- the certificate of an ip, cp or kup
  pub certificate : Option (List ℕ)
