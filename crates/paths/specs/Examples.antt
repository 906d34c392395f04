-- Computed: where the parts of W lie, which document 01 gives byte for byte, and the two numbers that it prints beside its dozen.
use Rattle.std.specs.Prelude.{ℕ, ◌≡◌, List, [], ◌∷◌, ◌++◌, false, length, replicate}
use Rattle.paths.specs.Walk.{first, elements_between, walk}
use Rattle.paths.specs.Table.{Part, Number, place_of, path_of, status_info, entry_list, span_at, number_at, found, size_at}

-- ## W

abbrev example_header : List ℕ
example_header =
    0x30 ∷ 0x56 ∷ 0x02 ∷ 0x01 ∷ 0x02 ∷ 0xA4 ∷ 0x02 ∷ 0x30 ∷ 0x00 ∷ 0xA4 ∷ 0x02 ∷ 0x30 ∷ 0x00
    ∷ 0xA1 ∷ 0x0D ∷ 0x30 ∷ 0x0B ∷ 0x06 ∷ 0x09 ∷ 0x2A ∷ 0x86 ∷ 0x48 ∷ 0x86 ∷ 0xF6 ∷ 0x7D ∷ 0x07 ∷ 0x42 ∷ 0x0D
    ∷ 0xA4 ∷ 0x12 ∷ 0x04 ∷ 0x10
    ∷ (replicate 16 0x11 ++ (0xA5 ∷ 0x12 ∷ 0x04 ∷ 0x10 ∷ (replicate 16 0x22 ++ (0xA6 ∷ 0x12 ∷ 0x04 ∷ 0x10 ∷ replicate 16 0x33))))

abbrev example_body : List ℕ
example_body = 0xB8 ∷ 0x29 ∷ 0x30 ∷ 0x27 ∷ 0x30 ∷ 0x25 ∷ 0x04 ∷ 0x20 ∷ (replicate 32 0xAB ++ (0x02 ∷ 0x01 ∷ 0x00 ∷ []))

unfoldable pub w : List ℕ
w = 0x30 ∷ 0x81 ∷ 0x89 ∷ (example_header ++ (example_body ++ (0xA0 ∷ 0x04 ∷ 0x03 ∷ 0x02 ∷ 0x00 ∷ 0x5A ∷ [])))

-- start and length
abbrev pub Lies : Part → ℕ → ℕ → Type 0
Lies p start len = span_at w (place_of p) ≡ record { start = record { 0 = start }; len = len }

abbrev pub Absent : Part → Type 0
Absent p = Lies p 0 0

abbrev pub Says : Number → ℕ → Type 0
Says n k = number_at w (walk w (path_of n)) ≡ k

pub record OnW : Type 0 where
  pub header : Lies Part.Header 3 88
  pub sender : Lies Part.Sender 8 4
  pub recipient : Lies Part.Recipient 12 4
  pub message_time : Absent Part.MessageTime
  pub protection_alg : Lies Part.ProtectionAlg 18 13
  pub sender_kID : Absent Part.SenderKID
  pub recip_kID : Absent Part.RecipKID
  pub transaction_iD : Lies Part.TransactionID 35 16
  pub sender_nonce : Lies Part.SenderNonce 55 16
  pub recip_nonce : Lies Part.RecipNonce 75 16
  pub free_text : Absent Part.FreeText
  pub general_info : Absent Part.GeneralInfo
  pub body : Lies Part.Body 91 43
  pub ca_pubs : Absent Part.CaPubs
  pub cert_hash : Lies Part.CertHash 99 32
  pub hash_alg : Absent Part.HashAlg
  pub certificate : Absent Part.Certificate
  pub request : Absent Part.Request
  pub protection : Lies Part.Protection 134 6
  pub extra_certs : Absent Part.ExtraCerts
  pub pvno : Says Number.Version 2
  pub cert_req_id : Says Number.CertReqId 0
  pub has_status : found (walk w status_info) ≡ false
  pub entries : size_at w (walk w entry_list) ≡ 1

-- ## Two integers

-- the number that the INTEGER at the beginning says
abbrev pub number_in : List ℕ → ℕ
number_in s = number_at s (first (elements_between s 0 (length s)))

-- -1, as 32 bits of two's complement, and 128
pub record TwoIntegers : Type 0 where
  pub less : number_in (0x02 ∷ 0x01 ∷ 0xFF ∷ []) ≡ 0xFFFFFFFF
  pub more : number_in (0x02 ∷ 0x02 ∷ 0x00 ∷ 0x80 ∷ []) ≡ 128
