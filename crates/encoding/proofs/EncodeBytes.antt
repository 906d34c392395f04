-- What is written are bytes, where the parts are.
use Rattle.std.specs.Prelude.{Some, None}
use Prim.Native.Nat.{ℕ, zero, suc, ◌+◌, ◌-◌, ◌/◌, ◌%◌, ◌^◌, ◌<◌, ◌≤◌}
use mathlib.Core.List.{List, [], ◌∷◌, ◌++◌}
use mathlib.Core.Bool.{Bool, true, false, cond, ◌||◌}
use mathlib.Core.Option.{Option, none, some}
use native.Mathlib.Nat.{mod-lt, pow-le-pow_right, lt_of_le_of_lt}
use native.Mathlib.Omega.{arith}
use borrow.Author.Tests.{ltb-true}
use lib.ListN.{length, length-append}
use lib.Dec.{ltb, leb, eqb, lit<}
use Rattle.der.specs.Head.{head_bytes}
use Rattle.der.proofs.HeadLaws.{cond_both, cond-case}
use Rattle.protocol.specs.Types.{FailureInfo}
use Rattle.protocol.specs.declared.Outgoing.{Outgoing}
use Rattle.protocol.specs.Bytes.{zeros, bytes_of}
use Rattle.encoding.specs.Element.{element, field, wrapped, optional, integer_bytes, integer}
use Rattle.encoding.specs.Given.{Given}
use Rattle.encoding.specs.Message.{recip_nonce, names_bytes, options_bytes, ids_bytes, header_bytes, bit_content, failure_bits, status_bytes, requests_bytes, key_pair_bytes, responses_bytes, confirmations_bytes, error_bytes, content_bytes, body_bytes, encode}
use Rattle.encoding.specs.ReadBack.{Bytes, BytesIf, GivenTyped, OrderTyped}
use Rattle.encoding.specs.FitsRules.{CopiedTyped}
use Rattle.encoding.proofs.WrittenKinds.{Kind, ir, ip, cr, cp, p10cr, kur, kup, pkiconf, error, certconf, body-tag}

-- ## Lists of bytes

data Each : List ℕ → Type 0 where
  no_more : Each []
  more : {x : ℕ} {s : List ℕ} → x < 256 → Each s → Each (x ∷ s)

each-bytes : {s : List ℕ} → Each s → Bytes s
each-bytes no_more i = lit< tt
each-bytes (more h b) zero = h
each-bytes (more h b) (suc i) = each-bytes b i

bytes-each : (s : List ℕ) → Bytes s → Each s
bytes-each [] b = no_more
bytes-each (x ∷ s) b = more (b 0) (bytes-each s (λ i. b (suc i)))

both : {x y : List ℕ} → Each x → Each y → Each (x ++ y)
both no_more b = b
both (more h a) b = more h (both a b)

low_byte : (n : ℕ) → n % 256 < 256
low_byte n = mod-lt n {m = 256} (lit< tt)

head_bytes_lem : (tag n : ℕ) → tag < 256 → n < 65536 → Each (head_bytes tag n)
unfolding head_bytes
head_bytes_lem tag n t h =
    cond_both Each (ltb n 128) (λ q. more t (more (omega (arith, ltb-true n 128 q)) no_more)) λ q.
    cond_both Each (ltb n 256) (λ r. more t (more (lit< tt) (more (ltb-true n 256 r) no_more))) λ r.
    more t (more (lit< tt) (more (omega arith) (more (low_byte n) no_more)))

integer-bytes : (n : ℕ) → n < 4294967296 → Each (integer_bytes n)
unfolding integer_bytes
integer-bytes n h =
    let b0 = more (low_byte n) no_more in
    let b1 = more (low_byte (n / 256)) b0 in
    let b2 = more (low_byte (n / 65536)) b1 in
    let top : n / 16777216 < 256 = omega arith in
    cond-case Each (ltb n 0x80 || leb 0xFFFFFF80 n) b0
    (cond-case Each (ltb n 0x8000 || leb 0xFFFF8000 n) b1
    (cond-case Each (ltb n 0x800000 || leb 0xFF800000 n) b2 (more top b2)))

zero_bytes : (n : ℕ) → Each (zeros n)
zero_bytes zero = no_more
zero_bytes (suc n) = more (lit< tt) (zero_bytes n)

bit-bytes : (b : ℕ) → Each (bit_content b)
unfolding bit_content
bit-bytes b =
    let low : 7 - b % 8 ≤ 7 = omega arith in
    let power : 2 ^ (7 - b % 8) < 256 = lt_of_le_of_lt (pow-le-pow_right (lit< tt) low) (lit< tt) in
    let unused : 7 - b % 8 < 256 = omega arith in
    more unused (both (zero_bytes (b / 8)) (more power no_more))

-- ## Elements, of sizes that follow from the size of all

abbrev Fine : List ℕ → Type 0
Fine x = length x < 65536 → Each x

fine_none : Fine []
fine_none h = no_more

fine_copied : (e rest : List ℕ) → Each e → Fine rest → Fine (e ++ rest)
fine_copied e rest b f h = both b (f (omega (arith, length-append e rest)))

fine_element : (tag : ℕ) (v rest : List ℕ) → tag < 256 → Fine v → Fine rest → Fine (element tag v ++ rest)
unfolding element
fine_element tag v rest t f g h =
    let a = length-append (head_bytes tag (length v) ++ v) rest in
    let b = length-append (head_bytes tag (length v)) v in
    let small : length v < 65536 = omega arith in
    both (both (head_bytes_lem tag (length v) t small) (f small)) (g (omega arith))

-- an element that holds bytes
fine_leaf : (tag : ℕ) (v rest : List ℕ) → tag < 256 → Each v → Fine rest → Fine (element tag v ++ rest)
fine_leaf tag v rest t b = fine_element tag v rest t (λ h. b)

fine_integer : (n : ℕ) (rest : List ℕ) → n < 4294967296 → Fine rest → Fine (integer n ++ rest)
unfolding integer
fine_integer n rest h = fine_leaf 0x02 (integer_bytes n) rest (lit< tt) (integer-bytes n h)

fine_field : (tag inner : ℕ) (o : Option (List ℕ)) (rest : List ℕ) → tag < 256 → inner < 256 → BytesIf o → Fine rest
    → Fine (field tag inner o ++ rest)
unfolding field
fine_field tag inner none rest t i b f = f
fine_field tag inner (some v) rest t i b f =
    fine_element tag (element inner v ++ []) rest t (fine_leaf inner v [] i (bytes-each v b) fine_none) f

fine_wrapped : (tag : ℕ) (o : Option (List ℕ)) (rest : List ℕ) → tag < 256 → BytesIf o → Fine rest → Fine (wrapped tag o ++ rest)
unfolding wrapped
fine_wrapped tag none rest t b f = f
fine_wrapped tag (some e) rest t b f = fine_element tag (e ++ []) rest t (fine_copied e [] (bytes-each e b) fine_none) f

fine_failure : (f : FailureInfo) → Fine (optional 0x03 (failure_bits f) ++ [])
unfolding optional
fine_failure None = fine_none
fine_failure (Some b) = fine_leaf 0x03 (bit_content b) [] (lit< tt) (bit-bytes b) fine_none

fine_status : (s : ℕ) (f : FailureInfo) (rest : List ℕ) → s < 4294967296 → Fine rest → Fine (status_bytes s (failure_bits f) ++ rest)
unfolding status_bytes
fine_status s f rest h =
    fine_element 0x30 (integer s ++ (optional 0x03 (failure_bits f) ++ [])) rest (lit< tt)
    (fine_integer s (optional 0x03 (failure_bits f) ++ []) h (fine_failure f))

request-bytes : (r : Option (List ℕ)) → BytesIf r → Fine (bytes_of r ++ [])
request-bytes none b = fine_none
request-bytes (some e) b = fine_copied e [] (bytes-each e b) fine_none

pair_bytes : (e : Option (List ℕ)) → BytesIf e → Fine (key_pair_bytes e ++ [])
unfolding key_pair_bytes
pair_bytes none b = fine_none
pair_bytes (some e) b =
    fine_element 0x30 (element 0xA0 (e ++ []) ++ []) [] (lit< tt)
    (fine_element 0xA0 (e ++ []) [] (lit< tt) (fine_copied e [] (bytes-each e b) fine_none) fine_none) fine_none

-- ## The message

module _ (g : Given) (o : Outgoing) (typed : GivenTyped g) (types : OrderTyped o) (copied : CopiedTyped g o) where
  recip-bytes : (there : Bool) → BytesIf (cond there (some o.recip_nonce.bytes) none)
  recip-bytes true = copied.recip_nonce
  recip-bytes false = tt

  header-bytes : Fine (names_bytes g (options_bytes g (ids_bytes g o)))
  unfolding names_bytes options_bytes ids_bytes
  header-bytes =
      fine_integer g.version _ typed.version
      (fine_copied g.sender _ (bytes-each g.sender typed.sender)
      (fine_copied g.recipient _ (bytes-each g.recipient typed.recipient)
      (fine_field 0xA0 0x18 g.message_time _ (lit< tt) (lit< tt) copied.message_time
      (fine_wrapped 0xA1 g.protection_alg _ (lit< tt) typed.protection_alg
      (fine_field 0xA2 0x04 g.sender_kid _ (lit< tt) (lit< tt) copied.sender_kid
      (fine_field 0xA3 0x04 g.recip_kid _ (lit< tt) (lit< tt) copied.recip_kid
      (fine_field 0xA4 0x04 (some o.id.bytes) _ (lit< tt) (lit< tt) copied.id
      (fine_field 0xA5 0x04 (some o.sender_nonce.bytes) _ (lit< tt) (lit< tt) copied.sender_nonce
      (fine_field 0xA6 0x04 (recip_nonce o) _ (lit< tt) (lit< tt) (recip-bytes o.has_recip_nonce)
      (fine_wrapped 0xA7 g.free_text _ (lit< tt) typed.free_text
      (fine_wrapped 0xA8 g.general_info [] (lit< tt) typed.general_info fine_none)))))))))))

  responses-bytes : Fine (responses_bytes o.contents.number o.contents.status g.certificate ++ [])
  unfolding responses_bytes
  responses-bytes =
      fine_element 0x30 _ [] (lit< tt)
      (fine_element 0x30 _ [] (lit< tt)
      (fine_element 0x30 _ [] (lit< tt)
      (fine_integer o.contents.number _ types.number
      (fine_status o.contents.status None _ types.status (pair_bytes g.certificate typed.certificate))) fine_none) fine_none)
      fine_none

  confirm_bytes : (b : Bool) → Fine (cond b [] (status_bytes o.contents.status none) ++ [])
  confirm_bytes true = fine_none
  confirm_bytes false = fine_status o.contents.status None [] types.status fine_none

  confirmations-bytes : Fine (confirmations_bytes o.contents.hash.bytes o.contents.number o.contents.status ++ [])
  unfolding confirmations_bytes
  confirmations-bytes =
      fine_element 0x30 _ [] (lit< tt)
      (fine_element 0x30 _ [] (lit< tt)
      (fine_leaf 0x04 o.contents.hash.bytes _ (lit< tt) (bytes-each o.contents.hash.bytes copied.hash)
      (fine_integer o.contents.number _ types.number (confirm_bytes (eqb o.contents.status 0)))) fine_none)
      fine_none

  error_bytes_lem : Fine (error_bytes o.contents.status o.contents.failure ++ [])
  unfolding error_bytes
  error_bytes_lem =
      fine_element 0x30 _ [] (lit< tt) (fine_status o.contents.status o.contents.failure [] types.status fine_none) fine_none

  requests-bytes : Fine (requests_bytes (bytes_of g.request) ++ [])
  unfolding requests_bytes
  requests-bytes = fine_element 0x30 _ [] (lit< tt) (request-bytes g.request typed.request) fine_none

  content-bytes : (k : ℕ) → Kind k → Fine (content_bytes g k o.contents ++ [])
  unfolding content_bytes
  content-bytes _ ir = requests-bytes
  content-bytes _ ip = responses-bytes
  content-bytes _ cr = requests-bytes
  content-bytes _ cp = responses-bytes
  content-bytes _ p10cr = request-bytes g.request typed.request
  content-bytes _ kur = requests-bytes
  content-bytes _ kup = responses-bytes
  content-bytes _ pkiconf = fine_leaf 0x05 [] [] (lit< tt) no_more fine_none
  content-bytes _ error = error_bytes_lem
  content-bytes _ certconf = confirmations-bytes

  -- BYTES: what is written of typed parts
  pub encode-bytes : Kind o.kind → length (encode g o) < 65536 → Bytes (encode g o)
  unfolding encode header_bytes body_bytes
  encode-bytes kind short =
      let tag : 0xA0 + o.kind < 256 = omega (arith, (body-tag o.kind kind).low) in
      each-bytes
      (fine_element 0x30 _ [] (lit< tt)
      (fine_element 0x30 _ _ (lit< tt) header-bytes
      (fine_element (0xA0 + o.kind) _ _ tag (content-bytes o.kind kind)
      (fine_field 0xA0 0x03 g.protection [] (lit< tt) (lit< tt) copied.protection fine_none)))
      fine_none short)
