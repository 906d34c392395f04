-- The numbers of a reading are put at places that differ: what stands at each is what was put there.
use Rattle.std.specs.Prelude.{Ok, Err, is_some, unwrap_or}
use Prim.Native.Nat.{ℕ, zero, suc, ◌+◌, ◌<◌, ◌≤◌}
use mathlib.Core.List.{List, [], ◌∷◌}
use mathlib.Core.Bool.{Bool, true, false, cond}
use mathlib.Core.Path.{◌≡◌, refl, sym, ◌∙◌, ap}
use mathlib.Core.Logic.{◌⊎◌, inl, inr}
use native.Mathlib.Omega.{arith}
use borrow.Author.Tests.{ltb-false, eqb-true, eqb-false}
use lib.ListN.{length, set, get_or, length-set}
use lib.Dec.{eqb, ltb}
use Rattle.grammar.specs.declared.Span.{Span}
use Rattle.grammar.specs.declared.Message.{Message}
use Rattle.message.specs.Read.{reading_of, protected_length}
use Rattle.message.specs.Types.{Reading}
use Rattle.message.proofs.ReadingLaws.{refused-only}
use Rattle.protocol.proofs.Tests.{cases}
use Rattle.fields.specs.Fields.{field_count, put_number, put_span, put_names, put_ids, put_entry, put_body, put_protected, put_message, read_number, read_numbers, read_answer, read_fields}
use Rattle.paths.specs.Table.{Part, handed, Number, told}
use Rattle.paths.specs.InPlace.{InPlace}
use Rattle.paths.proofs.Theorem.{as_the_standard_says}
use Rattle.lent.specs.ReadPlaces.{start_place, number_place, WrittenInPlace, ReadInPlace}

-- ## Numbers that are put at places, one after the other

record Put : Type 0 where
  at : ℕ
  number : ℕ

unfoldable put_all : List Put → List ℕ → List ℕ
put_all [] l = l
put_all (p ∷ ps) l = put_all ps (set l p.at p.number)

-- what then stands at a place, where d stood
unfoldable stands : List Put → ℕ → ℕ → ℕ
stands [] j d = d
stands (p ∷ ps) j d = stands ps j (cond (eqb p.at j) p.number d)

set_there : (l : List ℕ) (j v : ℕ) → j < length l → get_or (set l j v) j 0 ≡ v
set_there [] j v h = absurd (omega arith)
set_there (x ∷ l) zero v h = refl
set_there (x ∷ l) (suc j) v h = set_there l j v (omega arith)

set_elsewhere : (l : List ℕ) (i j v : ℕ) → (i ≡ j → ⊥) → get_or (set l i v) j 0 ≡ get_or l j 0
set_elsewhere [] i j v d = refl
set_elsewhere (x ∷ l) zero zero v d = absurd (d refl)
set_elsewhere (x ∷ l) zero (suc j) v d = refl
set_elsewhere (x ∷ l) (suc i) zero v d = refl
set_elsewhere (x ∷ l) (suc i) (suc j) v d = set_elsewhere l i j v (λ e. d (ap suc e))

set_at : (l : List ℕ) (i j v : ℕ) → j < length l → get_or (set l i v) j 0 ≡ cond (eqb i j) v (get_or l j 0)
set_at l i j v h =
    cases (λ (n : ℕ). get_or (set l i v) j 0 ≡ n) (eqb i j) v (get_or l j 0)
    (λ e. ap (λ (k : ℕ). get_or (set l k v) j 0) (eqb-true i j e) ∙ set_there l j v h)
    (λ e. set_elsewhere l i j v (eqb-false i j e))

all_at : (ps : List Put) (l : List ℕ) (j : ℕ) → j < length l → get_or (put_all ps l) j 0 ≡ stands ps j (get_or l j 0)
unfolding put_all stands
all_at [] l j h = refl
all_at (p ∷ ps) l j h = all_at ps (set l p.at p.number) j (omega (arith, length-set l p.at p.number)) ∙ ap (stands ps j) (set_at l p.at j p.number h)

-- ## Those of a message

abbrev span : ℕ → Span → List Put → List Put
span a s ps = record { at = a; number = s.start.0 } ∷ record { at = a + 1; number = s.len } ∷ ps

abbrev number : ℕ → ℕ → List Put → List Put
number a n ps = record { at = a; number = n } ∷ ps

abbrev puts : Message → List Put
puts x =
    span 3 x.header_span (
    span 5 x.body_span (
    span 7 x.protection (
    span 9 x.extra_certs (
    number 1 x.header.version (
    span 11 x.header.sender (
    span 13 x.header.recipient (
    span 15 x.header.message_time (
    span 17 x.header.protection_alg (
    span 19 x.header.sender_kid (
    span 21 x.header.recip_kid (
    span 23 x.header.transaction_id (
    span 25 x.header.sender_nonce (
    span 27 x.header.recip_nonce (
    span 29 x.header.free_text (
    span 31 x.header.general_info (
    number 0 x.body.kind (
    number 2 x.body.entries (
    span 33 x.body.ca_pubs (
    number 35 x.body.entry.number (
    number 36 (cond (is_some x.body.entry.status) 1 0) (
    number 37 (unwrap_or x.body.entry.status 0) (
    span 38 x.body.entry.cert_hash (
    span 40 x.body.entry.hash_alg (
    span 42 x.body.entry.certificate (
    span 44 x.body.entry.request (
    number 46 (protected_length x) []))))))))))))))))))))))))))

message_puts : (x : Message) (l : List ℕ) → put_message x l ≡ put_all (puts x) l
unfolding put_message put_names put_ids put_body put_entry put_protected put_span put_number put_all
message_puts x l = refl

module _ (x : Message) (l : List ℕ) (room : field_count ≤ length l) where
  at : (j : ℕ) → j < field_count → get_or (put_message x l) j 0 ≡ stands (puts x) j (get_or l j 0)
  at j h = ap (λ (n : List ℕ). get_or n j 0) (message_puts x l) ∙ all_at (puts x) l j (omega arith)

  starts : (p : Part) → get_or (put_message x l) (start_place p) 0 ≡ (handed x p).start.0
  unfolding stands handed
  starts Part.Header = at 3 (omega arith)
  starts Part.Body = at 5 (omega arith)
  starts Part.Protection = at 7 (omega arith)
  starts Part.ExtraCerts = at 9 (omega arith)
  starts Part.Sender = at 11 (omega arith)
  starts Part.Recipient = at 13 (omega arith)
  starts Part.MessageTime = at 15 (omega arith)
  starts Part.ProtectionAlg = at 17 (omega arith)
  starts Part.SenderKID = at 19 (omega arith)
  starts Part.RecipKID = at 21 (omega arith)
  starts Part.TransactionID = at 23 (omega arith)
  starts Part.SenderNonce = at 25 (omega arith)
  starts Part.RecipNonce = at 27 (omega arith)
  starts Part.FreeText = at 29 (omega arith)
  starts Part.GeneralInfo = at 31 (omega arith)
  starts Part.CaPubs = at 33 (omega arith)
  starts Part.CertHash = at 38 (omega arith)
  starts Part.HashAlg = at 40 (omega arith)
  starts Part.Certificate = at 42 (omega arith)
  starts Part.Request = at 44 (omega arith)

  lengths : (p : Part) → get_or (put_message x l) (start_place p + 1) 0 ≡ (handed x p).len
  unfolding stands handed
  lengths Part.Header = at 4 (omega arith)
  lengths Part.Body = at 6 (omega arith)
  lengths Part.Protection = at 8 (omega arith)
  lengths Part.ExtraCerts = at 10 (omega arith)
  lengths Part.Sender = at 12 (omega arith)
  lengths Part.Recipient = at 14 (omega arith)
  lengths Part.MessageTime = at 16 (omega arith)
  lengths Part.ProtectionAlg = at 18 (omega arith)
  lengths Part.SenderKID = at 20 (omega arith)
  lengths Part.RecipKID = at 22 (omega arith)
  lengths Part.TransactionID = at 24 (omega arith)
  lengths Part.SenderNonce = at 26 (omega arith)
  lengths Part.RecipNonce = at 28 (omega arith)
  lengths Part.FreeText = at 30 (omega arith)
  lengths Part.GeneralInfo = at 32 (omega arith)
  lengths Part.CaPubs = at 34 (omega arith)
  lengths Part.CertHash = at 39 (omega arith)
  lengths Part.HashAlg = at 41 (omega arith)
  lengths Part.Certificate = at 43 (omega arith)
  lengths Part.Request = at 45 (omega arith)

  numbers : (n : Number) → get_or (put_message x l) (number_place n) 0 ≡ told x n
  unfolding stands told
  numbers Number.Version = at 1 (omega arith)
  numbers Number.CertReqId = at 35 (omega arith)
  numbers Number.Status = at 37 (omega arith)

  kind : get_or (put_message x l) 0 0 ≡ x.body.kind
  unfolding stands
  kind = at 0 (omega arith)

  entries : get_or (put_message x l) 2 0 ≡ x.body.entries
  unfolding stands
  entries = at 2 (omega arith)

  has-status : get_or (put_message x l) 36 0 ≡ cond (is_some x.body.entry.status) 1 0
  unfolding stands
  has-status = at 36 (omega arith)

  in_place : (m : List ℕ) → InPlace m x → WrittenInPlace m (put_message x l)
  in_place m h =
      record {
        starts = λ p. starts p ∙ ap (λ (s : Span). s.start.0) (h.parts p);
        lengths = λ p. lengths p ∙ ap (λ (s : Span). s.len) (h.parts p);
        numbers = λ n. numbers n ∙ h.numbers n;
        kind = h.kind ∙ ap (λ (k : ℕ). 0xA0 + k) (sym kind);
        entries = entries ∙ h.entries;
        has_status = has-status ∙ ap (λ (b : Bool). cond b 1 0) h.has_status;
      }

-- ## A reading that returns 0 is clean

clean : (m l : List ℕ) (r : Reading) → reading_of m ≡ r → field_count ≤ length l → read_number r ≡ 0 → WrittenInPlace m (read_numbers r l)
clean m l (Ok x) e room z = in_place x l room m (as_the_standard_says m x e)
clean m l (Err f) e room z = absurd (go (refused-only m f e))
  where
    go : (f.number ≡ 1) ⊎ (f.number ≡ 2) → ⊥
    go (inl q) = omega arith
    go (inr q) = omega arith

pub read_in_place : ReadInPlace
unfolding read_answer read_fields
read_in_place m l = test (ltb (length l) field_count) refl
  where
    test : (b : Bool) → ltb (length l) field_count ≡ b → cond b 255 (read_number (reading_of m)) ≡ 0 → WrittenInPlace m (cond b l (read_numbers (reading_of m) l))
    test true q z = absurd (omega arith)
    test false q z = clean m l (reading_of m) refl (ltb-false (length l) field_count q) z
