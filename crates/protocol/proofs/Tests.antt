-- Laws of the tests: conjunctions, byte strings, the table of refusals, and membership by place.
use Prim.Native.Nat.{ℕ}
use mathlib.Core.List.{List, [], ◌∷◌}
use mathlib.Core.Bool.{Bool, true, false, not, cond, ◌&&◌, ◌||◌}
use mathlib.Core.Option.{Option, none, some}
use mathlib.Core.Path.{◌≡◌, refl, sym, ◌∙◌, ap}
use mathlib.Core.Logic.{◌⊎◌, inl, inr}
use native.Mathlib.Omega.{arith}
use lib.Dec.{eqb, T, eqb→eq, eqb_refl}
use Rattle.der.proofs.Auto.{and_left, and_right, or_cases}
use Rattle.protocol.specs.declared.Board.{Board}
use Rattle.protocol.specs.declared.TransactionId.{TransactionId}
use Rattle.protocol.specs.declared.Nonce.{Nonce}
use Rattle.protocol.specs.declared.Hash.{Hash}
use Rattle.protocol.specs.Bytes.{same_bytes, same_id, same_nonce, same_hash, is_id, is_nonce}
use Rattle.protocol.specs.Message.{is_enrolment_kind, is_response, response_to, p10cr, minus_one, request_number}
use Rattle.protocol.specs.Refusals.{Row, pass, lowest_row, stop}
use Rattle.protocol.specs.Request.{IsRequest}
use Rattle.protocol.specs.RequestNumber.{NumberIs}

pub true_false : {A : Type 0} → true ≡ false → A
true_false e = let z : ◌≡◌ {A = ℕ} 0 1 = cc in absurd (omega arith)

pub none_some : {A B : Type 0} {a : A} → ◌≡◌ {A = Option A} none (some a) → B
none_some e = let z : ◌≡◌ {A = ℕ} 0 1 = cc in absurd (omega arith)

pub some_some : {A : Type 0} {a b : A} → ◌≡◌ {A = Option A} (some a) (some b) → a ≡ b
some_some e = cc

pub T→true : (b : Bool) → T b → b ≡ true
T→true true t = refl
T→true false t = absurd t

pub true→T : (b : Bool) → b ≡ true → T b
true→T true e = tt
true→T false e = true_false (sym e)

pub eqb_eq : (m n : ℕ) → eqb m n ≡ true → m ≡ n
eqb_eq m n e = eqb→eq m n (true→T (eqb m n) e)

-- another number is not tested equal
pub other_than : (n k : ℕ) → (n ≡ k → ⊥) → (b : Bool) → eqb n k ≡ b → b ≡ false
other_than n k d true e = absurd (d (eqb_eq n k e))
other_than n k d false e = refl

pub same_bytes_eq : (a b : List ℕ) → same_bytes a b ≡ true → a ≡ b
unfolding same_bytes
same_bytes_eq [] [] e = refl
same_bytes_eq [] (y ∷ ys) e = true_false (sym e)
same_bytes_eq (x ∷ xs) [] e = true_false (sym e)
same_bytes_eq (x ∷ xs) (y ∷ ys) e =
    let h : x ≡ y = eqb_eq x y (and_left (eqb x y) (same_bytes xs ys) e) in
    let t : xs ≡ ys = same_bytes_eq xs ys (and_right (eqb x y) (same_bytes xs ys) e) in
    cc

pub same_bytes_refl : (a : List ℕ) → same_bytes a a ≡ true
unfolding same_bytes
same_bytes_refl [] = refl
same_bytes_refl (x ∷ xs) = rw (T→true (eqb x x) (eqb_refl x)) (same_bytes_refl xs)

pub id_eq : (a b : TransactionId) → same_id a b ≡ true → a ≡ b
id_eq a b e = let p : a.bytes ≡ b.bytes = same_bytes_eq a.bytes b.bytes e in λ i. record { bytes = p i }

pub nonce_eq : (a b : Nonce) → same_nonce a b ≡ true → a ≡ b
nonce_eq a b e = let p : a.bytes ≡ b.bytes = same_bytes_eq a.bytes b.bytes e in λ i. record { bytes = p i }

pub hash_eq : (a b : Hash) → same_hash a b ≡ true → a ≡ b
hash_eq a b e = let p : a.bytes ≡ b.bytes = same_bytes_eq a.bytes b.bytes e in λ i. record { bytes = p i }

pub board_eq : (a b : Board) → a.0 ≡ b.0 → a ≡ b
board_eq a b p = λ i. record { 0 = p i }

-- a part that is this id, this nonce, is there with its bytes
pub is_id_eq : (a : Option (List ℕ)) (b : TransactionId) → is_id a b ≡ true → a ≡ some b.bytes
is_id_eq none b e = true_false (sym e)
is_id_eq (some a) b e = ap some (same_bytes_eq a b.bytes e)

pub is_nonce_eq : (a : Option (List ℕ)) (b : Nonce) → is_nonce a b ≡ true → a ≡ some b.bytes
is_nonce_eq none b e = true_false (sym e)
is_nonce_eq (some a) b e = ap some (same_bytes_eq a b.bytes e)

-- ## The table of refusals

-- the test in the row of this number
abbrev pub applies_at : ℕ → List Row → Bool
applies_at n [] = false
applies_at n (r ∷ rs) = cond (eqb n r.number) r.applies (applies_at n rs)

passes_at : (n : ℕ) (r : Row) (rs : List Row) → (lowest_row rs ≡ pass → applies_at n rs ≡ false) → (a : Bool) → r.applies ≡ a → (b : Bool) → cond a (stop r.number) (lowest_row rs) ≡ pass → cond b r.applies (applies_at n rs) ≡ false
passes_at n r rs ih true q b e = let z : ◌≡◌ {A = ℕ} 0 1 = cc in absurd (omega arith)
passes_at n r rs ih false q true e = q
passes_at n r rs ih false q false e = ih e

-- where no row stops, the row of the number does not apply
pub passes : (n : ℕ) (rs : List Row) → lowest_row rs ≡ pass → applies_at n rs ≡ false
unfolding lowest_row
passes n [] e = refl
passes n (r ∷ rs) e = passes_at n r rs (λ p. passes n rs p) r.applies refl (eqb n r.number) e

-- ## Conjunctions that fail

pub not_false : (b : Bool) → not b ≡ false → b ≡ true
not_false true e = refl
not_false false e = true_false e

pub and_false : (a b : Bool) → (a && b) ≡ false → a ≡ true → b ≡ false
and_false true b e t = e
and_false false b e t = true_false (sym t)

pub or_right : (a b : Bool) → (a || b) ≡ true → a ≡ false → b ≡ true
or_right true b e t = true_false t
or_right false b e t = e

pub or_left : (a b : Bool) → (a || b) ≡ true → b ≡ false → a ≡ true
or_left true b e t = refl
or_left false b e t = true_false (sym e ∙ t)

pub and_true_false : (a : Bool) → (a && true) ≡ false → a ≡ false
and_true_false true e = e
and_true_false false e = refl

pub both : (a b : Bool) → a ≡ true → b ≡ true → (a && b) ≡ true
both true b p q = q
both false b p q = p

pub or_true : (a b : Bool) → b ≡ true → (a || b) ≡ true
or_true true b e = refl
or_true false b e = e

-- a number that passes two tests is one of the two
pub one_of : (n a b : ℕ) → (eqb n a || eqb n b) ≡ true → (n ≡ a) ⊎ (n ≡ b)
one_of n a b e = go (or_cases (eqb n a) (eqb n b) e)
  where
    go : (eqb n a ≡ true) ⊎ (eqb n b ≡ true) → (n ≡ a) ⊎ (n ≡ b)
    go (inl p) = inl (eqb_eq n a p)
    go (inr p) = inr (eqb_eq n b p)

pub off_left : (a b : Bool) → a ≡ false → (a && b) ≡ false
off_left a b e = rw e

pub off_right : (a b : Bool) → b ≡ false → (a && b) ≡ false
off_right true b e = e
off_right false b e = refl

-- a test that holds does not apply as its opposite
pub holds_not : (a : Bool) → a ≡ true → not a ≡ false
holds_not a e = rw e

pub same_number_lem : (n k : ℕ) → n ≡ k → eqb n k ≡ true
same_number_lem n k e = rw e (T→true (eqb k k) (eqb_refl k))

pub either : (n a b : ℕ) → (n ≡ a) ⊎ (n ≡ b) → (eqb n a || eqb n b) ≡ true
either n a b (inl e) = ap (λ (c : Bool). c || eqb n b) (same_number_lem n a e)
either n a b (inr e) = or_true (eqb n a) (eqb n b) (same_number_lem n b e)

-- what holds of both branches holds of the choice
pub cases : {A : Type 0} (P : A → Type 0) (t : Bool) (a b : A) → (t ≡ true → P a) → (t ≡ false → P b) → P (cond t a b)
cases P true a b f g = f refl
cases P false a b f g = g refl

-- a request is of one of the four kinds
pub request-kind : (k : ℕ) → IsRequest k → is_enrolment_kind k ≡ true
request-kind k (inl e) = rw e
request-kind k (inr (inl e)) = rw e
request-kind k (inr (inr (inl e))) = rw e
request-kind k (inr (inr (inr e))) = rw e

-- what holds of ip, cp and kup holds of each response
pub response_kinds : (P : ℕ → Type 0) → P 1 → P 3 → P 8 → (k : ℕ) → P (response_to k)
response_kinds P ip cp kup k = by (eqb k 0) (eqb k 2) (eqb k 4) (eqb k 7)
  where
    by : (a b c d : Bool) → P (cond a 1 (cond b 3 (cond c 3 (cond d 8 3))))
    by true b c d = ip
    by false true c d = cp
    by false false true d = cp
    by false false false true = kup
    by false false false false = cp

pub is-response : (k : ℕ) → is_response (response_to k) ≡ true
is-response = response_kinds (λ (n : ℕ). is_response n ≡ true) refl refl refl

-- ## The request number of a kind

number_by : (k n : ℕ) (b : Bool) → eqb k p10cr ≡ b → n ≡ cond b minus_one 0 → NumberIs k n
number_by k n true p e = inl (eqb_eq k p10cr p, e)
number_by k n false p e = inr ((λ q. true_false (sym (same_number_lem k p10cr q) ∙ p)), e)

pub number_is : (k n : ℕ) → n ≡ request_number k → NumberIs k n
number_is k n e = number_by k n (eqb k p10cr) refl e

-- no kind but p10cr has another number than 0
pub number_0 : (k : ℕ) → (k ≡ p10cr → ⊥) → request_number k ≡ 0
number_0 k z = ap (λ (b : Bool). cond b minus_one 0) (other_than k p10cr z _ refl)

pub is_number : (k n : ℕ) → NumberIs k n → n ≡ request_number k
is_number k n (inl g) = g.1 ∙ sym (ap request_number g.0)
is_number k n (inr g) = g.1 ∙ sym (number_0 k g.0)
