-- PKIStatusInfo, read where it was written, and its failure bit.
use Rattle.std.specs.Prelude.{Some, None}
use Prim.Native.Nat.{ℕ, suc, ◌+◌, ◌-◌, ◌/◌, ◌%◌, ◌^◌, ◌<◌}
use mathlib.Core.Path.{◌≡◌, refl, sym, ◌∙◌, ap, subst}
use mathlib.Core.List.{List, [], ◌∷◌, ◌++◌}
use mathlib.Core.Bool.{Bool, true, false, cond}
use mathlib.Core.Option.{Option, none, some}
use native.Mathlib.Nat.{mod_self, div_self, one-le-pow}
use native.Mathlib.Omega.{arith}
use borrow.Author.Tests.{le-ltb, lt-leb, eq-eqb, ne_eqb}
use lib.ListN.{length, length-append, length-replicate}
use lib.Seq.{get_or-append_seam}
use lib.Dec.{lit<}
use Rattle.der.specs.Head.{byte, tag_ok}
use Rattle.der.specs.Content.{bit_string_ok}
use Rattle.grammar.specs.declared.cursor.Cursor.{Cursor}
use Rattle.grammar.specs.declared.parts.Status.{Status}
use Rattle.grammar.specs.Cursor.{need_of, none_of, done_of, enter_of, leave_of, small_integer_of}
use Rattle.grammar.specs.Parts.{maybe_text, last_bit_set, fail_info_of, status_of, maybe_status}
use Rattle.protocol.specs.Types.{FailureInfo}
use Rattle.protocol.specs.Bytes.{zeros}
use Rattle.protocol.specs.Message.{optional_status}
use Rattle.encoding.specs.Element.{element, integer_bytes, integer, optional}
use Rattle.encoding.specs.Message.{bit_content, failure_bits, status_bytes}
use Rattle.encoding.proofs.Holds.{Holds, need_took, out_is, none-holds}
use Rattle.encoding.proofs.Rules.{content-is, value_is, small_took}
use Rattle.encoding.proofs.Integer.{integer-short, integer_value}
use Rattle.encoding.proofs.Body.{nothing-next, other_next, same_next}

-- ## A failure bit: the shortest BIT STRING with that bit set

pub zeros-size : (n : ℕ) → length (zeros n) ≡ n
zeros-size n = length-replicate {A = ℕ} n 0

module _ (b : ℕ) where
  pub bit-size : length (bit_content b) ≡ b / 8 + 2
  unfolding bit_content
  bit-size = omega (arith, length-append (zeros (b / 8)) ((2 ^ (7 - b % 8)) ∷ []), zeros-size (b / 8))

  bit-last : byte (bit_content b) (length (bit_content b) - 1) ≡ 2 ^ (7 - b % 8)
  unfolding bit_content
  bit-last =
      let e : length (bit_content b) - 1 ≡ suc (length (zeros (b / 8))) = omega (arith, bit-size, zeros-size (b / 8)) in
      ap (byte (bit_content b)) e ∙ get_or-append_seam (zeros (b / 8)) (2 ^ (7 - b % 8)) [] 0

  pub bit_ok : bit_string_ok (bit_content b) ≡ true
  unfolding bit_string_ok bit_content
  bit_ok =
      rw (
        ne_eqb (length (bit_content b)) 0 (λ e. omega (arith, bit-size)),
        le-ltb 7 (7 - b % 8) (omega arith),
        ne_eqb (length (bit_content b)) 1 (λ e. omega (arith, bit-size)),
        bit-last,
      )
      (eq-eqb (2 ^ (7 - b % 8) % 2 ^ (7 - b % 8)) 0 (mod_self (2 ^ (7 - b % 8))))

  bit-set : last_bit_set (bit_content b) ≡ true
  unfolding last_bit_set bit_content
  bit-set =
      rw (lt-leb (length (bit_content b)) 1 (omega (arith, bit-size)), le-ltb 7 (7 - b % 8) (omega arith), bit-last)
      (eq-eqb (2 ^ (7 - b % 8) / 2 ^ (7 - b % 8) % 2) 1 (ap (λ (k : ℕ). k % 2) (div_self (one-le-pow (7 - b % 8) 2 (lit< tt)))))

-- the last bit is set
unfoldable pub LastSet : Option (List ℕ) → Type 0
LastSet none = Unit {0}
LastSet (some v) = last_bit_set v ≡ true

pub bits-set : (f : FailureInfo) → LastSet (failure_bits f)
unfolding LastSet
bits-set None = tt
bits-set (Some b) = bit-set b

-- ## Status info

module _ (m : List ℕ) (few : length m < 65536) where
  -- the failure bit, behind no text
  info_ends : (f : Option (List ℕ)) (c : Cursor) → LastSet f → Holds m c (optional 0x03 f ++ []) → Holds m (fail_info_of m (maybe_text m c)) []
  unfolding optional LastSet fail_info_of maybe_text tag_ok
  info_ends none c q h =
      let k = none-holds c h in
      rw (nothing-next m few c 0x30 h (lit< tt)) (rw (nothing-next m few (none_of c) 3 k (lit< tt)) (none-holds (none_of c) k))
  info_ends (some v) c q h =
      let k = none-holds c h in
      let t = need_took m (none_of c) 0x03 v [] few refl k in
      rw (other_next m few c 0x30 3 v [] h (λ e. omega arith))
      (rw (same_next m few (none_of c) 3 v [] k, content-is (need_of m 3 (none_of c)) t.found, q) t.left)

  -- past the status info, which says s
  pub record StatusIs (c : Cursor) (i : Status) (s : Option ℕ) (rest : List ℕ) : Type 0 where
    pub left : Holds m i.cur rest
    pub end : i.cur.end ≡ c.end
    pub says : optional_status i.status ≡ s

  pub status-is : (s : ℕ) (f : Option (List ℕ)) (c : Cursor) (rest : List ℕ) → s < 4294967296 → LastSet f
      → Holds m c (status_bytes s f ++ rest) → StatusIs c (status_of m c) (some s) rest
  unfolding status_bytes integer status_of tag_ok
  status-is s f c rest word last h =
      let o : Cursor = need_of m 0x30 c in
      let t = need_took m c 0x30 (element 2 (integer_bytes s) ++ (optional 0x03 f ++ [])) rest few refl h in
      let v : Cursor = small_integer_of m (enter_of o) in
      let u = small_took m few (enter_of o) (integer_bytes s) (optional 0x03 f ++ []) (integer-short s) t.into in
      let out : leave_of o (done_of (fail_info_of m (maybe_text m v))) ≡ o =
      out_is o (fail_info_of m (maybe_text m v)) (info_ends f v last u.left) in
      record {
        left = subst (λ (k : Cursor). Holds m k rest) (sym out) t.left;
        end = ap (λ (k : Cursor). k.end) out ∙ t.end;
        says = ap some (value_is v u.found ∙ integer_value s word);
      }

  -- the status of a certConf: 0 is left out
  pub maybe_status_lem : (s : ℕ) (c : Cursor) → s < 4294967296 → (zero? : Bool) → Holds m c (cond zero? [] (status_bytes s none) ++ [])
      → StatusIs c (maybe_status m c) (cond zero? none (some s)) []
  unfolding maybe_status status_bytes LastSet
  maybe_status_lem s c word true h = rw (nothing-next m few c 0x30 h (lit< tt)) (record { left = h; end = refl; says = refl })
  maybe_status_lem s c word false h =
      rw (same_next m few c 0x30 (integer s ++ (optional 0x03 none ++ [])) [] h) (status-is s none c [] word tt h)
