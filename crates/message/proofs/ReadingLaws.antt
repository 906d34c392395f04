-- What a reading says: a clean one has met DER and the grammar and hands out the places found; a refused one names the lowest fault.
use Rattle.std.specs.Prelude.{Ok, Err}
use Prim.Native.Nat.{ℕ, ◌<◌, ◌≤◌}
use mathlib.Core.Path.{◌≡◌, refl, sym, ◌∙◌, ap, subst}
use mathlib.Core.List.{List}
use mathlib.Core.Logic.{◌↔◌, ◌⊎◌, inl, inr, ⊎_elim}
use mathlib.Core.Bool.{true, false, ◌||◌, true≢false}
use native.Mathlib.Nat.{eq-or-lt_of_le}
use native.Mathlib.Omega.{arith}
use borrow.Author.Tests.{ltb-true, ltb-false, eqb-true, eqb-false}
use lib.ListN.{length}
use lib.Dec.{ltb, eqb}
use Rattle.der.specs.Element.{max_depth, check, is_sound}
use Rattle.der.specs.declared.Offset.{Offset}
use Rattle.der.specs.declared.element.FirstFault.{FirstFault}
use Rattle.der.specs.Types.{Check, fault_by}
use Rattle.der.proofs.Auto.{or_cases, or_false_left, or_false_right}
use Rattle.der.proofs.HeadLaws.{cond_both}
use Rattle.der.proofs.ElementLaws.{fault_in}
use Rattle.der.proofs.RuleLaws.{check_rule}
use Rattle.grammar.specs.declared.Message.{Message}
use Rattle.grammar.specs.Message.{message_of}
use Rattle.grammar.proofs.Found.{FoundIn, found_in}
use Rattle.grammar.proofs.FaultPlace.{grammar_in}
use Rattle.message.specs.Types.{Reading}
use Rattle.message.specs.declared.ReadFault.{ReadFault}
use Rattle.message.specs.Read.{max_message, broken_at, lowest, reading_of}

-- ## The statements

-- no message has this length
abbrev pub NoLength : List ℕ → Type 0
NoLength m = (length m ≡ 0) ⊎ (max_message < length m)

-- the grammar is not met
abbrev pub Unmet : List ℕ → Type 0
Unmet m = (message_of m).met ≡ false

-- the bytes are not DER, or the grammar is not met
abbrev pub Broken : List ℕ → Type 0
Broken m = (is_sound (check m) ≡ false) ⊎ Unmet m

-- a clean reading is of a message of 1 to max_message bytes, DER throughout, that meets the grammar, and hands out the places found
pub record CleanOf (m : List ℕ) (x : Message) : Type 0 where
  pub some : 1 ≤ length m
  pub few : length m ≤ max_message
  pub sound : check m ≡ (Ok tt)
  pub met : (message_of m).met ≡ true
  pub found : x ≡ (message_of m).found

-- the fault at this offset, of this rule, is the lowest of the two, DER's (rules 1 to 4) where the grammar's (rule 5) stands at the
-- same offset
pub record Lowest (m : List ℕ) (at rule : ℕ) : Type 0 where
  pub der : (a : Offset) (q : ℕ) → check m ≡ fault_by a q → at ≤ a.0
  pub grammar : Unmet m → at ≤ (message_of m).at.0
  pub named : ((check m ≡ fault_by (record { 0 = at }) rule) × (1 ≤ rule) × (rule ≤ 4)) ⊎ (Unmet m × (at ≡ (message_of m).at.0) × (rule ≡ 5) × ((a : Offset) (q : ℕ) → check m ≡ fault_by a q → at < a.0))

-- refusal 2 is of a message of 1 to max_message bytes and names the lowest fault
pub record BrokenAt (m : List ℕ) (r : ReadFault) : Type 0 where
  pub some : 1 ≤ length m
  pub few : length m ≤ max_message
  pub number : r.number ≡ 2
  pub lowest : Lowest m r.at.0 r.rule

-- what each reading says of the bytes
unfoldable pub Says : List ℕ → Reading → Type 0
Says m (Ok x) = CleanOf m x
Says m (Err r) = ((r.number ≡ 1) × NoLength m) ⊎ BrokenAt m r

-- ## Each case

same_fault : {v : Check} {x y : FirstFault} → v ≡ Err x → v ≡ Err y → x ≡ y
same_fault e g = cc

same_at : {v : Check} {a b : Offset} {q p : ℕ} → v ≡ fault_by a q → v ≡ fault_by b p → a.0 ≡ b.0
same_at e g = ap (λ (f : FirstFault). f.at.0) (same_fault e g)

no_fault_lem : {v : Check} {a : Offset} {q : ℕ} → v ≡ (Ok tt) → v ≡ fault_by a q → ⊥
no_fault_lem e g = cc

module _ (m : List ℕ) (some : 1 ≤ length m) (few : length m ≤ max_message) where
  says_broken : {at : Offset} {rule : ℕ} → Lowest m at.0 rule → Says m (broken_at at rule)
  unfolding Says
  says_broken l = inr (record { some = some; few = few; number = refl; lowest = l })

  -- DER's fault, where the grammar is met or broken no earlier
  of_der : {a : Offset} {q : ℕ} → check m ≡ fault_by a q → (Unmet m → a.0 ≤ (message_of m).at.0) → Lowest m a.0 q
  of_der {a} {q} e f = record { der = λ b p g. omega (arith, same_at e g); grammar = f; named = inl (e, (check_rule m e).0, (check_rule m e).1) }

  -- the grammar's fault, where there is none of DER's or a later one
  of_grammar : Unmet m → ((a : Offset) (q : ℕ) → check m ≡ fault_by a q → (message_of m).at.0 < a.0) → Lowest m (message_of m).at.0 5
  of_grammar u f = record { der = λ a q e. omega (arith, f a q e); grammar = λ w. omega arith; named = inr (u, refl, refl, f) }

  says-lowest : (v : Check) → check m ≡ v → Says m (lowest v (message_of m))
  unfolding lowest Says
  says-lowest (Ok _) e =
      cond_both (Says m) (message_of m).met
      (λ k. record { some = some; few = few; sound = e; met = k; found = refl })
      (λ k. says_broken (of_grammar k (λ a q g. absurd (no_fault_lem e g))))
  says-lowest (Err ft) e =
      cond_both (Says m) (message_of m).met (λ k. says_broken (of_der e (λ u. absurd (true≢false (sym k ∙ u)))))
      (λ k. cond_both (Says m) (ltb (message_of m).at.0 ft.at.0)
      (λ t. says_broken (of_grammar k (λ b p g. omega (arith, ltb-true (message_of m).at.0 ft.at.0 t, same_at e g))))
      (λ t. says_broken (of_der e (λ u. ltb-false (message_of m).at.0 ft.at.0 t))))

says : (m : List ℕ) → Says m (reading_of m)
unfolding reading_of Says
says m =
    cond_both (Says m) (eqb (length m) 0 || ltb max_message (length m))
    (λ t. inl (refl, ⊎_elim (λ e. inl (eqb-true (length m) 0 e)) (λ e. inr (ltb-true max_message (length m) e)) (or_cases (eqb (length m) 0) (ltb max_message (length m)) t)))
    (λ t. says-lowest m (omega (arith, eqb-false (length m) 0 (or_false_left (eqb (length m) 0) (ltb max_message (length m)) t))) (ltb-false max_message (length m) (or_false_right (eqb (length m) 0) (ltb max_message (length m)) t)) (check m) refl)

-- ## What a user of the reader may rely on

-- CLEAN: a clean reading is of a message of 1 to max_message bytes that is DER and meets the grammar, and it is what the grammar found
pub clean_found : (m : List ℕ) (x : Message) → reading_of m ≡ Ok x → CleanOf m x
unfolding Says
clean_found m x e = subst (Says m) e (says m)

-- EVERY PLACE: every place that a clean reading names lies inside the message and inside its parent
pub clean_places : (m : List ℕ) (x : Message) → reading_of m ≡ Ok x → FoundIn (length m) x
clean_places m x e = let c = clean_found m x e in subst (FoundIn (length m)) (sym c.found) (found_in m c.met)

-- LOWEST FAULT: refusal 2 names the lowest of the two faults, and DER's where both stand at one offset
pub refused-lowest : (m : List ℕ) (r : ReadFault) → reading_of m ≡ Err r → r.number ≡ 2 → Lowest m r.at.0 r.rule
unfolding Says
refused-lowest m r e n = go (subst (Says m) e (says m))
  where
    go : ((r.number ≡ 1) × NoLength m) ⊎ BrokenAt m r → Lowest m r.at.0 r.rule
    go (inl p) = absurd (omega (arith, p.0))
    go (inr b) = b.lowest

-- IN THE MESSAGE: refusal 2 names an offset in the message, or its end where the grammar misses a part there
pub refused-inside : (m : List ℕ) (r : ReadFault) → reading_of m ≡ Err r → r.number ≡ 2 → (r.at.0 < length m) ⊎ ((r.at.0 ≡ length m) × (r.rule ≡ 5))
unfolding check
refused-inside m r e n =
    ⊎_elim (λ d. inl (omega (arith, (fault_in max_depth 0 m d.0).1)))
    (λ g. ⊎_elim (λ p. inr (p, g.2)) inl (eq-or-lt_of_le {n = r.at.0} {m = length m} (omega (arith, g.1, grammar_in m))))
    (refused-lowest m r e n).named

-- the reading is a refusal with this number
unfoldable pub Numbered : ℕ → Reading → Type 0
Numbered n (Ok x) = ⊥
Numbered n (Err r) = r.number ≡ n

-- NO OTHER NUMBER: a reading is clean or refused by 1 or by 2
pub refused-only : (m : List ℕ) (r : ReadFault) → reading_of m ≡ Err r → (r.number ≡ 1) ⊎ (r.number ≡ 2)
unfolding Says
refused-only m r e = ⊎_elim (λ p. inl p.0) (λ b. inr b.number) (subst (Says m) e (says m))

one-to : (m : List ℕ) (v : Reading) → Says m v → Numbered 1 v → NoLength m
unfolding Says Numbered
one-to m (Ok x) s n = absurd n
one-to m (Err r) (inl p) n = p.1
one-to m (Err r) (inr b) n = absurd (omega (arith, b.number))

no_length : (m : List ℕ) → NoLength m → 1 ≤ length m → length m ≤ max_message → ⊥
no_length m (inl e) a b = omega arith
no_length m (inr e) a b = omega arith

one_of : (m : List ℕ) (v : Reading) → Says m v → NoLength m → Numbered 1 v
unfolding Says Numbered
one_of m (Ok x) s n = no_length m n s.some s.few
one_of m (Err r) (inl p) n = p.0
one_of m (Err r) (inr b) n = absurd (no_length m n b.some b.few)

-- REFUSAL 1 EXACTLY: a message is refused by 1 exactly where its length is 0 or above max_message
pub refused_1_exactly : (m : List ℕ) → Numbered 1 (reading_of m) ↔ NoLength m
refused_1_exactly m = (one-to m (reading_of m) (says m), one_of m (reading_of m) (says m))

two_to : (m : List ℕ) (v : Reading) → Says m v → Numbered 2 v → Broken m
unfolding Says Numbered
two_to m (Ok x) s n = absurd n
two_to m (Err r) (inl p) n = absurd (omega (arith, p.0))
two_to m (Err r) (inr b) n = ⊎_elim (λ e. inl (ap is_sound e.0)) (λ e. inr e.0) b.lowest.named

two_of : (m : List ℕ) → 1 ≤ length m → length m ≤ max_message → (v : Reading) → Says m v → Broken m → Numbered 2 v
unfolding Says Numbered
two_of m some few (Ok x) s n = ⊎_elim (λ e. true≢false (sym (ap is_sound s.sound) ∙ e)) (λ e. true≢false (sym s.met ∙ e)) n
two_of m some few (Err r) (inl p) n = absurd (no_length m p.1 some few)
two_of m some few (Err r) (inr b) n = b.number

-- REFUSAL 2 EXACTLY: a message of 1 to max_message bytes is refused by 2 exactly where it is not DER or does not meet the grammar
pub refused_2_exactly : (m : List ℕ) → 1 ≤ length m → length m ≤ max_message → Numbered 2 (reading_of m) ↔ Broken m
refused_2_exactly m some few = (two_to m (reading_of m) (says m), two_of m some few (reading_of m) (says m))
