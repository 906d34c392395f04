-- Where the shared rules and the header's go, and that the spans that they find lie in what they passed.
use Prim.Native.Nat.{ℕ, suc, ◌+◌, ◌≤◌}
use mathlib.Core.Path.{refl}
use mathlib.Core.List.{List}
use native.Mathlib.Omega.{arith}
use lib.Dec.{eqb}
use Rattle.der.proofs.HeadLaws.{cond-case}
use Rattle.grammar.specs.declared.Span.{Span}
use Rattle.grammar.specs.declared.cursor.Cursor.{Cursor}
use Rattle.grammar.specs.declared.parts.Each.{Each}
use Rattle.grammar.specs.declared.parts.Each.TheVariants.{Text, Certificate, Info}
use Rattle.grammar.specs.declared.parts.Status.{Status}
use Rattle.grammar.specs.Cursor.{tag_at, need_of, any_of, enter_of, leave_of, content_of, left_at}
use Rattle.grammar.specs.Span.{span_from}
use Rattle.grammar.specs.Parts.{typed_of, one_of, all_by, sequence_by, sequence_of, optional_field, field_of, typed_field, any_field, sequence_field, maybe_text, last_bit_set, fail_info_of, status_of, maybe_status}
use Rattle.grammar.proofs.CursorLaws.{untrue}
use Rattle.grammar.proofs.Places.{Spot, wide, Went, Took, Goes, Steps, Takes, still, ◌then◌, steps, need_takes, none_steps, at_done, at_leave, found_steps, Placed, took_kept, repeat_keeps}
use Rattle.grammar.proofs.Places.Spot.{absent, present}

-- a span that is absent or lies between two offsets
abbrev pub Between : ℕ → ℕ → Span → Type 0
Between a b s = Spot a b s.start.0 (s.start.0 + s.len)

pub no_span_lem : {a b : ℕ} → Between a b (span_from 0 0)
no_span_lem = absent refl refl

spot_span : {a b from to : ℕ} → Spot a b from to → Between a b (span_from from to)
spot_span (absent p q) = absent p (omega arith)
spot_span (present p q r) = present p (omega arith) (omega arith)

pub whole_span_lem : {a b from to : ℕ} → a ≤ from → from ≤ to → to ≤ b → Between a b (span_from from to)
whole_span_lem p q r = spot_span (present p q r)

-- what a step found, in a wider place
pub found_span_lem : {a b : ℕ} {c r : Cursor} → a ≤ suc c.at → r.at ≤ b → Went c r → Between a b (span_from r.from r.to)
found_span_lem h k w = spot_span (wide h k w.span)

-- ## SEQUENCE, SEQUENCE OF and explicit tags

pub typed_takes : (m : List ℕ) (c : Cursor) → Takes c (typed_of m c)
unfolding typed_of
typed_takes m c = at_leave (Took c) _ (need_takes m 0x30 c)

pub one-takes : (m : List ℕ) (what : Each) (c : Cursor) → Takes c (one_of m what c)
unfolding one_of
one-takes m Text c = need_takes m 0x0C c
one-takes m Certificate c = need_takes m 0x30 c
one-takes m Info c = typed_takes m c

pub all_goes : (m : List ℕ) (what : Each) (c : Cursor) → Goes c (all_by (one_of m what) c)
unfolding all_by
all_goes m what c =
    repeat_keeps (λ k. k) (one_of m what) (Goes c)
    (λ s f k. let t = one-takes m what s k in f t.along.ok then t.along) (left_at c) c still

pub all_kept : {n : ℕ} (m : List ℕ) (what : Each) (c : Cursor) → Placed n c → Placed n (all_by (one_of m what) c)
unfolding all_by
all_kept {n} m what c = repeat_keeps (λ k. k) (one_of m what) (Placed n) (λ s. took_kept (one-takes m what s)) (left_at c) c

pub sequence_takes : (m : List ℕ) (what : Each) (c : Cursor) → Takes c (sequence_of m what c)
unfolding sequence_of sequence_by
sequence_takes m what c = at_leave (Took c) _ (need_takes m 0x30 c)

pub field_steps : (m : List ℕ) (tag inner : ℕ) (c : Cursor) → Steps c (field_of m tag inner c)
unfolding field_of
field_steps m tag inner c =
    let o : Cursor = need_of m tag c in
    cond-case (Steps c) (eqb (tag_at m c) tag)
    (found_steps (need_takes m tag c) (λ k. refl) (at_done (Went (enter_of o)) (steps (need_takes m inner (enter_of o))))) (none_steps c)

-- [n] OPTIONAL with the element inside as its span
whole_steps : (m : List ℕ) (tag : ℕ) (f : Cursor → Cursor) (c : Cursor) → Steps c (optional_field leave_of m tag f c)
whole_steps m tag f c = cond-case (Steps c) (eqb (tag_at m c) tag) (steps (at_leave (Took c) _ (need_takes m tag c))) (none_steps c)

pub typed_field_steps : (m : List ℕ) (tag : ℕ) (c : Cursor) → Steps c (typed_field m tag c)
unfolding typed_field
typed_field_steps m tag = whole_steps m tag (typed_of m)

pub any_field_steps : (m : List ℕ) (tag : ℕ) (c : Cursor) → Steps c (any_field m tag c)
unfolding any_field
any_field_steps m tag = whole_steps m tag (any_of m)

pub sequence_field_steps : (m : List ℕ) (tag : ℕ) (what : Each) (c : Cursor) → Steps c (sequence_field m tag what c)
unfolding sequence_field
sequence_field_steps m tag what = whole_steps m tag (sequence_of m what)

-- ## PKIStatusInfo

pub text_steps : (m : List ℕ) (c : Cursor) → Steps c (maybe_text m c)
unfolding maybe_text
text_steps m c = cond-case (Steps c) (eqb (tag_at m c) 0x30) (steps (sequence_takes m Text c)) (none_steps c)

pub fail_info_steps : (m : List ℕ) (c : Cursor) → Steps c (fail_info_of m c)
unfolding fail_info_of
fail_info_steps m c =
    cond-case (Steps c) (eqb (tag_at m c) 0x03)
    (cond-case (Steps c) (last_bit_set (content_of m (need_of m 0x03 c))) (steps (need_takes m 0x03 c)) untrue) (none_steps c)

pub status-takes : (m : List ℕ) (c : Cursor) → Takes c (status_of m c).cur
unfolding status_of
status-takes m c = at_leave (Took c) _ (need_takes m 0x30 c)

pub maybe_status_goes : (m : List ℕ) (c : Cursor) → Goes c (maybe_status m c).cur
unfolding maybe_status
maybe_status_goes m c = cond-case (λ (s : Status). Goes c s.cur) (eqb (tag_at m c) 0x30) (λ k. (status-takes m c k).along) still

pub maybe_status_kept : {n : ℕ} (m : List ℕ) (c : Cursor) → Placed n c → Placed n (maybe_status m c).cur
unfolding maybe_status
maybe_status_kept {n} m c p = cond-case (λ (s : Status). Placed n s.cur) (eqb (tag_at m c) 0x30) (took_kept (status-takes m c) p) p
