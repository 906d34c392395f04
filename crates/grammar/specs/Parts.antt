-- Grammar rules that several parts of a message share (document 01, "The parts of a message"; RFC 9810 appendix F).
-- An optional part is recognised by its tag byte; its inside must then fit.
use Rattle.std.specs.Prelude.{ℕ, ◌-◌, ◌/◌, ◌%◌, ◌^◌, List, Bool, true, false, cond, ◌||◌, length, ltb, leb, eqb, Some, None}
use Rattle.der.specs.Head.{byte}
use Rattle.grammar.specs.declared.Span.{Span}
use Rattle.grammar.specs.declared.cursor.Cursor.{Cursor}
use Rattle.grammar.specs.declared.parts.Each.{Each}
use Rattle.grammar.specs.declared.parts.Each.TheVariants.{Text, Certificate, Info}
use Rattle.grammar.specs.declared.parts.Status.{Status}
use Rattle.grammar.specs.Span.{span_from, no_span}
use Rattle.grammar.specs.Cursor.{is_ok, tag_at, fault_at, need_of, any_of, none_of, rest_of, done_of, enter_of, leave_of, content_of, value_of, small_integer_of, left_at, repeat}

-- ## Spans

-- the content of the element read last
abbrev pub found_span : Cursor → Span
found_span c = span_from c.from c.to

-- the whole element between two cursors
abbrev pub whole_span : Cursor → Cursor → Span
whole_span before after = span_from before.at after.at

-- the whole element between two cursors, if one was read there
abbrev pub outer_span : Cursor → Cursor → Span
outer_span before after = cond (eqb after.from 0) no_span (whole_span before after)

-- back out of an element, with the span of what was found inside
unfoldable pub found_of : Cursor → Cursor → Cursor
found_of outer inner = cond (is_ok inner) (record { at = outer.at; end = outer.end; from = inner.from; to = inner.to; rule = outer.rule }) inner

-- ## SEQUENCE, SEQUENCE OF and explicit tags

-- AlgorithmIdentifier and InfoTypeAndValue: SEQUENCE of an OID and at most one more element
unfoldable pub typed_of : List ℕ → Cursor → Cursor
typed_of m c =
    let s : Cursor = need_of m 0x30 c in
    let o : Cursor = need_of m 0x06 (enter_of s) in
    leave_of s (done_of (rest_of m o))

-- elements taken by `step`, one after another up to the parent's end
unfoldable pub all_by : (Cursor → Cursor) → Cursor → Cursor
all_by step c = repeat (λ k. k) step (left_at c) c

-- SEQUENCE of one or more that `step` takes
unfoldable pub sequence_by : List ℕ → (Cursor → Cursor) → Cursor → Cursor
sequence_by m step c =
    let s : Cursor = need_of m 0x30 c in
    leave_of s (all_by step (step (enter_of s)))

-- UTF8String; a certificate, which is any SEQUENCE; InfoTypeAndValue
unfoldable pub one_of : List ℕ → Each → Cursor → Cursor
one_of m Text = need_of m 0x0C
one_of m Certificate = need_of m 0x30
one_of m Info = typed_of m

-- SEQUENCE of one or more
unfoldable pub sequence_of : List ℕ → Each → Cursor → Cursor
sequence_of m what c = sequence_by m (one_of m what) c

-- [n] OPTIONAL around what `inside` reads, and nothing else; `out` says which of the two has the span
abbrev pub optional_field : (Cursor → Cursor → Cursor) → List ℕ → ℕ → (Cursor → Cursor) → Cursor → Cursor
optional_field out m tag inside c =
    let o : Cursor = need_of m tag c in
    cond (eqb (tag_at m c) tag) (out o (done_of (inside (enter_of o)))) (none_of c)

-- around one element with the tag `inner`: the span is what that one holds
unfoldable pub field_of : List ℕ → ℕ → ℕ → Cursor → Cursor
field_of m tag inner c = optional_field found_of m tag (need_of m inner) c

-- around an AlgorithmIdentifier; any element; a SEQUENCE of one or more: the span is what [n] holds, the whole element inside
unfoldable pub typed_field : List ℕ → ℕ → Cursor → Cursor
typed_field m tag c = optional_field leave_of m tag (typed_of m) c

unfoldable pub any_field : List ℕ → ℕ → Cursor → Cursor
any_field m tag c = optional_field leave_of m tag (any_of m) c

unfoldable pub sequence_field : List ℕ → ℕ → Each → Cursor → Cursor
sequence_field m tag what c = optional_field leave_of m tag (sequence_of m what) c

-- ## PKIStatusInfo: SEQUENCE of INTEGER status, optional free text, optional BIT STRING failInfo with no trailing zero bit

-- PKIFreeText OPTIONAL: SEQUENCE of one or more UTF8String
unfoldable pub maybe_text : List ℕ → Cursor → Cursor
maybe_text m c = cond (eqb (tag_at m c) 0x30) (sequence_of m Text c) (none_of c)

-- no bit at all, or the last one is set (an unused count above 7 is a fault of the BIT STRING itself, by rule 4)
unfoldable pub last_bit_set : List ℕ → Bool
last_bit_set b = leb (length b) 1 || (ltb 7 (byte b 0) || eqb (byte b (length b - 1) / 2 ^ byte b 0 % 2) 1)

-- PKIFailureInfo OPTIONAL
unfoldable pub fail_info_of : List ℕ → Cursor → Cursor
fail_info_of m c =
    let b : Cursor = need_of m 0x03 c in
    cond (eqb (tag_at m c) 0x03) (cond (last_bit_set (content_of m b)) b (fault_at c)) (none_of c)

unfoldable pub status_of : List ℕ → Cursor → Status
status_of m c =
    let s : Cursor = need_of m 0x30 c in
    let v : Cursor = small_integer_of m (enter_of s) in
    record { cur = leave_of s (done_of (fail_info_of m (maybe_text m v))); status = Some (value_of m v) }

-- PKIStatusInfo OPTIONAL
unfoldable pub maybe_status : List ℕ → Cursor → Status
maybe_status m c = cond (eqb (tag_at m c) 0x30) (status_of m c) (record { cur = c; status = None })
