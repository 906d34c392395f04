-- A cursor over a message and the verbs that every grammar rule is made of. A fault (rule 5) sticks: each verb hands a faulty
-- cursor on, and it goes on standing where the fault is.
use Rattle.std.specs.Prelude.{ℕ, zero, suc, ◌+◌, ◌-◌, List, Bool, cond, ◌&&◌, ◌||◌, length, get_or, take, drop, ltb, leb, eqb, Ok, Err}
use Rattle.der.specs.Head.{head_of}
use Rattle.der.specs.Integer.{signed32}
use Rattle.der.specs.Types.{Head}
use Rattle.grammar.specs.declared.cursor.Cursor.{Cursor}
use Rattle.grammar.specs.Span.{span_from, part_of}

-- nothing is broken so far
abbrev pub is_ok : Cursor → Bool
is_ok c = eqb c.rule 0

-- tag and length of the element at an offset, whose parent ends at another one
unfoldable pub head_in : List ℕ → ℕ → ℕ → Head
head_in m at end = cond (leb end at || ltb (length m) end) (Err 2) (head_of (take (end - at) (drop at m)))

-- the tag byte of the next element; 0, which is no tag, where nothing is left
unfoldable pub tag_at : List ℕ → Cursor → ℕ
tag_at m c = cond (ltb c.at c.end && leb c.end (length m)) (get_or m c.at 0) 0

-- what comes next, or is missing at the parent's end, is at fault
abbrev pub fault_at : Cursor → Cursor
fault_at c = record { at = c.at; end = c.end; from = c.from; to = c.to; rule = 5 }

-- past an element whose content is `len` bytes from `start` on
abbrev pub past_of : Cursor → ℕ → ℕ → Cursor
past_of c start len = record { at = c.at + start + len; end = c.end; from = c.at + start; to = c.at + start + len; rule = 0 }

-- past it where its tag is the one asked
abbrev pub if_tag : ℕ → Cursor → Head → Cursor
if_tag tag c (Err rule) = fault_at c
if_tag tag c (Ok whole) = cond (eqb whole.tag tag) (past_of c whole.start whole.len) (fault_at c)

-- an element with this tag comes next
unfoldable pub need_of : List ℕ → ℕ → Cursor → Cursor
need_of m tag c = cond (is_ok c) (if_tag tag c (head_in m c.at c.end)) c

-- one element comes next, whatever its tag
unfoldable pub any_of : List ℕ → Cursor → Cursor
any_of m c = need_of m (tag_at m c) c

-- nothing was read here: no span
abbrev pub none_of : Cursor → Cursor
none_of c = record { at = c.at; end = c.end; from = 0; to = 0; rule = c.rule }

-- an element with this tag may come next
unfoldable pub maybe_of : List ℕ → ℕ → Cursor → Cursor
maybe_of m tag c = cond (eqb (tag_at m c) tag) (need_of m tag c) (none_of c)

-- at most one more element, whatever its tag
unfoldable pub rest_of : List ℕ → Cursor → Cursor
rest_of m c = cond (ltb c.at c.end) (any_of m c) (none_of c)

-- nothing more comes
unfoldable pub done_of : Cursor → Cursor
done_of c = cond (ltb c.at c.end) (fault_at c) c

-- into the element read last
unfoldable pub enter_of : Cursor → Cursor
enter_of c = cond (is_ok c) (record { at = c.from; end = c.to; from = 0; to = 0; rule = 0 }) c

-- back out of it, with a fault that was met inside
unfoldable pub leave_of : Cursor → Cursor → Cursor
leave_of outer inner = cond (is_ok inner) outer inner

-- what the element read last holds
unfoldable pub content_of : List ℕ → Cursor → List ℕ
content_of m c = part_of m (span_from c.from c.to)

-- the number that the INTEGER read last says
unfoldable pub value_of : List ℕ → Cursor → ℕ
value_of m c = signed32 (content_of m c)

-- an INTEGER of at most four content bytes ("pvno, certReqId and status of more than four content bytes: refusal 2")
unfoldable pub small_integer_of : List ℕ → Cursor → Cursor
small_integer_of m c = let n : Cursor = need_of m 0x02 c in cond (ltb 4 (n.to - n.from)) (fault_at c) n

-- another element is to be read
unfoldable pub more_at : Cursor → Bool
more_at c = is_ok c && ltb c.at c.end

-- how many bytes are left
abbrev pub left_at : Cursor → ℕ
left_at c = cond (is_ok c) (c.end - c.at) 0

-- one step after another while an element is to be read; each step takes a byte at least, so that there are no more than bytes left
unfoldable pub repeat : {S : Type 0} → (S → Cursor) → (S → S) → ℕ → S → S
repeat cur step zero s = s
repeat cur step (suc n) s = cond (more_at (cur s)) (repeat cur step n (step s)) s
