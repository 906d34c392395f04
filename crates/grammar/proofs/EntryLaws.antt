-- Laws of a body's entries: each one moves the cursor on, so that they are fewer than the bytes.
use Prim.Native.Nat.{ℕ, ◌+◌, ◌^◌, ◌<◌, ◌≤◌}
use mathlib.Core.Path.{◌≡◌, refl, sym, ◌∙◌}
use mathlib.Core.Bool.{true, false}
use mathlib.Core.List.{List}
use native.Mathlib.Omega.{arith}
use borrow.Author.Tests.{ltb-true}
use lib.Dec.{ltb}
use Rattle.der.proofs.Auto.{and_left, and_right}
use Rattle.grammar.specs.declared.cursor.Cursor.{Cursor}
use Rattle.grammar.specs.declared.entries.Entries.{Entries}
use Rattle.grammar.specs.declared.entries.EntryKind.{EntryKind}
use Rattle.grammar.specs.declared.entries.EntryKind.TheVariants as of
use Rattle.grammar.specs.Cursor.{is_ok, more_at, left_at, repeat}
use Rattle.grammar.specs.Entries.{request_of, response_of, cert_status_of, entry_of, next, no_entries, entries_of}
use Rattle.grammar.proofs.CursorLaws.{Moved, moved_need, moved_leave, left_less, rest_more, rest_done}

pub moved_entry : (m : List ℕ) (what : EntryKind) (c : Cursor) → Moved c (entry_of m what c).cur
unfolding entry_of request_of response_of cert_status_of
moved_entry m of.Request c = moved_leave _ (moved_need m 0x30 c)
moved_entry m of.Response c = moved_leave _ (moved_need m 0x30 c)
moved_entry m of.Status c = moved_leave _ (moved_need m 0x30 c)

pub moved-next : (m : List ℕ) (what : EntryKind) (e : Entries) → Moved e.cur (next m what e).cur
moved-next m what e = moved_entry m what e.cur

-- the entries from e on
unfoldable pub entries_from : List ℕ → EntryKind → Entries → Entries
entries_from m what e = repeat (λ (x : Entries). x.cur) (next m what) (left_at e.cur) e

pub entries_all : (m : List ℕ) (what : EntryKind) (c : Cursor) → entries_of m what c ≡ entries_from m what (no_entries c)
unfolding entries_of entries_from
entries_all m what c = refl

-- the next one and those after it, or none
module _ (m : List ℕ) (what : EntryKind) (e : Entries) where
  pub entries_more : more_at e.cur ≡ true → entries_from m what e ≡ entries_from m what (next m what e)
  unfolding entries_from
  entries_more t = rest_more (λ (x : Entries). x.cur) (next m what) (moved-next m what) e t

  pub entries_done : more_at e.cur ≡ false → entries_from m what e ≡ e
  unfolding entries_from
  entries_done t = rest_done (λ (x : Entries). x.cur) (next m what) (moved-next m what) e t

  pub entries_less : more_at e.cur ≡ true → left_at (next m what e).cur < left_at e.cur
  entries_less t = left_less (λ (x : Entries). x.cur) (next m what) (moved-next m what) e t

-- while all is right, there are at most as many entries as bytes were passed, and the end is an offset
abbrev pub Counted : Entries → Type 0
Counted e = is_ok e.cur ≡ true → (e.count ≤ e.cur.at) × (e.cur.end < 2 ^ 64)

pub counted_next : (m : List ℕ) (what : EntryKind) (e : Entries) → Counted e → is_ok e.cur ≡ true → Counted (next m what e)
counted_next m what e h ok k = omega (arith, h ok, (moved-next m what e).end k, (moved-next m what e).on k)

-- so there is room to count one more
pub room : (e : Entries) → Counted e → more_at e.cur ≡ true → e.count + 1 < 2 ^ 64
unfolding more_at
room e h t =
    let ok = and_left (is_ok e.cur) (ltb e.cur.at e.cur.end) t in
    omega (arith, h ok, ltb-true e.cur.at e.cur.end (and_right (is_ok e.cur) (ltb e.cur.at e.cur.end) t))

-- one entry more: all of them are still those, and they are counted
pub one_more : (m : List ℕ) (what : EntryKind) (e : Entries) {r all : Entries} → (entries_from m what e ≡ all) × Counted e → more_at e.cur ≡ true → r ≡ next m what e → (entries_from m what r ≡ all) × Counted r
unfolding more_at
one_more m what e h t q =
    rw q (sym (entries_more m what e t) ∙ h.0, counted_next m what e h.1 (and_left (is_ok e.cur) (ltb e.cur.at e.cur.end) t))

pub ruleset entry_by_entry = (entries_all, entries_done, entries_less, room)
