-- Every verb and every rule of the grammar keeps the cursor inside the message.
use Prim.Native.Nat.{ℕ}
use mathlib.Core.List.{List, [], ◌∷◌}
use Rattle.grammar.specs.declared.cursor.Cursor.{Cursor}
use Rattle.grammar.specs.declared.parts.Each.{Each}
use Rattle.grammar.specs.declared.parts.Each.TheVariants.{Text, Info}
use Rattle.grammar.specs.declared.entries.EntryKind.{EntryKind}
use Rattle.grammar.specs.Cursor.{need_of, any_of, none_of, maybe_of, rest_of, done_of, enter_of, small_integer_of}
use Rattle.grammar.specs.Parts.{typed_of, one_of, all_by, sequence_of, field_of, typed_field, any_field, sequence_field, maybe_text, fail_info_of, status_of, maybe_status}
use Rattle.grammar.specs.Header.{name_of, names_of, options_of, ids_of, header_of}
use Rattle.grammar.specs.Entries.{choice_of, key_pair, maybe_key_pair, entry_of, entries_of}
use Rattle.grammar.specs.Body.{contents_of, body_tag, body_of}
use Rattle.grammar.proofs.Places.{Steps, Takes, Placed, kept, took_kept, done_kept, enter_kept, need_takes, any-takes, none_steps, maybe_steps, rest_steps, small-takes}
use Rattle.grammar.proofs.PartPlaces.{typed_takes, one-takes, all_kept, sequence_takes, field_steps, typed_field_steps, any_field_steps, sequence_field_steps, text_steps, fail_info_steps, status-takes, maybe_status_kept}
use Rattle.grammar.proofs.HeaderPlaces.{name_takes, header-takes}
use Rattle.grammar.proofs.EntryPlaces.{choice_steps, pair_steps, maybe_pair_steps, entry_takes, entries_kept}
use Rattle.grammar.proofs.BodyPlaces.{contents_hold, tag-takes, body-takes}
use Rattle.grammar.proofs.Spans.{All}
use Rattle.grammar.proofs.Spans.All.{end, ◌&◌}

-- inside n bytes before, inside them after
abbrev pub Keeps : (Cursor → Cursor) → Type 0
Keeps f = (n : ℕ) (c : Cursor) → Placed n c → Placed n (f c)

steps_keep : {f : Cursor → Cursor} → ((c : Cursor) → Steps c (f c)) → Keeps f
steps_keep g n c = kept (g c)

takes_keep : {f : Cursor → Cursor} → ((c : Cursor) → Takes c (f c)) → Keeps f
takes_keep g n c = took_kept (g c)

names_keep : (m : List ℕ) → Keeps (λ c. (names_of m c).cur)
unfolding names_of
names_keep m n c p = took_kept (name_takes m _) (took_kept (name_takes m _) (took_kept (small-takes m c) p))

options_keep : (m : List ℕ) → Keeps (λ c. (options_of m c).cur)
unfolding options_of
options_keep m n c p = kept (field_steps m 0xA3 0x04 _) (kept (field_steps m 0xA2 0x04 _) (kept (typed_field_steps m 0xA1 _) (kept (field_steps m 0xA0 0x18 c) p)))

ids_keep : (m : List ℕ) → Keeps (λ c. (ids_of m c).cur)
unfolding ids_of
ids_keep m n c p =
    kept (sequence_field_steps m 0xA8 Info _)
    (kept (sequence_field_steps m 0xA7 Text _) (kept (field_steps m 0xA6 0x04 _) (kept (field_steps m 0xA5 0x04 _) (kept (field_steps m 0xA4 0x04 c) p))))

module _ (m : List ℕ) (tag inner kind : ℕ) (each : Each) (what : EntryKind) where
  -- the verbs and the rules, but for the two ways out of an element (`leave_kept`, `found_steps`) and the whole message (`grammar_in`)
  unfoldable pub rules : List (Cursor → Cursor)
  rules =
      need_of m tag
      ∷ any_of m
      ∷ none_of
      ∷ maybe_of m tag
      ∷ rest_of m
      ∷ done_of
      ∷ enter_of
      ∷ small_integer_of m
      ∷ typed_of m
      ∷ one_of m each
      ∷ all_by (one_of m each)
      ∷ sequence_of m each
      ∷ field_of m tag inner
      ∷ typed_field m tag
      ∷ any_field m tag
      ∷ sequence_field m tag each
      ∷ maybe_text m
      ∷ fail_info_of m
      ∷ (λ c. (status_of m c).cur)
      ∷ (λ c. (maybe_status m c).cur)
      ∷ name_of m
      ∷ (λ c. (names_of m c).cur)
      ∷ (λ c. (options_of m c).cur)
      ∷ (λ c. (ids_of m c).cur)
      ∷ (λ c. (header_of m c).cur)
      ∷ choice_of m
      ∷ key_pair m
      ∷ maybe_key_pair m
      ∷ (λ c. (entry_of m what c).cur)
      ∷ (λ c. (entries_of m what c).cur)
      ∷ (λ c. (contents_of m kind c).cur)
      ∷ body_tag m
      ∷ (λ c. (body_of m c).cur)
      ∷ []

-- EVERY RULE KEEPS THE CURSOR INSIDE: whatever the bytes and the tags
pub all_keep : (m : List ℕ) (tag inner kind : ℕ) (each : Each) (what : EntryKind) → All Keeps (rules m tag inner kind each what)
unfolding rules
all_keep m tag inner kind each what =
    takes_keep (need_takes m tag)
    & takes_keep (any-takes m)
    & steps_keep none_steps
    & steps_keep (maybe_steps m tag)
    & steps_keep (rest_steps m)
    & (λ n c. done_kept)
    & (λ n c. enter_kept)
    & takes_keep (small-takes m)
    & takes_keep (typed_takes m)
    & takes_keep (one-takes m each)
    & (λ n. all_kept m each)
    & takes_keep (sequence_takes m each)
    & steps_keep (field_steps m tag inner)
    & steps_keep (typed_field_steps m tag)
    & steps_keep (any_field_steps m tag)
    & steps_keep (sequence_field_steps m tag each)
    & steps_keep (text_steps m)
    & steps_keep (fail_info_steps m)
    & takes_keep (status-takes m)
    & (λ n. maybe_status_kept m)
    & takes_keep (name_takes m)
    & names_keep m
    & options_keep m
    & ids_keep m
    & takes_keep (header-takes m)
    & steps_keep (choice_steps m)
    & steps_keep (pair_steps m)
    & steps_keep (maybe_pair_steps m)
    & takes_keep (entry_takes m what)
    & (λ n. entries_kept m what)
    & takes_keep (λ c k. (contents_hold m kind c k).took)
    & takes_keep (tag-takes m)
    & takes_keep (body-takes m)
    & end
