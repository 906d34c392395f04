-- A host that lends an empty table again.
use Rattle.std.specs.Prelude.{is_some, Some}
use Prim.Native.Nat.{ℕ, zero, suc, ◌<◌}
use mathlib.Core.List.{List, [], ◌∷◌, ◌++◌}
use mathlib.Core.Bool.{true}
use mathlib.Core.Option.{none, some}
use mathlib.Core.Path.{◌≡◌, refl, sym, ◌∙◌, ap, subst}
use mathlib.Core.Logic.{◌⊎◌, inl, inr}
use borrow.Author.Tests.{eq-eqb}
use lib.ListN.{replicate, get_elem?}
use Rattle.protocol.specs.Bytes.{zeros}
use Rattle.protocol.specs.declared.TransactionId.{TransactionId}
use Rattle.protocol.specs.declared.Transaction.{Transaction}
use Rattle.protocol.specs.declared.TransactionTable.{TransactionTable}
use Rattle.protocol.specs.Table.{capacity, empty_table, free_transaction, lookup}
use Rattle.protocol.specs.Registrar.{refused_quietly, registrar_lapse}
use Rattle.protocol.proofs.Tests.{true_false, none_some, some_some}
use Rattle.packed.specs.Bytes.{flag_at}
use Rattle.packed.specs.Arrays.{unpack}
use Rattle.packed.specs.Places.{registrar_sends_at}
use Rattle.packed.specs.Answer.{registrar_answer_bytes}
use Rattle.packed.specs.Table.{table_bytes, pack_table, unpack_table}
use Rattle.packed.proofs.AnswerInverse.{registrar_sends_back}
use Rattle.packed.proofs.TableInverse.{unpack_packed}
use Rattle.duskstall.specs.Boundary.{Crossing, registrar_written, registrar_answered}
use Rattle.duskstall.specs.Calls.{id_of, lapse_crossing}
use Rattle.lent.specs.Lent.{LentCall, LentWorld, registrar_lent, lent_step, lent_after, lent_beginning}
use Rattle.lent.specs.Places.{transaction_state, outgoing_recip_nonce}
use Rattle.lent.specs.Header.{ClosedBytes, FairBytes, InSlot, HeaderAgreement}
use Rattle.lent.specs.Witness.{lent_enrols, LentEnds}
use Rattle.lent.specs.OtherBytes.{HostCall, lent_by, host_calls, host_after, as_left}
use Rattle.lent.specs.ForgottenTable.{forgetful, NoneCloses, ForgottenTable, PremiseNeeded}
use Rattle.protocol.specs.Witness.{accept_bytes}
use Rattle.lent.proofs.Stand.{is_table, held_table, table_in_lem}
use Rattle.lent.proofs.Sizes.{empty_sized, silent_sized}
use Rattle.lent.proofs.Places.{row, row-held}
use Rattle.lent.proofs.Header.{is-confirmed, confirmed-free}
use Rattle.lent.proofs.Witness.{lent_witnesses, still_open}
use Rattle.lent.proofs.OtherBytes.{every_list_as_left}

-- ## The lapse

empty_read : unpack_table (pack_table empty_table) ≡ Some empty_table
empty_read = unpack_packed empty_table empty_sized

empty_ok : is_some (unpack_table (pack_table empty_table)) ≡ true
empty_ok = is_table _ empty_read

nothing_there : (i : TransactionId) → lookup empty_table.transactions i ≡ none
unfolding empty_table lookup
nothing_there i = refl

lapse-refused : (i : TransactionId) → registrar_lapse empty_table i ≡ refused_quietly 30 empty_table
unfolding registrar_lapse
lapse-refused i = rw (nothing_there i)

abbrev ends : Crossing
ends = registrar_written (refused_quietly 30 empty_table) (pack_table empty_table) (zeros registrar_answer_bytes)

lapse-ends : lapse_crossing (zeros 16) (pack_table empty_table) (zeros registrar_answer_bytes) ≡ ends
unfolding registrar_answered unpack
lapse-ends = rw (empty_read, lapse-refused (id_of (zeros 16)))

state-is : ends.state ≡ pack_table empty_table
state-is = table_in_lem (pack_table empty_table) empty_table empty_ok

sends_not : flag_at registrar_sends_at ends.answer ≡ true → ⊥
sends_not e = true_false (sym e ∙ registrar_sends_back (refused_quietly 30 empty_table) (zeros registrar_answer_bytes) silent_sized refl)

-- ## Nothing was closed

after_open : (cs : List LentCall) (w : LentWorld) → NoneCloses cs → (i n : List ℕ) → (ClosedBytes i n w.past → ⊥) → ClosedBytes i n (lent_after w cs).past → ⊥
unfolding lent_after
after_open [] w c i n d = d
after_open (x ∷ xs) w c i n d = after_open xs (lent_step w x) c.1 i n (still_open i n w x (c.0 i) d)

-- ## No slot of an empty table is Confirmed

all_same : (n : ℕ) (x : Transaction) (p : ℕ) (r : Transaction) → get_elem? (replicate n x) p ≡ some r → r ≡ x
all_same zero x p r h = none_some h
all_same (suc n) x zero r h = sym (some_some h)
all_same (suc n) x (suc p) r h = all_same n x p r h

row_is : (p : ℕ) → p < capacity → row (pack_table empty_table) p ≡ free_transaction
unfolding empty_table
row_is p h =
    all_same capacity free_transaction p _
    (subst (λ (t : TransactionTable). get_elem? t.transactions p ≡ some (row (pack_table empty_table) p)) (held_table _ empty_read) (row-held (pack_table empty_table) empty_ok p h))

none-confirmed : (p : ℕ) → p < capacity → transaction_state p (pack_table empty_table) ≡ 3 → ⊥
none-confirmed p h e = confirmed-free (sym (is-confirmed (pack_table empty_table) p e) ∙ ap (λ (r : Transaction). r.state) (row_is p h))

not_in_slot : (s n : List ℕ) → InSlot (pack_table empty_table) s n 3 → ⊥
not_in_slot s n h = none-confirmed h.0 h.1 h.4

-- ## After the lapse

host_append : (w : LentWorld) (hs gs : List HostCall) → host_after w (hs ++ gs) ≡ host_after (host_after w hs) gs
unfolding host_after
host_append w [] gs = refl
host_append w (h ∷ hs) gs = host_append (host_calls w h) hs gs

module _ (w : LentWorld) where
  -- as the call leaves it
  abbrev after : Crossing → LentWorld
  after x = registrar_lent (lent_by w forgetful) forgetful.call x

  last-is : host_after w (forgetful ∷ []) ≡ after ends
  unfolding host_after lent_step
  last-is = ap after lapse-ends

  fair-after : FairBytes w.past → FairBytes (after ends).past
  fair-after f = (
    (λ _. record { verdict = tt; id = λ i d. absurd d.1; nonce = λ e. absurd (sends_not (eq-eqb _ _ e)) }),
    f,
  )

  either : (i n s : List ℕ) → (ClosedBytes i n w.past → ⊥) → ClosedBytes i n (after ends).past ⊎ InSlot (after ends).table s n 3 → ⊥
  either i n s d (inl (inl c)) = none_some c.1
  either i n s d (inl (inr c)) = d c
  either i n s d (inr h) = not_in_slot s n (subst (λ (t : List ℕ). InSlot t s n 3) state-is h)

pub forgotten_table : ForgottenTable
forgotten_table s calls n f k e h b =
    let w : LentWorld = lent_after (lent_beginning s) calls in
    let same : host_after (lent_beginning s) (as_left (lent_beginning s) calls ++ (forgetful ∷ [])) ≡ after w ends =
    host_append (lent_beginning s) (as_left (lent_beginning s) calls) (forgetful ∷ []) ∙ ap (λ (v : LentWorld). host_after v (forgetful ∷ [])) (every_list_as_left (lent_beginning s) calls).same ∙ last-is w
    in
    record {
      refused = ap (λ (x : Crossing). x.code) lapse-ends;
      unchanged = ap (λ (x : Crossing). x.state) lapse-ends ∙ state-is;
      disagrees = record {
        fair = subst (λ (v : LentWorld). FairBytes v.past) (sym same) (fair-after w f);
        fails = λ a. let g = (subst HeaderAgreement same a).sure k e h b in either w _ (outgoing_recip_nonce g.0) e.bytes (after_open calls (lent_beginning s) n _ (outgoing_recip_nonce g.0) (λ x. x)) g.3;
      };
    }

-- ## One enrolment through, as in the witness of demand 3

none_closes : NoneCloses (lent_enrols 1 accept_bytes)
none_closes = ((λ i x. x), ((λ i. none_some), ((λ i. none_some), ((λ i x. x), ((λ i. none_some), ((λ i x. x), tt))))))

pub premise_needed : PremiseNeeded
premise_needed =
    let e : LentEnds (zeros table_bytes) (lent_enrols 1 accept_bytes) 3 = lent_witnesses.accepted in
    (_, (forgotten_table (zeros table_bytes) (lent_enrols 1 accept_bytes) none_closes e.fair 0 e.held e.holds e.says).disagrees)
