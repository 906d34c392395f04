-- What a message at the registrar shows that no row refuses: a confirmation of the transaction r, or a request.
use Prim.Native.Nat.{ℕ}
use mathlib.Core.List.{List}
use mathlib.Core.Bool.{true, false, not, cond, ◌&&◌, ◌||◌}
use mathlib.Core.Option.{Option, none, some}
use mathlib.Core.Path.{◌≡◌, refl, sym, ◌∙◌, ap}
use mathlib.Core.Logic.{◌⊎◌, inl, inr}
use lib.Dec.{eqb}
use Rattle.protocol.specs.Types.{Verdict}
use Rattle.protocol.specs.declared.RegistrarInput.{RegistrarInput}
use Rattle.protocol.specs.declared.Transaction.{Transaction}
use Rattle.protocol.specs.declared.TransactionTable.{TransactionTable}
use Rattle.protocol.specs.declared.RegistrarAnswer.{RegistrarAnswer}
use Rattle.protocol.specs.Bytes.{is_nonce, same_hash}
use Rattle.protocol.specs.Message.{Fields, status_or0, cert_conf, request_number}
use Rattle.protocol.specs.Table.{has_free_slot}
use Rattle.protocol.specs.States.{has_sent, has_hash, is_granted, settled_by}
use Rattle.protocol.specs.Refusals.{pass, lowest_row, not_sixteen}
use Rattle.protocol.specs.RegistrarRows.{registrar_rows, is_good, confirms, opens, names, has_entries, one_entry, repeats}
use Rattle.protocol.specs.Registrar.{opened, confirmed, registrar_checked}
use Rattle.protocol.specs.RequestNumber.{NumberIs}
use Rattle.der.proofs.Auto.{and_right, and_left}
use Rattle.protocol.proofs.Tests.{passes, one_of, not_false, or_right, and_true_false, true_false, eqb_eq, and_false, is_nonce_eq, or_true, both, hash_eq, cases, number_is}

-- 7: the verdict is good
pub passes_7 : (rs : List Transaction) (g : Option Transaction) (v : Verdict) (m : Fields) → lowest_row (registrar_rows rs g v m) ≡ pass → not (is_good v) ≡ false
unfolding registrar_rows
passes_7 rs g v m e = passes 7 (registrar_rows rs g v m) e

-- ## A confirmation: r is the transaction with its id

module _ (rs : List Transaction) (r : Transaction) (v : Verdict) (m : Fields) (e : lowest_row (registrar_rows rs (some r) v m) ≡ pass) (conf : confirms m ≡ true) where
  abbrev s : ℕ
  s = status_or0 m.status

  pub version_it : (m.version ≡ 2) ⊎ (m.version ≡ 3)
  unfolding registrar_rows
  version_it = one_of m.version 2 3 (not_false _ (passes 3 (registrar_rows rs (some r) v m) e))

  pub id_it : not_sixteen m.id ≡ false
  unfolding registrar_rows
  id_it = passes 4 (registrar_rows rs (some r) v m) e

  pub sender_it : not_sixteen m.sender_nonce ≡ false
  unfolding registrar_rows
  sender_it = passes 5 (registrar_rows rs (some r) v m) e

  pub protected_it : m.protected ≡ true
  unfolding registrar_rows
  protected_it = not_false m.protected (passes 6 (registrar_rows rs (some r) v m) e)

  pub kind-is : m.kind ≡ cert_conf
  kind-is = eqb_eq m.kind cert_conf conf

  pub names_it : names v r.board ≡ true
  unfolding registrar_rows
  names_it = not_false (names v r.board) (and_false (confirms m) (not (names v r.board)) (passes 13 (registrar_rows rs (some r) v m) e) conf)

  sent_and_recip : (has_sent r.state && is_nonce m.recip_nonce r.sent) ≡ true
  unfolding registrar_rows
  sent_and_recip =
      not_false _ (and_false (confirms m) (not (has_sent r.state && is_nonce m.recip_nonce r.sent)) (passes 14 (registrar_rows rs (some r) v m) e) conf)

  pub recip_it : m.recip_nonce ≡ some r.sent.bytes
  recip_it = is_nonce_eq m.recip_nonce r.sent (and_right (has_sent r.state) (is_nonce m.recip_nonce r.sent) sent_and_recip)

  counted : has_entries m ≡ true
  counted = or_true (eqb m.kind 0 || eqb m.kind 2 || eqb m.kind 7) (confirms m) conf

  pub one_it : one_entry m ≡ true
  unfolding registrar_rows
  one_it = not_false (one_entry m) (and_false (has_entries m) (not (one_entry m)) (passes 15 (registrar_rows rs (some r) v m) e) counted)

  pub request_it : NumberIs r.kind m.request
  unfolding registrar_rows
  request_it =
      let asked : m.request ≡ request_number (cond (confirms m) r.kind m.kind) = eqb_eq m.request _ (not_false _ (and_false (has_entries m && one_entry m) _ (passes 16 (registrar_rows rs (some r) v m) e) (both (has_entries m) (one_entry m) counted one_it))) in
      number_is r.kind m.request (asked ∙ rw conf)

  conf_one : (confirms m && one_entry m) ≡ true
  conf_one = both (confirms m) (one_entry m) conf one_it

  pub alg_it : m.hash_alg ≡ true → m.version ≡ 3
  unfolding registrar_rows
  alg_it a =
      later (and_false (confirms m && one_entry m && m.hash_alg) (eqb m.version 2) (passes 17 (registrar_rows rs (some r) v m) e) (both (confirms m && one_entry m) m.hash_alg conf_one a)) version_it
    where
      later : eqb m.version 2 ≡ false → (m.version ≡ 2) ⊎ (m.version ≡ 3) → m.version ≡ 3
      later q (inl t) = true_false (sym (ap (λ (k : ℕ). eqb k 2) t) ∙ q)
      later q (inr t) = t

  pub known_it : (s ≡ 0) ⊎ (s ≡ 2)
  unfolding registrar_rows
  known_it = one_of s 0 2 (not_false _ (and_false (confirms m && one_entry m) (not (eqb s 0 || eqb s 2)) (passes 18 (registrar_rows rs (some r) v m) e) conf_one))

  pub hash_it : m.hash ≡ r.hash
  unfolding registrar_rows
  hash_it =
      hash_eq m.hash r.hash
      (and_right (has_hash r) (same_hash m.hash r.hash)
      (not_false _ (and_false (confirms m && one_entry m) (not (has_hash r && same_hash m.hash r.hash)) (passes 19 (registrar_rows rs (some r) v m) e) conf_one)))

  taken_it : (is_granted r.state || repeats r m) ≡ true
  unfolding registrar_rows
  taken_it = not_false _ (and_false (confirms m) (not (is_granted r.state || repeats r m)) (passes 20 (registrar_rows rs (some r) v m) e) conf)

  pub takes_it : is_granted r.state ≡ false → settled_by r.state s ≡ true
  takes_it g = and_left (settled_by r.state s) (is_nonce m.sender_nonce r.taken) (or_right (is_granted r.state) (repeats r m) taken_it g)

  pub same_nonce_it : is_granted r.state ≡ false → m.sender_nonce ≡ some r.taken.bytes
  same_nonce_it g =
      is_nonce_eq m.sender_nonce r.taken (and_right (settled_by r.state s) (is_nonce m.sender_nonce r.taken) (or_right (is_granted r.state) (repeats r m) taken_it g))

-- ## A request

module _ (rs : List Transaction) (f : Option Transaction) (v : Verdict) (m : Fields) (e : lowest_row (registrar_rows rs f v m) ≡ pass) where
  pub room : opens m ≡ true → has_free_slot rs ≡ true
  unfolding registrar_rows
  room o = not_false (has_free_slot rs) (and_false (opens m) (not (has_free_slot rs)) (passes 11 (registrar_rows rs f v m) e) o)

  -- 8: it is one of the two
  pub kind-taken : (opens m || confirms m) ≡ true
  unfolding registrar_rows
  kind-taken = not_false _ (passes 8 (registrar_rows rs f v m) e)

  neither : {A : Type 0} → opens m ≡ false → confirms m ≡ false → A
  neither o c = let z : (opens m || confirms m) ≡ false = rw (o, c) in true_false (sym kind-taken ∙ z)

-- 10 and 12: what opens is not known, what confirms is
opens-known : {A : Type 0} (rs : List Transaction) (r : Transaction) (v : Verdict) (m : Fields) → lowest_row (registrar_rows rs (some r) v m) ≡ pass → opens m ≡ true → A
unfolding registrar_rows
opens-known rs r v m e o = true_false (sym o ∙ and_true_false (opens m) (passes 10 (registrar_rows rs (some r) v m) e))

confirms-unknown : {A : Type 0} (rs : List Transaction) (v : Verdict) (m : Fields) → lowest_row (registrar_rows rs none v m) ≡ pass → confirms m ≡ true → A
unfolding registrar_rows
confirms-unknown rs v m e c = true_false (sym c ∙ and_true_false (confirms m) (passes 12 (registrar_rows rs none v m) e))

-- ## By its kind

module _ (t : TransactionTable) (d : RegistrarInput) (m : Fields) where
  pub opens_it : (f : Option Transaction) → opens m ≡ true → registrar_checked pass f t d m ≡ opened t d.verdict m
  unfolding registrar_checked
  opens_it f o = rw o

  pub confirms_it : (r : Transaction) → opens m ≡ false → confirms m ≡ true → registrar_checked pass (some r) t d m ≡ confirmed t r d.nonce m
  unfolding registrar_checked
  confirms_it r o c = rw (o, c)

  -- what holds of a request that opens, and of a confirmation of the transaction with its id, holds of what is not refused
  pub taken_by :
      (P : RegistrarAnswer → Type 0) (f : Option Transaction) → lowest_row (registrar_rows t.transactions f d.verdict m) ≡ pass →
      (opens m ≡ true → f ≡ none → lowest_row (registrar_rows t.transactions none d.verdict m) ≡ pass → P (opened t d.verdict m)) →
      ((r : Transaction) → confirms m ≡ true → f ≡ some r → lowest_row (registrar_rows t.transactions (some r) d.verdict m) ≡ pass → P (confirmed t r d.nonce m)) →
      P (registrar_checked pass f t d m)
  unfolding registrar_checked
  taken_by P none e opening confirmation =
      cases P (opens m) _ _ (λ o. opening o refl e)
      (λ o. cases P (confirms m) _ _ (λ c. confirms-unknown t.transactions d.verdict m e c) (λ c. neither t.transactions none d.verdict m e o c))
  taken_by P (some r) e opening confirmation =
      cases P (opens m) _ _ (λ o. opens-known t.transactions r d.verdict m e o)
      (λ o. cases P (confirms m) _ _ (λ c. confirmation r c refl e) (λ c. neither t.transactions (some r) d.verdict m e o c))
