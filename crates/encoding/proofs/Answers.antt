-- certConf, error, and responses with a given certificate, read where they were written.
use Prim.Native.Nat.{ℕ, ◌<◌}
use mathlib.Core.Path.{◌≡◌, refl, sym, ◌∙◌, ap, subst}
use mathlib.Core.List.{List, [], ◌++◌, append-nil}
use mathlib.Core.Bool.{cond}
use mathlib.Core.Option.{Option, none, some}
use native.Mathlib.Omega.{arith}
use lib.ListN.{length}
use lib.Dec.{eqb, lit<}
use Rattle.der.specs.Head.{tag_ok}
use Rattle.grammar.specs.declared.cursor.Cursor.{Cursor}
use Rattle.grammar.specs.declared.parts.Each.TheVariants.{Certificate}
use Rattle.grammar.specs.declared.entries.Item.{Item}
use Rattle.grammar.specs.declared.pki_body.Contents.{Contents}
use Rattle.grammar.specs.declared.entries.Entries.{Entries}
use Rattle.grammar.specs.declared.entries.EntryKind.TheVariants as of
use Rattle.grammar.specs.Cursor.{need_of, none_of, maybe_of, done_of, enter_of, leave_of, small_integer_of}
use Rattle.grammar.specs.Span.{no_span}
use Rattle.grammar.specs.Parts.{found_span, found_of, typed_of, typed_field, any_field, sequence_field, maybe_text, status_of, maybe_status}
use Rattle.grammar.specs.Entries.{choice_of, key_pair, maybe_key_pair, response_of, cert_status_of, entry_of, no_entries, next, entries_of}
use Rattle.grammar.specs.Body.{from_entries, responses_of, confirmations_of, error_of}
use Rattle.encoding.specs.Element.{element, wrapped, integer_bytes, integer}
use Rattle.encoding.specs.Message.{status_bytes, key_pair_bytes, responses_bytes, confirmations_bytes}
use Rattle.encoding.proofs.Holds.{Holds, Found, Took, need_took, some_bytes, done-is, leave_is, out_is, none-holds}
use Rattle.encoding.proofs.Rules.{Shows, ShowsIf, found_shows, value_is, small_took, Passed, ReadsIf, around_passed}
use Rattle.encoding.proofs.Rules.Beyond.{ends}
use Rattle.encoding.proofs.Integer.{integer-short, integer_value}
use Rattle.encoding.proofs.Body.{Said, Shown, ContentsAre, one_entry_lem, nothing-next, other_next, same_next}
use Rattle.encoding.proofs.Status.{LastSet, status-is, maybe_status_lem}

-- ## What each kind says

abbrev pub confirm_said : List ℕ → ℕ → ℕ → Said
confirm_said h n s =
    record { entries = 1; number = n; status = cond (eqb s 0) none (some s); hash = some h; certificate = none; request = none }

abbrev pub error_said : ℕ → Said
error_said s = record { entries = 0; number = 0; status = some s; hash = none; certificate = none; request = none }

abbrev pub response_said : ℕ → ℕ → Option (List ℕ) → Said
response_said n s e = record { entries = 1; number = n; status = some s; hash = none; certificate = e; request = none }

-- a certificate is any SEQUENCE
unfoldable pub Certificates : Option (List ℕ) → Type 0
Certificates none = Unit {0}
Certificates (some e) = (v : List ℕ) × (e ≡ element 0x30 v)

module _ (m : List ℕ) (few : length m < 65536) where
  -- past one entry, which says s
  record EntryIs (s : Said) (i : Item) (rest : List ℕ) : Type 0 where
    left : Holds m i.cur rest
    says : Shown m s 1 i.entry

  -- ## 24 certConf

  abbrev inside_status : List ℕ → ℕ → ℕ → List ℕ
  inside_status x n s = element 0x04 x ++ (integer n ++ (cond (eqb s 0) [] (status_bytes s none) ++ []))

  cert_status_is : (x : List ℕ) (n s : ℕ) (c : Cursor) (rest : List ℕ) → n < 4294967296 → s < 4294967296
      → Holds m c (element 0x30 (inside_status x n s) ++ rest) → EntryIs (confirm_said x n s) (cert_status_of m c) rest
  unfolding cert_status_of integer tag_ok typed_field ShowsIf ReadsIf wrapped
  cert_status_is x n s c rest wn ws h =
      let o : Cursor = need_of m 0x30 c in
      let t = need_took m c 0x30 (inside_status x n s) rest few refl h in
      let k : Cursor = need_of m 0x04 (enter_of o) in
      let after : List ℕ = cond (eqb s 0) [] (status_bytes s none) ++ [] in
      let tk = need_took m (enter_of o) 0x04 x (integer n ++ after) few refl t.into in
      let v : Cursor = small_integer_of m k in
      let tv = small_took m few k (integer_bytes n) after (integer-short n) tk.left in
      let i = maybe_status_lem m few s v ws (eqb s 0) tv.left in
      let j : Cursor = (maybe_status m v).cur in
      let a : Passed m j (typed_field m 0xA0 j) none [] =
      around_passed m few j (typed_of m) 0xA0 none [] refl (lit< tt) (ends refl) tt i.left in
      let out : leave_of o (done_of (typed_field m 0xA0 j)) ≡ o = out_is o (typed_field m 0xA0 j) a.left in
      record {
        left = subst (λ (y : Cursor). Holds m y rest) (sym out) t.left;
        says =
            record {
              entries = refl;
              number = value_is v tv.found ∙ integer_value n wn;
              status = i.says;
              hash = found_shows k tk.found;
              hash_alg = a.shows;
              certificate = (refl, refl);
              request = (refl, refl);
            };
      }

  pub confirmations_are : (x : List ℕ) (n s : ℕ) (c : Cursor) → n < 4294967296 → s < 4294967296
      → Holds m c (confirmations_bytes x n s ++ []) → ContentsAre m (confirm_said x n s) (confirmations_of m c)
  unfolding confirmations_bytes confirmations_of entry_of tag_ok ShowsIf
  confirmations_are x n s c wn ws h =
      let o : Cursor = need_of m 0x30 c in
      let inside : List ℕ = element 0x30 (inside_status x n s) ++ [] in
      let t = need_took m c 0x30 inside [] few refl h in
      let e = cert_status_is x n s (enter_of o) [] wn ws t.into in
      let one : entries_of m of.Status (enter_of o) ≡ next m of.Status (no_entries (enter_of o)) =
      one_entry_lem m few of.Status (enter_of o) inside (some_bytes 0x30 (inside_status x n s) []) t.into e.left in
      subst (λ (j : Entries). ContentsAre m (confirm_said x n s) (from_entries (leave_of o j.cur) no_span j)) (sym one)
      (record {
        left = subst (λ (k : Cursor). Holds m k []) (sym (leave_is o (cert_status_of m (enter_of o)).cur e.left)) t.left;
        ca_pubs = (refl, refl);
        says = e.says;
      })

  -- ## 23 error

  pub error_is : (s : ℕ) (f : Option (List ℕ)) (c : Cursor) → s < 4294967296 → LastSet f
      → Holds m c (element 0x30 (status_bytes s f ++ []) ++ []) → ContentsAre m (error_said s) (error_of m c)
  unfolding error_of maybe_of maybe_text tag_ok ShowsIf
  error_is s f c word last h =
      let o : Cursor = need_of m 0x30 c in
      let t = need_took m c 0x30 (status_bytes s f ++ []) [] few refl h in
      let i = status-is m few s f (enter_of o) [] word last t.into in
      let k : Cursor = (status_of m (enter_of o)).cur in
      let k1 = none-holds k i.left in
      let e1 : maybe_of m 0x02 k ≡ none_of k = rw (nothing-next m few k 2 i.left (lit< tt)) in
      let e2 : maybe_text m (none_of k) ≡ none_of (none_of k) = rw (nothing-next m few (none_of k) 0x30 k1 (lit< tt)) in
      let out : leave_of o (done_of (maybe_text m (maybe_of m 0x02 k))) ≡ o =
      ap (λ (j : Cursor). leave_of o (done_of (maybe_text m j))) e1
      ∙ ap (λ (j : Cursor). leave_of o (done_of j)) e2
      ∙ out_is o (none_of (none_of k)) (none-holds (none_of k) k1) in
      record {
        left = subst (λ (j : Cursor). Holds m j []) (sym out) t.left;
        ca_pubs = (refl, refl);
        says =
            record {
              entries = refl;
              number = refl;
              status = i.says;
              hash = (refl, refl);
              hash_alg = (refl, refl);
              certificate = (refl, refl);
              request = (refl, refl);
            };
      }

  -- ## A certificate in its key pair

  record Certified (c r : Cursor) (v rest : List ℕ) : Type 0 where
    left : Holds m r rest
    end : r.end ≡ c.end
    shows : Shows m (found_span r) (element 0x30 v)

  choice_is : (c : Cursor) (v : List ℕ) → Holds m c (element 0xA0 (element 0x30 v ++ []) ++ [])
      → (choice_of m c ≡ need_of m 0xA0 c) × Took m c (need_of m 0xA0 c) (element 0x30 v ++ []) []
  unfolding choice_of tag_ok
  choice_is c v h =
      let o : Cursor = need_of m 0xA0 c in
      let t = need_took m c 0xA0 (element 0x30 v ++ []) [] few refl h in
      let u = need_took m (enter_of o) 0x30 v [] few refl t.into in
      (rw (same_next m few c 0xA0 (element 0x30 v ++ []) [] h) (out_is o (need_of m 0x30 (enter_of o)) u.left), t)

  no_field : (tag : ℕ) (c : Cursor) → 0 < tag → Holds m c [] → any_field m tag c ≡ none_of c
  unfolding any_field
  no_field tag c pos h = rw (nothing-next m few c tag h pos)

  key_pair_is : (c : Cursor) (v rest : List ℕ) → Holds m c (key_pair_bytes (some (element 0x30 v)) ++ rest)
      → Certified c (maybe_key_pair m c) v rest
  unfolding key_pair_bytes maybe_key_pair key_pair found_of tag_ok
  key_pair_is c v rest h =
      let s : Cursor = need_of m 0x30 c in
      let inside : List ℕ = element 0xA0 (element 0x30 v ++ []) ++ [] in
      let t = need_took m c 0x30 inside rest few refl h in
      let ch = choice_is (enter_of s) v t.into in
      let k : Cursor = choice_of m (enter_of s) in
      let p : Cursor = need_of m 0xA0 (enter_of s) in
      let hk : Holds m k [] = subst (λ (j : Cursor). Holds m j []) (sym ch.0) ch.1.left in
      let e1 : any_field m 0xA0 k ≡ none_of k = no_field 0xA0 k (lit< tt) hk in
      let e2 : any_field m 0xA1 (none_of k) ≡ none_of (none_of k) = no_field 0xA1 (none_of k) (lit< tt) (none-holds k hk) in
      let hd = none-holds (none_of k) (none-holds k hk) in
      let e3 : done_of (any_field m 0xA1 (any_field m 0xA0 k)) ≡ none_of (none_of k) =
      ap (λ (j : Cursor). done_of (any_field m 0xA1 j)) e1 ∙ ap done_of e2 ∙ done-is (none_of (none_of k)) hd in
      let e4 : found_of (leave_of s (none_of (none_of k))) (leave_of k (none_of (none_of k))) ≡ found_of s p =
      cc (leave_is s (none_of (none_of k)) hd, leave_is k (none_of (none_of k)) hd, ch.0) in
      let w : Certified c (found_of s p) v rest =
      rw ch.1.left.ok
      (record {
        left = record { ok = t.left.ok; size = t.left.size; high = t.left.high; is = t.left.is };
        end = t.end;
        shows = found_shows p (subst (Found m p) (append-nil (element 0x30 v)) ch.1.found);
      }) in
      rw (same_next m few c 0x30 inside rest h, e3) (subst (λ (r : Cursor). Certified c r v rest) (sym e4) w)

  maybe_key_pair_lem : (e : Option (List ℕ)) (c : Cursor) → Certificates e → Holds m c (key_pair_bytes e ++ [])
      → Holds m (maybe_key_pair m c) [] × ShowsIf m (found_span (maybe_key_pair m c)) e
  unfolding key_pair_bytes maybe_key_pair ShowsIf Certificates
  maybe_key_pair_lem none c q h = rw (nothing-next m few c 0x30 h (lit< tt)) (none-holds c h, (refl, refl))
  maybe_key_pair_lem (some e) c q h =
      let p = key_pair_is c q.0 [] (subst (λ (l : List ℕ). Holds m c (key_pair_bytes (some l) ++ [])) q.1 h) in
      (p.left, subst (Shows m (found_span (maybe_key_pair m c))) (sym q.1) p.shows)

  -- ## 1 ip, 3 cp, 8 kup

  abbrev inside_response : ℕ → ℕ → Option (List ℕ) → List ℕ
  inside_response n s v = integer n ++ (status_bytes s none ++ (key_pair_bytes v ++ []))

  response-is : (n s : ℕ) (v : Option (List ℕ)) (c : Cursor) (rest : List ℕ) → Certificates v → n < 4294967296 → s < 4294967296
      → Holds m c (element 0x30 (inside_response n s v) ++ rest) → EntryIs (response_said n s v) (response_of m c) rest
  unfolding response_of integer maybe_of LastSet tag_ok ShowsIf
  response-is n s v c rest q wn ws h =
      let o : Cursor = need_of m 0x30 c in
      let t = need_took m c 0x30 (inside_response n s v) rest few refl h in
      let a : Cursor = small_integer_of m (enter_of o) in
      let u = small_took m few (enter_of o) (integer_bytes n) (status_bytes s none ++ (key_pair_bytes v ++ [])) (integer-short n) t.into in
      let i = status-is m few s none a (key_pair_bytes v ++ []) ws tt u.left in
      let k : Cursor = maybe_key_pair m (status_of m a).cur in
      let p = maybe_key_pair_lem v (status_of m a).cur q i.left in
      let e1 : maybe_of m 0x04 k ≡ none_of k = rw (nothing-next m few k 4 p.0 (lit< tt)) in
      let out : leave_of o (done_of (maybe_of m 0x04 k)) ≡ o =
      ap (λ (j : Cursor). leave_of o (done_of j)) e1 ∙ out_is o (none_of k) (none-holds k p.0) in
      record {
        left = subst (λ (j : Cursor). Holds m j rest) (sym out) t.left;
        says =
            record {
              entries = refl;
              number = value_is a u.found ∙ integer_value n wn;
              status = i.says;
              hash = (refl, refl);
              hash_alg = (refl, refl);
              certificate = p.1;
              request = (refl, refl);
            };
      }

  pub responses_are : (n s : ℕ) (v : Option (List ℕ)) (c : Cursor) → Certificates v → n < 4294967296 → s < 4294967296
      → Holds m c (responses_bytes n s v ++ []) → ContentsAre m (response_said n s v) (responses_of m c)
  unfolding responses_bytes responses_of entry_of sequence_field tag_ok ShowsIf
  responses_are n s v c cert wn ws h =
      let o : Cursor = need_of m 0x30 c in
      let x : List ℕ = element 0x30 (inside_response n s v) ++ [] in
      let t = need_took m c 0x30 (element 0x30 x ++ []) [] few refl h in
      let a : Cursor = sequence_field m 0xA1 Certificate (enter_of o) in
      let none_there : a ≡ none_of (enter_of o) = rw (other_next m few (enter_of o) 0xA1 0x30 x [] t.into (λ e. omega arith)) in
      let ha : Holds m a (element 0x30 x ++ []) =
      subst (λ (j : Cursor). Holds m j (element 0x30 x ++ [])) (sym none_there) (none-holds (enter_of o) t.into) in
      let q : Cursor = need_of m 0x30 a in
      let u = need_took m a 0x30 x [] few refl ha in
      let r = response-is n s v (enter_of q) [] cert wn ws u.into in
      let one : entries_of m of.Response (enter_of q) ≡ next m of.Response (no_entries (enter_of q)) =
      one_entry_lem m few of.Response (enter_of q) x (some_bytes 0x30 (inside_response n s v) []) u.into r.left in
      let inner = leave_is q (response_of m (enter_of q)).cur r.left in
      let out = ap (λ (j : Cursor). leave_of o (done_of j)) inner ∙ out_is o q u.left in
      let contents : Entries → Contents = λ (j : Entries). from_entries (leave_of o (done_of (leave_of q j.cur))) (found_span a) j in
      subst (λ (j : Entries). ContentsAre m (response_said n s v) (contents j)) (sym one)
      (record {
        left = subst (λ (k : Cursor). Holds m k []) (sym out) t.left;
        ca_pubs = subst (λ (j : Cursor). ShowsIf m (found_span j) none) (sym none_there) (refl, refl);
        says = r.says;
      })
