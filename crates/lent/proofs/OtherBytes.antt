-- A host that lends other bytes than the last call left.
use Prim.Native.Nat.{ℕ, zero, suc}
use mathlib.Core.List.{List, [], ◌∷◌, ◌++◌}
use mathlib.Core.Bool.{Bool, true, false, cond}
use mathlib.Core.Option.{Option, none, some}
use mathlib.Core.Path.{◌≡◌, refl, sym, ◌∙◌, ap, subst}
use mathlib.Core.Logic.{◌⊎◌, inl, inr, ◌≢◌}
use lib.ListN.{get_elem?, set}
use lib.Dec.{ltb}
use Rattle.protocol.specs.declared.Board.{Board}
use Rattle.protocol.proofs.Tests.{none_some}
use Rattle.packed.specs.Bytes.{AllBytes}
use Rattle.packed.proofs.TableInverse.{pack_unpacked}
use Rattle.duskstall.specs.Boundary.{Crossing}
use Rattle.lent.specs.Lent.{LentCall, AtRegistrar, AtEndEntity, EndEntityStart, LentEnrolment, LentWorld, held_bytes, crossing}
use Rattle.lent.specs.Lent.{enrolment_lent, lent_step, lent_after, lent_beginning}
use Rattle.lent.specs.Kept.{LentPromise, state_lent}
use Rattle.lent.specs.Header.{FairBytes, HeaderAgreement}
use Rattle.lent.specs.OtherBytes.{InEnrolment, state_place, with_bytes, lend_at, lending, lent_by, host_calls, host_after, calls_of, AllAsLeft, HostRuns, HostDemand3, as_left, EveryListAsLeft, Lends, rewritten, OnlyThere, HostOnAnyBytes}
use Rattle.lent.proofs.Stand.{set_same}
use Rattle.lent.proofs.Kept.{board_promised, start_promised, promised}
use Rattle.lent.proofs.ReadBack.{lent_reads}
use Rattle.lent.proofs.Header.{header_demand3}

-- ## Places of a list

module _ {A : Type 0} where
  set_there : (es : List A) (k : ℕ) (e x : A) → get_elem? es k ≡ some e → get_elem? (set es k x) k ≡ some x
  set_there [] k e x h = none_some h
  set_there (d ∷ es) zero e x h = refl
  set_there (d ∷ es) (suc k) e x h = set_there es k e x h

  set_elsewhere : (es : List A) (k p : ℕ) (x : A) → p ≢ k → get_elem? (set es k x) p ≡ get_elem? es p
  set_elsewhere [] k p x d = refl
  set_elsewhere (e ∷ es) zero zero x d = absurd (d refl)
  set_elsewhere (e ∷ es) zero (suc p) x d = refl
  set_elsewhere (e ∷ es) (suc k) zero x d = refl
  set_elsewhere (e ∷ es) (suc k) (suc p) x d = set_elsewhere es k p x (λ q. d (ap suc q))

-- ## Bytes as they were left

with_same : (es : List LentEnrolment) (k : ℕ) (o : Option LentEnrolment) → get_elem? es k ≡ o → with_bytes es k o (held_bytes o) ≡ es
with_same es k none h = refl
with_same es k (some e) h = set_same es k e h

same-enrolment : (w : LentWorld) (k : ℕ) → lend_at w (InEnrolment k) (held_bytes (get_elem? w.enrolments k)) ≡ w
same-enrolment w k = ap (λ (es : List LentEnrolment). record { table = w.table; enrolments = es; past = w.past }) (with_same w.enrolments k (get_elem? w.enrolments k) refl)

lent_same : (w : LentWorld) (c : LentCall) → lending w c (state_lent w c) ≡ w
lent_same w (AtRegistrar c a) = refl
lent_same w (AtEndEntity k c a) = same-enrolment w k
lent_same w (EndEntityStart b s k i n a) = refl

pub host_runs : HostRuns
unfolding host_after calls_of lent_after
host_runs w [] a = refl
host_runs w (h ∷ hs) a =
    let e : lent_by w h ≡ w = ap (λ (s : List ℕ). lending w h.call s) a.0 ∙ lent_same w h.call in
    host_runs (host_calls w h) hs a.1 ∙ ap (λ (v : LentWorld). lent_after (lent_step v h.call) (calls_of hs)) e

pub host_demand3 : HostDemand3
host_demand3 s e hs a fair =
    let same : host_after (lent_beginning s) hs ≡ lent_after (lent_beginning s) (calls_of hs) = host_runs (lent_beginning s) hs a in
    subst HeaderAgreement (sym same) (header_demand3 s e (calls_of hs) (subst (λ (w : LentWorld). FairBytes w.past) same fair))

all_as_left : (w : LentWorld) (cs : List LentCall) → AllAsLeft w (as_left w cs)
unfolding as_left
all_as_left w [] = tt
all_as_left w (c ∷ cs) = (refl, subst (λ (v : LentWorld). AllAsLeft (lent_step v c) (as_left (lent_step w c) cs)) (sym (lent_same w c)) (all_as_left (lent_step w c) cs))

calls_as_left : (w : LentWorld) (cs : List LentCall) → calls_of (as_left w cs) ≡ cs
unfolding as_left calls_of
calls_as_left w [] = refl
calls_as_left w (c ∷ cs) = ap (λ (l : List LentCall). c ∷ l) (calls_as_left (lent_step w c) cs)

pub every_list_as_left : EveryListAsLeft
every_list_as_left w cs =
    record {
      left = all_as_left w cs;
      calls = calls_as_left w cs;
      same = host_runs w (as_left w cs) (all_as_left w cs) ∙ ap (lent_after w) (calls_as_left w cs);
    }

-- ## Any bytes

with_there : (es : List LentEnrolment) (k : ℕ) (s : List ℕ) (e : LentEnrolment) → get_elem? es k ≡ some e
    → get_elem? (with_bytes es k (get_elem? es k) s) k ≡ some (record { board = e.board; bytes = s })
with_there es k s e h = subst (λ (o : Option LentEnrolment). get_elem? (with_bytes es k o s) k ≡ some (record { board = e.board; bytes = s })) (sym h) (set_there es k e _ h)

with_none : (es : List LentEnrolment) (k : ℕ) (s : List ℕ) → get_elem? es k ≡ none → get_elem? (with_bytes es k (get_elem? es k) s) k ≡ none
with_none es k s h = subst (λ (o : Option LentEnrolment). get_elem? (with_bytes es k o s) k ≡ none) (sym h) h

with_elsewhere : (es : List LentEnrolment) (k p : ℕ) (s : List ℕ) (o : Option LentEnrolment) → p ≢ k → get_elem? (with_bytes es k o s) p ≡ get_elem? es p
with_elsewhere es k p s none d = refl
with_elsewhere es k p s (some e) d = set_elsewhere es k p _ d

module _ (v : LentWorld) (c : LentCall) (k : ℕ) (x : Crossing) where
  table_stays : (o : Option LentEnrolment) → (enrolment_lent v c k o x).table ≡ v.table
  table_stays none = refl
  table_stays (some e) = refl

  elsewhere_stays : (o : Option LentEnrolment) (p : ℕ) → p ≢ k → get_elem? (enrolment_lent v c k o x).enrolments p ≡ get_elem? v.enrolments p
  elsewhere_stays none p d = refl
  elsewhere_stays (some e) p d = set_elsewhere v.enrolments k p _ d

  written_there : (e : LentEnrolment) → get_elem? v.enrolments k ≡ some e
      → get_elem? (enrolment_lent v c k (get_elem? v.enrolments k) x).enrolments k ≡ some (record { board = e.board; bytes = x.state })
  written_there e h = subst (λ (o : Option LentEnrolment). get_elem? (enrolment_lent v c k o x).enrolments k ≡ some (record { board = e.board; bytes = x.state })) (sym h) (set_there v.enrolments k e _ h)

  none_there : get_elem? v.enrolments k ≡ none → get_elem? (enrolment_lent v c k (get_elem? v.enrolments k) x).enrolments k ≡ none
  none_there h = subst (λ (o : Option LentEnrolment). get_elem? (enrolment_lent v c k o x).enrolments k ≡ none) (sym h) h

-- an enrolment's call
module _ (w : LentWorld) (c : LentCall) (k : ℕ) (s : List ℕ) (x : Crossing) where
  abbrev lent : LentWorld
  lent = lend_at w (InEnrolment k) s

  there : (o : Option LentEnrolment) → get_elem? w.enrolments k ≡ o
      → get_elem? (enrolment_lent lent c k (get_elem? lent.enrolments k) x).enrolments k ≡ rewritten o x.state
  there none h = none_there lent c k x (with_none w.enrolments k s h)
  there (some e) h = written_there lent c k x (record { board = e.board; bytes = s }) (with_there w.enrolments k s e h)

  only-enrolment : OnlyThere w (enrolment_lent lent c k (get_elem? lent.enrolments k) x) (InEnrolment k) x
  only-enrolment = (
    table_stays lent c k x (get_elem? lent.enrolments k),
    (λ p d. elsewhere_stays lent c k x (get_elem? lent.enrolments k) p d ∙ with_elsewhere w.enrolments k p s (get_elem? w.enrolments k) d),
    there (get_elem? w.enrolments k) refl,
  )

added : (c : Bool) (es : List LentEnrolment) (b : Board) (s : List ℕ)
    → (cond c (es ++ (record { board = b; bytes = s } ∷ [])) es ≡ es) ⊎ ((d : Board) × (cond c (es ++ (record { board = b; bytes = s } ∷ [])) es ≡ es ++ (record { board = d; bytes = s } ∷ [])))
added true es b s = inr (b, refl)
added false es b s = inl refl

others : (w : LentWorld) (c : LentCall) (s : List ℕ) → OnlyThere w (lent_step (lending w c s) c) (state_place c) (crossing (lending w c s) c)
unfolding lent_step
others w (AtRegistrar c b) s = (refl, refl)
others w (AtEndEntity k c b) s = only-enrolment w (AtEndEntity k c b) k s (crossing (lending w (AtEndEntity k c b) s) (AtEndEntity k c b))
others w (EndEntityStart d e k i n b) s = let x : Crossing = crossing w (EndEntityStart d e k i n b) in (refl, added (ltb x.code 2) w.enrolments d x.state)

found : (w : LentWorld) (c : LentCall) (s : List ℕ) → Lends w (state_place c) → state_lent (lending w c s) c ≡ s
found w (AtRegistrar c b) s l = refl
found w (AtEndEntity k c b) s l = ap held_bytes (with_there w.enrolments k s l.0 l.1)
found w (EndEntityStart d e k i n b) s l = absurd l

kept : (w : LentWorld) (c : LentCall) (s : List ℕ) → AllBytes s → LentPromise (lending w c s) c
kept w (AtRegistrar c b) s all = promised _ (pack_unpacked s all) (AtRegistrar c b)
kept w (AtEndEntity k c b) s all = board_promised _ k c b
kept w (EndEntityStart d e k i n b) s all = start_promised w d e k i n b

pub host_on_any_bytes : HostOnAnyBytes
host_on_any_bytes w h all =
    record {
      found = found w h.call h.state;
      promise = kept w h.call h.state all;
      reads = lent_reads (lent_by w h) h.call;
      others = others w h.call h.state;
    }
