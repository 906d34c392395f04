-- A host that may lend other bytes than the last call left: what it must do for demand 3, and what holds whatever it lends.
use Rattle.std.specs.Prelude.{ℕ, List, [], ◌∷◌, ◌++◌, true, ◌≡◌, ◌⊎◌, ◌≢◌, length, set}
use Rattle.std.proofs.Math.Option.{Option, none, some}
use Rattle.std.proofs.Math.ListN.{get_elem?}
use Rattle.protocol.specs.declared.Board.{Board}
use Rattle.packed.specs.Bytes.{AllBytes}
use Rattle.packed.specs.Table.{table_bytes}
use Rattle.duskstall.specs.Boundary.{Crossing}
use Rattle.lent.specs.Lent.{LentCall, AtRegistrar, AtEndEntity, EndEntityStart, LentEnrolment, LentWorld, crossing, is_made, lent_step, lent_after, lent_beginning}
use Rattle.lent.specs.Kept.{LentPromise, state_lent}
use Rattle.lent.specs.Reads.{ReadsBack}
use Rattle.lent.specs.Header.{FairBytes, HeaderAgreement}

-- ## Where a call finds its state

-- a start has its own bytes
pub data StatePlace : Type 0 where
  InCall : StatePlace
  InTable : StatePlace
  InEnrolment : (place : ℕ) → StatePlace

abbrev pub state_place : LentCall → StatePlace
state_place (AtRegistrar c a) = InTable
state_place (AtEndEntity k c a) = InEnrolment k
state_place (EndEntityStart b s k i n a) = InCall

-- the enrolment at a place, if one is there, has these bytes
abbrev pub with_bytes : List LentEnrolment → ℕ → Option LentEnrolment → List ℕ → List LentEnrolment
with_bytes es k none s = es
with_bytes es k (some e) s = set es k (record { board = e.board; bytes = s })

-- the world with these bytes at a state's place
abbrev pub lend_at : LentWorld → StatePlace → List ℕ → LentWorld
lend_at w InCall s = w
lend_at w InTable s = record { table = s; enrolments = w.enrolments; past = w.past }
lend_at w (InEnrolment k) s = record { table = w.table; enrolments = with_bytes w.enrolments k (get_elem? w.enrolments k) s; past = w.past }

abbrev pub lending : LentWorld → LentCall → List ℕ → LentWorld
lending w c s = lend_at w (state_place c) s

-- ## Calls of such a host

-- a call, and the bytes that are lent as its state
pub record HostCall : Type 0 where
  pub call : LentCall
  pub state : List ℕ

abbrev pub lent_by : LentWorld → HostCall → LentWorld
lent_by w h = lending w h.call h.state

abbrev pub host_calls : LentWorld → HostCall → LentWorld
host_calls w h = lent_step (lent_by w h) h.call

unfoldable pub host_after : LentWorld → List HostCall → LentWorld
host_after w [] = w
host_after w (h ∷ hs) = host_after (host_calls w h) hs

unfoldable pub calls_of : List HostCall → List LentCall
calls_of [] = []
calls_of (h ∷ hs) = h.call ∷ calls_of hs

-- ## What is supposed of the host: it lends the bytes that the last call on them left

abbrev pub AsLeft : LentWorld → HostCall → Type 0
AsLeft w h = h.state ≡ state_lent w h.call

abbrev pub AllAsLeft : LentWorld → List HostCall → Type 0
AllAsLeft w [] = Unit {0}
AllAsLeft w (h ∷ hs) = AsLeft w h × AllAsLeft (host_calls w h) hs

-- the bytes are then those of the list of calls
abbrev pub HostRuns : Type 0
HostRuns = (w : LentWorld) (hs : List HostCall) → AllAsLeft w hs → host_after w hs ≡ lent_after w (calls_of hs)

-- and demand 3 holds
abbrev pub HostDemand3 : Type 0
HostDemand3 =
    (s : List ℕ)
    → length s ≡ table_bytes
    → (hs : List HostCall)
    → AllAsLeft (lent_beginning s) hs
    → FairBytes (host_after (lent_beginning s) hs).past
    → HeaderAgreement (host_after (lent_beginning s) hs)

-- every list of calls is that of such a host
unfoldable pub as_left : LentWorld → List LentCall → List HostCall
as_left w [] = []
as_left w (c ∷ cs) = record { call = c; state = state_lent w c } ∷ as_left (lent_step w c) cs

pub record LendsAsLeft (w : LentWorld) (cs : List LentCall) : Type 0 where
  pub left : AllAsLeft w (as_left w cs)
  pub calls : calls_of (as_left w cs) ≡ cs
  pub same : host_after w (as_left w cs) ≡ lent_after w cs

abbrev pub EveryListAsLeft : Type 0
EveryListAsLeft = (w : LentWorld) (cs : List LentCall) → LendsAsLeft w cs

-- ## Whatever is lent

-- the host lends the call's state: it is no start, and an enrolment has the place
abbrev pub Lends : LentWorld → StatePlace → Type 0
Lends w InCall = ⊥
Lends w InTable = Unit {0}
Lends w (InEnrolment k) = (e : LentEnrolment) × (get_elem? w.enrolments k ≡ some e)

-- an enrolment, if there is one, with other bytes
abbrev pub rewritten : Option LentEnrolment → List ℕ → Option LentEnrolment
rewritten none s = none
rewritten (some e) s = some (record { board = e.board; bytes = s })

-- from w to v a call wrote x in its state's place, and left every other byte as it was; a start left all enrolments, and may have added one
abbrev pub OnlyThere : (w v : LentWorld) → StatePlace → Crossing → Type 0
OnlyThere w v InCall x =
    (v.table ≡ w.table)
    × ((v.enrolments ≡ w.enrolments) ⊎ ((b : Board) × (v.enrolments ≡ w.enrolments ++ (record { board = b; bytes = x.state } ∷ []))))
OnlyThere w v InTable x = (v.table ≡ x.state) × (v.enrolments ≡ w.enrolments)
OnlyThere w v (InEnrolment k) x =
    (v.table ≡ w.table)
    × ((p : ℕ) → p ≢ k → get_elem? v.enrolments p ≡ get_elem? w.enrolments p)
    × (get_elem? v.enrolments k ≡ rewritten (get_elem? w.enrolments k) x.state)

pub record OnAnyBytes (w : LentWorld) (h : HostCall) : Type 0 where
  -- the call finds the bytes that are lent
  pub found : Lends w (state_place h.call) → state_lent (lent_by w h) h.call ≡ h.state
  -- only one that is done changes them; one that is not made changes no byte; a refusal has its number
  pub promise : LentPromise (lent_by w h) h.call
  -- its answer is that of the call on what they stand for
  pub reads : is_made (crossing (lent_by w h) h.call).code ≡ true → ReadsBack (lent_by w h) h.call
  -- no other bytes change
  pub others : OnlyThere w (host_calls w h) (state_place h.call) (crossing (lent_by w h) h.call)

-- w: whatever the calls before did with whatever was lent to them
abbrev pub HostOnAnyBytes : Type 0
HostOnAnyBytes = (w : LentWorld) (h : HostCall) → AllBytes h.state → OnAnyBytes w h
