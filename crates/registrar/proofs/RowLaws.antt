-- What the rows 8 to 20 test, from the tests that the code makes.
use Prim.Native.Nat.{ℕ}
use mathlib.Core.List.{List}
use mathlib.Core.Bool.{Bool, true, false, cond}
use mathlib.Core.Option.{Option, none, some}
use Rattle.std.specs.Prelude.{Some, None, is_some}
use Rattle.std.specs.Prelude as code
use mathlib.Core.Path.{◌≡◌, refl, sym, ap}
use Rattle.grammar.specs.declared.Span.{Span}
use Rattle.protocol.specs.declared.Slot.{Slot}
use Rattle.protocol.specs.declared.Transaction.{Transaction}
use Rattle.protocol.specs.Bytes.{present}
use Rattle.grammar.specs.Span.{part_of}
use Rattle.protocol.specs.Message.{is_present, optional_part}
use Rattle.protocol.specs.RegistrarRows.{is_known}
use Rattle.registrar.specs.Steps.{found_by, found_in}

-- a part is there where its span says so
pub present_is : (bytes : List ℕ) (s : Span) → present (optional_part bytes s) ≡ is_present s
present_is bytes s = by (is_present s)
  where
    by : (t : Bool) → present (cond t (some (part_of bytes s)) none) ≡ t
    by true = refl
    by false = refl

-- what the code hands on of a search
pub known_is : (o : code.Option (Slot × Transaction)) → is_known (found_by o) ≡ is_some o
known_is None = refl
known_is (Some x) = refl

pub found_is : (f : Option Transaction) (p : ℕ) → found_by (found_in f p) ≡ f
found_is none p = refl
found_is (some r) p = refl

pub found_some : (f : Option Transaction) (p : ℕ) (s : Slot) (r : Transaction) → found_in f p ≡ Some (s, r) → (f ≡ some r) × (s ≡ record { 0 = p })
found_some none p s r e = cc
found_some (some q) p s r e = let z : (record { 0 = p }, q) ≡ (s, r) = cc in (ap (λ (x : Slot × Transaction). some x.1) z, sym (ap (λ (x : Slot × Transaction). x.0) z))
