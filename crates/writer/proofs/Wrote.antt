-- Laws of pieces that a cursor puts in.
use Prim.Native.Nat.{ℕ}
use mathlib.Core.List.{List, [], ◌++◌, append-nil}
use mathlib.Core.Path.{◌≡◌, sym, ◌∙◌, subst}
use Rattle.der.specs.Head.{head_bytes}
use Rattle.encoding.specs.Element.{element}
use Rattle.writer.specs.declared.put.Cursor.{Cursor}
use Rattle.writer.specs.Wrote.{Wrote}
use Rattle.writer.specs.Sizes.{Size}
use Rattle.writer.proofs.Puts.{joined, around_head}

-- the same bytes under another name
pub wrote_as : {c c' : Cursor} {x y : List ℕ} → x ≡ y → Wrote y c c' → Wrote x c c'
wrote_as {c} {c'} e p = subst (λ (l : List ℕ). Wrote l c c') (sym e) p

-- one after another
pub ◌then◌ : {c₀ c₁ c₂ : Cursor} {x y : List ℕ} → Wrote x c₀ c₁ → Wrote y c₁ c₂ → Wrote (x ++ y) c₀ c₂
◌then◌ p q = record { same = q.same ∙ p.same; puts = joined p.puts q.puts }

infixr 5 ◌then◌
-- the last of a content's parts
pub last : {c c' : Cursor} {x : List ℕ} → Wrote x c c' → Wrote (x ++ []) c c'
last {c} {c'} {x} p = wrote_as (append-nil x) p

-- an element: its head, then its content, of which the size is known
pub around : {n : ℕ} {v : List ℕ} {c₀ c₁ c₂ : Cursor} (tag : ℕ) → Size n v → Wrote (head_bytes tag n) c₀ c₁ → Wrote v c₁ c₂ → Wrote (element tag v) c₀ c₂
around tag e p q = record { same = q.same ∙ p.same; puts = around_head tag e p.puts q.puts }
