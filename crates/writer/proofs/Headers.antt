-- A header's content: names, options and ids, one after the other.
use Prim.Native.Nat.{ℕ}
use mathlib.Core.List.{List, [], ◌++◌, append_assoc}
use mathlib.Core.Path.{◌≡◌, sym, ◌∙◌, ap, subst}
use Rattle.protocol.specs.declared.Outgoing.{Outgoing}
use Rattle.encoding.specs.Given.{Given}
use Rattle.encoding.specs.Message.{names_bytes, options_bytes, ids_bytes}
use Rattle.writer.specs.declared.put.Cursor.{Cursor}
use Rattle.writer.specs.Wrote.{Wrote}
use Rattle.writer.specs.Sizes.{Size}
use Rattle.writer.specs.Code.{header_content}
use Rattle.writer.proofs.Wrote.{wrote_as}

names-end : (g : Given) (rest : List ℕ) → names_bytes g [] ++ rest ≡ names_bytes g rest
unfolding names_bytes
names-end g rest = simp append_assoc

options_end : (g : Given) (rest : List ℕ) → options_bytes g [] ++ rest ≡ options_bytes g rest
unfolding options_bytes
options_end g rest = simp append_assoc

joined : (g : Given) (o : Outgoing) → names_bytes g [] ++ (options_bytes g [] ++ ids_bytes g o) ≡ header_content g o
joined g o = ap (λ (l : List ℕ). names_bytes g [] ++ l) (options_end g (ids_bytes g o)) ∙ names-end g (options_bytes g (ids_bytes g o))

module _ (g : Given) (o : Outgoing) where
  pub wrote_joined : {c c' : Cursor} → Wrote (names_bytes g [] ++ (options_bytes g [] ++ ids_bytes g o)) c c' → Wrote (header_content g o) c c'
  wrote_joined p = wrote_as (sym (joined g o)) p

  pub size-joined : {r : ℕ} → Size r (names_bytes g [] ++ (options_bytes g [] ++ ids_bytes g o)) → Size r (header_content g o)
  size-joined {r} p = subst (Size r) (joined g o) p
