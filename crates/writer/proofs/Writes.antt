-- The call's four answers.
use Rattle.std.specs.Prelude.{Ok, Err}
use Prim.Native.Nat.{ℕ, ◌+◌, ◌<◌, ◌≤◌}
use mathlib.Core.List.{List}
use mathlib.Core.Bool.{Bool, true, false, ◌&&◌, ◌||◌}
use mathlib.Core.Path.{◌≡◌, refl, sym, ◌∙◌, ap, subst}
use native.Mathlib.Omega.{arith}
use borrow.Author.Tests.{lt-ltb, le-ltb}
use lib.Dec.{eqb, lit<}
use lib.ListN.{length}
use Rattle.der.proofs.Auto.{and_left, and_right}
use Rattle.message.specs.Read.{max_message}
use Rattle.protocol.specs.declared.Outgoing.{Outgoing}
use Rattle.encoding.specs.Given.{Given}
use Rattle.encoding.specs.Message.{encode}
use Rattle.encoding.specs.Fits.{blank, contents_fit, order_fits, fits}
use Rattle.encoding.specs.Write.{refusal_of}
use Rattle.encoding.proofs.WrittenKinds.{Kind, kind_of_lem}
use Rattle.encoding.proofs.WrittenKinds.Kind.{ir, ip, cr, cp, p10cr, kur, kup, pkiconf, error, certconf}
use Rattle.given.specs.declared.GivenSpans.{GivenSpans}
use Rattle.writer.specs.Puts.{Puts}
use Rattle.writer.specs.Sizes.{size16, head_size, Size}
use Rattle.writer.specs.Code.{message_content}
use Rattle.given.specs.Spans.{given_of, spans_inside}
use Rattle.writer.specs.Write.{write_refusal, write_answer, buffer_after}
use Rattle.writer.proofs.Sizes.{size-around, size-last}

-- the whole message's size
pub message-size : {n r k : ℕ} (g : Given) (o : Outgoing) → Size n (message_content g o) → r ≡ size16 (n + head_size n) → k ≡ r → Size k (encode g o)
unfolding encode
message-size {n} {r} {k} g o p e f = subst (λ (j : ℕ). Size j (encode g o)) (sym f) (size-last (size-around 0x30 p e))

-- the kinds that are written can be said in a tag
low : {k : ℕ} → Kind k → k < 96
low ir = lit< tt
low ip = lit< tt
low cr = lit< tt
low cp = lit< tt
low p10cr = lit< tt
low kur = lit< tt
low kup = lit< tt
low pkiconf = lit< tt
low error = lit< tt
low certconf = lit< tt

fit_low : (g : Given) (o : Outgoing) → fits g o ≡ true → o.kind < 96
unfolding fits
fit_low g o e =
    let order : order_fits o ≡ true = and_left (order_fits o) _ e in
    low (kind_of_lem o.kind o.contents (and_right (o.has_recip_nonce || blank o.recip_nonce.bytes) (contents_fit o.kind o.contents) order))

module _ (src : List ℕ) (g : GivenSpans) (o : Outgoing) (buf : List ℕ) where
  abbrev fitting : Bool
  fitting = spans_inside src g && fits (given_of src g) o

  -- refused, and the buffer as before
  refused : (k : ℕ) → write_refusal src g o buf ≡ k → eqb k 0 ≡ false → (Err k ≡ write_answer src g o buf) × (buf ≡ buffer_after src g o buf)
  unfolding write_answer buffer_after
  refused k e z = (sym (rw (e, z)), sym (rw (e, z)))

  module _ {n : ℕ} (size : Size n (encode (given_of src g) o)) where
    pub over : max_message < n → (Err 34 ≡ write_answer src g o buf) × (buf ≡ buffer_after src g o buf)
    unfolding refusal_of
    over h = refused 34 (rw (lt-ltb max_message (length (encode (given_of src g) o)) (omega (arith, size.is)))) refl

    pub short : n ≤ max_message → length buf < n → (Err 35 ≡ write_answer src g o buf) × (buf ≡ buffer_after src g o buf)
    unfolding refusal_of
    short h k =
        refused 35
        (rw (le-ltb max_message (length (encode (given_of src g) o)) (omega (arith, size.is)), lt-ltb (length buf) (length (encode (given_of src g) o)) (omega (arith, size.is))))
        refl

    pub unfit : n ≤ max_message → n ≤ length buf → fitting ≡ false → (Err 36 ≡ write_answer src g o buf) × (buf ≡ buffer_after src g o buf)
    unfolding refusal_of
    unfit h k e =
        refused 36
        (rw (le-ltb max_message (length (encode (given_of src g) o)) (omega (arith, size.is)), le-ltb (length buf) (length (encode (given_of src g) o)) (omega (arith, size.is)), e))
        refl

    no_refusal : n ≤ max_message → n ≤ length buf → fitting ≡ true → write_refusal src g o buf ≡ 0
    unfolding refusal_of
    no_refusal h k e =
        rw (le-ltb max_message (length (encode (given_of src g) o)) (omega (arith, size.is)), le-ltb (length buf) (length (encode (given_of src g) o)) (omega (arith, size.is)), e)

    pub written : {r : ℕ} {after : List ℕ} → n ≤ max_message → n ≤ length buf → fitting ≡ true
        → (o.kind < 96 → Puts 0 r (encode (given_of src g) o) buf after)
        → (Ok n ≡ write_answer src g o buf) × (after ≡ buffer_after src g o buf)
    unfolding write_answer buffer_after
    written {r} {after} h k e p =
        let z = no_refusal h k e in
        let whole : n ≡ length (encode (given_of src g) o) = size.is ∙ omega (arith, size.is) in
        let q = (p (fit_low (given_of src g) o (and_right (spans_inside src g) _ e))).put (omega arith) (omega arith) in
        (ap Ok whole ∙ sym (rw z), q.is ∙ sym (rw z))
