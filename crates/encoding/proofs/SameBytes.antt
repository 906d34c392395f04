-- The same bytes are of the same order and the same given parts; what is protected does not depend on the protection.
use Rattle.der.specs.declared.head.Whole.{Whole}
use Rattle.der.specs.Types.{Head, whole_head}
use Rattle.std.specs.Prelude.{Ok, Some, None}
use Prim.Native.Nat.{ℕ, ◌+◌, ◌-◌, ◌%◌, ◌<◌, ◌≤◌}
use mathlib.Core.Path.{◌≡◌, refl, sym, ◌∙◌, ap, subst}
use mathlib.Core.List.{List, [], ◌++◌, append-nil}
use mathlib.Core.Bool.{Bool, true, false, cond}
use mathlib.Core.Option.{Option, none, some}
use native.Mathlib.Omega.{arith}
use lib.ListN.{length, drop, length-append}
use lib.Seq.{drop-append_seam}
use lib.Dec.{eqb}
use Rattle.der.specs.Head.{byte, tag_ok, head_of, head_bytes}
use Rattle.der.proofs.OneForm.{read_back}
use Rattle.grammar.specs.declared.Message.{Message}
use Rattle.message.specs.Read.{reading_of}
use Rattle.protocol.specs.Types.{FailureInfo}
use Rattle.protocol.specs.declared.OutgoingContents.{OutgoingContents}
use Rattle.protocol.specs.declared.Outgoing.{Outgoing}
use Rattle.protocol.specs.Message.{is_response, cert_conf, error_kind}
use Rattle.encoding.specs.Element.{element, field, optional, integer}
use Rattle.encoding.specs.Given.{Given}
use Rattle.encoding.specs.Message.{names_bytes, options_bytes, ids_bytes, header_bytes, bit_content, failure_bits, status_bytes, error_bytes, content_bytes, body_bytes, encode}
use Rattle.encoding.specs.Fits.{contents_fit}
use Rattle.encoding.specs.ReadBack.{contents_read, order_of, if_there, GivenBack, ProtectionApart, SameBytesSameOrder}
use Rattle.encoding.proofs.Holds.{some_bytes}
use Rattle.encoding.proofs.Apart.{content-size}
use Rattle.encoding.proofs.Status.{bit-size}
use Rattle.encoding.proofs.WrittenKinds.{Kind, ir, ip, cr, cp, p10cr, kur, kup, pkiconf, error, certconf, kind_of_lem, no_failure}
use Rattle.encoding.proofs.Refusals.{unrefused}
use Rattle.encoding.proofs.Written.{written}

pub protection_apart : ProtectionApart
unfolding header_bytes names_bytes options_bytes ids_bytes body_bytes content_bytes encode field
protection_apart g o p = (
  refl,
  refl,
  append-nil (element 0x30 (header_bytes g o ++ (body_bytes g o ++ [])))
      ∙ ap (λ (b : List ℕ). element 0x30 (header_bytes g o ++ b)) (append-nil (body_bytes g o)),
)

-- ## Elements with the same bytes hold the same

head-is : (tag : ℕ) (v : List ℕ) → tag_ok tag ≡ true → length v < 65536
    → head_of (element tag v) ≡ whole_head tag (length (head_bytes tag (length v))) (length v)
unfolding element
head-is tag v ok few = read_back tag (length v) v ok few (omega arith)

inside_is : (tag : ℕ) (v : List ℕ) → drop (length (head_bytes tag (length v))) (element tag v) ≡ v
unfolding element
inside_is tag v = drop-append_seam (head_bytes tag (length v)) v

same_whole : {r : Head} {x y : Whole} → r ≡ Ok x → r ≡ Ok y → x ≡ y
same_whole e f = cc

element-same : (tag : ℕ) (v w : List ℕ) → tag_ok tag ≡ true → length (element tag v) < 65536 → element tag v ≡ element tag w → v ≡ w
element-same tag v w ok few e =
    let a : ℕ = length (head_bytes tag (length v)) in
    let b : ℕ = length (head_bytes tag (length w)) in
    let hv = head-is tag v ok (content-size tag v few) in
    let hw = head-is tag w ok (content-size tag w (subst (λ (l : List ℕ). length l < 65536) e few)) in
    let starts : a ≡ b = ap (λ (h : Whole). h.start) (same_whole hv (ap head_of e ∙ hw)) in
    sym (inside_is tag v) ∙ ap (λ (l : List ℕ). drop a l) e ∙ ap (λ (n : ℕ). drop n (element tag w)) starts ∙ inside_is tag w

after_same : (x v w : List ℕ) → x ++ v ≡ x ++ w → v ≡ w
after_same x v w e = sym (drop-append_seam x v) ∙ ap (drop (length x)) e ∙ drop-append_seam x w

end_same : (v w : List ℕ) → v ++ [] ≡ w ++ [] → v ≡ w
end_same v w e = sym (append-nil v) ∙ e ∙ append-nil w

-- nothing is no element
not_nothing : (tag : ℕ) (v : List ℕ) → element tag v ++ [] ≡ [] → ⊥
not_nothing tag v e = let n = some_bytes tag v [] in let z : length (element tag v ++ []) ≡ 0 = ap length e in omega arith

-- ## The failure bit

bit-same : (a b : ℕ) → bit_content a ≡ bit_content b → a ≡ b
unfolding bit_content
bit-same a b e =
    let unused : 7 - a % 8 ≡ 7 - b % 8 = ap (λ (l : List ℕ). byte l 0) e in
    let size : length (bit_content a) ≡ length (bit_content b) = ap length e in
    let sa = bit-size a in
    let sb = bit-size b in
    omega arith

optional-same : (f h : FailureInfo) → length (optional 0x03 (failure_bits f)) < 65536
    → optional 0x03 (failure_bits f) ++ [] ≡ optional 0x03 (failure_bits h) ++ [] → f ≡ h
unfolding optional tag_ok
optional-same None None few e = refl
optional-same None (Some b) few e = absurd (not_nothing 0x03 (bit_content b) (sym e))
optional-same (Some a) None few e = absurd (not_nothing 0x03 (bit_content a) e)
optional-same (Some a) (Some b) few e = ap Some (bit-same a b (element-same 0x03 (bit_content a) (bit_content b) refl few (end_same _ _ e)))

error_same : (s : ℕ) (f h : FailureInfo) → length (error_bytes s f) < 65536 → error_bytes s f ≡ error_bytes s h → f ≡ h
unfolding error_bytes status_bytes tag_ok
error_same s f h few e =
    let bits : FailureInfo → List ℕ = λ x. optional 0x03 (failure_bits x) in
    let info : FailureInfo → List ℕ = λ x. integer s ++ (bits x ++ []) in
    let e1 : element 0x30 (info f) ++ [] ≡ element 0x30 (info h) ++ [] = element-same 0x30 _ _ refl few e in
    let few1 : length (element 0x30 (info f)) < 65536 =
    omega (arith, content-size 0x30 (element 0x30 (info f) ++ []) few, length-append (element 0x30 (info f)) []) in
    let e2 : info f ≡ info h = element-same 0x30 (info f) (info h) refl few1 (end_same _ _ e1) in
    let few2 : length (bits f) < 65536 =
    omega (arith, content-size 0x30 (info f) few1, length-append (integer s) (bits f ++ []), length-append (bits f) []) in
    optional-same f h few2 (after_same (integer s) _ _ e2)

-- ## Sizes of what a message holds

pub body-size : (g : Given) (o : Outgoing) → length (body_bytes g o) + length (field 0xA0 0x03 g.protection) ≤ length (encode g o)
unfolding encode element
body-size g o =
    let p : List ℕ = field 0xA0 0x03 g.protection in
    let inside : List ℕ = header_bytes g o ++ (body_bytes g o ++ (p ++ [])) in
    let a = length-append (head_bytes 0x30 (length inside) ++ inside) [] in
    let b = length-append (head_bytes 0x30 (length inside)) inside in
    let c = length-append (header_bytes g o) (body_bytes g o ++ (p ++ [])) in
    let d = length-append (body_bytes g o) (p ++ []) in
    let e = length-append p [] in
    omega arith

pub field-same : (p q : Option (List ℕ)) → length (field 0xA0 0x03 p) < 65536 → if_there p (field 0xA0 0x03 p) ≡ if_there q (field 0xA0 0x03 q)
    → p ≡ q
unfolding field tag_ok
field-same none none few e = refl
field-same none (some w) few e = cc e
field-same (some v) none few e = cc e
field-same (some v) (some w) few e =
    let e0 : element 0xA0 (element 0x03 v ++ []) ≡ element 0xA0 (element 0x03 w ++ []) = cc e in
    let e1 = element-same 0xA0 _ _ refl few e0 in
    let few1 : length (element 0x03 v) < 65536 =
    omega (arith, content-size 0xA0 (element 0x03 v ++ []) few, length-append (element 0x03 v) []) in
    ap some (element-same 0x03 v w refl few1 (end_same _ _ e1))

-- ## The same bytes

-- bodies of one kind and status with the same bytes have the same bit
failure-same : (g g' : Given) (c c' : OutgoingContents) (k : ℕ) → Kind k → contents_fit k c ≡ true → contents_fit k c' ≡ true
    → c.status ≡ c'.status
    → length (element (0xA0 + k) (content_bytes g k c ++ [])) < 65536
    → element (0xA0 + k) (content_bytes g k c ++ []) ≡ element (0xA0 + k) (content_bytes g' k c' ++ []) → c.failure ≡ c'.failure
unfolding contents_fit content_bytes tag_ok
failure-same g g' c c' _ ir f h s few e = no_failure false false false c f ∙ sym (no_failure false false false c' h)
failure-same g g' c c' _ ip f h s few e = no_failure true true false c f ∙ sym (no_failure true true false c' h)
failure-same g g' c c' _ cr f h s few e = no_failure false false false c f ∙ sym (no_failure false false false c' h)
failure-same g g' c c' _ cp f h s few e = no_failure true true false c f ∙ sym (no_failure true true false c' h)
failure-same g g' c c' _ p10cr f h s few e = no_failure false false false c f ∙ sym (no_failure false false false c' h)
failure-same g g' c c' _ kur f h s few e = no_failure false false false c f ∙ sym (no_failure false false false c' h)
failure-same g g' c c' _ kup f h s few e = no_failure true true false c f ∙ sym (no_failure true true false c' h)
failure-same g g' c c' _ pkiconf f h s few e = no_failure false false false c f ∙ sym (no_failure false false false c' h)
failure-same g g' c c' _ certconf f h s few e = no_failure true true true c f ∙ sym (no_failure true true true c' h)
failure-same g g' c c' _ error f h s few e =
    let x : List ℕ = error_bytes c.status c.failure in
    let y : List ℕ = error_bytes c'.status c'.failure in
    let e1 : x ≡ y = end_same x y (element-same 0xB7 (x ++ []) (y ++ []) refl few e) in
    let few1 : length x < 65536 = omega (arith, content-size 0xB7 (x ++ []) few, length-append x []) in
    error_same c.status c.failure c'.failure few1 (e1 ∙ ap (λ (n : ℕ). error_bytes n c'.failure) (sym s))

-- the status that is read does not depend on the bit that is handed in
status_apart : (a b c : Bool) (p q r r' s : OutgoingContents) → r.status ≡ r'.status
    → (cond a p (cond b q (cond c r s))).status ≡ (cond a p (cond b q (cond c r' s))).status
status_apart true b c p q r r' s e = refl
status_apart false true c p q r r' s e = refl
status_apart false false true p q r r' s e = e
status_apart false false false p q r r' s e = refl

module _
    (m : List ℕ) (x : Message) (g g' : Given) (o o' : Outgoing) (order : order_of m x o.contents.failure ≡ o)
    (order' : order_of m x o'.contents.failure ≡ o') (given : GivenBack m g o x) (given' : GivenBack m g' o' x)
    (small : length (body_bytes g o) + length (field 0xA0 0x03 g.protection) < 65536)
  where
    kind-same : o.kind ≡ o'.kind
    unfolding order_of
    kind-same = sym (ap (λ (z : Outgoing). z.kind) order) ∙ ap (λ (z : Outgoing). z.kind) order'

    status-same : o.contents.status ≡ o'.contents.status
    unfolding order_of contents_read
    status-same =
        let k : ℕ = x.body.kind in
        sym (ap (λ (z : Outgoing). z.contents.status) order)
        ∙ status_apart (is_response k) (eqb k cert_conf) (eqb k error_kind) _ _ _ _ _ refl
        ∙ ap (λ (z : Outgoing). z.contents.status) order'

    order_same : contents_fit o.kind o.contents ≡ true → contents_fit o'.kind o'.contents ≡ true → o ≡ o'
    unfolding body_bytes
    order_same f f' =
        let k : ℕ = o.kind in
        let body : body_bytes g o ≡ body_bytes g' o' = sym given.body_span.1 ∙ given'.body_span.1 in
        let there : body_bytes g' o' ≡ element (0xA0 + k) (content_bytes g' k o'.contents ++ []) =
        ap (λ (j : ℕ). element (0xA0 + j) (content_bytes g' j o'.contents ++ [])) (sym kind-same) in
        let fit' : contents_fit k o'.contents ≡ true = ap (λ (j : ℕ). contents_fit j o'.contents) kind-same ∙ f' in
        let bit : o.contents.failure ≡ o'.contents.failure =
        failure-same g g' o.contents o'.contents k (kind_of_lem k o.contents f) f fit' status-same (omega arith) (body ∙ there) in
        sym order ∙ ap (order_of m x) bit ∙ order'

    given-same : g ≡ g'
    given-same =
        let version = sym given.version ∙ given'.version in
        let sender = sym given.sender.1 ∙ given'.sender.1 in
        let recipient = sym given.recipient.1 ∙ given'.recipient.1 in
        let message_time = sym given.message_time ∙ given'.message_time in
        let protection_alg = sym given.protection_alg ∙ given'.protection_alg in
        let sender_kid = sym given.sender_kid ∙ given'.sender_kid in
        let recip_kid = sym given.recip_kid ∙ given'.recip_kid in
        let free_text = sym given.free_text ∙ given'.free_text in
        let general_info = sym given.general_info ∙ given'.general_info in
        let protection = field-same g.protection g'.protection (omega arith) (sym given.protection ∙ given'.protection) in
        let request = sym given.request ∙ given'.request in
        let certificate = sym given.certificate ∙ given'.certificate in
        λ i. record {
          version = version i;
          sender = sender i;
          recipient = recipient i;
          message_time = message_time i;
          protection_alg = protection_alg i;
          sender_kid = sender_kid i;
          recip_kid = recip_kid i;
          free_text = free_text i;
          general_info = general_info i;
          protection = protection i;
          request = request i;
          certificate = certificate i;
        }

-- SAME BYTES: of the same order and the same given parts
pub same_bytes_lem : SameBytesSameOrder
same_bytes_lem inside inside' g g' o o' room room' typed typed' types types' h h' e =
    let u = unrefused inside g o room h in
    let u' = unrefused inside' g' o' room' h' in
    let w = written inside g o room typed types h in
    let w' = written inside' g' o' room' typed' types' h' in
    let m : List ℕ = encode g o in
    let x : Message = w.found in
    let clean : Ok w'.found ≡ Ok x = sym w'.clean ∙ ap reading_of (sym e) ∙ w.clean in
    let found : w'.found ≡ x = cc clean in
    let order' : order_of m x o'.contents.failure ≡ o' =
    subst (λ (y : Message). order_of m y o'.contents.failure ≡ o') found
    (subst (λ (l : List ℕ). order_of l w'.found o'.contents.failure ≡ o') (sym e) w'.order) in
    let given' : GivenBack m g' o' x =
    subst (GivenBack m g' o') found (subst (λ (l : List ℕ). GivenBack l g' o' w'.found) (sym e) w'.given) in
    let small : length (body_bytes g o) + length (field 0xA0 0x03 g.protection) < 65536 = omega (arith, body-size g o, u.short) in (
      given-same m x g g' o o' w.order order' w.given given' small,
      order_same m x g g' o o' w.order order' w.given given' small u.contents u'.contents,
    )
