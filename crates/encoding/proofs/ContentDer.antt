-- What a body holds is DER, by its kind.
use Rattle.std.specs.Prelude.{Some, None}
use Prim.Native.Nat.{ℕ, suc, ◌<◌}
use mathlib.Core.Path.{refl}
use mathlib.Core.List.{List, [], ◌++◌}
use mathlib.Core.Bool.{Bool, true, false, cond}
use mathlib.Core.Option.{Option, none, some}
use lib.Dec.{eqb}
use Rattle.der.specs.Head.{tag_ok}
use Rattle.der.specs.Content.{content_ok}
use Rattle.der.specs.Element.{form_ok}
use Rattle.protocol.specs.Types.{FailureInfo}
use Rattle.encoding.specs.Element.{element, integer, optional}
use Rattle.encoding.specs.Message.{bit_content, failure_bits, status_bytes, requests_bytes, key_pair_bytes, responses_bytes, confirmations_bytes, error_bytes}
use Rattle.encoding.proofs.Sound.{Whole-element, Sounds, none_sounds, node_sounds, leaf_sounds, given_sounds}
use Rattle.encoding.proofs.Der.{If, integer_sounds}
use Rattle.encoding.proofs.Integer.{integer_ok_lem}
use Rattle.encoding.proofs.Status.{bit_ok}

-- a number of 32 bits
number_sounds : (d n : ℕ) (rest : List ℕ) → n < 4294967296 → Sounds (suc d) rest → Sounds (suc d) (integer n ++ rest)
number_sounds d n rest word = integer_sounds d n rest (integer_ok_lem n word)

bits_sound : (d : ℕ) (f : FailureInfo) → Sounds (suc d) (optional 0x03 (failure_bits f) ++ [])
unfolding optional tag_ok form_ok content_ok
bits_sound d None = none_sounds (suc d)
bits_sound d (Some b) = leaf_sounds d 0x03 (bit_content b) [] refl refl refl (bit_ok b) (none_sounds (suc d))

status_sounds : (d s : ℕ) (f : FailureInfo) (rest : List ℕ) → s < 4294967296 → Sounds (suc (suc d)) rest
    → Sounds (suc (suc d)) (status_bytes s (failure_bits f) ++ rest)
unfolding status_bytes tag_ok form_ok
status_sounds d s f rest word after =
    node_sounds (suc d) 0x30 (integer s ++ (optional 0x03 (failure_bits f) ++ [])) rest refl refl refl
    (number_sounds d s _ word (bits_sound d f)) after

-- a certConf's status 0 is left out
maybe_sounds : (s : ℕ) → s < 4294967296 → (b : Bool) → Sounds 12 (cond b [] (status_bytes s none) ++ [])
maybe_sounds s word true = none_sounds 12
maybe_sounds s word false = status_sounds 10 s None [] word (none_sounds 12)

pub confirmations_sound : (h : List ℕ) (n s : ℕ) → n < 4294967296 → s < 4294967296 → Sounds 14 (confirmations_bytes h n s ++ [])
unfolding confirmations_bytes tag_ok form_ok content_ok
confirmations_sound h n s wn ws =
    let inside : List ℕ = element 0x04 h ++ (integer n ++ (cond (eqb s 0) [] (status_bytes s none) ++ [])) in
    node_sounds 13 0x30 (element 0x30 inside ++ []) [] refl refl refl
    (node_sounds 12 0x30 inside [] refl refl refl
    (leaf_sounds 11 0x04 h _ refl refl refl refl (number_sounds 11 n _ wn (maybe_sounds s ws (eqb s 0))))
    (none_sounds 13)) (none_sounds 14)

pub error_sounds : (s : ℕ) (f : FailureInfo) → s < 4294967296 → Sounds 14 (error_bytes s f ++ [])
unfolding error_bytes tag_ok form_ok
error_sounds s f word =
    node_sounds 13 0x30 (status_bytes s (failure_bits f) ++ []) [] refl refl refl (status_sounds 11 s f [] word (none_sounds 13))
    (none_sounds 14)

key_pair_sounds : (e : Option (List ℕ)) → If (Whole-element 8) e → Sounds 11 (key_pair_bytes e ++ [])
unfolding If key_pair_bytes tag_ok form_ok
key_pair_sounds none q = none_sounds 11
key_pair_sounds (some e) q =
    node_sounds 10 0x30 (element 0xA0 (e ++ []) ++ []) [] refl refl refl
    (node_sounds 9 0xA0 (e ++ []) [] refl refl refl (given_sounds 8 [] q (none_sounds 9)) (none_sounds 10))
    (none_sounds 11)

pub responses_sound : (n s : ℕ) (e : Option (List ℕ)) → n < 4294967296 → s < 4294967296 → If (Whole-element 8) e
    → Sounds 14 (responses_bytes n s e ++ [])
unfolding responses_bytes tag_ok form_ok
responses_sound n s e wn ws q =
    let inside : List ℕ = integer n ++ (status_bytes s none ++ (key_pair_bytes e ++ [])) in
    node_sounds 13 0x30 (element 0x30 (element 0x30 inside ++ []) ++ []) [] refl refl refl
    (node_sounds 12 0x30 (element 0x30 inside ++ []) [] refl refl refl
    (node_sounds 11 0x30 inside [] refl refl refl
    (number_sounds 10 n _ wn (status_sounds 9 s None (key_pair_bytes e ++ []) ws (key_pair_sounds e q)))
    (none_sounds 12)) (none_sounds 13)) (none_sounds 14)

pub requests_sound : (e : List ℕ) → Whole-element 12 e → Sounds 14 (requests_bytes e ++ [])
unfolding requests_bytes tag_ok form_ok
requests_sound e w = node_sounds 13 0x30 (e ++ []) [] refl refl refl (given_sounds 12 [] w (none_sounds 13)) (none_sounds 14)

pub null_sounds : Sounds 14 (element 0x05 [] ++ [])
unfolding tag_ok form_ok content_ok
null_sounds = leaf_sounds 13 0x05 [] [] refl refl refl refl (none_sounds 14)
