-- Content of primitive elements (document 01, "DER as we take it", point 4): rule 4.
use Rattle.std.specs.Prelude.{ℕ, ◌-◌, ◌%◌, ◌^◌, List, [], ◌∷◌, Bool, true, not, cond, ◌&&◌, ◌||◌, length, ltb, eqb}
use Rattle.der.specs.Head.{byte}

-- BOOLEAN: one byte, 00 or FF (X.690 8.2, 11.1)
unfoldable pub boolean_ok : List ℕ → Bool
boolean_ok c = eqb (length c) 1 && (eqb (byte c 0) 0 || eqb (byte c 0) 255)

-- INTEGER: at least one byte, shortest two's complement, so the first nine bits are not all alike (X.690 8.3.2)
unfoldable pub integer_ok : List ℕ → Bool
integer_ok c =
    not (eqb (length c) 0)
    && (ltb (length c) 2
    || cond (eqb (byte c 0) 0) (not (ltb (byte c 1) 128)) (cond (eqb (byte c 0) 255) (ltb (byte c 1) 128) true))

-- BIT STRING: unused count 0 to 7, 0 if no data follows, unused bits zero (X.690 8.6.2, 11.2.1)
unfoldable pub bit_string_ok : List ℕ → Bool
bit_string_ok c =
    not (eqb (length c) 0)
    && (not (ltb 7 (byte c 0))
    && cond (eqb (length c) 1) (eqb (byte c 0) 0) (eqb (byte c (length c - 1) % 2 ^ byte c 0) 0))

-- the bytes from here on are whole arcs, none beginning 80; `fresh`: an arc begins here
unfoldable pub arcs_ok : Bool → List ℕ → Bool
arcs_ok fresh [] = fresh
arcs_ok fresh (x ∷ c) = not (fresh && eqb x 128) && arcs_ok (ltb x 128) c

-- OBJECT IDENTIFIER: at least one byte, no arc beginning 80, last byte below 80 (X.690 8.19.2)
unfoldable pub oid_ok : List ℕ → Bool
oid_ok c = not (eqb (length c) 0) && arcs_ok true c

-- BOOLEAN 01, INTEGER 02, BIT STRING 03, NULL 05 (empty, X.690 8.8.2), OBJECT IDENTIFIER 06; other primitives are opaque
unfoldable pub content_ok : ℕ → List ℕ → Bool
content_ok tag c =
    cond (eqb tag 1) (boolean_ok c)
    (cond (eqb tag 2) (integer_ok c)
    (cond (eqb tag 3) (bit_string_ok c)
    (cond (eqb tag 5) (eqb (length c) 0)
    (cond (eqb tag 6) (oid_ok c) true))))
