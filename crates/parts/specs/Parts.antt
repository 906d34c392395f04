-- What the code of both ends copies of a message: an id or a nonce.
use Rattle.std.specs.Prelude.{ℕ, List, cond, length, eqb}
use Rattle.protocol.specs.Bytes.{zeros}

-- sixteen bytes; zeros where there are not exactly so many
abbrev pub sixteen_of : List ℕ → List ℕ
sixteen_of xs = cond (eqb (length xs) 16) xs (zeros 16)
