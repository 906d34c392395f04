-- Sizes in 16 bits, as the code counts them: what is longer than an element's content can be counts as the largest.
use Rattle.std.specs.Prelude.{ℕ, min, List, cond, ◌≡◌, length, ltb}

abbrev pub size16 : ℕ → ℕ
size16 n = min n 65535

-- n is the size of x
pub record Size (n : ℕ) (x : List ℕ) : Type 0 where
  pub is : n ≡ size16 (length x)

-- the bytes that tag and length of an element take, by its content's length
abbrev pub head_size : ℕ → ℕ
head_size len = cond (ltb len 128) 2 (cond (ltb len 256) 3 4)
