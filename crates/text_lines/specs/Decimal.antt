-- Numbers as decimal text, and what stands after one.
use Rattle.std.specs.Prelude.{List, [], ◌∷◌, ◌++◌, ℕ, zero, suc, ◌+◌, ◌/◌, ◌%◌, ◌^◌, ltb}
use Rattle.region_graph.specs.Lists.{pick}

-- how many digits a number has, k of them at most
abbrev pub digit_count : ℕ → ℕ → ℕ
digit_count zero n = 0
digit_count (suc k) n = pick (ltb n 10) 1 (suc (digit_count k (n / 10)))

-- the text byte of a digit
abbrev pub digit : ℕ → ℕ
digit n = n + 48

-- the last w digits of a number, the highest first
abbrev pub last_digits : ℕ → ℕ → List ℕ
last_digits zero n = []
last_digits (suc w) n = digit (n / 10 ^ w % 10) ∷ last_digits w n

-- the most digits of a number of 32 bits
abbrev pub most_digits : ℕ
most_digits = 10

-- a number of 32 bits as text
unfoldable pub decimal : ℕ → List ℕ
decimal n = last_digits (digit_count most_digits n) n

-- the text bytes between numbers, and at the end of a line
abbrev pub space : ℕ
space = 32

abbrev pub newline : ℕ
newline = 10

-- a number, and the byte after it
abbrev pub decimal_field : ℕ → ℕ → List ℕ
decimal_field n end = decimal n ++ (end ∷ [])
