-- The number of some width at a place of a buffer.
use Rattle.std.specs.Prelude.{◌≡◌, Bool, ◌&&◌, List, ℕ, ◌+◌, ◌<◌, ◌^◌, leb, length, Option, is_some, IfSome}
use Rattle.big_endian.specs.Bytes.{big}
use Rattle.big_endian.specs.Parsing.{Parsed}
use Rattle.big_endian.specs.declared.At.{At}

-- a number has at most so many bytes, and one in 32 bits
abbrev pub longest : ℕ
longest = 8

abbrev pub widest : ℕ
widest = 4

-- the bytes of a number are there, where it has at most so many
abbrev pub stands : ℕ → List ℕ → ℕ → ℕ → Bool
stands most s at w = leb w most && leb (at + w) (length s)

-- a number of w bytes was read at a place: the one whose bytes stand there; or none, where they are not there
pub record ReadWithin (most : ℕ) (s : List ℕ) (at w : ℕ) (r : Option (At ℕ)) : Type 0 where
  pub there : is_some r ≡ stands most s at w
  pub found : IfSome r (λ n. Parsed (λ m. m < 256 ^ w) (big w) s at n.value n.next)

abbrev pub LongRead : List ℕ → ℕ → ℕ → Option (At ℕ) → Type 0
LongRead = ReadWithin longest

abbrev pub NumberRead : List ℕ → ℕ → ℕ → Option (At ℕ) → Type 0
NumberRead = ReadWithin widest
