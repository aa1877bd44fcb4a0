-- A number that was read at a place, as what stands there.
use mathlib.Core.Path.{refl, sym, ◌∙◌}
use mathlib.Core.List.{List}
use Prim.Native.Nat.{ℕ, ◌+◌, ◌-◌, ◌^◌, ◌≤◌, ◌<◌}
use native.Mathlib.Omega.{arith}
use borrow.Author.Tests.{le-leb, leb-false}
use lib.ListN.{length}
use Rattle.std.specs.Prelude.{None}
use Rattle.region_graph.proofs.Lists.{false_true, and_yes}
use Rattle.big_endian.specs.Bytes.{big}
use Rattle.big_endian.specs.Parsing.{Unparsed}
use Rattle.big_endian.specs.Numbers.{ReadWithin}
use Rattle.big_endian.proofs.Digits.{big_length}
use Rattle.big_endian.proofs.Delimits.{unparsed_short}

module _ {most : ℕ} {s : List ℕ} {at w : ℕ} (small : w ≤ most) (a : ReadWithin most s at w None) where
  -- where none was read, none stands there
  pub no_number : at ≤ length s → Unparsed (λ m. m < 256 ^ w) (big w) s at
  no_number h = unparsed_short (λ m. m < 256 ^ w) (big w) w (λ m. omega (arith, big_length w m)) s at short
    where
      short : length s - at < w
      short = omega (arith, leb-false (at + w) (length s) (sym (rw (le-leb w most small) refl) ∙ sym a.there))

  -- and its bytes are not there
  pub bytes_missing : at + w ≤ length s → ⊥
  bytes_missing h = false_true (a.there ∙ and_yes (le-leb w most small) (le-leb (at + w) (length s) h))
