use Rattle.std.proofs.Common.{◌<◌, ◌^◌, ◌≡◌, take}
use Rattle.big_endian.specs.Bytes.{big}
use Rattle.big_endian.proofs.number_of.Given as goal

abbrev pub invariant-loop-byte : goal.invariant-loop-byte
invariant-loop-byte l = (l.number < 256 ^ l.byte-index) × (big l.byte-index l.number ≡ take l.byte-index l.bytes)
