use Prim.Native.Nat.{◌^◌}
use Rattle.region_graph.specs.Decoded.{tail_from}
use Rattle.region_graph.proofs.Arrays.{Making}
use Rattle.region_graph.proofs.flat.put_tails.Given as goal

abbrev pub invariant-loop-i : goal.invariant-loop-i
invariant-loop-i l = Making (tail_from (2 ^ l.bits)) l.codes l.initial.places l.places l.i
