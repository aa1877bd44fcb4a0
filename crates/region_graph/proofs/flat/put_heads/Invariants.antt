use Prim.Native.Nat.{◌^◌}
use Rattle.region_graph.proofs.FlatLaws.{HeadsTo}
use Rattle.region_graph.proofs.flat.put_heads.Given as goal

abbrev pub invariant-loop-i : goal.invariant-loop-i
invariant-loop-i l = HeadsTo (2 ^ l.bits) l.codes l.initial.places l.places l.i
