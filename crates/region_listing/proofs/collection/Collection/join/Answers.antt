use mathlib.Core.Path.{◌≡◌, sym, subst}
use native.Mathlib.Omega.{arith}
use Prim.Native.Nat.{◌+◌}
use lib.ListN.{length}
use Rattle.region_graph.specs.Record.{packages_of}
use Rattle.region_graph.specs.Places.{PackagesStored}
use Rattle.region_graph.proofs.Storing.{numbers_column}
use Rattle.region_listing.specs.Counts.{items_in}
use Rattle.region_listing.specs.declared.collection.Collection.{Collection}
use Rattle.region_listing.proofs.Collecting.{stored_at}
use Rattle.region_listing.proofs.Collecting.{Joining, joining_room, joining_left, joining_took}
use Rattle.region_listing.proofs.collection.Collection.join.Goals as goal
use Rattle.region_listing.proofs.collection.Collection.join.Goals.{then-not-has_package, else-not-has_package}

pub loop-i-init : goal.loop-i-init
loop-i-init c =
    let p = c.requires in (
      (numbers_column c.args.list.now p.packages_stored).counted,
      p.packages_stored,
      record { room = p.list_len_bound; inside = omega arith; those = p.collected },
    )

pub bounds-self-n : goal.bounds-self-n
bounds-self-n c = joining_room c.loop-i.invariant.2 (omega (arith, c.loop-i.invariant.0))

pub bounds-self-n-then-not-has_package : goal.bounds-self-n-then-not-has_package
bounds-self-n-then-not-has_package c = joining_room c.loop-i.invariant.2 (omega (arith, c.loop-i.invariant.0))

pub loop-i-preserved : goal.loop-i-preserved
loop-i-preserved c =
    let l = c.loop-i in
    elim c.if-not-has_package.branch [
      | then-not-has_package w ↦
          subst (λ (d : Collection). the-invariant d) (sym w.self-is)
          (l.invariant.0, l.invariant.1, joining_took l.invariant.2 (omega (arith, l.invariant.0)) (stored_at l.invariant.1 l.i (omega arith)) c.has_package.ensures w.if-not-has_package.true)
      | else-not-has_package w ↦
          subst (λ (d : Collection). the-invariant d) (sym w.self-is)
          (l.invariant.0, l.invariant.1, joining_left l.invariant.2 (omega (arith, l.invariant.0)) (stored_at l.invariant.1 l.i (omega arith)) c.has_package.ensures w.if-not-has_package.false)
    ]
  where
    the-invariant : Collection → Type 0
    the-invariant d =
        (c.args.list.now.count ≡ length (packages_of c.args.list.now)) × PackagesStored c.args.list.now
        × Joining (items_in c.args.self.now) (packages_of c.args.list.now) d.numbers d.versions d.count (c.loop-i.i + 1)
