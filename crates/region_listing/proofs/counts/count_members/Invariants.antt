use Rattle.region_listing.specs.Counts.{CountsFit}
use Rattle.region_listing.proofs.Counting.{Adding}
use Rattle.region_listing.proofs.counts.count_members.Given as goal

abbrev pub invariant-loop-left : goal.invariant-loop-left
invariant-loop-left l = CountsFit l.initial.counts × Adding l.initial.counts l.set l.counts l.left

abbrev pub decreases-loop-left : goal.decreases-loop-left
decreases-loop-left l = l.left
