use mathlib.Core.Path.{refl}
use native.Mathlib.Omega.{arith}
use borrow.Author.Tests.{le-leb, lt-leb}
use Rattle.region_graph.specs.Model.{ordered}
use Rattle.region_graph.specs.Handed.{entry_list}
use Rattle.region_graph.proofs.Lists.{every_stop, every_later, every_end}
use Rattle.region_graph.proofs.Columns.{no_range, entries_within, entries_at}
use Rattle.region_graph.proofs.packages.EntryList.ordered.Goals as goal

pub loop-i-init : goal.loop-i-init
loop-i-init c = let s = c.args.self in (entries_within s.numbers.now s.lowest.now s.highest.now c.count-i-end.ensures, refl)

pub returns-then-self-i : goal.returns-then-self-i
returns-then-self-i c =
    let l = c.loop-i in
    let s = c.args.self in
    every_stop ordered (entry_list s) l.i no_range (omega arith) l.invariant.1
    (rw (entries_at s.numbers.now s.lowest.now s.highest.now l.i (omega arith)) (lt-leb _ _ c.if-self-i.true))

pub loop-i-preserved : goal.loop-i-preserved
loop-i-preserved c =
    let l = c.loop-i in
    let s = c.args.self in (
      l.invariant.0,
      every_later ordered (entry_list s) l.i no_range (omega arith) l.invariant.1
          (rw (entries_at s.numbers.now s.lowest.now s.highest.now l.i (omega arith)) (le-leb _ _ c.if-self-i.false)),
    )

pub returns : goal.returns
returns c = every_end ordered (entry_list c.args.self) c.loop-i.i c.loop-i.invariant.1 (omega arith)
