use Rattle.std.proofs.Common.{◌≡◌, ℕ, List, sym, ap, ◌∙◌}
use Rattle.region_graph.specs.Model.{Model}
use Rattle.region_graph.specs.Promise.{holder_set}
use Rattle.region_routes.specs.Hooks.{item}
use Rattle.region_routes.specs.Tables.{NumberTables, everything_number, held_in, step_in, step_or, predecessors_by}
use Rattle.region_routes.proofs.Judging.{reached_sees, none_sees}
use Rattle.region_routes.proofs.TableLaws.{held_table, preceding_table, held_small, preceding_sets}
use Rattle.region_routes.proofs.search.KindTables.regions_seeing.Goals as goal

-- the regions that hold the item
held : {m : Model} {k : ℕ} {offered passing : List ℕ} → NumberTables m k offered passing → (n : ℕ) {sought set : ℕ} → set ≡ held_in offered sought → sought ≡ n
    → set ≡ holder_set m (item k n 0)
held {offered = es} t n h e = h ∙ ap (held_in es) e ∙ held_table t n

-- the predecessors that the entries for all numbers and those of a number give
abbrev preceding : List ℕ → ℕ → List ℕ
preceding es n = predecessors_by (step_or (step_in es everything_number) es n)

pub returns-then-held-eq0 : goal.returns-then-held-eq0
returns-then-held-eq0 c m k t =
    none_sees m (item k c.args.number 0) t.tables.legal (sym (held t c.args.number c.holders-held.ensures c.from-sought.ensures) ∙ c.if-held-eq0.true)

pub search-requires : goal.search-requires
search-requires c =
    let s = c.args.self.now in
    let es = s.passing.table.now in
    let n = c.from-sought.result in (
      rw (c.predecessors-pred.ensures (step_in es everything_number) s.always_value) (preceding_sets (step_or (step_in es everything_number) es n)),
      rw c.holders-held.ensures (held_small s.offered.table.now n),
    )

pub returns : goal.returns
returns c m k t =
    let s = c.args.self.now in
    let es = s.passing.table.now in
    let n = c.args.number in
    let pred = c.predecessors-pred.ensures (step_in es everything_number) s.always_value ∙ ap (preceding es) c.from-sought.ensures ∙ preceding_table t n in
    reached_sees m (item k n 0) t.tables.legal (rw (held t n c.holders-held.ensures c.from-sought.ensures) at (rw pred at c.search.ensures))
