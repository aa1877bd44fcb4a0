use Rattle.std.specs.Prelude.{Option}
use mathlib.Core.Path.{◌≡◌, ap₂}
use Rattle.std.proofs.Common.{ℕ, ◌<◌, Bool, List, refl, sym, ap, ◌∙◌, rules}
use Rattle.region_graph.specs.Model.{Model}
use Rattle.region_graph.specs.Sets.{singleton}
use Rattle.region_graph.specs.Promise.{provider_place}
use Rattle.region_routes.specs.Hooks.{item}
use Rattle.region_routes.specs.Resolve.{package_of, reaches, offered_at}
use Rattle.region_routes.specs.Tables.{ExportTables, width, packed, everything_number, place_beside, step_in, step_or_between, predecessors_by}
use Rattle.region_routes.proofs.Judging.{provider_inside, reached_reaches}
use Rattle.region_routes.proofs.Keeping.{has_by}
use Rattle.region_routes.proofs.TableLaws.{preceding_sets}
use Rattle.region_routes.proofs.PackageTables.{beside_table, between_table}
use Rattle.region_routes.proofs.resolver.PackageTables.offers.Goals as goal

module _ {m : Model} {exported owned passing spanned : List ℕ} (t : ExportTables m exported owned passing spanned) where
  -- the place is that of the exporter of the package
  provided : (e n v : ℕ) {owner sought : ℕ} {p q : Option ℕ} → p ≡ place_beside exported owned owner sought → v < width → owner ≡ packed e v → sought ≡ n
      → p ≡ q → provider_place m.bundles e (item 1 n v) ≡ q
  provided e n v h low f g k = sym (h ∙ ap₂ (place_beside exported owned) f g ∙ beside_table t e v n low) ∙ k

-- the steps that the entries for all numbers and those of a number give
abbrev steps : List ℕ → List ℕ → ℕ → ℕ → ℕ → ℕ → Bool
steps passing spanned version n = step_or_between (step_in passing everything_number) passing spanned n version

pub returns-in-None : goal.returns-in-None
returns-in-None c m t =
    let x = c.args.candidate in
    ap (offered_at m x c.args.region)
    (sym (provided t x.exporter x.number x.version c.place_beside.ensures (search rules) c.owner_number-owner.ensures c.from-sought.ensures c.in-None.is))

pub search-requires : goal.search-requires
search-requires c =
    let s = c.args.self.now in
    let e = c.predecessors_between-pred.ensures (step_in s.passing.table.now everything_number) s.always_value in
    (rw e (preceding_sets (steps s.passing.table.now s.spans.now c.args.candidate.version c.from-sought.result)), search rules)

-- a route ends in the exporter's region
pub returns-in-Some : goal.returns-in-Some
returns-in-Some c m t =
    let s = c.args.self.now in
    let x = c.args.candidate in
    let home = c.in-Some.home in
    let wanted = package_of x in
    let pred = c.predecessors_between-pred.ensures (step_in s.passing.table.now everything_number) s.always_value
    ∙ ap (λ (n : ℕ). predecessors_by (steps s.passing.table.now s.spans.now x.version n)) c.from-sought.ensures
    ∙ between_table t x.number x.version in
    let e = provided t x.exporter x.number x.version c.place_beside.ensures (search rules) c.owner_number-owner.ensures c.from-sought.ensures c.in-Some.is in
    let alone : c.singleton.result ≡ singleton home = search (rules, c.singleton.ensures) in
    sym (has_by (reaches m wanted home) c.args.region
    (reached_reaches m wanted t.tables.legal home (provider_inside m t.tables.legal x.exporter wanted e) (rw alone at (rw pred at c.search.ensures)))
    c.requires c.has.ensures refl)
    ∙ ap (offered_at m x c.args.region) (sym e)
