use Rattle.std.proofs.Common.{◌≡◌, ℕ, Bool, List, sym, ap, ◌∙◌, rules}
use Rattle.region_graph.specs.Model.{Model, Legal}
use Rattle.region_graph.specs.Record.{meaning}
use Rattle.region_routes.specs.Hooks.{item, kind_number, kept_outcome, all_installed}
use Rattle.region_routes.specs.Tables.{place_at, all_placed, stands_in, offers}
use Rattle.region_routes.proofs.TableLaws.{place_table, placed_installed}
use Rattle.region_routes.proofs.Judging.{keep_stands}
use Rattle.region_routes.proofs.Answering.{event_not_installed, event_no_place, event_answers}
use Rattle.region_routes.proofs.hooks.event.Goals as goal

-- whether every listener is installed
asked : {m : Model} {es : List ℕ} (ls : List ℕ) {r b : Bool} → Legal m → es ≡ offers 0 m.bundles → r ≡ all_placed (place_at es) ls → r ≡ b
    → all_installed m ls ≡ b
asked {m} ls h e k t = sym (k ∙ placed_installed m (place_table h e) ls) ∙ t

pub returns-then-not-all_placed : goal.returns-then-not-all_placed
returns-then-not-all_placed c =
    let s = c.args in
    event_not_installed (meaning s.graph.now) s.kind s.listeners.now s.number s.out.now
    (asked s.listeners.now c.requires.good (c.of-bundles.ensures ∙ c.entries.ensures.0 ∙ c.put_offers.ensures) c.all_placed.ensures c.if-not-all_placed.true)

pub returns-then-out-listeners : goal.returns-then-out-listeners
returns-then-out-listeners c =
    let s = c.args in
    event_no_place (meaning s.graph.now) s.kind s.listeners.now s.number s.out.now
    (asked s.listeners.now c.requires.good (c.of-bundles.ensures ∙ c.entries.ensures.0 ∙ c.put_offers.ensures) c.all_placed.ensures c.if-not-all_placed.false)
    c.if-out-listeners.true

pub returns : goal.returns
returns c =
    let s = c.args in
    let m = meaning s.graph.now in
    event_answers m s.kind s.listeners.now s.number s.out.now
    (asked s.listeners.now c.requires.good (c.of-bundles.ensures ∙ c.entries.ensures.0 ∙ c.put_offers.ensures) c.all_placed.ensures c.if-not-all_placed.false)
    c.if-out-listeners.false
    (c.keep_where-written.ensures (λ l. stands_in c.regions_seeing-seeing.result (place_at _ l)) (λ n answer fits h. search rules)
    ∙ ap (λ (ls : List ℕ). kept_outcome ls s.out.now)
    (keep_stands m (item (kind_number s.kind) s.number 0) c.requires.good (rw c.item.ensures at c.regions_seeing-seeing.ensures)
    (place_table c.requires.good (c.of-bundles.ensures ∙ c.entries.ensures.0 ∙ c.put_offers.ensures)) s.listeners.now))
