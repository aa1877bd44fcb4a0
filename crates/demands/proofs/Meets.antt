-- The calls of both interfaces meet the promises of the crates' own calls.
use mathlib.Core.Path.{◌≡◌}
use mathlib.Core.List.{List}
use Prim.Native.Nat.{ℕ}
use Rattle.std.specs.Prelude.{Ok, Err}
use Rattle.region_graph.specs.Calls.{Call}
use Rattle.region_graph.specs.Record.{Valid, meaning}
use Rattle.region_graph.specs.Promise.{Empty, Follows}
use Rattle.region_graph.specs.declared.Graph.{Graph}
use Rattle.region_routes.specs.Hooks.{Outcome, routed, routed_as, kept, kept_as, route_outcome, find_outcome, event_outcome, Routed, Kept}
use Rattle.region_routes.specs.declared.resolver.Candidate.{Candidate}
use Rattle.region_routes.specs.Resolve.{resolve_outcome}
use Rattle.region_routes.specs.declared.Kind.{Kind}
use Rattle.region_archive.specs.Image.{image}
use Rattle.region_archive.specs.Promise.{ReadsOver, archived, written_as, write_questions, write_outcome, Queried, Written}
use Rattle.region_host.specs.CNumbers.{CAnswer, answered, for_c, routed_value, routed_of, kept_value, kept_of, written_value, written_of}
use Rattle.region_host.proofs.Outcomes.{read_off, route_whole, find_whole, event_whole, resolve_whole, image_whole}
use Rattle.region_host.proofs.ReadBack.{routed_back, kept_back, written_back}
use Rattle.region_host.proofs.Given.{route_given, find_given, event_given, resolve_given, write_given}
use Rattle.demands.specs.Interface.{Interface}
use Rattle.demands.specs.ByValue as value
use Rattle.demands.specs.Lent as lent
use Rattle.demands.proofs.Inverse.{read_over_empty, refused_read}

pub record Meets (c : Interface) : Type 0 where
  pub empties : {g : Graph} → c.empties g → Empty g
  pub changes : {g h : Graph} {k : Call} {n : ℕ} → c.changes g k n h → Follows g k (record { graph = h; number = n })
  pub reads : {s : List ℕ} {g h : Graph} {n : ℕ} → c.reads s g n h → ReadsOver g s (record { graph = h; number = n })
  pub writes : {g : Graph} {entry exit : List ℕ} {a : Written} → Valid g → c.writes g entry a exit
      → ◌≡◌ {A = Outcome Written (List ℕ)} (archived a exit) (write_outcome (meaning g) entry)
  pub routes : {g : Graph} {l kind number version : ℕ} {entry exit : List ℕ} {a : Routed} → c.routes g l kind number version entry a exit
      → ◌≡◌ {A = Outcome Routed (List ℕ)} (routed a exit) (route_outcome (meaning g) l kind number version entry)
  pub finds : {g : Graph} {k : Kind} {l : ℕ} {xs entry exit : List ℕ} {a : Kept} → c.finds g k l xs entry a exit
      → ◌≡◌ {A = Outcome Kept (List ℕ)} (kept a exit) (find_outcome (meaning g) k l xs entry)
  pub events : {g : Graph} {k : Kind} {number : ℕ} {xs entry exit : List ℕ} {a : Kept} → c.events g k number xs entry a exit
      → ◌≡◌ {A = Outcome Kept (List ℕ)} (kept a exit) (event_outcome (meaning g) k xs number entry)
  pub resolves : {g : Graph} {l : ℕ} {xs : List Candidate} {entries exits : List (List ℕ)} {a : Kept} → c.resolves g l xs entries a exits
      → ◌≡◌ {A = Outcome Kept (List (List ℕ))} (kept a exits) (resolve_outcome (meaning g) l xs entries)
  pub asks : {s : List ℕ} {l kind number version v : ℕ} → c.asks s l kind number version v → Queried s l kind number version v

-- of the crates' own calls each contract is the promise itself
value_changes : {g h : Graph} {k : Call} {n : ℕ} → value.ValueChange g k n h → Follows g k (record { graph = h; number = n })
value_changes (value.by_add_region κs was is r a p) = p
value_changes (value.by_remove_region κs was is r a p) = p
value_changes (value.by_install κs was is r l b a p) = p
value_changes (value.by_uninstall κs was is l a p) = p
value_changes (value.by_connect κs was is r s f a p) = p
value_changes (value.by_disconnect κs was is r s a p) = p

value_reads : {s : List ℕ} {g h : Graph} {n : ℕ} → value.ValueRead s g n h → ReadsOver g s (record { graph = h; number = n })
value_reads (value.by_read κs bytes g (Ok h) e p) = read_over_empty e p
value_reads (value.by_read κs bytes g (Err refusal) e p) = read_over_empty e (refused_read refusal e p)
value_reads (value.by_read_anew κs was is bytes g a e p) = read_over_empty e p
value_reads (value.by_read_over κs was is bytes a p) = p

value_writes : {g : Graph} {entry exit : List ℕ} {a : Written} → value.ValueWrite g entry a exit
    → ◌≡◌ {A = Outcome Written (List ℕ)} (archived a exit) (write_outcome (meaning g) entry)
value_writes (value.by_write κs g was out a e) = e

value_routes : {g : Graph} {l kind number version : ℕ} {entry exit : List ℕ} {a : Routed} → value.ValueRoute g l kind number version entry a exit
    → ◌≡◌ {A = Outcome Routed (List ℕ)} (routed a exit) (route_outcome (meaning g) l kind number version entry)
value_routes (value.by_route κs g l kind number version was out a e) = e

value_finds : {g : Graph} {k : Kind} {l : ℕ} {xs entry exit : List ℕ} {a : Kept} → value.ValueFind g k l xs entry a exit
    → ◌≡◌ {A = Outcome Kept (List ℕ)} (kept a exit) (find_outcome (meaning g) k l xs entry)
value_finds (value.by_bundle_find κs g l xs was out a e) = e
value_finds (value.by_service_find κs g l xs was out a e) = e

value_events : {g : Graph} {k : Kind} {number : ℕ} {xs entry exit : List ℕ} {a : Kept} → value.ValueEvent g k number xs entry a exit
    → ◌≡◌ {A = Outcome Kept (List ℕ)} (kept a exit) (event_outcome (meaning g) k xs number entry)
value_events (value.by_bundle_event κs g number xs was out a e) = e
value_events (value.by_service_event κs g number xs was out a e) = e

value_resolves : {g : Graph} {l : ℕ} {xs : List Candidate} {entries exits : List (List ℕ)} {a : Kept} → value.ValueResolve g l xs entries a exits
    → ◌≡◌ {A = Outcome Kept (List (List ℕ))} (kept a exits) (resolve_outcome (meaning g) l xs entries)
value_resolves (value.by_resolve κs g l es ns vs was_e was_n was_v out_e out_n out_v a e) = e

value_asks : {s : List ℕ} {l kind number version v : ℕ} → value.ValueAsk s l kind number version v → Queried s l kind number version v
value_asks (value.by_archive_query κs bytes l kind number version a q) = q

pub meets_by_value : Meets value.by_value
meets_by_value =
    record {
      empties = λ e. record { valid = e.valid; model = e.model };
      changes = value_changes;
      reads = value_reads;
      writes = λ v. value_writes;
      routes = value_routes;
      finds = value_finds;
      events = value_events;
      resolves = value_resolves;
      asks = value_asks;
    }

-- on a lent record the answer that C reads in the number is the one that is promised
lent_empties : {g : Graph} → lent.LentEmpty g → Empty g
lent_empties (lent.by_empty κs was is e) = e

lent_changes : {g h : Graph} {k : Call} {n : ℕ} → lent.LentChange g k n h → Follows g k (record { graph = h; number = n })
lent_changes (lent.by_add κs was is r n p) = p
lent_changes (lent.by_remove κs was is r n p) = p
lent_changes (lent.by_install κs was is r l n ps vs ss p) = p
lent_changes (lent.by_uninstall κs was is l n p) = p
lent_changes (lent.by_connect κs was is r s n bs p ps ls hs q ss w) = w
lent_changes (lent.by_disconnect κs was is r s n p) = p

lent_reads : {s : List ℕ} {g h : Graph} {n : ℕ} → lent.LentRead s g n h → ReadsOver g s (record { graph = h; number = n })
lent_reads (lent.by_read κs was is bytes n a) = a

lent_writes : {g : Graph} {entry exit : List ℕ} {a : Written} → Valid g → lent.LentWrite g entry a exit
    → ◌≡◌ {A = Outcome Written (List ℕ)} (archived a exit) (write_outcome (meaning g) entry)
lent_writes v (lent.by_write κs g was out n e) =
    let m = meaning g.now in
    read_off written_as written_value written_of (image_whole (write_questions m was.now) (image m) was.now)
    (written_back _ (write_given m v.good was.now)) e

-- the number that C gets, and what was lent, are those of the outcome
pub c_routes : {g : Graph} {l kind number version v : ℕ} {entry exit : List ℕ} → lent.CRoute g l kind number version entry v exit
    → ◌≡◌ {A = CAnswer (List ℕ)} (answered v exit) (for_c routed_value (route_outcome (meaning g) l kind number version entry))
c_routes (lent.by_route κs g was out l kind number version v e) = e

pub c_finds : {g : Graph} {k : Kind} {l v : ℕ} {xs entry exit : List ℕ} → lent.CFind g k l xs entry v exit
    → ◌≡◌ {A = CAnswer (List ℕ)} (answered v exit) (for_c kept_value (find_outcome (meaning g) k l xs entry))
c_finds (lent.by_bundle_find κs g was xs out l v e) = e
c_finds (lent.by_service_find κs g was xs out l v e) = e

pub c_events : {g : Graph} {k : Kind} {number v : ℕ} {xs entry exit : List ℕ} → lent.CEvent g k number xs entry v exit
    → ◌≡◌ {A = CAnswer (List ℕ)} (answered v exit) (for_c kept_value (event_outcome (meaning g) k xs number entry))
c_events (lent.by_bundle_event κs g was xs out number v e) = e
c_events (lent.by_service_event κs g was xs out number v e) = e

pub c_resolves : {g : Graph} {l v : ℕ} {xs : List Candidate} {entries exits : List (List ℕ)} → lent.CResolve g l xs entries v exits
    → ◌≡◌ {A = CAnswer (List (List ℕ))} (answered v exits) (for_c kept_value (resolve_outcome (meaning g) l xs entries))
c_resolves (lent.by_resolve κs g was_e was_n was_v es ns vs out_e out_n out_v l v e) = e

lent_routes : {g : Graph} {l kind number version : ℕ} {entry exit : List ℕ} {a : Routed} → lent.LentRoute g l kind number version entry a exit
    → ◌≡◌ {A = Outcome Routed (List ℕ)} (routed a exit) (route_outcome (meaning g) l kind number version entry)
lent_routes {g} {l} {kind} {number} {version} {entry} (lent.route_read p) =
    let m = meaning g in
    read_off routed_as routed_value routed_of (route_whole m l kind number version entry) (routed_back _ (route_given m l kind number version entry))
    (c_routes p)

lent_finds : {g : Graph} {k : Kind} {l : ℕ} {xs entry exit : List ℕ} {a : Kept} → lent.LentFind g k l xs entry a exit
    → ◌≡◌ {A = Outcome Kept (List ℕ)} (kept a exit) (find_outcome (meaning g) k l xs entry)
lent_finds {g} {k} {l} {xs} {entry} (lent.find_read f p) =
    let m = meaning g in
    read_off kept_as kept_value kept_of (find_whole m k l xs entry) (kept_back _ (find_given m k l xs entry f)) (c_finds p)

lent_events : {g : Graph} {k : Kind} {number : ℕ} {xs entry exit : List ℕ} {a : Kept} → lent.LentEvent g k number xs entry a exit
    → ◌≡◌ {A = Outcome Kept (List ℕ)} (kept a exit) (event_outcome (meaning g) k xs number entry)
lent_events {g} {k} {number} {xs} {entry} (lent.event_read f p) =
    let m = meaning g in
    read_off kept_as kept_value kept_of (event_whole m k xs number entry) (kept_back _ (event_given m k xs number entry f)) (c_events p)

lent_resolves : {g : Graph} {l : ℕ} {xs : List Candidate} {entries exits : List (List ℕ)} {a : Kept} → lent.LentResolve g l xs entries a exits
    → ◌≡◌ {A = Outcome Kept (List (List ℕ))} (kept a exits) (resolve_outcome (meaning g) l xs entries)
lent_resolves {g} {l} {xs} {entries} (lent.resolve_read f p) =
    let m = meaning g in
    read_off kept_as kept_value kept_of (resolve_whole m l xs entries) (kept_back _ (resolve_given m l xs entries f)) (c_resolves p)

lent_asks : {s : List ℕ} {l kind number version v : ℕ} → lent.LentAsk s l kind number version v → Queried s l kind number version v
lent_asks (lent.by_archive_query κs bytes l kind number version v q) = q

pub meets_lent : Meets lent.lent
meets_lent =
    record {
      empties = lent_empties;
      changes = lent_changes;
      reads = lent_reads;
      writes = lent_writes;
      routes = lent_routes;
      finds = lent_finds;
      events = lent_events;
      resolves = lent_resolves;
      asks = lent_asks;
    }
