-- The calls of the crates themselves, by the contracts that the check proved of them.
use Rattle.std.specs.Prelude.{Bool, List, [], ◌∷◌, ℕ, Option, Result, Ok, Err}
use contract.Lifetimes.{Lfts}
use Rattle.std.specs.Borrow.{Bor, MutBor}
use Rattle.region_graph.specs.Refusals.{answer_number}
use Rattle.region_graph.specs.Calls.{Call}
use Rattle.region_graph.specs.Handed.{handed_bundle, handed_connection}
use Rattle.region_graph.specs.declared.Graph.{Graph}
use Rattle.region_graph.specs.declared.refusals.Refusal.{Refusal}
use Rattle.region_graph.specs.declared.bundles.BundleLists.{BundleLists}
use Rattle.region_graph.specs.declared.connections.FilterLists.{FilterLists}
use Rattle.region_graph.proofs.Graph.empty.Reads as empty
use Rattle.region_graph.proofs.Graph.add_region.Reads as add_region
use Rattle.region_graph.proofs.Graph.remove_region.Reads as remove_region
use Rattle.region_graph.proofs.Graph.install.Reads as install
use Rattle.region_graph.proofs.Graph.uninstall.Reads as uninstall
use Rattle.region_graph.proofs.Graph.connect.Reads as connect
use Rattle.region_graph.proofs.Graph.disconnect.Reads as disconnect
use Rattle.region_routes.specs.declared.resolver.Candidate.{Candidate}
use Rattle.region_routes.specs.Resolve.{candidates}
use Rattle.region_routes.specs.declared.Kind.{Kind}
use Rattle.region_routes.specs.Hooks.{Routed, Kept, routed_answer, kept_answer}
use Rattle.region_routes.proofs.route.Reads as route
use Rattle.region_routes.proofs.bundle_find.Reads as bundle_find
use Rattle.region_routes.proofs.service_find.Reads as service_find
use Rattle.region_routes.proofs.bundle_event.Reads as bundle_event
use Rattle.region_routes.proofs.service_event.Reads as service_event
use Rattle.region_routes.proofs.resolve.Reads as resolve
use Rattle.region_archive.specs.Promise.{Written, written_answer, query_number}
use Rattle.region_archive.proofs.read.Reads as read
use Rattle.region_archive.proofs.read_anew.Reads as read_anew
use Rattle.region_archive.proofs.read_over.Reads as read_over
use Rattle.region_archive.proofs.write.Reads as write
use Rattle.region_archive.proofs.archive_query.Reads as archive_query
use Rattle.demands.specs.Interface.{Interface}

-- a changing call on a record, which it leaves changed or as it was
pub data ValueChange : Graph → Call → ℕ → Graph → Type 0 where
  by_add_region : (κs : Lfts 1) (was is : MutBor Graph) (r : ℕ) (a : Result Unit Refusal) → add_region.Learnt κs (was, (r, tt)) a (is, (r, tt))
      → ValueChange was.now (Call.add_region r) (answer_number a) is.now
  by_remove_region : (κs : Lfts 1) (was is : MutBor Graph) (r : ℕ) (a : Result Unit Refusal)
      → remove_region.Learnt κs (was, (r, tt)) a (is, (r, tt)) → ValueChange was.now (Call.remove_region r) (answer_number a) is.now
  by_install : (κs : Lfts 2) (was is : MutBor Graph) (r l : ℕ) (b : BundleLists) (a : Result Unit Refusal)
      → install.Learnt κs (was, (r, (l, (b, tt)))) a (is, (r, (l, (b, tt))))
      → ValueChange was.now (Call.install (handed_bundle r l b)) (answer_number a) is.now
  by_uninstall : (κs : Lfts 1) (was is : MutBor Graph) (l : ℕ) (a : Result Unit Refusal) → uninstall.Learnt κs (was, (l, tt)) a (is, (l, tt))
      → ValueChange was.now (Call.uninstall l) (answer_number a) is.now
  by_connect : (κs : Lfts 2) (was is : MutBor Graph) (r s : ℕ) (f : FilterLists) (a : Result Unit Refusal)
      → connect.Learnt κs (was, (r, (s, (f, tt)))) a (is, (r, (s, (f, tt))))
      → ValueChange was.now (Call.connect (handed_connection r s f)) (answer_number a) is.now
  by_disconnect : (κs : Lfts 1) (was is : MutBor Graph) (r s : ℕ) (a : Result Unit Refusal)
      → disconnect.Learnt κs (was, (r, (s, tt))) a (is, (r, (s, tt))) → ValueChange was.now (Call.disconnect r s) (answer_number a) is.now

-- the record that a read hands back; where it refuses it is the empty one
abbrev pub read_graph : Graph → Result Graph Refusal → Graph
read_graph empty (Ok g) = g
read_graph empty (Err refusal) = empty

-- `read` hands back a record; `read_anew` leaves the lent one changed, and an empty one where it refuses; `read_over` leaves it changed or as it was
pub data ValueRead : List ℕ → Graph → ℕ → Graph → Type 0 where
  by_read : (κs : Lfts 1) (bytes : Bor (List ℕ)) (g : Graph) (a : Result Graph Refusal) → empty.Learnt tt tt g tt
      → read.Learnt κs (bytes, tt) a (bytes, tt)
      → ValueRead bytes.now g (answer_number a) (read_graph g a)
  by_read_anew : (κs : Lfts 2) (was is : MutBor Graph) (bytes : Bor (List ℕ)) (g : Graph) (a : Result Unit Refusal) → empty.Learnt tt tt g tt
      → read_anew.Learnt κs (was, (bytes, tt)) a (is, (bytes, tt))
      → ValueRead bytes.now g (answer_number a) is.now
  by_read_over : (κs : Lfts 2) (was is : MutBor Graph) (bytes : Bor (List ℕ)) (a : Result Unit Refusal)
      → read_over.Learnt κs (was, (bytes, tt)) a (is, (bytes, tt))
      → ValueRead bytes.now was.now (answer_number a) is.now

pub data ValueWrite : Graph → List ℕ → Written → List ℕ → Type 0 where
  by_write : (κs : Lfts 2) (g : Bor Graph) (was out : MutBor (List ℕ)) (a : Result ℕ Refusal) → write.Learnt κs (g, (was, tt)) a (g, (out, tt))
      → ValueWrite g.now was.now (written_answer a) out.now

pub data ValueRoute : Graph → ℕ → ℕ → ℕ → ℕ → List ℕ → Routed → List ℕ → Type 0 where
  by_route : (κs : Lfts 2) (g : Bor Graph) (l kind number version : ℕ) (was out : MutBor (List ℕ)) (a : Result (Option ℕ) Refusal)
      → route.Learnt κs (g, (l, (kind, (number, (version, (was, tt)))))) a (g, (l, (kind, (number, (version, (out, tt))))))
      → ValueRoute g.now l kind number version was.now (routed_answer a) out.now

pub data ValueFind : Graph → Kind → ℕ → List ℕ → List ℕ → Kept → List ℕ → Type 0 where
  by_bundle_find : (κs : Lfts 3) (g : Bor Graph) (l : ℕ) (xs : Bor (List ℕ)) (was out : MutBor (List ℕ)) (a : Result ℕ Refusal)
      → bundle_find.Learnt κs (g, (l, (xs, (was, tt)))) a (g, (l, (xs, (out, tt))))
      → ValueFind g.now Kind.Bundle l xs.now was.now (kept_answer a) out.now
  by_service_find : (κs : Lfts 3) (g : Bor Graph) (l : ℕ) (xs : Bor (List ℕ)) (was out : MutBor (List ℕ)) (a : Result ℕ Refusal)
      → service_find.Learnt κs (g, (l, (xs, (was, tt)))) a (g, (l, (xs, (out, tt))))
      → ValueFind g.now Kind.Service l xs.now was.now (kept_answer a) out.now

pub data ValueEvent : Graph → Kind → ℕ → List ℕ → List ℕ → Kept → List ℕ → Type 0 where
  by_bundle_event : (κs : Lfts 3) (g : Bor Graph) (number : ℕ) (xs : Bor (List ℕ)) (was out : MutBor (List ℕ)) (a : Result ℕ Refusal)
      → bundle_event.Learnt κs (g, (xs, (number, (was, tt)))) a (g, (xs, (number, (out, tt))))
      → ValueEvent g.now Kind.Bundle number xs.now was.now (kept_answer a) out.now
  by_service_event : (κs : Lfts 3) (g : Bor Graph) (number : ℕ) (xs : Bor (List ℕ)) (was out : MutBor (List ℕ)) (a : Result ℕ Refusal)
      → service_event.Learnt κs (g, (xs, (number, (was, tt)))) a (g, (xs, (number, (out, tt))))
      → ValueEvent g.now Kind.Service number xs.now was.now (kept_answer a) out.now

-- exporters, packages and versions have a list each, handed in and lent
pub data ValueResolve : Graph → ℕ → List Candidate → List (List ℕ) → Kept → List (List ℕ) → Type 0 where
  by_resolve : (κs : Lfts 7) (g : Bor Graph) (l : ℕ) (es ns vs : Bor (List ℕ)) (was_e was_n was_v out_e out_n out_v : MutBor (List ℕ))
      (a : Result ℕ Refusal)
      → resolve.Learnt κs (g, (l, (es, (ns, (vs, (was_e, (was_n, (was_v, tt)))))))) a (g, (l, (es, (ns, (vs, (out_e, (out_n, (out_v, tt))))))))
      → ValueResolve g.now l (candidates es.now ns.now vs.now) (was_e.now ∷ was_n.now ∷ was_v.now ∷ []) (kept_answer a)
      (out_e.now ∷ out_n.now ∷ out_v.now ∷ [])

pub data ValueAsk : List ℕ → ℕ → ℕ → ℕ → ℕ → ℕ → Type 0 where
  by_archive_query : (κs : Lfts 1) (bytes : Bor (List ℕ)) (l kind number version : ℕ) (a : Result Bool Refusal)
      → archive_query.Learnt κs (bytes, (l, (kind, (number, (version, tt))))) a (bytes, (l, (kind, (number, (version, tt)))))
      → ValueAsk bytes.now l kind number version (query_number a)

abbrev pub by_value : Interface
by_value =
    record {
      empties = λ g. empty.Learnt tt tt g tt;
      changes = ValueChange;
      reads = ValueRead;
      writes = ValueWrite;
      routes = ValueRoute;
      finds = ValueFind;
      events = ValueEvent;
      resolves = ValueResolve;
      asks = ValueAsk;
    }
