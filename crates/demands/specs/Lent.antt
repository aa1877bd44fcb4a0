-- The calls on a lent record, by the contracts that the check proved of them: the record at entry and at exit, and of a query the answer
-- that C reads in the number that it gets.
use Rattle.std.specs.Prelude.{List, [], ◌∷◌, ℕ, length}
use contract.Lifetimes.{Lfts}
use Rattle.std.specs.Borrow.{Bor, MutBor}
use Rattle.region_graph.specs.Model.{packages, entries}
use Rattle.region_graph.specs.Calls.{Call}
use Rattle.region_graph.specs.Promise.{new_bundle, new_connection}
use Rattle.region_graph.specs.declared.Graph.{Graph}
use Rattle.region_graph.specs.declared.bundles.StoredBundle.{StoredBundle}
use Rattle.region_graph.specs.declared.connections.StoredConnection.{StoredConnection}
use Rattle.region_routes.specs.declared.resolver.Candidate.{Candidate}
use Rattle.region_routes.specs.Resolve.{candidates}
use Rattle.region_routes.specs.declared.Kind.{Kind}
use Rattle.region_routes.specs.Hooks.{Routed, Kept}
use Rattle.region_archive.specs.Promise.{Written}
use Rattle.region_host.specs.CFlags.{passes_all}
use Rattle.region_host.specs.CNumbers.{routed_of, kept_of, written_of, CountFits}
use Rattle.region_host.proofs.region_empty_v5.Reads as empty
use Rattle.region_host.proofs.region_add.Reads as add
use Rattle.region_host.proofs.region_remove.Reads as remove
use Rattle.region_host.proofs.region_install_v4.Reads as install
use Rattle.region_host.proofs.region_uninstall.Reads as uninstall
use Rattle.region_host.proofs.region_connect_v5.Reads as connect
use Rattle.region_host.proofs.region_disconnect.Reads as disconnect
use Rattle.region_host.proofs.region_read.Reads as read
use Rattle.region_host.proofs.region_write.Reads as write
use Rattle.region_host.proofs.region_route_v4.Reads as route
use Rattle.region_host.proofs.region_bundle_find.Reads as bundle_find
use Rattle.region_host.proofs.region_service_find.Reads as service_find
use Rattle.region_host.proofs.region_bundle_event.Reads as bundle_event
use Rattle.region_host.proofs.region_service_event.Reads as service_event
use Rattle.region_host.proofs.region_resolve_v4.Reads as resolve
use Rattle.region_host.proofs.region_archive_query.Reads as archive_query
use Rattle.region_host.proofs.region_set.Reads as region_set
use Rattle.region_host.proofs.region_bundle_count.Reads as bundle_count
use Rattle.region_host.proofs.region_connection_count.Reads as connection_count
use Rattle.region_host.proofs.region_of.Reads as region_of
use Rattle.region_host.proofs.region_bundle_at.Reads as bundle_at
use Rattle.region_host.proofs.region_connection_at.Reads as connection_at
use Rattle.region_host.proofs.region_image_length.Reads as image_length
use Rattle.demands.specs.Interface.{Interface}

abbrev Slice : Type 0
Slice = Bor (List ℕ)

-- what is written
abbrev Buffer : Type 0
Buffer = MutBor (List ℕ)

pub data LentChange : Graph → Call → ℕ → Graph → Type 0 where
  by_add : (κs : Lfts 1) (was is : MutBor Graph) (r n : ℕ) → add.Learnt κs (was, (r, tt)) n (is, (r, tt))
      → LentChange was.now (Call.add_region r) n is.now
  by_remove : (κs : Lfts 1) (was is : MutBor Graph) (r n : ℕ) → remove.Learnt κs (was, (r, tt)) n (is, (r, tt))
      → LentChange was.now (Call.remove_region r) n is.now
  by_install : (κs : Lfts 4) (was is : MutBor Graph) (r l n : ℕ) (ps vs ss : Slice)
      → install.Learnt κs (was, (r, (l, (ps, (vs, (ss, tt)))))) n (is, (r, (l, (ps, (vs, (ss, tt))))))
      → LentChange was.now (Call.install (new_bundle r l (packages ps.now vs.now) ss.now)) n is.now
  by_uninstall : (κs : Lfts 1) (was is : MutBor Graph) (l n : ℕ) → uninstall.Learnt κs (was, (l, tt)) n (is, (l, tt))
      → LentChange was.now (Call.uninstall l) n is.now
  by_connect : (κs : Lfts 6) (was is : MutBor Graph) (r s n : ℕ) (bs : Slice) (p : ℕ) (ps ls hs : Slice) (q : ℕ) (ss : Slice)
      → connect.Learnt κs (was, (r, (s, (bs, (p, (ps, (ls, (hs, (q, (ss, tt)))))))))) n
      (is, (r, (s, (bs, (p, (ps, (ls, (hs, (q, (ss, tt))))))))))
      → LentChange was.now (Call.connect (new_connection r s bs.now (passes_all p) (entries ps.now ls.now hs.now) (passes_all q) ss.now)) n is.now
  by_disconnect : (κs : Lfts 1) (was is : MutBor Graph) (r s n : ℕ) → disconnect.Learnt κs (was, (r, (s, tt))) n (is, (r, (s, tt)))
      → LentChange was.now (Call.disconnect r s) n is.now

-- a refused read leaves the lent record as it was
pub data LentRead : List ℕ → Graph → ℕ → Graph → Type 0 where
  by_read : (κs : Lfts 2) (was is : MutBor Graph) (bytes : Slice) (n : ℕ) → read.Learnt κs (was, (bytes, tt)) n (is, (bytes, tt))
      → LentRead bytes.now was.now n is.now

-- of a write, the answer is what C reads in the number v
pub data LentWrite : Graph → List ℕ → Written → List ℕ → Type 0 where
  by_write : (κs : Lfts 2) (g : Bor Graph) (was out : Buffer) (v : ℕ) → write.Learnt κs (g, (was, tt)) v (g, (out, tt))
      → LentWrite g.now was.now (written_of v) out.now

-- the number that C gets for a route call, a find, an event or resolve
pub data CRoute : Graph → ℕ → ℕ → ℕ → ℕ → List ℕ → ℕ → List ℕ → Type 0 where
  by_route : (κs : Lfts 2) (g : Bor Graph) (was out : Buffer) (l kind number version v : ℕ)
      → route.Learnt κs (g, (was, (l, (kind, (number, (version, tt)))))) v (g, (out, (l, (kind, (number, (version, tt))))))
      → CRoute g.now l kind number version was.now v out.now

pub data CFind : Graph → Kind → ℕ → List ℕ → List ℕ → ℕ → List ℕ → Type 0 where
  by_bundle_find : (κs : Lfts 3) (g : Bor Graph) (was : Buffer) (xs : Slice) (out : Buffer) (l v : ℕ)
      → bundle_find.Learnt κs (g, (was, (l, (xs, tt)))) v (g, (out, (l, (xs, tt))))
      → CFind g.now Kind.Bundle l xs.now was.now v out.now
  by_service_find : (κs : Lfts 3) (g : Bor Graph) (was : Buffer) (xs : Slice) (out : Buffer) (l v : ℕ)
      → service_find.Learnt κs (g, (was, (l, (xs, tt)))) v (g, (out, (l, (xs, tt))))
      → CFind g.now Kind.Service l xs.now was.now v out.now

pub data CEvent : Graph → Kind → ℕ → List ℕ → List ℕ → ℕ → List ℕ → Type 0 where
  by_bundle_event : (κs : Lfts 3) (g : Bor Graph) (was : Buffer) (xs : Slice) (out : Buffer) (number v : ℕ)
      → bundle_event.Learnt κs (g, (was, (xs, (number, tt)))) v (g, (out, (xs, (number, tt))))
      → CEvent g.now Kind.Bundle number xs.now was.now v out.now
  by_service_event : (κs : Lfts 3) (g : Bor Graph) (was : Buffer) (xs : Slice) (out : Buffer) (number v : ℕ)
      → service_event.Learnt κs (g, (was, (xs, (number, tt)))) v (g, (out, (xs, (number, tt))))
      → CEvent g.now Kind.Service number xs.now was.now v out.now

pub data CResolve : Graph → ℕ → List Candidate → List (List ℕ) → ℕ → List (List ℕ) → Type 0 where
  by_resolve : (κs : Lfts 7) (g : Bor Graph) (was_e was_n was_v : Buffer) (es ns vs : Slice) (out_e out_n out_v : Buffer) (l v : ℕ)
      → resolve.Learnt κs (g, (was_e, (was_n, (was_v, (l, (es, (ns, (vs, tt)))))))) v
      (g, (out_e, (out_n, (out_v, (l, (es, (ns, (vs, tt))))))))
      → CResolve g.now l (candidates es.now ns.now vs.now) (was_e.now ∷ was_n.now ∷ was_v.now ∷ []) v
      (out_e.now ∷ out_n.now ∷ out_v.now ∷ [])

-- the answer that C reads in it
pub data LentRoute (g : Graph) (l kind number version : ℕ) (entry : List ℕ) : Routed → List ℕ → Type 0 where
  route_read : {v : ℕ} {exit : List ℕ} → CRoute g l kind number version entry v exit
      → LentRoute g l kind number version entry (routed_of v) exit

-- a list in memory has fewer than 2^63 numbers, so that a count is not read as a number below zero
pub data LentFind (g : Graph) (k : Kind) (l : ℕ) (xs entry : List ℕ) : Kept → List ℕ → Type 0 where
  find_read : {v : ℕ} {exit : List ℕ} → CountFits (length xs) → CFind g k l xs entry v exit → LentFind g k l xs entry (kept_of v) exit

pub data LentEvent (g : Graph) (k : Kind) (number : ℕ) (xs entry : List ℕ) : Kept → List ℕ → Type 0 where
  event_read : {v : ℕ} {exit : List ℕ} → CountFits (length xs)
      → CEvent g k number xs entry v exit → LentEvent g k number xs entry (kept_of v) exit

pub data LentResolve (g : Graph) (l : ℕ) (xs : List Candidate) (entries : List (List ℕ)) : Kept → List (List ℕ) → Type 0 where
  resolve_read : {v : ℕ} {exits : List (List ℕ)} → CountFits (length xs)
      → CResolve g l xs entries v exits → LentResolve g l xs entries (kept_of v) exits

-- the archive query takes no record
pub data LentAsk : List ℕ → ℕ → ℕ → ℕ → ℕ → ℕ → Type 0 where
  by_archive_query : (κs : Lfts 1) (bytes : Slice) (l kind number version v : ℕ)
      → archive_query.Learnt κs (bytes, (l, (kind, (number, (version, tt))))) v (bytes, (l, (kind, (number, (version, tt)))))
      → LentAsk bytes.now l kind number version v

-- what C gets of what a record holds: the set of regions, the counts, the region of a location, the bundle and the connection at an index with
-- the struct before and after, and the length of the image
pub data CSet : Graph → ℕ → Type 0 where
  by_set : (κs : Lfts 1) (g : Bor Graph) (v : ℕ) → region_set.Learnt κs (g, tt) v (g, tt) → CSet g.now v

pub data CBundleCount : Graph → ℕ → Type 0 where
  by_bundle_count : (κs : Lfts 1) (g : Bor Graph) (v : ℕ) → bundle_count.Learnt κs (g, tt) v (g, tt) → CBundleCount g.now v

pub data CConnectionCount : Graph → ℕ → Type 0 where
  by_connection_count : (κs : Lfts 1) (g : Bor Graph) (v : ℕ) → connection_count.Learnt κs (g, tt) v (g, tt) → CConnectionCount g.now v

pub data CRegionOf : Graph → ℕ → ℕ → Type 0 where
  by_region_of : (κs : Lfts 1) (g : Bor Graph) (l v : ℕ) → region_of.Learnt κs (g, (l, tt)) v (g, (l, tt)) → CRegionOf g.now l v

pub data CBundleAt : Graph → ℕ → StoredBundle → ℕ → StoredBundle → Type 0 where
  by_bundle_at : (κs : Lfts 2) (g : Bor Graph) (was is : MutBor StoredBundle) (i v : ℕ)
      → bundle_at.Learnt κs (g, (was, (i, tt))) v (g, (is, (i, tt)))
      → CBundleAt g.now i was.now v is.now

pub data CConnectionAt : Graph → ℕ → StoredConnection → ℕ → StoredConnection → Type 0 where
  by_connection_at : (κs : Lfts 2) (g : Bor Graph) (was is : MutBor StoredConnection) (i v : ℕ)
      → connection_at.Learnt κs (g, (was, (i, tt))) v (g, (is, (i, tt)))
      → CConnectionAt g.now i was.now v is.now

pub data CImageLength : Graph → ℕ → Type 0 where
  by_image_length : (κs : Lfts 1) (g : Bor Graph) (v : ℕ) → image_length.Learnt κs (g, tt) v (g, tt) → CImageLength g.now v

pub data LentEmpty : Graph → Type 0 where
  by_empty : (κs : Lfts 1) (was is : MutBor Graph) → empty.Learnt κs (was, tt) tt (is, tt) → LentEmpty is.now

abbrev pub lent : Interface
lent =
    record {
      empties = LentEmpty;
      changes = LentChange;
      reads = LentRead;
      writes = LentWrite;
      routes = LentRoute;
      finds = LentFind;
      events = LentEvent;
      resolves = LentResolve;
      asks = LentAsk;
    }
