-- The sets that a graph gives for an item, and what a search over them says of the model's routes.
use Rattle.std.specs.Prelude.{Option, Some, None}
use mathlib.Core.Path.{◌≡◌, refl, sym, ap, ap₂, ◌∙◌, subst}
use mathlib.Core.Bool.{Bool, true, false, ◌&&◌, ◌||◌}
use mathlib.Core.Logic.{◌⊎◌, inl, inr}
use mathlib.Core.List.{List, [], ◌∷◌}
use mathlib.Core.Option.{some, none}
use Prim.Native.Nat.{ℕ, ◌-◌, ◌^◌, ◌≤◌, ◌<◌, zero-le}
use native.Mathlib.Omega.{arith}
use lib.Dec.{eqb}
use lib.ListN.{length, get_or-eq_default}
use borrow.Author.Tests.{eqb-true, eqb-false, lt-ltb}
use Rattle.region_graph.specs.Size.{regions}
use Rattle.region_graph.specs.Lists.{pick, exists, All, keep}
use Rattle.region_graph.specs.Sets.{bit, singleton, set_of}
use Rattle.region_graph.specs.Model.{Model, Bundle, Legal, LegalBundle}
use Rattle.region_graph.specs.Calls.{at_location}
use Rattle.region_graph.specs.Items.{holds, crosses, provides}
use Rattle.region_graph.specs.Promise.{place_of, provider_place, holder_set, predecessor_sets}
use Rattle.region_graph.specs.declared.Item.{Item}
use Rattle.region_graph.proofs.Lists.{member_all, and_fst, false_true}
use Rattle.region_graph.proofs.Bits.{bit_le, bit_zero, in_lt, set_below_lt, bit_set_below, alone_lt, bit_alone, set_is, has_set}
use Rattle.region_graph.proofs.Views.{counted_at}
use Rattle.region_routes.specs.Route.{Route, last, next, Best}
use Rattle.region_routes.specs.Chosen.{chosen_by, found, chosen, sees, PassesTo, HeldAt}
use Rattle.region_routes.specs.Hooks.{Outcome, Routed, routed, shown, sees_from}
use Rattle.region_routes.specs.Resolve.{reaches}
use Rattle.region_routes.specs.Tables.{stands_in}
use Rattle.region_routes.specs.Search.{In, RegionSets, Conn, At, Searched, InLayer, Walkable, Walked, end_set}
use Rattle.region_routes.specs.declared.search.Ends.{Ends}
use Rattle.region_routes.proofs.Choosing.{crosses_inside, by_best, by_none, found_is}
use Rattle.region_routes.proofs.Layers.{trail, shallower}
use Rattle.region_routes.proofs.RouteLaws.{lt_or_ge, carry, carry_best}
use Rattle.region_routes.proofs.SetLaws.{counted_sets, not_in_empty}

-- the members of a set by a test
set_in : (p : ℕ → Bool) (n : ℕ) → In (set_of p) n → p n ≡ true
set_in p n h = go (p n) refl
  where
    l : n < regions
    l = in_lt regions (set_of p) n (set_below_lt regions p) h

    go : (b : Bool) → p n ≡ b → p n ≡ true
    go true e = e
    go false e = let z : ◌≡◌ {A = ℕ} 0 1 = sym (bit_set_below regions p n l ∙ ap (λ (t : Bool). pick t 1 0) e) ∙ h in absurd (omega arith)

in_set : (p : ℕ → Bool) (n : ℕ) → n < regions → p n ≡ true → In (set_of p) n
in_set p n l e = bit_set_below regions p n l ∙ ap (λ (t : Bool). pick t 1 0) e

-- the region in which a location is installed is below the count of regions
place_inside : (rs : List ℕ) → All (λ r. r < regions) rs → (bs : List Bundle) → All (LegalBundle rs) bs → (l r : ℕ) → place_of bs l ≡ Some r → r < regions
place_inside rs h [] a l r e = let z : ◌≡◌ {A = ℕ} 0 1 = cc in absurd (omega arith)
place_inside rs h (b ∷ bs) a l r e = go (at_location l b) (place_inside rs h bs a.1 l r) e
  where
    go : (t : Bool) → (place_of bs l ≡ Some r → r < regions) → pick t (Some b.region) (place_of bs l) ≡ Some r → r < regions
    go true f k = let q : b.region ≡ r = cc in subst (λ (x : ℕ). x < regions) q (member_all (λ x. x < regions) b.region rs h a.0.region)
    go false f k = f k

pub region_inside : (m : Model) → Legal m → (l : ℕ) {r : ℕ} → place_of m.bundles l ≡ Some r → r < regions
region_inside m h l {r} e = place_inside m.regions h.regions_legal.each m.bundles h.bundles_legal.each l r e

-- so is that of a bundle that provides an item
provider_installed : (l : ℕ) (i : Item) {r : ℕ} (bs : List Bundle) → provider_place bs l i ≡ Some r → place_of bs l ≡ Some r
provider_installed l i [] e = e
provider_installed l i {r} (b ∷ bs) e = go (at_location l b) (provides i b) (provider_installed l i bs) e
  where
    go : (t u : Bool) → (provider_place bs l i ≡ Some r → place_of bs l ≡ Some r)
        → pick t (pick u (Some b.region) None) (provider_place bs l i) ≡ Some r → pick t (Some b.region) (place_of bs l) ≡ Some r
    go true true f k = k
    go true false f k = let z : ◌≡◌ {A = ℕ} 0 1 = cc in absurd (omega arith)
    go false u f k = f k

pub provider_inside : (m : Model) → Legal m → (l : ℕ) (i : Item) {r : ℕ} → provider_place m.bundles l i ≡ Some r → r < regions
provider_inside m h l i e = region_inside m h l (provider_installed l i m.bundles e)

-- so is the region of a held item
pub held_inside : (rs : List ℕ) → All (λ r. r < regions) rs → (i : Item) (r : ℕ) (bs : List Bundle) → All (LegalBundle rs) bs
    → exists (λ b. eqb b.region r && provides i b) bs ≡ true → r < regions
held_inside rs h i r [] a e = false_true e
held_inside rs h i r (b ∷ bs) a e = go (eqb b.region r && provides i b) refl (held_inside rs h i r bs a.1) e
  where
    go : (t : Bool) → (eqb b.region r && provides i b) ≡ t → (exists (λ b. eqb b.region r && provides i b) bs ≡ true → r < regions)
        → (t || exists (λ b. eqb b.region r && provides i b) bs) ≡ true → r < regions
    go true f g k =
        subst (λ (x : ℕ). x < regions) (eqb-true b.region r (and_fst (eqb b.region r) (provides i b) f))
        (member_all (λ x. x < regions) b.region rs h a.0.region)
    go false f g k = g k

pub predecessors_sets : (m : Model) (i : Item) → RegionSets (predecessor_sets m i)
unfolding predecessor_sets
predecessors_sets m i = counted_sets (λ s r. crosses m i r s)

-- the predecessor sets are those of a crossing test, and the holder set that of an ending test
pub record Tied (cross : ℕ → ℕ → Bool) (ends : ℕ → Bool) (pred : List ℕ) (holders : ℕ) : Type 0 where
  pub inside : (r s : ℕ) → cross r s ≡ true → (r < regions) × (s < regions)
  pub conn_cross : (r s : ℕ) → Conn pred r s → cross r s ≡ true
  pub cross_conn : (r s : ℕ) → cross r s ≡ true → Conn pred r s
  pub in_ends : (n : ℕ) → In holders n → ends n ≡ true
  pub ends_in : (n : ℕ) → ends n ≡ true → In holders n

-- what a search over them says of the routes
module _ {cross : ℕ → ℕ → Bool} {ends : ℕ → Bool} {pred : List ℕ} {holders : ℕ} (tied : Tied cross ends pred holders) where
  module _ {sets : List ℕ} {deep reached : ℕ} (f : Searched pred holders sets deep reached) where
    -- what is reached has a route, and what has one is reached
    reached_route : (n : ℕ) → In reached n → (p : List ℕ) × Route (λ r s. cross r s ≡ true) (λ r. ends r ≡ true) n p
    reached_route n k =
        let x = f.from n k in
        let t = trail f.layered x.0 n x.1 x.2 in
        (t.0, carry tied.conn_cross tied.in_ends t.1)

    route_reached : {n : ℕ} {p : List ℕ} → Route (λ r s. cross r s ≡ true) (λ r. ends r ≡ true) n p → In reached n
    route_reached (last {r = r} k) = f.into 0 r zero-le (f.layered.base r (tied.ends_in r k))
    route_reached (next {r = r} {s = s} c t) = f.shut r s (tied.cross_conn r s c) (route_reached t)

    -- the reached regions are those from which a route is found
    pub reached_found : reached ≡ set_of (λ n. found (chosen_by cross ends n))
    reached_found = set_is reached (λ n. found (chosen_by cross ends n)) f.small (λ n l. digit n ∙ ap (λ (b : Bool). pick b 1 0) (same n l))
      where
        digit : (n : ℕ) → bit reached n ≡ pick (eqb (bit reached n) 1) 1 0
        digit n = go (eqb (bit reached n) 1) refl
          where
            go : (b : Bool) → eqb (bit reached n) 1 ≡ b → bit reached n ≡ pick b 1 0
            go true e = eqb-true (bit reached n) 1 e
            go false e = omega (arith, eqb-false (bit reached n) 1 e, bit_le reached n)

        same : (n : ℕ) → n < regions → eqb (bit reached n) 1 ≡ found (chosen_by cross ends n)
        same n l = found_is cross ends tied.inside n (eqb (bit reached n) 1) (λ e. reached_route n (eqb-true (bit reached n) 1 e))
            (λ e p t. eqb-false (bit reached n) 1 e (route_reached t))

    module _ (r : ℕ) (l : r < regions) where
      -- a region that is not reached has no route
      pub unreached_none : ((j : ℕ) → j ≤ deep → At sets j r → ⊥) → none ≡ chosen_by cross ends r
      unreached_none e = sym (by_none cross ends tied.inside r (λ p t. let x = f.from r (route_reached t) in e x.0 x.1 x.2))

      -- from the layer of a region a walk can start
      pub walk_from : {d : ℕ} → InLayer sets deep r d → Walkable pred sets d r
      walk_from w = record {
        layered =
            let ly = shallower f.layered _ w.within in
            record { base = λ n k. k; holds = λ n k. k; back = ly.back; closed = ly.closed; apart = ly.apart };
        low = omega (arith, f.low, w.within);
        small = λ j n k a. in_lt regions reached n f.small (f.into j n (omega (arith, w.within)) a);
        here = w.here;
      }

      -- what the walk writes is the chosen route
      pub walked_by : {d : ℕ} {entry exit : List ℕ} → Walked pred sets d r entry exit
          → ◌≡◌ {A = Outcome Routed (List ℕ)} (routed (Routed.Count d) exit) (shown (chosen_by cross ends r) entry)
      walked_by {d} {entry} {exit} w =
          let b : Best (λ r s. cross r s ≡ true) (λ r. ends r ≡ true) r w.path
          = carry_best tied.conn_cross (λ n k. tied.in_ends n (f.layered.holds n k)) tied.cross_conn
          (λ n k. f.layered.base n (tied.ends_in n k)) w.best in
          let e : chosen_by cross ends r ≡ some w.path = by_best cross ends tied.inside r w.path b in
          let n : length w.path - 1 ≡ d = omega (arith, w.counted) in
          rw e (λ j. routed (Routed.Count (sym n j)) (w.exit_is j))

-- a search from no holder reaches nothing
none_searched : (pred : List ℕ) → Searched pred 0 [] 0 0
none_searched pred = record {
  layered = record {
    base = λ n k. absurd (not_in_empty n k);
    holds = λ n k. absurd (not_in_empty n k);
    back = λ j n l k. absurd (omega arith);
    closed = λ j n s l k t. absurd (omega arith);
    apart = λ j k n a b t u. absurd (omega arith);
  };
  low = omega arith;
  small = omega arith;
  into = λ j n l k. absurd (not_in_empty n k);
  from = λ n k. absurd (not_in_empty n k);
  shut = λ n s k t. absurd (not_in_empty s t);
}

module _ (m : Model) (i : Item) (h : Legal m) where
  -- the predecessor sets are the connections that pass the item, the holder set the regions that hold it
  conn_crosses : (r s : ℕ) → Conn (predecessor_sets m i) r s → PassesTo m i r s
  unfolding predecessor_sets
  conn_crosses r s c = go (lt_or_ge s regions)
    where
      go : (s < regions) ⊎ (regions ≤ s) → PassesTo m i r s
      go (inl l) =
          set_in (λ n. crosses m i n s) r
          (subst (λ (x : ℕ). In x r) (counted_at (λ k. set_of (λ n. crosses m i n k)) 0 regions s s 0 l (omega arith)) c)
      go (inr l) =
          let z : ◌≡◌ {A = ℕ} 0 1 = sym (bit_zero r) ∙ subst (λ (x : ℕ). In x r) (get_or-eq_default (predecessor_sets m i) 0 l) c in
          absurd (omega arith)

  crosses_conn : (r s : ℕ) → PassesTo m i r s → Conn (predecessor_sets m i) r s
  unfolding predecessor_sets
  crosses_conn r s c =
      let l = crosses_inside m i r s h c in
      subst (λ (x : ℕ). In x r) (sym (counted_at (λ k. set_of (λ n. crosses m i n k)) 0 regions s s 0 l.1 (omega arith)))
      (in_set (λ n. crosses m i n s) r l.0 c)

  in_holds : (n : ℕ) → In (holder_set m i) n → HeldAt m i n
  in_holds n k = set_in (holds m i) n k

  holds_in : (n : ℕ) → HeldAt m i n → In (holder_set m i) n
  holds_in n k = in_set (holds m i) n (held_inside m.regions h.regions_legal.each i n m.bundles h.bundles_legal.each k) k

  tied : Tied (crosses m i) (holds m i) (predecessor_sets m i) (holder_set m i)
  tied = record { inside = λ r s. crosses_inside m i r s h; conn_cross = conn_crosses; cross_conn = crosses_conn; in_ends = in_holds; ends_in = holds_in }

  module _ {sets : List ℕ} {deep reached : ℕ} (f : Searched (predecessor_sets m i) (holder_set m i) sets deep reached) where
    -- the reached regions are those that see the item
    pub reached_sees : reached ≡ set_of (sees m i)
    unfolding chosen
    reached_sees = reached_found tied f

    module _ (r : ℕ) (l : r < regions) where
      pub unreached : ((j : ℕ) → j ≤ deep → At sets j r → ⊥) → none ≡ chosen m i r
      unfolding chosen
      unreached = unreached_none tied f r l

      pub walkable : {d : ℕ} → InLayer sets deep r d → Walkable (predecessor_sets m i) sets d r
      walkable = walk_from tied f r l

      pub walked_chosen : {d : ℕ} {entry exit : List ℕ} → Walked (predecessor_sets m i) sets d r entry exit
          → ◌≡◌ {A = Outcome Routed (List ℕ)} (routed (Routed.Count d) exit) (shown (chosen m i r) entry)
      unfolding chosen
      walked_chosen = walked_by tied f r l

  -- a search from a region alone: the reached regions are those from which connections lead to it
  module _ (t : ℕ) (l : t < regions) where
    tied_to : Tied (crosses m i) (eqb t) (predecessor_sets m i) (set_of (eqb t))
    tied_to = record {
      inside = λ r s. crosses_inside m i r s h;
      conn_cross = conn_crosses;
      cross_conn = crosses_conn;
      in_ends = set_in (eqb t);
      ends_in = λ n e. in_set (eqb t) n (subst (λ (x : ℕ). x < regions) (eqb-true t n e) l) e;
    }

    pub reached_reaches : {sets : List ℕ} {deep reached : ℕ} → Searched (predecessor_sets m i) (singleton t) sets deep reached
        → reached ≡ set_of (reaches m i t)
    unfolding reaches
    reached_reaches f = reached_found tied_to (rw (set_is (singleton t) (eqb t) (alone_lt regions t) (bit_alone regions t)) at f)

  -- where nobody holds an item, nobody sees it
  pub none_sees : holder_set m i ≡ 0 → 0 ≡ set_of (sees m i)
  none_sees e = reached_sees {sets = []} {deep = 0} (rw e (none_searched (predecessor_sets m i)))

-- the regions in which a route may end are a set of regions
pub end_set_small : (m : Model) (i : Item) (e : Ends) → end_set m i e < 2 ^ regions
end_set_small m i Ends.Holders = set_below_lt regions (holds m i)
end_set_small m i (Ends.Region t) = alone_lt regions t

-- listeners stand in the set of the regions that see the item exactly where they see it
pub stands_sees : (m : Model) (i : Item) → Legal m → (l : ℕ)
    → stands_in (set_of (sees m i)) (place_of m.bundles l) ≡ sees_from m i (place_of m.bundles l)
stands_sees m i h l = go (place_of m.bundles l) refl
  where
    go : (p : Option ℕ) → place_of m.bundles l ≡ p → stands_in (set_of (sees m i)) p ≡ sees_from m i p
    go (Some r) e = has_set (sees m i) r ∙ rw (lt-ltb r regions (region_inside m h l e))
    go None e = refl

pub keep_stands : (m : Model) (i : Item) → Legal m → {set : ℕ} → set ≡ set_of (sees m i) → {place : ℕ → Option ℕ}
    → ((l : ℕ) → place l ≡ place_of m.bundles l) → (ls : List ℕ)
    → keep (λ l. stands_in set (place l)) ls ≡ keep (λ l. sees_from m i (place_of m.bundles l)) ls
keep_stands m i h e f [] = refl
keep_stands m i h e f (l ∷ ls) = rw (ap₂ stands_in e (f l) ∙ stands_sees m i h l, keep_stands m i h e f ls)
