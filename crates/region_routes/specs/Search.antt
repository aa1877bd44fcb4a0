-- What the functions of the search promise each other: layers of regions by their distance to a holder, as sets.
use Rattle.std.specs.Prelude.{◌≡◌, List, ◌++◌, ℕ, suc, ◌-◌, ◌<◌, ◌≤◌, ◌^◌, length, get_or, drop, Option, MatchOption}
use Rattle.std.specs.Int.Bits.{bit_and}
use Rattle.std.specs.Int.Count.{count_trailing_zeros}
use Rattle.region_graph.specs.Size.{regions}
use Rattle.region_graph.specs.Sets.{bit, singleton}
use Rattle.region_graph.specs.Model.{Model}
use Rattle.region_graph.specs.Promise.{holder_set}
use Rattle.region_graph.specs.declared.Item.{Item}
use Rattle.region_routes.specs.Route.{Best}
use Rattle.region_routes.specs.declared.search.Ends.{Ends}

-- n is a member of the set x
abbrev pub In : ℕ → ℕ → Type 0
In x n = bit x n ≡ 1

-- an iterator whose state shows the members that are left takes the lowest of them
abbrev pub TakesLowest : {S : Type 0} → (S → ℕ) → S → Option ℕ → S → Type 0
TakesLowest left s r t =
    MatchOption r (left s ≡ 0)
    (λ n. (0 < left s) × (n ≡ count_trailing_zeros 64 (left s)) × (left t ≡ bit_and (left s) (2 ^ 64 - 1 - singleton (count_trailing_zeros 64 (left s)))))

-- for each region a set of regions
pub record RegionSets (pred : List ℕ) : Type 0 where
  pub long : length pred ≡ regions
  pub small : (s : ℕ) → get_or pred s 0 < 2 ^ regions

-- a connection from r to s, where pred holds for each region the set of the regions from which a connection leads to it
abbrev pub Conn : List ℕ → ℕ → ℕ → Type 0
Conn pred r s = In (get_or pred s 0) r

-- x holds the regions outside `reached` that have a connection into `prev`
pub record Layer (pred : List ℕ) (prev reached x : ℕ) : Type 0 where
  pub small : x < 2 ^ regions
  pub fresh : (n : ℕ) → In x n → In reached n → ⊥
  pub sound : (n : ℕ) → In x n → (s : ℕ) × (Conn pred n s) × (In prev s)
  pub complete : (n s : ℕ) → Conn pred n s → In prev s → (In reached n → ⊥) → In x n

-- layers 0 to k: layer 0 is H, each region of a later one has a connection into the layer before, a region with a connection into
-- a layer below k is in that layer's next one or an earlier one, and no region is in two
pub record Layered (E : ℕ → ℕ → Type 0) (H : ℕ → Type 0) (L : ℕ → ℕ → Type 0) (k : ℕ) : Type 0 where
  pub base : (n : ℕ) → H n → L 0 n
  pub holds : (n : ℕ) → L 0 n → H n
  pub back : (j n : ℕ) → j < k → L (suc j) n → (s : ℕ) × (E n s) × (L j s)
  pub closed : (j n s : ℕ) → j < k → E n s → L j s → (i : ℕ) × (i ≤ suc j) × (L i n)
  pub apart : (i j n : ℕ) → i < j → j ≤ k → L i n → L j n → ⊥

-- region n is in layer j
abbrev pub At : List ℕ → ℕ → ℕ → Type 0
At sets j n = In (get_or sets j 0) n

-- a whole search: the layers 0 to deep, all regions in them, and no connection from another region into them
pub record Searched (pred : List ℕ) (holders : ℕ) (sets : List ℕ) (deep reached : ℕ) : Type 0 where
  pub layered : Layered (Conn pred) (In holders) (At sets) deep
  pub low : deep < regions
  pub small : reached < 2 ^ regions
  pub into : (i n : ℕ) → i ≤ deep → At sets i n → In reached n
  pub from : (n : ℕ) → In reached n → (i : ℕ) × (i ≤ deep) × (At sets i n)
  pub shut : (n s : ℕ) → Conn pred n s → In reached s → In reached n

-- the set of the regions in which a route for an item may end
abbrev pub end_set : Model → Item → Ends → ℕ
end_set m i Ends.Holders = holder_set m i
end_set m i (Ends.Region t) = singleton t

-- the layer of a region, of those up to `deep`
pub record InLayer (sets : List ℕ) (deep region layer : ℕ) : Type 0 where
  pub within : layer ≤ deep
  pub here : At sets layer region

-- from region r a connection leads into the set x, and s is the smallest region of x to which one leads
pub record Leading (pred : List ℕ) (x r : ℕ) : Type 0 where
  pub inside : r < regions
  pub some : (n : ℕ) × (Conn pred r n) × (In x n)

pub record Next (pred : List ℕ) (x r s : ℕ) : Type 0 where
  pub here : In x s
  pub conn : Conn pred r s
  pub least : (n : ℕ) → Conn pred r n → In x n → s ≤ n

-- a region of the layer `deep`, from which a walk down the layers starts
pub record Walkable (pred sets : List ℕ) (deep region : ℕ) : Type 0 where
  pub layered : Layered (Conn pred) (At sets 0) (At sets) deep
  pub low : deep < regions
  pub small : (j n : ℕ) → j ≤ deep → At sets j n → n < regions
  pub here : At sets deep region

-- what the walk leaves in the buffer: the best route at its start, and the rest as it was
pub record Walked (pred sets : List ℕ) (deep region : ℕ) (entry exit : List ℕ) : Type 0 where
  pub path : List ℕ
  pub best : Best (Conn pred) (At sets 0) region path
  pub counted : length path ≡ suc deep
  pub exit_is : exit ≡ path ++ drop (length path) entry
