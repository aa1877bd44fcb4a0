-- The route that document 01 picks, computed; the theorems of proofs/Choosing.antt say that it is the one of `Best`.
use Rattle.std.specs.Prelude.{◌≡◌, Bool, true, false, List, [], ◌∷◌, ℕ, zero, suc}
use Rattle.std.proofs.Math.Option.{Option, some, none}
use Rattle.region_graph.specs.Size.{regions}
use Rattle.region_graph.specs.Lists.{count_from}
use Rattle.region_graph.specs.Model.{Model}
use Rattle.region_graph.specs.Items.{holds, crosses}
use Rattle.region_graph.specs.declared.Item.{Item}
use Rattle.region_routes.specs.Route.{Route, NoRoute, Best}

-- the first of the numbers at which something is found
abbrev pub first_of : (ℕ → Option (List ℕ)) → List ℕ → Option (List ℕ)
first_of f [] = none
first_of f (s ∷ ss) = elim (f s) [ none ↦ first_of f ss | some p ↦ some p ]

abbrev pub put_before : ℕ → Option (List ℕ) → Option (List ℕ)
put_before r none = none
put_before r (some p) = some (r ∷ p)

abbrev pub guarded : Bool → Option (List ℕ) → Option (List ℕ)
guarded true o = o
guarded false o = none

abbrev pub or_else : Option (List ℕ) → Option (List ℕ) → Option (List ℕ)
or_else (some p) o = some p
or_else none o = o

module _ (cross : ℕ → ℕ → Bool) (ends : ℕ → Bool) where
  -- of the routes of exactly k connections from r the one whose region number is smaller where two first differ
  abbrev pub exactly : ℕ → ℕ → Option (List ℕ)
  exactly zero r = guarded (ends r) (some (r ∷ []))
  exactly (suc k) r = put_before r (first_of (λ s. guarded (cross r s) (exactly k s)) (count_from 0 regions))

  -- with k connections, or one more, and so on, in n tries
  abbrev pub from : ℕ → ℕ → ℕ → Option (List ℕ)
  from r k zero = none
  from r k (suc n) = or_else (exactly k r) (from r (suc k) n)

  -- one with fewest connections passes no region twice, so it has fewer connections than there are regions
  unfoldable pub chosen_by : ℕ → Option (List ℕ)
  chosen_by r = from r 0 regions

-- the route that the route call writes
unfoldable pub chosen : Model → Item → ℕ → Option (List ℕ)
chosen m i r = chosen_by (crosses m i) (holds m i) r

abbrev pub found : Option (List ℕ) → Bool
found (some p) = true
found none = false

-- an item is seen when it has a route
abbrev pub sees : Model → Item → ℕ → Bool
sees m i r = found (chosen m i r)

-- the routes of a model for an item
abbrev pub PassesTo : Model → Item → ℕ → ℕ → Type 0
PassesTo m i r s = crosses m i r s ≡ true

abbrev pub HeldAt : Model → Item → ℕ → Type 0
HeldAt m i r = holds m i r ≡ true

abbrev pub RouteFor : Model → Item → ℕ → List ℕ → Type 0
RouteFor m i = Route (PassesTo m i) (HeldAt m i)

abbrev pub NoRouteFor : Model → Item → ℕ → Type 0
NoRouteFor m i = NoRoute (PassesTo m i) (HeldAt m i)

abbrev pub BestFor : Model → Item → ℕ → List ℕ → Type 0
BestFor m i = Best (PassesTo m i) (HeldAt m i)
