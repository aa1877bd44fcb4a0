-- Document 01, "The questions, in order", and what an accepted call does: the six changing calls on the model.
use Rattle.std.specs.Prelude.{Bool, true, not, ◌&&◌, ◌||◌, List, [], ◌∷◌, ◌++◌, ℕ, eqb, leb, ltb, length}
use Rattle.region_graph.specs.Size.{regions, most_bundles, most_connections, most_provided, most_listed}
use Rattle.region_graph.specs.Refusals.{not_refused, not_a_region, region_used, no_such_region, ends_equal, connected, not_connected}
use Rattle.region_graph.specs.Refusals.{list_too_long, list_out_of_order, installed, filtered, full, not_installed, range_reversed}
use Rattle.region_graph.specs.Lists.{pick, keep, exists, every, member, insert_by, ascends}
use Rattle.region_graph.specs.Steps.{run_by, answers_by}
use Rattle.region_graph.specs.Model.{Model, Package, Bundle, Filter, Part, Connection}
use Rattle.region_graph.specs.Model.{package_before, entry_before, ordered, bundle_before, connection_before}

pub data Call : Type 0 where
  add_region : ℕ → Call
  remove_region : ℕ → Call
  install : Bundle → Call
  uninstall : ℕ → Call
  connect : Connection → Call
  disconnect : ℕ → ℕ → Call

pub record Question : Type 0 where
  pub number : ℕ
  pub yes : Bool

abbrev pub ask : ℕ → Bool → Question
ask n b = record { number = n; yes = b }

-- the number of the first question answered no, or 0
abbrev pub first_no : List Question → ℕ
first_no [] = not_refused
first_no (q ∷ qs) = pick q.yes (first_no qs) q.number

abbrev pub is_region : ℕ → Bool
is_region r = ltb r regions

abbrev pub at_location : ℕ → Bundle → Bool
at_location l b = eqb b.location l

abbrev pub in_region : ℕ → Bundle → Bool
in_region r b = eqb b.region r

abbrev pub joins : ℕ → ℕ → Connection → Bool
joins r s c = eqb c.source r && eqb c.target s

-- from the region or to it
abbrev pub touches : ℕ → Connection → Bool
touches r c = eqb c.source r || eqb c.target r

-- a connection that leaves r names the location in its bundle part
abbrev pub names : ℕ → ℕ → Connection → Bool
names r l c = eqb c.source r && member l c.filter.bundles

abbrev pub within : {A : Type 0} → ℕ → List A → Bool
within most xs = leb (length xs) most

-- a test of what a part lists; it is not asked of everything
abbrev pub of_listed : {A : Type 0} → (List A → Bool) → Part A → Bool
of_listed test (Part.listed xs) = test xs
of_listed test Part.everything = true

abbrev pub part_within : {A : Type 0} → Part A → Bool
part_within p = of_listed (within most_listed) p

abbrev pub filter_within : Filter → Bool
filter_within f = within most_listed f.bundles && (part_within f.packages && part_within f.services)

abbrev pub filter_ascends : Filter → Bool
filter_ascends f = ascends ltb f.bundles && (of_listed (ascends entry_before) f.packages && of_listed (ascends ltb) f.services)

-- C-15: no entry of the package part has a lowest version above its highest
abbrev pub filter_ordered : Filter → Bool
filter_ordered f = of_listed (every ordered) f.packages

-- the questions about a region that is to be new
abbrev pub new_region_questions : List ℕ → ℕ → List Question
new_region_questions rs r =
    ask not_a_region (is_region r)
    ∷ ask region_used (not (member r rs))
    ∷ []

-- about a region that is to be there
abbrev pub region_questions : List ℕ → ℕ → List Question
region_questions rs r =
    ask not_a_region (is_region r)
    ∷ ask no_such_region (member r rs)
    ∷ []

-- about a connection's two ends
abbrev pub end_questions : List ℕ → ℕ → ℕ → List Question
end_questions rs r s =
    ask not_a_region (is_region r && is_region s)
    ∷ ask no_such_region (member r rs && member s rs)
    ∷ ask ends_equal (not (eqb r s))
    ∷ []

-- about a bundle's region and lists
abbrev pub provided_questions : List ℕ → ℕ → List Package → List ℕ → List Question
provided_questions rs r packages services =
    region_questions rs r
    ++ ask list_too_long (within most_provided packages && within most_provided services)
    ∷ ask list_out_of_order (ascends package_before packages && ascends ltb services)
    ∷ []

-- about a place for a bundle
abbrev pub bundle_questions : List Bundle → List Connection → ℕ → ℕ → List Question
bundle_questions bs cs r l =
    ask installed (not (exists (at_location l) bs))
    ∷ ask filtered (not (exists (names r l) cs))
    ∷ ask full (ltb (length bs) most_bundles)
    ∷ []

-- about a place for a connection, and its filter
abbrev pub connection_questions : List Connection → Connection → List Question
connection_questions cs c =
    ask connected (not (exists (joins c.source c.target) cs))
    ∷ ask list_too_long (filter_within c.filter)
    ∷ ask list_out_of_order (filter_ascends c.filter)
    ∷ ask range_reversed (filter_ordered c.filter)
    ∷ ask full (ltb (length cs) most_connections)
    ∷ []

-- the questions that each call passes, by number
abbrev pub questions : Model → Call → List Question
questions m (add_region r) = new_region_questions m.regions r
questions m (remove_region r) = region_questions m.regions r
questions m (install b) =
    provided_questions m.regions b.region b.packages b.services
    ++ bundle_questions m.bundles m.connections b.region b.location
questions m (uninstall l) = ask not_installed (exists (at_location l) m.bundles) ∷ []
questions m (connect c) = end_questions m.regions c.source c.target ++ connection_questions m.connections c
questions m (disconnect r s) = end_questions m.regions r s ++ ask not_connected (exists (joins r s) m.connections) ∷ []

-- the number that a call returns: 0 when it is accepted
abbrev pub number : Model → Call → ℕ
number m c = first_no (questions m c)

-- what an accepted call does
abbrev pub accepted : Model → Call → Model
accepted m (add_region r) = record { regions = insert_by ltb r m.regions; bundles = m.bundles; connections = m.connections }
accepted m (remove_region r) =
    record {
      regions = keep (λ s. not (eqb r s)) m.regions;
      bundles = keep (λ b. not (in_region r b)) m.bundles;
      connections = keep (λ c. not (touches r c)) m.connections;
    }
accepted m (install b) = record { regions = m.regions; bundles = insert_by bundle_before b m.bundles; connections = m.connections }
accepted m (uninstall l) = record { regions = m.regions; bundles = keep (λ b. not (at_location l b)) m.bundles; connections = m.connections }
accepted m (connect c) = record { regions = m.regions; bundles = m.bundles; connections = insert_by connection_before c m.connections }
accepted m (disconnect r s) = record { regions = m.regions; bundles = m.bundles; connections = keep (λ c. not (joins r s c)) m.connections }

-- the model after a call: a refused one does nothing
abbrev pub after : Model → Call → Model
after m c = pick (eqb (number m c) not_refused) (accepted m c) m

-- a list of calls: the last model, and the number of each call
abbrev pub run : Model → List Call → Model
run = run_by after

abbrev pub numbers : Model → List Call → List ℕ
numbers = answers_by number after
