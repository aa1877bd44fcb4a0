-- The three demands, of any interface.
use Rattle.std.specs.Prelude.{◌≡◌, true, ◌⊎◌, List, ℕ, ◌≤◌, length, take, get_or, Some}
use Rattle.region_graph.specs.Size.{regions}
use Rattle.region_graph.specs.Refusals.{not_refused, broken_layout, range_reversed}
use Rattle.region_graph.specs.Model.{Model}
use Rattle.region_graph.specs.Steps.{Steps}
use Rattle.region_graph.specs.Calls.{Call, Question, first_no, questions, run, numbers}
use Rattle.region_graph.specs.Record.{Valid, meaning}
use Rattle.region_graph.specs.Promise.{place_of}
use Rattle.region_graph.specs.declared.Graph.{Graph}
use Rattle.region_graph.specs.declared.Item.{Item}
use Rattle.region_routes.specs.Hooks.{routed_as, kept_as, item, kind_number, written, all_installed, route_questions, find_questions, event_questions}
use Rattle.region_routes.specs.declared.resolver.Candidate.{Candidate}
use Rattle.region_routes.specs.Resolve.{places_for, resolve_questions}
use Rattle.region_routes.specs.declared.Kind.{Kind}
use Rattle.region_routes.specs.Hooks.{Routed, Kept}
use Rattle.region_archive.specs.Image.{latest, image, image_in, in_version, unversioned, older_image}
use Rattle.region_archive.specs.File.{FileMeaning, read_questions, read_model}
use Rattle.region_archive.specs.Promise.{written_as, write_questions, query_questions, Written}
use Rattle.demands.specs.Claim.{Seen, Offered, RouteSays, KeptSays, written_parts, InstalledWhere, QuerySays}
use Rattle.demands.specs.Net.{NetRegions, ExporterNetRegions}
use Rattle.demands.specs.Interface.{Interface, Started}

-- the numbers that the papers give to the questions of these calls: 0, the seventeen of document 01, and that of C-15
abbrev pub Known : ℕ → Type 0
Known n = (n ≤ broken_layout) ⊎ (n ≡ range_reversed)

-- Demand 1. The number is that of the first question answered no, or 0; where it is not 0, what could have changed (the record, or the
-- buffers) is as it was.
pub record Questioned {A : Type 0} (qs : List Question) (number : ℕ) (before after : A) : Type 0 where
  pub first : number ≡ first_no qs
  pub known : Known number
  pub kept : (number ≡ not_refused → ⊥) → after ≡ before

pub record RefusedAsAsked (c : Interface) : Type 0 where
  pub changes : {g h : Graph} {k : Call} {n : ℕ} → c.changes g k n h → Questioned (questions (meaning g) k) n g h
  pub reads : {s : List ℕ} {g h : Graph} {n : ℕ} → c.reads s g n h → (f : FileMeaning s) → Questioned (read_questions f) n g h
  pub writes : {g : Graph} {entry exit : List ℕ} {a : Written} → Valid g → c.writes g entry a exit
      → Questioned (write_questions (meaning g) entry) (written_as a).number entry exit
  pub routes : {g : Graph} {l kind number version : ℕ} {entry exit : List ℕ} {a : Routed} → c.routes g l kind number version entry a exit
      → Questioned (route_questions (meaning g) l kind entry) (routed_as a).number entry exit
  pub finds : {g : Graph} {k : Kind} {l : ℕ} {xs entry exit : List ℕ} {a : Kept} → c.finds g k l xs entry a exit
      → Questioned (find_questions (meaning g) l xs entry) (kept_as a).number entry exit
  pub events : {g : Graph} {k : Kind} {number : ℕ} {xs entry exit : List ℕ} {a : Kept} → c.events g k number xs entry a exit
      → Questioned (event_questions (meaning g) xs entry) (kept_as a).number entry exit
  pub resolves : {g : Graph} {l : ℕ} {xs : List Candidate} {entries exits : List (List ℕ)} {a : Kept} → c.resolves g l xs entries a exits
      → Questioned (resolve_questions (meaning g) l xs entries) (kept_as a).number entries exits
  -- an archive query's answer is the number of the first question answered no, if there is one
  pub asks : {s : List ℕ} {l kind number version v : ℕ} → c.asks s l kind number version v → (f : FileMeaning s)
      → (first_no (query_questions f l kind) ≡ not_refused → ⊥) → (v ≡ first_no (query_questions f l kind)) × (v ≤ broken_layout)

-- Demand 2, the hooks, as 001 has them in section 8: what is written are those of the candidates that are in the net region of the asker's
-- region, and those of the listeners in the net region of whose region the item is. A candidate of resolve is its exporter's package.
pub record HooksGiveNet (c : Interface) : Type 1 where
  pub finds : {g : Graph} {k : Kind} {l r : ℕ} {xs entry exit : List ℕ} {a : Kept} → Valid g → (net : Item → ℕ → Type 0) → NetRegions (meaning g) net
      → place_of (meaning g).bundles l ≡ Some r → length xs ≤ length entry
      → c.finds g k l xs entry a exit → KeptSays written (λ n. net (item (kind_number k) n 0) r) xs entry exit a
  pub events : {g : Graph} {k : Kind} {number : ℕ} {xs entry exit : List ℕ} {a : Kept} → Valid g → (net : Item → ℕ → Type 0)
      → NetRegions (meaning g) net → all_installed (meaning g) xs ≡ true → length xs ≤ length entry
      → c.events g k number xs entry a exit → KeptSays written (λ l. InstalledWhere (meaning g) l (net (item (kind_number k) number 0))) xs entry exit a
  pub resolves : {g : Graph} {l r : ℕ} {xs : List Candidate} {entries exits : List (List ℕ)} {a : Kept} → Valid g → (net : Candidate → ℕ → Type 0)
      → ExporterNetRegions (meaning g) net → place_of (meaning g).bundles l ≡ Some r → places_for (length xs) entries ≡ true
      → c.resolves g l xs entries a exits → KeptSays written_parts (λ x. net x r) xs entries exits a

-- Demand 2, the archive, as C-15 of document 02 has it: writer and reader invert each other on version 3, each graph has one image, a file of
-- an older version is accepted exactly when it was an image before, and means that graph, and a file that is no graph's image is refused.
pub record ArchiveInverts (c : Interface) : Type 0 where
  -- what was written is read back as the record that it was written from
  pub write_read : {g old h : Graph} {entry exit : List ℕ} {k n : ℕ} → Valid g
      → c.writes g entry (Written.Bytes k) exit → c.reads (take k exit) old n h → (n ≡ not_refused) × (h ≡ g)
  -- what was read from a file of version 3 is written as its bytes
  pub read_write : {s : List ℕ} {old h : Graph} {n : ℕ} {entry exit : List ℕ} {a : Written}
      → c.reads s old n h → n ≡ not_refused → get_or s 0 0 ≡ latest → length s ≤ length entry
      → c.writes h entry a exit → (a ≡ Written.Bytes (length s)) × (exit ≡ written s entry)
  pub one_image : (g h : Graph) → Valid g → Valid h → image (meaning g) ≡ image (meaning h) → g ≡ h
  -- what was read from an older file has packages of version 0 alone and entries that pass every version, and the file is its older image
  pub older_read : {s : List ℕ} {old h : Graph} {n : ℕ} → c.reads s old n h → n ≡ not_refused → (get_or s 0 0 ≡ latest → ⊥)
      → (unversioned (meaning h) ≡ true) × (older_image (meaning h) ≡ s)
  -- and the older image of every such graph is read as that graph
  pub older_accepted : {g old h : Graph} {n : ℕ} → Valid g → unversioned (meaning g) ≡ true → c.reads (older_image (meaning g)) old n h
      → (n ≡ not_refused) × (h ≡ g)
  pub others_refused : {s : List ℕ} {old h : Graph} {n : ℕ}
      → ((v : ℕ) (g : Graph) → Valid g → in_version v (meaning g) ≡ true → image_in v (meaning g) ≡ s → ⊥)
      → c.reads s old n h → (n ≡ not_refused → ⊥) × (h ≡ old)

-- Demand 3. The queries on the record g answer as the routes of the model m say: for every bundle and listener installed in m, every kind,
-- item and candidate, with the output places that question 14 asks.
pub record Answers (c : Interface) (g : Graph) (m : Model) : Type 0 where
  pub routes : {l r kind number version : ℕ} {entry exit : List ℕ} {a : Routed} → place_of m.bundles l ≡ Some r → kind ≤ 2
      → regions ≤ length entry → c.routes g l kind number version entry a exit → RouteSays m (item kind number version) r entry exit a
  pub finds : {k : Kind} {l r : ℕ} {xs entry exit : List ℕ} {a : Kept} → place_of m.bundles l ≡ Some r → length xs ≤ length entry
      → c.finds g k l xs entry a exit → KeptSays written (λ n. Seen m (item (kind_number k) n 0) r) xs entry exit a
  pub events : {k : Kind} {number : ℕ} {xs entry exit : List ℕ} {a : Kept} → all_installed m xs ≡ true → length xs ≤ length entry
      → c.events g k number xs entry a exit → KeptSays written (λ l. InstalledWhere m l (Seen m (item (kind_number k) number 0))) xs entry exit a
  pub resolves : {l r : ℕ} {xs : List Candidate} {entries exits : List (List ℕ)} {a : Kept} → place_of m.bundles l ≡ Some r
      → places_for (length xs) entries ≡ true → c.resolves g l xs entries a exits → KeptSays written_parts (λ x. Offered m x r) xs entries exits a

-- For every list of changing calls, refused ones included, from the empty record or an accepted archive, each with the record that the one
-- before handed back: the numbers are the model's, and after the list the queries answer as the routes of the model say.
pub record WholeLists (c : Interface) : Type 0 where
  pub every_list : {g h : Graph} {m : Model} {cs : List Call} {ns : List ℕ} → Started c g m → Steps c.changes g cs ns h
      → (ns ≡ numbers m cs) × Answers c h (run m cs)

-- An archive query whose questions are all answered yes says what the routes of the file's model say.
pub record QueriesAnswer (c : Interface) : Type 0 where
  pub asks : {s : List ℕ} {l kind number version v : ℕ} → c.asks s l kind number version v → (f : FileMeaning s)
      → first_no (query_questions f l kind) ≡ not_refused → InstalledWhere (read_model f) l (λ r. QuerySays (read_model f) (item kind number version) r v)

pub record Demands (c : Interface) : Type 1 where
  pub refusals : RefusedAsAsked c
  pub hooks : HooksGiveNet c
  pub archive : ArchiveInverts c
  pub whole_lists : WholeLists c
  pub queries : QueriesAnswer c
