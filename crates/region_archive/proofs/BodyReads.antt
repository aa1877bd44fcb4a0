-- The sections of a body, read one after the other.
use mathlib.Core.Path.{◌≡◌, refl, sym, ap, ◌∙◌, subst}
use mathlib.Core.Bool.{Bool, true, false}
use mathlib.Core.List.{List, [], ◌++◌, append-nil, append_assoc}
use Prim.Native.Nat.{ℕ}
use native.Mathlib.Omega.{arith}
use lib.ListN.{length, take, drop, length-append, length-drop}
use Rattle.std.specs.Prelude.{Result, Err}
use Rattle.region_graph.specs.declared.refusals.Refusal.{Refusal}
use Rattle.region_graph.specs.declared.Graph.{Graph}
use Rattle.region_graph.specs.Sets.{members}
use Rattle.region_graph.specs.Size.{regions}
use Rattle.region_graph.specs.Model.{Model, Bundle, Connection, Legal}
use Rattle.region_graph.specs.Flat.{FlatModel, Made}
use Rattle.region_graph.proofs.Lists.{false_true}
use Rattle.region_graph.proofs.FlatModels.{flat_made}
use Rattle.region_graph.specs.Decoded.{GoodRegions}
use Rattle.big_endian.specs.Bytes.{big, counted}
use Rattle.region_archive.specs.Image.{body_in}
use Rattle.big_endian.specs.Parsing.{Parsed, Unparsed}
use Rattle.region_archive.specs.RecordFields.{Elem, most_records, LegalElems, record_bytes, section_bytes, elements}
use Rattle.region_archive.specs.Sections.{RegionsStand, SectionStands, LegalIn, BodyRead, whole, broken}
use Rattle.region_archive.specs.declared.record_fields.Section.{Section}
use Rattle.region_archive.specs.declared.sections.Regions.{Regions}
use Rattle.region_archive.proofs.CountedLists.{region_bytes, counted_same}
use Rattle.region_archive.proofs.Records.{body_sections, section_elements}
use Rattle.region_archive.proofs.Versions.{may_have, may_have_it, version_of, legal_elements, elements_legal}
use Rattle.region_archive.proofs.OneImage.{body_same}

-- what follows the regions of a body, and a body as its three sections
abbrev later : ℕ → Model → List ℕ → List ℕ
later v m r = section_bytes (Section.Bundles v) m ++ (section_bytes (Section.Connections v) m ++ r)

split : (v : ℕ) (m : Model) → Legal m → (r : List ℕ) → body_in v m ++ r ≡ counted (big 1) m.regions ++ later v m r
split v m h r =
    let a = counted (big 1) m.regions in
    let b = section_bytes (Section.Bundles v) m in
    let c = section_bytes (Section.Connections v) m in
    ap (λ (l : List ℕ). l ++ r) (body_sections v m h) ∙ append_assoc a (b ++ c) r ∙ ap (λ (l : List ℕ). a ++ l) (append_assoc b c r)

-- the elements xs of a section stand from `at` to `next`, or none do
abbrev Stands : (k : Section) → List ℕ → List ℕ → ℕ → List (Elem k) → ℕ → Type 0
Stands k rs s at xs next = Parsed (LegalElems k rs) (counted (record_bytes k)) s at xs next

abbrev Missing : Section → List ℕ → List ℕ → ℕ → Type 0
Missing k rs s at = Unparsed (LegalElems k rs) (counted (record_bytes k)) s at

-- a body of version v stands at a place, or none does
abbrev Body : ℕ → List ℕ → ℕ → Model → ℕ → Type 0
Body v s at m end = Parsed (LegalIn v) (body_in v) s at m end

abbrev NoBody : ℕ → List ℕ → ℕ → Type 0
NoBody v s at = Unparsed (LegalIn v) (body_in v) s at

pub no_regions : (v : ℕ) (s : List ℕ) (at : ℕ) → Unparsed GoodRegions (counted (big 1)) s at → NoBody v s at
no_regions v s at u m r h e = u m.regions (later v m r) h.0.regions_legal (e ∙ split v m h.0 r)

-- the elements of a model's section, where its regions are rs
row_here : (k : Section) (m : Model) → LegalIn (version_of k) m → {rs : List ℕ} → rs ≡ m.regions → LegalElems k rs (elements k m)
row_here k m h e = subst (λ (l : List ℕ). LegalElems k l (elements k m)) (sym e) (legal_elements k m h)

module _ (v : ℕ) {s : List ℕ} {at : ℕ} where
  module _ {rs : List ℕ} {mid : ℕ} (p : Parsed GoodRegions (counted (big 1)) s at rs mid) where
    past_regions : (m : Model) (r : List ℕ) → Legal m → drop at s ≡ body_in v m ++ r → (rs ≡ m.regions) × (drop mid s ≡ later v m r)
    past_regions m r h e =
        counted_same region_bytes regions rs m.regions (drop mid s) (later v m r) p.is_good h.regions_legal
        (sym p.shape ∙ e ∙ split v m h r)

    -- no model with these regions has an image of the version
    no_version : may_have v rs ≡ false → NoBody v s at
    no_version u m r h e =
        false_true (sym u ∙ ap (may_have v) (past_regions m r h.0 e).0 ∙ may_have_it v m h.1)

    no_bundles : Missing (Section.Bundles v) rs s mid → NoBody v s at
    no_bundles u m r h e =
        let d = past_regions m r h.0 e in
        u m.bundles (section_bytes (Section.Connections v) m ++ r) (row_here (Section.Bundles v) m h d.0) d.1

    module _ {bs : List Bundle} {to : ℕ} (q : Stands (Section.Bundles v) rs s mid bs to) where
      no_connections : Missing (Section.Connections v) rs s to → NoBody v s at
      no_connections u m r h e =
          let d = past_regions m r h.0 e in
          let k = section_elements rs p.is_good.each (Section.Bundles v) in
          let f =
          counted_same k (most_records (Section.Bundles v)) bs m.bundles (drop to s) (section_bytes (Section.Connections v) m ++ r) q.is_good
          (row_here (Section.Bundles v) m h d.0) (sym q.shape ∙ d.1) in
          u m.connections r (row_here (Section.Connections v) m h d.0) f.1

      whole_body : may_have v rs ≡ true → {cs : List Connection} {end : ℕ} → Stands (Section.Connections v) rs s to cs end
          → Body v s at (record { regions = rs; bundles = bs; connections = cs }) end
      whole_body w {cs} {end} t =
          let m : Model = record { regions = rs; bundles = bs; connections = cs } in
          let l : LegalIn v m = elements_legal v m p.is_good w q.is_good t.is_good in
          let a = counted (big 1) rs in
          let b = section_bytes (Section.Bundles v) m in
          let c = section_bytes (Section.Connections v) m in
          record {
            is_good = l;
            shape =
                p.shape ∙ ap (λ (x : List ℕ). a ++ x) (q.shape ∙ ap (λ (x : List ℕ). b ++ x) t.shape) ∙ sym (split v m l.0 (drop end s));
            ends = omega (arith, p.ends, q.ends, t.ends, ap length (body_sections v m l.0), length-append a (b ++ c), length-append b c);
            room = t.room;
          }

-- no body stands there, or one that ends before the bytes do
module _ {v : ℕ} {s : List ℕ} {at : ℕ} where
  pub no_body : NoBody v s at → BodyRead v s at (Err Refusal.BrokenLayout)
  no_body u = broken (λ m l e. u m [] l (e ∙ sym (append-nil (body_in v m)))) refl

  pub longer : {x : Model} {end : ℕ} → Body v s at x end → (end ≡ length s → ⊥) → BodyRead v s at (Err Refusal.BrokenLayout)
  longer {x} {end} p u = broken other refl
    where
      other : (m : Model) → LegalIn v m → drop at s ≡ body_in v m → ⊥
      other m l e =
          let d = body_same v x m (drop end s) [] p.is_good l (sym p.shape ∙ e ∙ sym (append-nil (body_in v m))) in
          u (omega (arith, p.room, sym (length-drop end s) ∙ ap length d.1))

-- a body in a file of version v, and the flat lists of its model
pub record Sections (v : ℕ) (s : List ℕ) (at : ℕ) (rl bl cl : List ℕ) (end : ℕ) : Type 0 where
  pub model : Model
  pub parsed : Parsed (LegalIn v) (body_in v) s at model end
  pub flat : FlatModel rl bl cl model

-- the answers of the calls: the regions stand there
module _ (v : ℕ) {s : List ℕ} {at : ℕ} {list : List ℕ} {x : Regions} {mid : ℕ} (a : RegionsStand s at list x mid) where
  pub version_differs : {b : Bool} → b ≡ may_have v (members x.set) → b ≡ false → NoBody v s at
  version_differs e u = no_version v a.parsed (sym e ∙ u)

  pub bundles_missing : Missing (Section.Bundles v) (members x.set) s mid → NoBody v s at
  bundles_missing u = no_bundles v a.parsed u

  -- and the bundles do
  module _ {rows : List ℕ} {count to : ℕ} (b : SectionStands (Section.Bundles v) (members x.set) s mid rows count to) where
    pub connections_missing : Missing (Section.Connections v) (members x.set) s to → NoBody v s at
    connections_missing u = no_connections v a.parsed b.read.parsed u

    pub three_sections : {others : List ℕ} {more end : ℕ} → SectionStands (Section.Connections v) (members x.set) s to others more end
        → {t : Bool} → t ≡ may_have v (members x.set) → t ≡ true → Sections v s at (take x.count list) (take count rows) (take more others) end
    three_sections c d e = record {
      model = record { regions = members x.set; bundles = b.read.value; connections = c.read.value };
      parsed = whole_body v a.parsed b.read.parsed (sym d ∙ e) c.read.parsed;
      flat = record { regions_are = sym a.listed; bundles_are = b.read.put; connections_are = c.read.put };
    }

-- the graph of these lists is the body's
pub body_made : {v : ℕ} {s : List ℕ} {at : ℕ} {rl bl cl : List ℕ} {end : ℕ} → Sections v s at rl bl cl end → end ≡ length s
    → {r : Result Graph Refusal} → Made rl bl cl r → BodyRead v s at r
body_made {v} {s} {at} {rl} {bl} {cl} t e d =
    let g = flat_made rl bl cl t.model t.parsed.is_good.0 t.flat d in
    whole t.model (subst (λ (n : ℕ). Parsed (LegalIn v) (body_in v) s at t.model n) e t.parsed) g.graph g.is g.valid g.means
