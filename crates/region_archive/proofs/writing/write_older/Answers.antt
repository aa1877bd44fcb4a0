use mathlib.Core.Path.{◌≡◌, sym, ap, ◌∙◌}
use Prim.Native.Nat.{ℕ}
use native.Mathlib.Omega.{arith}
use Rattle.region_graph.specs.Sets.{members, set_of}
use Rattle.region_graph.specs.Lists.{member}
use Rattle.region_graph.specs.Model.{Model, Legal}
use Rattle.region_graph.specs.Record.{meaning}
use Rattle.region_graph.proofs.Storing.{regions_back}
use Rattle.region_archive.specs.Image.{image_in, older_version}
use Rattle.region_archive.specs.Promise.{placed_outcome}
use Rattle.region_archive.proofs.Images.{older_placed}
use Rattle.region_archive.proofs.Versions.{older_between}
use Rattle.region_archive.proofs.writing.write_older.Goals as goal

-- the version of the set of a model's regions is the model's
version_is : (m : Model) → Legal m → {set version : ℕ} → set ≡ set_of (λ r. member r m.regions) → version ≡ older_version (members set)
    → version ≡ older_version m.regions
version_is m l e v = v ∙ ap (λ (x : ℕ). older_version (members x)) e ∙ ap older_version (regions_back m.regions l.regions_legal)

pub returns : goal.returns
returns c =
    let m = meaning c.args.graph.now in
    let v = version_is m c.requires.good c.region_set.ensures c.older_version-version.ensures in
    c.write_in.ensures ∙ ap (λ (x : ℕ). placed_outcome (image_in x m) c.args.buffer.now) v
    ∙ older_placed m c.args.buffer.now (sym c.unversioned.ensures ∙ c.if-not-unversioned.false)

pub write_in-requires : goal.write_in-requires
write_in-requires c =
    let m = meaning c.args.graph.now in
    let v = version_is m c.requires.good c.region_set.ensures c.older_version-version.ensures in
    (c.requires, omega (arith, v, (older_between m.regions).1))
