use Rattle.std.proofs.Common.{refl, rules}
use lib.Dec.{eqb}
use Rattle.std.proofs.lemmas.List.Recursion.{and_is}
use Rattle.region_graph.specs.Lists.{every}
use Rattle.region_archive.proofs.plain.all_are.Goals as goal

pub returns : goal.returns
returns c =
    let is = λ (v : Prim.Native.Nat.ℕ). eqb v c.args.version in
    and_is (every is) is refl (λ _ _. refl) c.args.versions.now 0 _ (search rules) (search rules)
