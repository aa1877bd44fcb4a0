use mathlib.Core.Path.{refl, sym, ap, ◌∙◌}
use mathlib.Core.List.{List, ◌++◌, map-id}
use Rattle.std.specs.Prelude.{None}
use Prim.Native.Nat.{ℕ}
use Rattle.std.proofs.Common.{rules}
use Rattle.std.proofs.lemmas.Iterator.{YieldsList-from_slice, YieldsList-from_zip, YieldsList-from_map}
use Rattle.std.proofs.lemmas.Iterator.Consumers.{YieldsList-at, YieldsList-end}
use Rattle.region_routes.specs.Tables.{packed}
use Rattle.region_routes.proofs.tables.Table.put_pairs.Goals as goal

pub returns : goal.returns
returns c =
    let ran = c.extend.ensures.ran in
    let e = YieldsList-end
    (YieldsList-from_map _ (λ (p : ℕ × ℕ). packed p.0 p.1)
    (YieldsList-at c.map.ensures.source
    (YieldsList-from_zip (YieldsList-at c.zip-pairs.ensures.first (YieldsList-from_slice c.args.numbers.now (cc)))
    (YieldsList-from_slice c.args.places.now c.zip-pairs.ensures.second.0)))
    c.map.ensures.closure (λ x r q k. search rules)) ran.0 ran.1.1.0 ran.1.1.1 None ran.1.0 refl ran.1.1.2 in
    ran.2 ∙ ap (λ (xs : List ℕ). c.args.self.now ++ xs) (sym (map-id ran.0) ∙ e.0)
