use Rattle.std.proofs.Common.{rules}
use mathlib.Core.Path.{◌≡◌, refl, sym, ◌∙◌}
use Prim.Native.Nat.{ℕ, ◌+◌, ◌*◌, ◌<◌}
use native.Mathlib.Omega.{arith}
use lib.ListN.{get_or}
use Rattle.region_archive.proofs.Fits.{entries_coded, numbers_coded, list_part, list_in, numbers_fits, numbers_part, entries_fits, entries_part}
use Rattle.region_archive.proofs.record_fields.StoredConnectionRecord.values.Goals as goal

pub returns : goal.returns
returns c =
    let x = c.args.self.now in
    let h = c.requires in
    let p = c.in_places-named.ensures in
    let q = c.in_places-passed.ensures in
    let r = c.in_places-offered.ensures in
    let bundle : (k : ℕ) → k < 16 → get_or p.0 k 0 ≡ get_or x.bundles.items k 0 = λ k l. let post = p.2 k l in search rules in
    let entry : (k : ℕ) → k < 16
    → get_or q.0 k 0 ≡ (get_or x.packages.numbers k 0 * 65536 + get_or x.packages.lowest k 0) * 65536 + get_or x.packages.highest k 0 =
    λ k l. let post = q.2 k l in search rules in
    let service : (k : ℕ) → k < 16 → get_or r.0 k 0 ≡ get_or x.services.items k 0 = λ k l. let post = r.2 k l in search rules in
    let bundles = list_part h.bundles in
    let named = p.3 ∙ numbers_coded x.bundles.items p.0 x.bundles.count (p.1 ∙ sym h.bundles.size) (λ k l. bundle k (omega (arith, h.bundles.size))) in
    let passed = q.3 ∙ entries_coded x.packages h.packages q.0 q.1 entry in
    let offered = r.3 ∙ numbers_coded x.services.items r.0 x.services.count (r.1 ∙ sym h.services.size) (λ k l. service k (omega (arith, h.services.size))) in
    λ v. record {
      fits =
          record {
            size = refl;
            each = (numbers_fits x.bundles bundles named, (entries_fits x.packages h.packages passed, (numbers_fits x.services h.services offered, tt)));
          };
      same = (
        ((((tt, refl), refl), numbers_part x.bundles bundles named ∙ list_in x.bundles h.bundles), entries_part x.packages h.packages passed),
        numbers_part x.services h.services offered,
      );
    }
