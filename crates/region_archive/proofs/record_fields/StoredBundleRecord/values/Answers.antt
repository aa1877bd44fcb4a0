use Rattle.std.proofs.Common.{rules}
use mathlib.Core.Path.{◌≡◌, refl, sym, ◌∙◌}
use Prim.Native.Nat.{ℕ, ◌+◌, ◌*◌, ◌<◌}
use native.Mathlib.Omega.{arith}
use lib.ListN.{get_or}
use Rattle.region_archive.proofs.Fits.{packages_coded, numbers_coded, packages_fits, packages_part, provided_fits, provided_part}
use Rattle.region_archive.proofs.record_fields.StoredBundleRecord.values.Goals as goal

pub returns : goal.returns
returns c =
    let b = c.args.self.now in
    let h = c.requires in
    let p = c.in_places-provided.ensures in
    let q = c.in_places-published.ensures in
    let code : (k : ℕ) → k < 8 → get_or p.0 k 0 ≡ get_or b.packages.numbers k 0 * 65536 + get_or b.packages.versions k 0 =
    λ k l. let post = p.2 k l in search rules in
    let item : (k : ℕ) → k < 8 → get_or q.0 k 0 ≡ get_or b.services.items k 0 = λ k l. let post = q.2 k l in search rules in
    let provided = p.3 ∙ packages_coded b.packages h.packages p.0 p.1 code in
    let published = q.3 ∙ numbers_coded b.services.items q.0 b.services.count (q.1 ∙ sym h.services.size) (λ k l. item k (omega (arith, h.services.size))) in
    λ v. record {
      fits =
          record {
            size = refl;
            each = (
              packages_fits b.packages h.packages provided,
              (provided_fits b.services h.services published, (record { count = λ e. omega arith; size = refl }, tt)),
            );
          };
      same = ((((tt, refl), refl), packages_part b.packages h.packages provided), provided_part b.services h.services published);
    }
