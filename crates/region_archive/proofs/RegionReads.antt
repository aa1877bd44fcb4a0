-- The loop over the regions of an archive.
use mathlib.Core.Path.{◌≡◌, sym, ap, ◌∙◌, subst}
use mathlib.Core.List.{List}
use Prim.Native.Nat.{ℕ, ◌+◌, ◌^◌, ◌≤◌, ◌<◌}
use native.Mathlib.Omega.{arith}
use lib.Bits.{bit_or}
use lib.Dec.{eqb}
use lib.ListN.{length, take, drop, set, length-set}
use lib.Seq.{length-take-le, take-set-le, get_or-set_same}
use Rattle.region_graph.specs.Size.{regions}
use Rattle.region_graph.specs.Lists.{member}
use Rattle.region_graph.specs.Sets.{singleton, set_of, members}
use Rattle.region_graph.proofs.Lists.{eqb_sym}
use Rattle.region_graph.proofs.Bits.{set_none}
use Rattle.region_graph.proofs.Storing.{regions_back}
use Rattle.region_graph.proofs.Views.{set_took}
use Rattle.region_graph.specs.Decoded.{GoodRegions}
use Rattle.big_endian.specs.Bytes.{big, counted}
use Rattle.big_endian.specs.Parsing.{Parsed, Unparsed}
use Rattle.big_endian.proofs.Delimits.{big_same}
use Rattle.big_endian.proofs.Rows.{Going, NoNext, going_none, going_more}
use Rattle.region_archive.specs.Sections.{RegionsStand}
use Rattle.region_archive.proofs.CountedReads.{take_set}
use Rattle.region_archive.proofs.CountedLists.{region_bytes, counted_missing, counted_found, counted_stuck}

-- n regions were read from `mid` to `at`, into a list and a set
pub record Regions (s : List ℕ) (mid : ℕ) (list : List ℕ) (x at least n : ℕ) : Type 0 where
  pub going : Going region_bytes s mid (take n list) at least
  pub set_is : x ≡ set_of (λ r. member r (take n list))

pub regions_start : {s : List ℕ} {mid : ℕ} {list : List ℕ} → mid ≤ length s → Regions s mid list 0 mid 0 0
regions_start h = record { going = going_none region_bytes h; set_is = sym set_none }

-- one region more
pub regions_more : {s : List ℕ} {mid : ℕ} {list : List ℕ} {x at least n : ℕ} → Regions s mid list x at least n → n < length list
    → {region next : ℕ} → Parsed (λ m. m < 256 ^ 1) (big 1) s at region next → least ≤ region → region < regions
    → {y : ℕ} → y ≡ singleton region → Regions s mid (set list n region) (bit_or x y) next (region + 1) (n + 1)
regions_more {s} {mid} {list} {x} {n = n} w room {region} {next} p h l e =
    record {
      going =
          subst (λ (xs : List ℕ). Going region_bytes s mid xs next (region + 1)) (sym (take_set list n region room))
          (going_more region_bytes w.going (record { is_good = l; shape = p.shape; ends = p.ends; room = p.room }) h);
      set_is =
          (λ i. bit_or ((w.set_is ∙ ap (λ (t : List ℕ). set_of (λ r. member r t)) (sym (take-set-le n list n region (omega arith)))) i) (e i))
          ∙ set_took (λ r m. eqb m r) (set list n region) n 0 (omega (arith, length-set list n region)) region
          (λ r. ap (eqb r) (get_or-set_same list n region 0 room) ∙ eqb_sym r region);
    }

-- no region that may come next stands at a place: no byte does, or another
pub no_byte : (s : List ℕ) (at least : ℕ) → Unparsed (λ m. m < 256 ^ 1) (big 1) s at → NoNext region_bytes s at least
no_byte s at least u z r h l e = u z r (omega arith) e

pub no_region : {s : List ℕ} {at region next least : ℕ} → Parsed (λ m. m < 256 ^ 1) (big 1) s at region next → (region < regions → region < least)
    → NoNext region_bytes s at least
no_region {s} {region = region} {next} {least} p u z r h l e =
    let d : region ≡ z = (big_same 1 region z (drop next s) r p.is_good (omega arith) (sym p.shape ∙ e)).0 in
    let low : region < least = u (omega arith) in
    omega arith

-- the count is not there
pub regions_missing : (s : List ℕ) (from : ℕ) → Unparsed (λ m. m ≤ regions) (big 1) s from → Unparsed GoodRegions (counted (big 1)) s from
regions_missing s from u = counted_missing region_bytes regions (omega arith) s from u

module _ {s : List ℕ} {from total mid : ℕ} (p : Parsed (λ m. m ≤ regions) (big 1) s from total mid) {list : List ℕ} {x at least n : ℕ}
    (w : Regions s mid list x at least n) (room : n ≤ length list) where
  long : length (take n list) ≡ n
  long = length-take-le n list room

  -- a region is not there
  pub regions_stuck : n < total → NoNext region_bytes s at least → Unparsed GoodRegions (counted (big 1)) s from
  regions_stuck h u = counted_stuck region_bytes regions (omega arith) p w.going (omega (arith, long)) u

  -- all of them are
  pub regions_end : n ≡ total → {count : ℕ} → count ≡ n → RegionsStand s from list (record { set = x; count = count }) at
  regions_end f e = record {
    room = omega arith;
    parsed = subst (λ (rs : List ℕ). Parsed GoodRegions (counted (big 1)) s from rs at) those whole;
    listed = ap (λ (m : ℕ). take m list) e ∙ those;
  }
    where
      whole : Parsed GoodRegions (counted (big 1)) s from (take n list) at
      whole = counted_found region_bytes regions (omega arith) p w.going (long ∙ f)

      those : take n list ≡ members x
      those = sym (ap members w.set_is ∙ regions_back (take n list) whole.is_good)
