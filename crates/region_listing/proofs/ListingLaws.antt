-- Laws of the listing's text.
use mathlib.Core.Path.{◌≡◌, refl, sym, ap, ◌∙◌, subst}
use mathlib.Core.Bool.{Bool, true, false}
use mathlib.Core.List.{List, [], ◌∷◌, ◌++◌, map}
use Prim.Native.Nat.{ℕ, suc, ◌+◌, ◌-◌, ◌*◌, ◌^◌, ◌≤◌, ◌<◌}
use native.Mathlib.Omega.{arith}
use borrow.Author.Tests.{eq-eqb, ne_eqb}
use lib.Dec.{eqb}
use lib.ListN.{length, get_or, take, drop, replicate, length-append, length-replicate}
use lib.Seq.{take-length}
use Rattle.region_graph.specs.Lists.{concat_map}
use Rattle.region_graph.specs.Size.{regions, most_bundles, most_provided}
use Rattle.region_graph.specs.Refusals.{not_refused, refusal_number}
use Rattle.region_graph.specs.Lists.{pick, All}
use Rattle.region_graph.specs.Model.{Model, Bundle, Legal, LegalBundle}
use Rattle.region_graph.specs.Record.{Valid, meaning, no_bundle, store_bundle, bundle_in}
use Rattle.region_graph.specs.declared.Graph.{Graph}
use Rattle.region_graph.specs.declared.refusals.Refusal.{Refusal}
use Rattle.region_graph.specs.declared.bundles.StoredBundle.{StoredBundle}
use Rattle.region_graph.proofs.Lists.{pick_yes, pick_no, keep_length, all_at, all_map, member_all, concat_next, concat_within, concat_most}
use Rattle.region_graph.proofs.Arrays.{drop_replicate}
use Rattle.region_graph.proofs.Storing.{short_bundle}
use Rattle.region_graph.proofs.Views.{stored_length, bundle_means_at}
use Rattle.region_routes.specs.Chosen.{sees}
use Rattle.region_routes.specs.Hooks.{kind_number}
use Rattle.region_routes.specs.declared.Kind.{Kind}
use Rattle.text_lines.specs.Written.{WrittenAt}
use Rattle.text_lines.specs.Decimal.{decimal, decimal_field, space, newline}
use Rattle.text_lines.proofs.Writes.{wrote_then, wrote_is, wrote_length}
use Rattle.text_lines.proofs.DecimalLaws.{decimal_few, decimal_most}
use Rattle.region_archive.specs.File.{FileMeaning, read_model, read_number}
use Rattle.region_archive.proofs.Meaning.{file_meaning, model_legal}
use Rattle.region_archive.proofs.FileReads.{refusal_positive}
use Rattle.region_listing.specs.Listing.{provided, held, seen_from, line_of, line, header, listing_text, refused_word, refusal_text, file_text}
use Rattle.region_listing.specs.Listing.{header_size, line_size, longest_text, store_text, ArchiveListed}
use Rattle.region_listing.specs.Counts.{Counted}
use Rattle.region_listing.specs.declared.listing.Text.{Text}
use Rattle.region_listing.proofs.Collecting.{joined_few, provided_few}
use Rattle.region_listing.proofs.Counting.{item_of}

-- a line by the counts of each region
abbrev pub row : List ℕ → List ℕ → List ℕ → Bundle → List ℕ
row bundles packages services b =
    line_of b.location b.region (get_or bundles b.region 0) (get_or packages b.region 0) (get_or services b.region 0)

-- the regions of bundles are regions
abbrev pub Inside : List Bundle → Type 0
Inside bs = All (λ b. b.region < regions) bs

pub legal_inside : (m : Model) → Legal m → Inside m.bundles
legal_inside m l =
    all_map (LegalBundle m.regions) (λ b. b.region < regions)
    (λ b h. member_all (λ n. n < regions) b.region m.regions l.regions_legal.each h.region)
    m.bundles l.bundles_legal.each

-- the counts of a model give its lines
module _ (m : Model) {bundles packages services : List ℕ} (p : Counted m Kind.Bundle bundles) (q : Counted m Kind.Package packages)
    (r : Counted m Kind.Service services) where
  rows_lines : (bs : List Bundle) → Inside bs → concat_map (row bundles packages services) bs ≡ concat_map (line m) bs
  rows_lines [] h = refl
  rows_lines (b ∷ bs) h =
      let e = p.each b.region h.0 in
      let f = q.each b.region h.0 in
      let g = r.each b.region h.0 in
      λ i. line_of b.location b.region (e i) (f i) (g i) ++ rows_lines bs h.1 i

  pub rows_are : Legal m → concat_map (row bundles packages services) m.bundles ≡ concat_map (line m) m.bundles
  rows_are l = rows_lines m.bundles (legal_inside m l)

-- the lines of the first i bundles are written
pub record Lining (line : Bundle → List ℕ) (bs : List Bundle) (old new : List ℕ) (from at i : ℕ) : Type 0 where
  pub room : from + length (concat_map line bs) ≤ length old
  pub wrote : WrittenAt old new from (concat_map line (take i bs)) at

module _ {g : Graph} (v : Valid g) {items : List StoredBundle} (s : items ≡ map store_bundle (meaning g).bundles) {i : ℕ} (k : i < length items)
    (d : StoredBundle) where
  here : bundle_in (get_or items i d) ≡ get_or (meaning g).bundles i no_bundle
  here = bundle_means_at g v s i d k

  few : i < length (meaning g).bundles
  few = omega (arith, stored_length store_bundle (meaning g).bundles s)

  -- the region of the next bundle
  pub lining_region : (get_or items i d).region < regions
  lining_region =
      subst (λ (b : Bundle). b.region < regions) (sym here)
      (all_at (λ b. b.region < regions) (meaning g).bundles i no_bundle few (legal_inside (meaning g) v.good))

  module _ {line : Bundle → List ℕ} {old new : List ℕ} {from at : ℕ} (h : Lining line (meaning g).bundles old new from at i) where
    -- there is room for its line
    pub lining_room : at + length (line (bundle_in (get_or items i d))) ≤ length new
    lining_room =
        let bs = (meaning g).bundles in
        omega (
          arith,
          h.room,
          h.wrote.ends,
          wrote_length h.wrote,
          ap (λ (b : Bundle). length (line b)) here,
          concat_within line bs i (length bs) no_bundle few (omega arith),
          ap (λ (xs : List Bundle). length (concat_map line xs)) (take-length bs),
        )

    -- one line more
    pub lining_more : {last : List ℕ} {to : ℕ} → WrittenAt new last at (line (bundle_in (get_or items i d))) to
        → Lining line (meaning g).bundles old last from to (i + 1)
    lining_more w = record {
      room = h.room;
      wrote = wrote_is (sym (concat_next line (meaning g).bundles i no_bundle few)) (wrote_then h.wrote (wrote_is (ap line here) w));
    }

field_few : (j n end : ℕ) → n < 10 ^ suc j → length (decimal_field n end) ≤ suc (suc j)
field_few j n end h = omega (arith, length-append (decimal n) (end ∷ []), decimal_few j n h)

-- any number, and the byte after it
pub field_most : (n end : ℕ) → length (decimal_field n end) ≤ 11
field_most n end = omega (arith, length-append (decimal n) (end ∷ []), decimal_most n)

line_length : (a b c d e : ℕ)
    → length (line_of a b c d e)
    ≡ length (decimal_field a space) + (length (decimal_field b space)
    + (length (decimal_field c space) + (length (decimal_field d space) + length (decimal_field e newline))))
line_length a b c d e = simp length-append

module _ (m : Model) (l : Legal m) where
  seen_most : (k : Kind) (r w : ℕ) → ((b : Bundle) → LegalBundle m.regions b → length (provided k b) ≤ w)
      → seen_from m k r ≤ length m.bundles * w
  unfolding seen_from held
  seen_most k r w h =
      omega (
        arith,
        keep_length (λ p. sees m (item_of (kind_number k) p) r) (held k m.bundles),
        joined_few [] (concat_map (provided k) m.bundles),
        concat_most (LegalBundle m.regions) (provided k) w h m.bundles l.bundles_legal.each,
      )

  -- a line has no more bytes than its limit
  line_few : (b : Bundle) → LegalBundle m.regions b → length (line m b) ≤ line_size
  line_few b h =
      let r = b.region in
      let i : r < regions = member_all (λ n. n < regions) r m.regions l.regions_legal.each h.region in
      let bundles = seen_most Kind.Bundle r 1 (λ c k. omega arith) in
      let packages = seen_most Kind.Package r most_provided (λ c k. provided_few c (short_bundle k) Kind.Package) in
      let services = seen_most Kind.Service r most_provided (λ c k. provided_few c (short_bundle k) Kind.Service) in
      omega (
        arith,
        line_length b.location r (seen_from m Kind.Bundle r) (seen_from m Kind.Package r) (seen_from m Kind.Service r),
        field_few 9 b.location space (omega (arith, h.location)),
        field_few 1 r space (omega (arith, i)),
        field_few 1 (seen_from m Kind.Bundle r) space (omega (arith, bundles, l.bundles_legal.few)),
        field_few 2 (seen_from m Kind.Package r) space (omega (arith, packages, l.bundles_legal.few)),
        field_few 2 (seen_from m Kind.Service r) newline (omega (arith, services, l.bundles_legal.few)),
      )

  -- nor have all lines
  pub lines_few : length (concat_map (line m) m.bundles) ≤ most_bundles * line_size
  lines_few = omega (arith, concat_most (LegalBundle m.regions) (line m) line_size line_few m.bundles l.bundles_legal.each, l.bundles_legal.few)

pub header_length : length header ≡ header_size
unfolding header
header_length = refl

-- what was written into equal places, and those that are left
wrote_same : (x size : ℕ) {old new xs : List ℕ} {next : ℕ} → old ≡ replicate size x → WrittenAt old new 0 xs next
    → (next ≡ length xs) × (new ≡ xs ++ replicate (size - length xs) x)
wrote_same x size {old} {new} {xs} {next} e w = (
  ends,
  w.shape ∙ ap (λ (l : List ℕ). xs ++ l) (ap (λ (l : List ℕ). drop next l) e ∙ drop_replicate x size next room ∙ ap (λ (k : ℕ). replicate (size - k) x) ends),
)
  where
    ends : next ≡ length xs
    ends = omega (arith, w.ends)

    room : next ≤ size
    room = omega (arith, w.room, ap length e, length-replicate size x)

-- what was written into the places of a text is that text, stored
pub text_stored : {old new xs : List ℕ} {next : ℕ} → old ≡ replicate longest_text 0 → WrittenAt old new 0 xs next
    → ◌≡◌ {A = Text} (record { length = next; bytes = new }) (store_text xs)
unfolding store_text
text_stored e w = let z = wrote_same 0 longest_text e w in λ i. record { length = z.0 i; bytes = z.1 i }

-- the text of a file that is refused, and that of one that is accepted
module _ {s : List ℕ} (f : FileMeaning s) where
  pub refused_text : (r : Refusal) → refusal_number r ≡ read_number f → refusal_text (refusal_number r) ≡ file_text f
  refused_text r e =
      ap refusal_text e
      ∙ sym (pick_no (listing_text (read_model f)) (refusal_text (read_number f)) (ne_eqb _ _ (λ z. refusal_positive r (e ∙ z))))

  pub accepted_text : {m : Model} → not_refused ≡ read_number f → m ≡ read_model f → listing_text m ≡ file_text f
  accepted_text e g = ap listing_text g ∙ sym (pick_yes (listing_text (read_model f)) (refusal_text (read_number f)) (eq-eqb _ _ (sym e)))

-- the longest text holds every text
listing_fits : (m : Model) → Legal m → length (listing_text m) ≤ longest_text
unfolding listing_text
listing_fits m l = omega (arith, length-append header (concat_map (line m) m.bundles), header_length, lines_few m l)

pub refusal_fits : (n : ℕ) → length (refusal_text n) ≤ longest_text
unfolding refusal_text refused_word
refusal_fits n = omega (arith, field_most n newline)

pub text_fits : {s : List ℕ} (f : FileMeaning s) → length (file_text f) ≤ longest_text
text_fits f = go (eqb (read_number f) not_refused)
  where
    go : (b : Bool) → length (pick b (listing_text (read_model f)) (refusal_text (read_number f))) ≤ longest_text
    go true = listing_fits (read_model f) (model_legal f)
    go false = refusal_fits (read_number f)

-- the text of a listing stands in its places
pub listed_inside : (s : List ℕ) (r : Text) → ArchiveListed s r → r.length ≤ length r.bytes
unfolding store_text
listed_inside s r l =
    let t = file_text (file_meaning s) in
    let e = l (file_meaning s) in
    omega (arith, ap (λ (t : Text). t.length) e, ap (λ (t : Text). length t.bytes) e, length-append t (replicate (longest_text - length t) 0))
