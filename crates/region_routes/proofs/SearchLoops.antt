-- The loops of the search: `layer` takes the regions of the layer before one by one, and `search` adds a layer a turn.
use mathlib.Core.Path.{◌≡◌, sym, subst, ap, ◌∙◌}
use mathlib.Core.Logic.{◌⊎◌, inl, inr}
use mathlib.Core.List.{List}
use Prim.Native.Nat.{ℕ, zero, suc, ◌+◌, ◌-◌, ◌≤◌, ◌<◌, ◌^◌, zero-le}
use native.Mathlib.Nat.{eq-or-lt_of_le, le_refl, le_of_suc-le-suc, not-suc-le-zero, lt_of_lt_of_le, lt_of_le_of_lt}
use native.Mathlib.Omega.{arith}
use lib.Dec.{lit≤}
use lib.ListN.{length, get_or, set, length-set}
use lib.Seq.{get_or-set_same, get_or-set_other}
use lib.Pow.{pow-lt, pow_pos, pow_mono}
use lib.Bits.{bit_and, bit_or, and_le_l, or_lt}
use lib.Count.{count_trailing_zeros, ones}
use borrow.Author.Tests.{lt-ltb}
use Rattle.region_graph.specs.Size.{regions}
use Rattle.region_graph.specs.Lists.{pick}
use Rattle.region_graph.specs.Sets.{singleton}
use Rattle.region_graph.proofs.Bits.{bit_one, in_lt, low_in}
use Rattle.region_routes.specs.Search.{In, Conn, Layer, Layered, At, Searched}
use Rattle.region_routes.proofs.SetLaws.{not_in_empty, in_dec, or_in, in_or, diff_in, in_diff, in_one, in_pos, ones_pos, grows}

-- a set of regions fits a word
fits : {x : ℕ} → x < 2 ^ regions → x < 2 ^ 64
fits h = lt_of_lt_of_le h (pow_mono {i = regions} {j = 64} (lit≤ tt))

-- ---- the loop of `layer`

-- r is the lowest of `left`, and `rest` is `left` without it
pub record Taken (left r rest : ℕ) : Type 0 where
  pub inside : In left r
  pub low : r < regions
  pub gone : In rest r → ⊥
  pub kept : (n : ℕ) → In rest n → In left n
  pub still : (n : ℕ) → In left n → (n ≡ r) ⊎ In rest n
  pub less : rest < left

-- the lowest of a set that is not empty is in it
pub lowest_in : {left r : ℕ} → left < 2 ^ 64 → 0 < left → r ≡ count_trailing_zeros 64 left → In left r
lowest_in {left} word pos e = subst (In left) (sym e) (low_in 64 left pos word)

-- what the functions of the turn answer
pub taken : {left r rest : ℕ} → left < 2 ^ 64 → 0 < left → r ≡ count_trailing_zeros 64 left
    → rest ≡ bit_and left (2 ^ 64 - 1 - singleton (count_trailing_zeros 64 left)) → Taken left r rest
taken {left} {r} {rest} word pos e f = record {
  inside = inside;
  low = low;
  gone = gone;
  kept = λ n h. (parted n h).0;
  still = λ n h. go n h (in_dec alone n);
  less = less (eq-or-lt_of_le (and_le_l left (2 ^ 64 - 1 - alone)));
}
  where
    alone : ℕ
    alone = singleton r

    d : rest ≡ bit_and left (2 ^ 64 - 1 - alone)
    d = f ∙ ap (λ (n : ℕ). bit_and left (2 ^ 64 - 1 - singleton n)) (sym e)

    inside : In left r
    inside = lowest_in word pos e

    low : r < regions
    low = in_lt regions left r word inside

    alone_is : alone ≡ 2 ^ r
    alone_is = ap (λ b. pick b (2 ^ r) 0) (lt-ltb r regions low)

    alone_fits : alone < 2 ^ 64
    alone_fits = fits (subst (λ (x : ℕ). x < 2 ^ regions) (sym alone_is) (pow-lt low))

    parted : (n : ℕ) → In rest n → In left n × (In alone n → ⊥)
    parted n h = in_diff 64 left alone n word alone_fits (subst (λ (x : ℕ). In x n) d h)

    gone : In rest r → ⊥
    gone h = (parted r h).1 (subst (λ (x : ℕ). In x r) (sym alone_is) (bit_one r))

    go : (n : ℕ) → In left n → In alone n ⊎ (In alone n → ⊥) → (n ≡ r) ⊎ In rest n
    go n h (inl k) = inl (in_one r n (subst (λ (x : ℕ). In x n) alone_is k))
    go n h (inr f) = inr (subst (λ (x : ℕ). In x n) (sym d) (diff_in 64 left alone n word alone_fits h f))

    less : (bit_and left (2 ^ 64 - 1 - alone) ≡ left) ⊎ (bit_and left (2 ^ 64 - 1 - alone) < left) → rest < left
    less (inl q) = absurd (gone (subst (λ (x : ℕ). In x r) (sym (d ∙ q)) inside))
    less (inr l) = subst (λ (x : ℕ). x < left) (sym d) l

pub above_none : (x : ℕ) → (x ≡ 0 → ⊥) → 0 < x
above_none x h = omega arith

-- `next` holds the regions that have a connection into the layer before, but for those with one into `left`
pub record LayerState (pred : List ℕ) (prev next left : ℕ) : Type 0 where
  pub word : left < 2 ^ 64
  pub small : next < 2 ^ regions
  pub within : (n : ℕ) → In left n → In prev n
  pub sound : (n : ℕ) → In next n → (s : ℕ) × (Conn pred n s) × (In prev s)
  pub cover : (n s : ℕ) → Conn pred n s → In prev s → In next n ⊎ In left s

module _ {pred : List ℕ} {prev : ℕ} where
  -- no region of the layer before is taken yet
  pub layer_start : prev < 2 ^ 64 → LayerState pred prev 0 prev
  layer_start f = record {
    word = f;
    small = pow_pos regions;
    within = λ n h. h;
    sound = λ n h. absurd (not_in_empty n h);
    cover = λ n s c h. inr h;
  }

  -- r is taken: its predecessors join
  pub layer_next : {next left r rest : ℕ} → ((s : ℕ) → get_or pred s 0 < 2 ^ regions) → Taken left r rest → LayerState pred prev next left
      → LayerState pred prev (bit_or next (get_or pred r 0)) rest
  layer_next {next} {left} {r} {rest} sm t g = record {
    word = omega (arith, t.less, g.word);
    small = or_lt regions next (get_or pred r 0) g.small (sm r);
    within = λ n h. g.within n (t.kept n h);
    sound = λ n h. met n (in_or next (get_or pred r 0) n h);
    cover = λ n s c h. go n s c (g.cover n s c h);
  }
    where
      met : (n : ℕ) → In next n ⊎ In (get_or pred r 0) n → (s : ℕ) × (Conn pred n s) × (In prev s)
      met n (inl h) = g.sound n h
      met n (inr h) = (r, h, g.within r t.inside)

      also : (n s : ℕ) → Conn pred n s → (s ≡ r) ⊎ In rest s → In (bit_or next (get_or pred r 0)) n ⊎ In rest s
      also n s c (inl q) = inl (or_in next (get_or pred r 0) n (inr (subst (λ (y : ℕ). Conn pred n y) q c)))
      also n s c (inr h) = inr h

      go : (n s : ℕ) → Conn pred n s → In next n ⊎ In left s → In (bit_or next (get_or pred r 0)) n ⊎ In rest s
      go n s c (inl h) = inl (or_in next (get_or pred r 0) n (inl h))
      go n s c (inr h) = also n s c (t.still s h)

  -- all are taken, and what is reached goes
  pub layer_end : {next reached x : ℕ} → reached < 2 ^ 64 → x ≡ bit_and next (2 ^ 64 - 1 - reached) → LayerState pred prev next 0 → Layer pred prev reached x
  layer_end {next} {reached} f e g = subst (Layer pred prev reached) (sym e) record {
    small = lt_of_le_of_lt (and_le_l next (2 ^ 64 - 1 - reached)) g.small;
    fresh = λ n h. (in_diff 64 next reached n (fits g.small) f h).1;
    sound = λ n h. g.sound n (in_diff 64 next reached n (fits g.small) f h).0;
    complete = λ n s c h o. diff_in 64 next reached n (fits g.small) f (go n s (g.cover n s c h)) o;
  }
    where
      go : (n s : ℕ) → In next n ⊎ In 0 s → In next n
      go n s (inl h) = h
      go n s (inr h) = absurd (not_in_empty s h)

-- ---- the loop of `search`

-- layers 0 to k, the last of them `prev`, all regions in them `reached`; each layer but the last has a member, so there are few
pub record SearchState (pred : List ℕ) (holders : ℕ) (sets : List ℕ) (k reached prev : ℕ) : Type 0 where
  pub long : length sets ≡ regions
  pub low : k < regions
  pub here : get_or sets k 0 ≡ prev
  pub small : reached < 2 ^ regions
  pub count : k + ones prev ≤ ones reached
  pub layered : Layered (Conn pred) (In holders) (At sets) k
  pub into : (i n : ℕ) → i ≤ k → At sets i n → In reached n
  pub from : (n : ℕ) → In reached n → (i : ℕ) × (i ≤ k) × (At sets i n)

-- the last layer has regions only
pub last_regions : {pred : List ℕ} {holders : ℕ} {sets : List ℕ} {k reached prev : ℕ} → SearchState pred holders sets k reached prev
    → (n : ℕ) → In prev n → n < regions
last_regions {k = k} {reached = reached} st n h =
    in_lt regions reached n st.small (st.into k n (le_refl k) (subst (λ (x : ℕ). In x n) (sym st.here) h))

-- layer 0 is the holders
pub search_start : {pred : List ℕ} {holders : ℕ} {sets : List ℕ} → holders < 2 ^ regions → length sets ≡ regions → get_or sets 0 0 ≡ holders
    → SearchState pred holders sets 0 holders holders
search_start {holders = holders} {sets = sets} h l e = record {
  long = l;
  low = omega arith;
  here = e;
  small = h;
  count = omega arith;
  layered = record {
    base = λ n i. rw e i;
    holds = λ n i. rw e at i;
    back = λ j n l. absurd (not-suc-le-zero l);
    closed = λ j n s l. absurd (not-suc-le-zero l);
    apart = λ i j n l m. absurd (omega (arith, l, m));
  };
  into = zeroth;
  from = λ n a. (0, zero-le, rw e a);
}
  where
    zeroth : (i n : ℕ) → i ≤ 0 → At sets i n → In holders n
    zeroth zero n m a = rw e at a
    zeroth (suc i) n m a = absurd (not-suc-le-zero m)

module _ {pred : List ℕ} {holders : ℕ} {sets : List ℕ} {k reached prev next : ℕ} (st : SearchState pred holders sets k reached prev)
    (ly : Layer pred prev reached next) where
  -- a region with a connection into the last layer is reached, or in the next one
  reached_or_next : (n s : ℕ) → Conn pred n s → At sets k s → In reached n ⊎ In next n
  reached_or_next n s c h = go (in_dec reached n)
    where
      go : In reached n ⊎ (In reached n → ⊥) → In reached n ⊎ In next n
      go (inl i) = inl i
      go (inr f) = inr (ly.complete n s c (rw st.here at h) f)

  -- with no further layer the search is at its end
  pub search_end : next ≡ 0 → Searched pred holders sets k reached
  search_end e = record {
    layered = st.layered;
    low = st.low;
    small = st.small;
    into = st.into;
    from = st.from;
    shut = λ n s c h. let x = st.from s h in go n s c x.0 x.2 (eq-or-lt_of_le x.1);
  }
    where
      none : (n : ℕ) → In reached n ⊎ In next n → In reached n
      none n (inl h) = h
      none n (inr h) = absurd (not_in_empty n (subst (λ (x : ℕ). In x n) e h))

      go : (n s : ℕ) → Conn pred n s → (i : ℕ) → At sets i s → (i ≡ k) ⊎ (i < k) → In reached n
      go n s c i h (inl q) = none n (reached_or_next n s c (subst (λ (x : ℕ). At sets x s) q h))
      go n s c i h (inr l) = let x = st.layered.closed i n s l c h in st.into x.0 n (omega (arith, x.1)) x.2

  module _ (pos : 0 < next) where
    prev_pos : 0 < prev
    prev_pos = let x = ly.sound (count_trailing_zeros regions next) (low_in regions next pos ly.small) in in_pos prev x.0 x.2

    more : (ones (bit_or reached next) ≡ ones reached + ones next) × (ones (bit_or reached next) ≤ regions)
    more = grows regions reached next st.small ly.small (λ m. ly.fresh m.0 m.2 m.1)

    -- there are no more layers with members than regions
    pub search_room : suc k < regions
    search_room = omega (arith, more.0, more.1, st.count, ones_pos prev prev_pos, ones_pos next pos)

    new : List ℕ
    new = set sets (suc k) next

    same : (i : ℕ) → i ≤ k → get_or new i 0 ≡ get_or sets i 0
    unfolding new
    same i m = get_or-set_other sets (suc k) i next 0 (λ e. omega arith)

    top : get_or new (suc k) 0 ≡ next
    unfolding new
    top = get_or-set_same sets (suc k) next 0 (omega (arith, search_room, st.long))

    old : (i n : ℕ) → i ≤ k → At new i n → At sets i n
    old i n m h = subst (λ (x : ℕ). In x n) (same i m) h

    keep : (i n : ℕ) → i ≤ k → At sets i n → At new i n
    keep i n m h = subst (λ (x : ℕ). In x n) (sym (same i m)) h

    -- a member of the new layer, whose number is given by an equation
    top_in : (j n : ℕ) → j ≡ suc k → At new j n → In next n
    top_in j n e h = subst (λ (x : ℕ). In x n) (ap (λ (y : ℕ). get_or new y 0) e ∙ top) h

    into_next : (i n : ℕ) → At new i n → (i ≡ suc k) ⊎ (i < suc k) → In (bit_or reached next) n
    into_next i n h (inl e) = or_in reached next n (inr (top_in i n e h))
    into_next i n h (inr l) = let m = le_of_suc-le-suc l in or_in reached next n (inl (st.into i n m (old i n m h)))

    from_next : (n : ℕ) → In reached n ⊎ In next n → (i : ℕ) × (i ≤ suc k) × (At new i n)
    from_next n (inl h) = let x = st.from n h in (x.0, omega (arith, x.1), keep x.0 n x.1 x.2)
    from_next n (inr h) = (suc k, le_refl (suc k), subst (λ (x : ℕ). In x n) (sym top) h)

    layered_next : Layered (Conn pred) (In holders) (At new) (suc k)
    layered_next = record {
      base = λ n h. keep 0 n zero-le (st.layered.base n h);
      holds = λ n h. st.layered.holds n (old 0 n zero-le h);
      back = λ j n l h. behind j n h (eq-or-lt_of_le (le_of_suc-le-suc l));
      closed = λ j n s l c h. on j n s c h (eq-or-lt_of_le (le_of_suc-le-suc l));
      apart = λ i j n l m a b. two i j n l a b (eq-or-lt_of_le m);
    }
      where
        behind : (j n : ℕ) → At new (suc j) n → (j ≡ k) ⊎ (j < k) → (s : ℕ) × (Conn pred n s) × (At new j s)
        behind j n h (inl e) =
            let x = ly.sound n (top_in (suc j) n (ap suc e) h) in
            let l : get_or sets j 0 ≡ prev = ap (λ (y : ℕ). get_or sets y 0) e ∙ st.here in
            (x.0, x.1, keep j x.0 (omega arith) (subst (λ (y : ℕ). In y x.0) (sym l) x.2))
        behind j n h (inr l) =
            let x = st.layered.back j n l (old (suc j) n l h) in (x.0, x.1, keep j x.0 (omega arith) x.2)

        on : (j n s : ℕ) → Conn pred n s → At new j s → (j ≡ k) ⊎ (j < k) → (i : ℕ) × (i ≤ suc j) × (At new i n)
        on j n s c h (inl e) =
            let x = from_next n (reached_or_next n s c (subst (λ (y : ℕ). At sets y s) e (old j s (omega arith) h))) in
            (x.0, omega (arith, x.1), x.2)
        on j n s c h (inr l) =
            let x = st.layered.closed j n s l c (old j s (omega arith) h) in (x.0, x.1, keep x.0 n (omega (arith, x.1)) x.2)

        two : (i j n : ℕ) → i < j → At new i n → At new j n → (j ≡ suc k) ⊎ (j < suc k) → ⊥
        two i j n l a b (inl e) = let m : i ≤ k = omega arith in ly.fresh n (top_in j n e b) (st.into i n m (old i n m a))
        two i j n l a b (inr u) = let m = le_of_suc-le-suc u in st.layered.apart i j n l m (old i n (omega arith) a) (old j n m b)

    -- one layer more
    pub search_next : SearchState pred holders (set sets (suc k) next) (suc k) (bit_or reached next) next
    unfolding new
    search_next = record {
      long = length-set sets (suc k) next ∙ st.long;
      low = search_room;
      here = top;
      small = or_lt regions reached next st.small ly.small;
      count = omega (arith, more.0, st.count, ones_pos prev prev_pos);
      layered = layered_next;
      into = λ i n m h. into_next i n h (eq-or-lt_of_le m);
      from = λ n h. from_next n (in_or reached next n h);
    }
