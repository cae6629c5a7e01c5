-- Control words that belong to what the blocks keep, and marks.
use Rattle.std.proofs.Common.{◌≡◌, ◌≢◌, ◌≤◌, ◌<◌, ◌⊎◌, inl, inr, ℕ, ◌+◌, ◌-◌, ◌*◌, ◌/◌, ◌^◌, Bool, true, cond, ◌&&◌}
use Rattle.std.proofs.Common.{◌==◌}
use Rattle.std.proofs.Common.{List, length, get_or, refl, sym, ap, ◌∙◌, arith, subst}
use Rattle.std.specs.Prelude.{nat_le, nat_lt}
use Rattle.std.specs.List.{count_by}
use Rattle.std.proofs.Math.Path.{fun_ext}
use Rattle.std.proofs.lemmas.Bool.{cases_eq, cases_lt, eq-eqb, ne_eqb}
use Rattle.std.proofs.lemmas.Bool.Decides.{nat_tests}
use Rattle.sdr_base.specs.Blocks.{with_at}
use Rattle.sdr_base.specs.KeptLarge.{KeepsLarge, is_entry, large_place}
use Rattle.sdr_base.specs.KeptPools.{KeepsSmall, list_place}
use Rattle.sdr_base.specs.Pools.{Pools, is_of, is_used_at}
use Rattle.sdr_base.specs.Stored.{number_at, with_number}
use Rattle.sdr_base.proofs.KeptPoolsLemmas.{ChainFrom-moved, IsInOrder, in_order, is_block, free_is, listed_is}
use Rattle.sdr_base.proofs.PoolsLemmas.{at-first, used-le-at}
use Rattle.sdr_large.proofs.FollowsLemmas.{at_first}
use Rattle.sdr_base.proofs.StartBitsLemmas.{start_bit-same}
use Rattle.sdr_base.proofs.StoredLemmas.{get_or-with_number, length-with_number, number_at-same, number_at-with_number}
use Rattle.sdr_base.proofs.StoredLemmas.{leader_kind-same, leader_words-same, leader_length-same}
use Rattle.sdr_large.specs.Gap.{TilesAround}
use Rattle.sdr_large.proofs.LinksLemmas.{Links-same}
use Rattle.sdr_large.proofs.PartedLemmas.{IsBeside}
use Rattle.sdr_large.proofs.PlacesLemmas.{InOrder, in_order as large_order, at_block, entered_free, free_of, used_of}
use Rattle.sdr_large.proofs.WalkLemmas.{tiles_whole}
use Rattle.sdr_base.specs.KeptHeap.{KeepsHeap, KeepsSomeHeap, block_in, root_in}
use Rattle.sdr_heap.proofs.BesideLemmas.{BlocksStay, blocks_beside, labels_stay}
use Rattle.sdr_heap.proofs.BlockInLemmas.{none_in}
use Rattle.sdr_heap.proofs.UsedLemmas.{small_at, large_at}

-- all stays but those control words
module _ (x y : List ℕ) (P : Pools) (keeps : KeepsHeap x P) (size : length y ≡ length x)
    (stays : (i : ℕ) → (i < 712) ⊎ (1024 ≤ i) → get_or y i 0 ≡ get_or x i 0) where
  o : IsInOrder x P
  o = in_order x P keeps.small

  t : TilesAround P P.end P.end
  t = tiles_whole P keeps.large.tiles

  q : InOrder P P.end P.end
  q = large_order P P.end P.end t

  up : (i : ℕ) → P.start ≤ i → get_or y i 0 ≡ get_or x i 0
  up i ge = stays i (inr (omega (arith, ge, o.control)))

  small : KeepsSmall y P
  small = record {
    tiles = keeps.small.tiles;
    size = size ∙ keeps.small.size;
    region = number_at-same 0 x y (λ i ge lt. stays i (inl (omega (arith, lt)))) ∙ keeps.small.region;
    start = number_at-same 8 x y (λ i ge lt. stays i (inl (omega (arith, lt)))) ∙ keeps.small.start;
    low = number_at-same 16 x y (λ i ge lt. stays i (inl (omega (arith, lt)))) ∙ keeps.small.low;
    high = number_at-same 24 x y (λ i ge lt. stays i (inl (omega (arith, lt)))) ∙ keeps.small.high;
    lists = λ w some few.
        ChainFrom-moved x y (list_place w) (list_place w) (P.small_lists w)
        (number_at-same (list_place w) x y (λ i ge lt. stays i (inl (omega (arith, lt, few)))))
        (λ a there.
        let b = is_block x P w a keeps.small (free_is P w a (listed_is x P w a keeps.small there)) in
        number_at-same a x y (λ i ge lt. up i (omega (arith, ge, b.first))))
        (keeps.small.lists w some few);
    leaders = λ w a some.
        let b = is_block x P w a keeps.small some in
        leader_words-same (a - 8) x y (λ i ge lt. up i (omega (arith, ge, b.first))) ∙ keeps.small.leaders w a some;
    kinds = λ w a some.
        let b = is_block x P w a keeps.small (free_is P w a some) in
        leader_kind-same (a - 8) x y (λ i ge lt. up i (omega (arith, ge, b.first))) ∙ keeps.small.kinds w a some;
    lengths = λ w a some.
        let b = is_block x P w a keeps.small (free_is P w a some) in
        leader_length-same (a - 8) x y (λ i ge lt. up i (omega (arith, ge, b.first))) ∙ keeps.small.lengths w a some;
    bits = λ word within below.
        start_bit-same word x y (stays (1024 + word / 8) (inr (omega arith))) ∙ keeps.small.bits word within below;
  }

  at : (w a : ℕ) → 0 < count_by (is_of w a) P.large → IsBeside P.high P.end P.end P.end w a P.large
  at w a some = at_block P P.end P.end t w a some

  listed : (order w a : ℕ) → 0 < count_by (is_entry w a) (P.large_lists order) →
      IsBeside P.high P.end P.end P.end w a P.large
  listed order w a there = at w a (free_of P P.end P.end t w a (entered_free P P.end P.end t order w a there))

  high : (p : ℕ) → P.high ≤ p → number_at p y ≡ number_at p x
  high p ge = number_at-same p x y (λ i le lt. up i (omega (arith, ge, le, q.small, q.order)))

  large : KeepsLarge y P
  large = record {
    tiles = keeps.large.tiles;
    holds = record {
      size = size ∙ keeps.large.holds.size;
      low = number_at-same 16 x y (λ i ge lt. stays i (inl (omega (arith, lt)))) ∙ keeps.large.holds.low;
      high = number_at-same 24 x y (λ i ge lt. stays i (inl (omega (arith, lt)))) ∙ keeps.large.holds.high;
      lists = λ order le.
          Links-same x y 8 (λ is. omega (arith, is)) (large_place order) 0 (P.large_lists order)
          (keeps.large.holds.lists order le)
          (λ differs. number_at-same (large_place order) x y (λ i ge lt. stays i (inl (omega (arith, lt, le)))))
          (λ w a there differs. high (a - 8) (omega (arith, (listed order w a there).first)))
          (λ w a there differs. high (a + 8 * w) (omega (arith, (listed order w a there).first)))
          (λ is. omega (arith, is))
          (λ w a there is. omega (arith, is, (listed order w a there).first, q.control, q.small, q.order));
      leaders = λ w a some.
          leader_words-same (a - 16) x y (λ i ge lt. up i (omega (arith, ge, (at w a some).first, q.small, q.order)))
          ∙ keeps.large.holds.leaders w a some;
      free = λ w a some.
          let was = keeps.large.holds.free w a some in
          let b = at w a (free_of P P.end P.end t w a some) in
          record {
            kind = leader_kind-same (a - 16) x y (λ i ge lt. up i (omega (arith, ge, b.first, q.small, q.order)))
                ∙ was.kind;
            length = leader_length-same (a - 16) x y (λ i ge lt. up i (omega (arith, ge, b.first, q.small, q.order)))
                ∙ was.length;
            last = high (a + 8 * w + 8) (omega (arith, b.first)) ∙ was.last;
          };
      used = λ w a some.
          let was = keeps.large.holds.used w a some in
          let b = at w a (used_of P P.end P.end t w a some) in
          record {
            next = high (a - 8) (omega (arith, b.first)) ∙ was.next;
            before = high (a + 8 * w) (omega (arith, b.first)) ∙ was.before;
            last = high (a + 8 * w + 8) (omega (arith, b.first)) ∙ was.last;
          };
      bits = λ word within ge.
          start_bit-same word x y (stays (1024 + word / 8) (inr (omega arith))) ∙ keeps.large.holds.bits word within ge;
    };
  }

  stay : BlocksStay P P 0 x y
  stay = record {
    size = size;
    small_was = λ w other differ used. used;
    small_is = λ w other differ used. used;
    small_bytes = λ w other differ used i ge lt.
        up i (omega (arith, ge, (small_at x P keeps.small w other used).first));
    large_was = λ w other differ used. used;
    large_is = λ w other differ used. used;
    large_bytes = λ w other differ used i ge lt.
        up i (omega (arith, ge, (large_at x P keeps.large w other used).first, q.small, q.order));
  }

  -- the heap is kept
  pub roots_keep : KeepsHeap y P
  roots_keep = record {
    small = small;
    large = large;
    labels = labels_stay P P 0 x y keeps.small keeps.large keeps.labels small large stay;
  }

  -- no block begins at 0
  none_at : count_by (is_used_at 0) P.small ≡ 0
  none_at = omega (
    arith,
    used-le-at 0 P.small,
    at-first P.start P.low 0 P.small keeps.small.tiles.follow (omega (arith, o.control)),
  )

  none_at_large : count_by (is_used_at 0) P.large ≡ 0
  none_at_large = omega (
    arith,
    used-le-at 0 P.large,
    at_first P.high P.end 0 P.large keeps.large.tiles.follow (omega (arith, q.control, q.small, q.order)),
  )

  -- the blocks stay
  pub roots_blocks : block_in y ≡ block_in x
  roots_blocks = fun_ext (λ other. elim (cases_eq other 0) [
    | inr differ ↦ blocks_beside P P 0 x y keeps.small keeps.large keeps.labels small large stay other differ
    | inl is ↦ subst (λ (a : ℕ). block_in y a ≡ block_in x a) (sym is)
        (none_in y P small large 0 none_at none_at_large
        ∙ sym (none_in x P keeps.small keeps.large 0 none_at none_at_large))
  ])

-- the control word in the place of another
module _ (x : List ℕ) (word value : ℕ) (least : 89 ≤ word) (most : word < 128) (inside : 1024 ≤ length x)
    (fits : value < 2 ^ 64) where
  -- all stays but the control words that belong to what the blocks keep
  pub root_stays : (i : ℕ) → (i < 712) ⊎ (1024 ≤ i) → get_or (with_number (8 * word) value x) i 0 ≡ get_or x i 0
  root_stays i out = get_or-with_number (8 * word) value x i (omega (arith, most, inside)) (side out)
    where
      side : (i < 712) ⊎ (1024 ≤ i) → (i < 8 * word) ⊎ (8 * word + 8 ≤ i)
      side (inl lt) = inl (omega (arith, lt, least))
      side (inr ge) = inr (omega (arith, ge, most))

  here : root_in (with_number (8 * word) value x) word ≡ value
  unfolding root_in
  here =
      ap (λ (b : Bool). cond b (number_at (8 * word) (with_number (8 * word) value x)) 0) (within word least most)
      ∙ number_at-with_number (8 * word) value x (omega (arith, most, inside)) fits
    where
      within : (w : ℕ) → 89 ≤ w → w < 128 → (nat_le 89 w && nat_lt w 128) ≡ true
      within w ge lt = grind (arith, nat_tests)

  apart : (other : ℕ) → other ≢ word → root_in (with_number (8 * word) value x) other ≡ root_in x other
  unfolding root_in
  apart other differ =
      ap (λ (n : ℕ). cond (nat_le 89 other && nat_lt other 128) n 0)
      (number_at-same (8 * other) x (with_number (8 * word) value x)
      (λ i ge lt. get_or-with_number (8 * word) value x i (omega (arith, most, inside)) (side i ge lt)))
    where
      side : (i : ℕ) → 8 * other ≤ i → i < 8 * other + 8 → (i < 8 * word) ⊎ (8 * word + 8 ≤ i)
      side i ge lt = elim (cases_lt other word) [
        | inl below ↦ inl (omega (arith, below, lt))
        | inr above ↦ inr (omega (arith, above, differ, ge))
      ]

  pub root_in-with_number : root_in (with_number (8 * word) value x) ≡ with_at (root_in x) word value
  unfolding with_at
  root_in-with_number = fun_ext (λ other. elim (cases_eq other word) [
    | inl is ↦ subst (λ (w : ℕ). root_in (with_number (8 * word) value x) w ≡ cond (w == word) value (root_in x w))
        (sym is)
        (here ∙ sym (ap (λ (b : Bool). cond b value (root_in x word)) (eq-eqb word word refl)))
    | inr differ ↦
        apart other differ ∙ sym (ap (λ (b : Bool). cond b value (root_in x other)) (ne_eqb other word differ))
  ])

-- the control word that is read
pub root_is : (x : List ℕ) (word : ℕ) → 89 ≤ word → word < 128 → number_at (8 * word) x ≡ root_in x word
unfolding root_in
root_is x word least most = sym (ap (λ (b : Bool). cond b (number_at (8 * word) x) 0) (within word least most))
  where
    within : (w : ℕ) → 89 ≤ w → w < 128 → (nat_le 89 w && nat_lt w 128) ≡ true
    within w ge lt = grind (arith, nat_tests)

-- a control word that belongs to what the blocks keep was put: the heap is kept, the blocks stay, and the word is this
pub record PutsRoot (word value : ℕ) (x y : List ℕ) : Type 0 where
  pub keeps : (P : Pools) → KeepsHeap x P → KeepsHeap y P
  pub blocks : block_in y ≡ block_in x
  pub roots : root_in y ≡ with_at (root_in x) word value

pub root_put : (x y : List ℕ) (word value : ℕ) → 89 ≤ word → word < 128 → value < 2 ^ 64 → KeepsSomeHeap x →
    y ≡ with_number (8 * word) value x → PutsRoot word value x y
root_put x y word value least most fits kept is =
    let o = in_order x kept.pools kept.keeps.small in
    let inside : 1024 ≤ length x = omega (arith, o.control, o.small, o.order, o.end) in
    let size = length-with_number (8 * word) value x (omega (arith, most, inside)) in
    let stays = root_stays x word value least most inside fits in
    subst (PutsRoot word value x) (sym is) (record {
      keeps = λ P keeps. roots_keep x (with_number (8 * word) value x) P keeps size stays;
      blocks = roots_blocks x (with_number (8 * word) value x) kept.pools kept.keeps size stays;
      roots = root_in-with_number x word value least most inside fits;
    })
