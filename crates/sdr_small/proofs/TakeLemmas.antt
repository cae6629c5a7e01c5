-- The block at the front of its list, taken.
use Rattle.std.proofs.Common.{◌≡◌, ◌≢◌, ◌≤◌, ◌<◌, ◌⊎◌, inl, inr, ℕ, ◌+◌, ◌-◌, ◌*◌, ◌/◌, ◌^◌, true, false, ◌==◌}
use Rattle.std.proofs.Common.{List, [], ◌∷◌, length, get_or, refl, sym, ap, ◌∙◌, arith, subst}
use Rattle.std.specs.Prelude.{Some}
use Rattle.std.specs.List.{count_by}
use Rattle.std.proofs.lemmas.Bool.{cases_eq}
use Rattle.std.proofs.lemmas.Bool.Decides.{nat_tests}
use Rattle.sdr_base.specs.Pools.{Pools, is_of, is_free_of, is_used_at, TilesSmall}
use Rattle.sdr_base.specs.SmallPool.{with_used, with_list, with_front_taken}
use Rattle.sdr_base.specs.KeptPools.{ChainFrom, KeepsSmall, list_place}
use Rattle.sdr_base.specs.Stored.{number_at, with_number, start_bit}
use Rattle.sdr_base.proofs.PoolsLemmas.{count_by-append, of-le-at, free-le-of, free-free-le-at, count_by-no}
use Rattle.sdr_base.proofs.SmallPoolLemmas.{with_list-here, with_list-other, Follows-with_used, of-with_used}
use Rattle.sdr_base.proofs.SmallPoolLemmas.{free-with_used_other, free-with_used_taken, used-with_used_other}
use Rattle.sdr_base.proofs.SmallPoolLemmas.{used-with_used_taken}
use Rattle.sdr_base.proofs.StartBitsLemmas.{start_bit-same}
use Rattle.sdr_base.proofs.StoredLemmas.{number_at-with_number, number_at-same, get_or-with_number, length-with_number}
use Rattle.sdr_base.proofs.StoredLemmas.{leader_words-same, leader_kind-same, leader_length-same}
use Rattle.sdr_base.proofs.KeptPoolsLemmas.{ChainFrom-moved, IsInOrder, in_order, IsBlock, is_block, free_is, listed_is}
use Rattle.sdr_base.proofs.KeptPoolsLemmas.{front_is, front_free, next_fits}
use Rattle.sdr_small.specs.Calls.{TakesListed, TakesBlock}

-- the bytes from x to y, where the front of the list for some words is taken from the pools
module _ (x y : List ℕ) (P : Pools) (words addr : ℕ) (rest : List ℕ) (keeps : KeepsSmall x P)
    (some : 1 ≤ words) (most : words ≤ 64) (is : P.small_lists words ≡ addr ∷ rest)
    (takes : TakesListed words addr x y) where
  -- where the block stands
  block : IsBlock x P words addr
  block = is_block x P words addr keeps (free_is P words addr (front_free x P words addr rest keeps is))

  order : IsInOrder x P
  order = in_order x P keeps

  -- the list's control word
  place_in : list_place words + 8 ≤ 1024
  place_in = omega arith

  -- a byte outside of the start bits and of the list's control word
  beside : (i : ℕ) → (i < 1024) ⊎ (P.start ≤ i) → (i < list_place words) ⊎ (list_place words + 8 ≤ i) →
      get_or y i 0 ≡ get_or x i 0
  beside i out apart =
      takes.others i (not_bit out)
      ∙ get_or-with_number (list_place words) (number_at addr x) x i
      (omega (arith, order.control, order.small, order.order, order.end)) apart
    where
      not_bit : (i < 1024) ⊎ (P.start ≤ i) → i ≢ 1024 + (addr - 8) / 8 / 8
      not_bit (inl lt) = omega (arith, lt)
      not_bit (inr ge) = omega (arith, ge, block.bit)

  -- a byte of a block
  above : (i : ℕ) → P.start ≤ i → get_or y i 0 ≡ get_or x i 0
  above i ge = beside i (inr ge) (inr (omega (arith, ge, order.control)))

  size : length y ≡ length x
  size =
      takes.size
      ∙ length-with_number (list_place words) (number_at addr x) x
      (omega (arith, order.control, order.small, order.order, order.end))

  -- another control word
  control : (place : ℕ) → place + 8 ≤ 1024 → (place + 8 ≤ list_place words) ⊎ (list_place words + 8 ≤ place) →
      number_at place y ≡ number_at place x
  control place within apart = number_at-same place x y
      (λ i ge lt. beside i (inl (omega (arith, lt, within))) (side i ge lt apart))
    where
      side : (i : ℕ) → place ≤ i → i < place + 8 → (place + 8 ≤ list_place words) ⊎ (list_place words + 8 ≤ place) →
          (i < list_place words) ⊎ (list_place words + 8 ≤ i)
      side i ge lt (inl before) = inl (omega (arith, lt, before))
      side i ge lt (inr behind) = inr (omega (arith, ge, behind))

  -- the list behind its front
  chain : ChainFrom x addr rest
  unfolding ChainFrom
  chain = (subst (λ (l : List ℕ). ChainFrom x (list_place words) l) is (keeps.lists words some most)).1

  -- an address behind the front is that of a free block
  in_rest : (a : ℕ) → 0 < count_by (λ b. b == a) rest → 0 < count_by (λ b. b == a) (P.small_lists words)
  in_rest a some_there =
      subst (λ (l : List ℕ). 0 < count_by (λ b. b == a) l) (sym is)
      (omega (arith, some_there, count_by-append (λ b. b == a) (addr ∷ []) rest))

  -- the next of the list fits into a word
  fits : number_at addr x < 2 ^ 64
  fits = next_fits x P words addr rest keeps chain in_rest

  -- the first word of a free block of any list
  link : (other a : ℕ) → 0 < count_by (λ b. b == a) (P.small_lists other) → number_at a y ≡ number_at a x
  link other a some_there =
      let there = is_block x P other a keeps (free_is P other a (listed_is x P other a keeps some_there)) in
      number_at-same a x y (λ i ge lt. above i (omega (arith, ge, there.first)))

  -- the front of the list is the next one
  front : number_at (list_place words) y ≡ number_at addr x
  front =
      number_at-same (list_place words) (with_number (list_place words) (number_at addr x) x) y
      (λ i ge lt. takes.others i (omega (arith, lt, place_in)))
      ∙ number_at-with_number (list_place words) (number_at addr x) x
      (omega (arith, order.control, order.small, order.order, order.end)) fits

  lists : (other : ℕ) → 1 ≤ other → other ≤ 64 →
      ChainFrom y (list_place other) (with_list words rest P.small_lists other)
  lists other some_other most_other = elim (cases_eq other words) [
    | inl same ↦
        subst (λ (w : ℕ). ChainFrom y (list_place w) (with_list words rest P.small_lists w)) (sym same)
        (subst (λ (l : List ℕ). ChainFrom y (list_place words) l) (sym (with_list-here words rest P.small_lists))
        (ChainFrom-moved x y addr (list_place words) rest front (λ a there. link words a (in_rest a there)) chain))
    | inr differ ↦
        subst (λ (l : List ℕ). ChainFrom y (list_place other) l)
        (sym (with_list-other words other rest P.small_lists differ))
        (ChainFrom-moved x y (list_place other) (list_place other) (P.small_lists other)
        (control (list_place other) (omega arith) (sides other differ)) (link other)
        (keeps.lists other some_other most_other))
  ]
    where
      sides : (other : ℕ) → other ≢ words →
          (list_place other + 8 ≤ list_place words) ⊎ (list_place words + 8 ≤ list_place other)
      sides other differ = grind arith

  -- how often the block stands among the free ones
  free_here : count_by (is_free_of words addr) P.small ≡ 1
  free_here =
      omega (
        arith,
        front_free x P words addr rest keeps is,
        free-le-of words addr P.small,
        of-le-at words addr P.small,
        block.once,
      )

  listed : (other a : ℕ) →
      count_by (λ b. b == a) (with_list words rest P.small_lists other)
      ≡ count_by (is_free_of other a) (with_used addr true P.small)
  listed other a = elim (cases_eq a addr) [
    | inl here ↦
        subst (λ (n : ℕ). count_by (λ b. b == n) (with_list words rest P.small_lists other)
        ≡ count_by (is_free_of other n) (with_used addr true P.small)) (sym here)
        (gone (cases_eq other words) ∙ sym (free-with_used_taken addr other P.small))
    | inr apart ↦ stays apart (cases_eq other words) ∙ sym (free-with_used_other addr true other a P.small apart)
  ]
    where
      gone : (other ≡ words) ⊎ (other ≢ words) →
          count_by (λ b. b == addr) (with_list words rest P.small_lists other) ≡ 0
      gone (inl same) =
          ap (λ (w : ℕ). count_by (λ b. b == addr) (with_list words rest P.small_lists w)) same
          ∙ ap (λ (l : List ℕ). count_by (λ b. b == addr) l) (with_list-here words rest P.small_lists)
          ∙ omega (
            arith,
            front_is addr rest,
            ap (λ (l : List ℕ). count_by (λ b. b == addr) l) is,
            keeps.tiles.listed words addr,
            free_here,
          )
      gone (inr differ) =
          ap (λ (l : List ℕ). count_by (λ b. b == addr) l) (with_list-other words other rest P.small_lists differ)
          ∙ omega (
            arith,
            keeps.tiles.listed other addr,
            free-free-le-at words other addr P.small differ,
            free_here,
            block.once,
          )

      stays : a ≢ addr → (other ≡ words) ⊎ (other ≢ words) →
          count_by (λ b. b == a) (with_list words rest P.small_lists other) ≡ count_by (is_free_of other a) P.small
      stays apart (inl same) =
          ap (λ (w : ℕ). count_by (λ b. b == a) (with_list words rest P.small_lists w)) same
          ∙ ap (λ (l : List ℕ). count_by (λ b. b == a) l) (with_list-here words rest P.small_lists)
          ∙ sym (ap (λ (l : List ℕ). count_by (λ b. b == a) l) is
          ∙ count_by-no (λ b. b == a) addr rest (other_front apart))
          ∙ keeps.tiles.listed words a
          ∙ ap (λ (w : ℕ). count_by (is_free_of w a) P.small) (sym same)
        where
          other_front : a ≢ addr → (addr == a) ≡ false
          other_front apart = grind (arith, nat_tests)
      stays apart (inr differ) =
          ap (λ (l : List ℕ). count_by (λ b. b == a) l) (with_list-other words other rest P.small_lists differ)
          ∙ keeps.tiles.listed other a

  tiles : TilesSmall (with_front_taken P words addr rest)
  tiles = record {
    bounds = record {
      region = keeps.tiles.bounds.region;
      start = keeps.tiles.bounds.start;
      order = keeps.tiles.bounds.order;
      end = keeps.tiles.bounds.end;
    };
    follow = Follows-with_used P.start P.low addr true P.small keeps.tiles.follow;
    listed = listed;
  }

  -- the leader of a block
  leader : (other a : ℕ) → 0 < count_by (is_of other a) P.small → (i : ℕ) → a - 8 ≤ i → i < a - 8 + 8 →
      get_or y i 0 ≡ get_or x i 0
  leader other a there i ge lt = above i (omega (arith, ge, (is_block x P other a keeps there).first))

  -- a block that is free afterwards was free before
  was_free : (other a : ℕ) → 0 < count_by (is_free_of other a) (with_used addr true P.small) →
      0 < count_by (is_free_of other a) P.small
  was_free other a there = elim (cases_eq a addr) [
    | inl here ↦ absurd (omega (
      arith,
      there,
      ap (λ (n : ℕ). count_by (is_free_of other n) (with_used addr true P.small)) here,
      free-with_used_taken addr other P.small,
    ))
    | inr apart ↦ omega (arith, there, free-with_used_other addr true other a P.small apart)
  ]

  -- the start bits of other words
  bit_stays : (word : ℕ) → word < 8 * (P.start - 1024) → 8 * word + 8 ≢ addr → start_bit word y ≡ start_bit word x
  bit_stays word within apart =
      takes.bits word (omega (arith, apart, block.whole))
      ∙ start_bit-same word x (with_number (list_place words) (number_at addr x) x)
      (get_or-with_number (list_place words) (number_at addr x) x (1024 + word / 8)
      (omega (arith, order.control, order.small, order.order, order.end)) (inr (omega arith)))

  bits : (word : ℕ) → word < 8 * (P.start - 1024) → 8 * word < P.high →
      start_bit word y ≡ count_by (is_used_at (8 * word + 8)) (with_used addr true P.small)
  bits word within below = elim (cases_eq (8 * word + 8) addr) [
    | inl here ↦
        ap (λ (w : ℕ). start_bit w y) (omega (arith, here, block.whole)) ∙ takes.set
        ∙ sym (ap (λ (n : ℕ). count_by (is_used_at n) (with_used addr true P.small)) here
        ∙ used-with_used_taken addr P.small ∙ block.once)
    | inr apart ↦
        bit_stays word within apart ∙ keeps.bits word within below
        ∙ sym (used-with_used_other addr true (8 * word + 8) P.small apart)
  ]

  pub takes_listed : TakesBlock P words (record { addr = addr; pools = with_front_taken P words addr rest })
      (Some addr) x y
  takes_listed = record {
    addr = refl;
    used = record { used = omega (arith, used-with_used_taken addr P.small, block.once) };
    keeps = record {
      tiles = tiles;
      size = size ∙ keeps.size;
      region = control 0 (omega arith) (inl (omega arith)) ∙ keeps.region;
      start = control 8 (omega arith) (inl (omega arith)) ∙ keeps.start;
      low = control 16 (omega arith) (inl (omega arith)) ∙ keeps.low;
      high = control 24 (omega arith) (inl (omega arith)) ∙ keeps.high;
      lists = lists;
      leaders = λ other a there.
          let was : 0 < count_by (is_of other a) P.small = omega
          (arith, there, of-with_used addr true other a P.small) in
          leader_words-same (a - 8) x y (leader other a was) ∙ keeps.leaders other a was;
      kinds = λ other a there.
          let was = was_free other a there in
          leader_kind-same (a - 8) x y (leader other a (free_is P other a was)) ∙ keeps.kinds other a was;
      lengths = λ other a there.
          let was = was_free other a there in
          leader_length-same (a - 8) x y (leader other a (free_is P other a was)) ∙ keeps.lengths other a was;
      bits = bits;
    };
    kind =
        leader_kind-same (addr - 8) x y
        (leader words addr (free_is P words addr (front_free x P words addr rest keeps is)))
        ∙ keeps.kinds words addr (front_free x P words addr rest keeps is);
    length =
        leader_length-same (addr - 8) x y
        (leader words addr (free_is P words addr (front_free x P words addr rest keeps is)))
        ∙ keeps.lengths words addr (front_free x P words addr rest keeps is);
    others = record {
      size = size;
      bytes = λ i not_low not_lists not_bits not_block. beside i not_bits (apart i not_lists);
      bits = bit_stays;
    };
  }
    where
      apart : (i : ℕ) → (i < list_place 1) ⊎ (list_place 65 ≤ i) → (i < list_place words) ⊎ (list_place words + 8 ≤ i)
      apart i (inl before) = inl (omega (arith, before, some))
      apart i (inr behind) = inr (omega (arith, behind, most))
