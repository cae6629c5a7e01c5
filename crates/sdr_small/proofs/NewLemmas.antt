-- A new block, cut at `low`.
use Rattle.std.proofs.Common.{◌≡◌, ◌≢◌, ◌≤◌, ◌<◌, ◌⊎◌, inl, inr, ℕ, ◌+◌, ◌-◌, ◌*◌, ◌/◌, Bool, true, false, cond, ◌&&◌}
use Rattle.std.proofs.Common.{◌==◌}
use Rattle.std.proofs.Common.{List, [], ◌∷◌, ◌++◌, length, get_or, refl, sym, ap, ◌∙◌, arith}
use Rattle.std.specs.Prelude.{Some}
use Rattle.std.specs.List.{count_by}
use Rattle.std.proofs.lemmas.Bool.{cases_eq, cases_Bool}
use Rattle.std.proofs.lemmas.Bool.Decides.{nat_tests}
use Rattle.sdr_base.specs.Pools.{PoolBlock, Pools, is_of, is_free_of, is_used_at, TilesSmall}
use Rattle.sdr_base.specs.SmallPool.{with_new_small}
use Rattle.sdr_base.specs.KeptPools.{ChainFrom, KeepsSmall, list_place}
use Rattle.sdr_base.specs.Stored.{number_at, with_number, leader_kind, leader_words, leader_length, with_bare_leader}
use Rattle.sdr_base.specs.Stored.{start_bit, SetsStartBit}
use Rattle.sdr_base.proofs.PoolsLemmas.{count_by-append, is_of-true, used-le-at, at-last, Follows-whole}
use Rattle.sdr_base.proofs.SmallPoolLemmas.{Follows-push}
use Rattle.sdr_base.proofs.StartBitsLemmas.{start_bit-same}
use Rattle.sdr_base.proofs.StoredLemmas.{number_at-with_number, number_at-same, get_or-with_number, length-with_number}
use Rattle.sdr_base.proofs.StoredLemmas.{leader_words-same, leader_kind-same, leader_length-same}
use Rattle.sdr_base.proofs.StoredLemmas.{get_or-with_bare_leader, length-with_bare_leader}
use Rattle.sdr_base.proofs.StoredLemmas.{leader_words-with_bare_leader, leader_kind-with_bare_leader}
use Rattle.sdr_base.proofs.StoredLemmas.{leader_length-with_bare_leader}
use Rattle.sdr_base.proofs.KeptPoolsLemmas.{ChainFrom-moved, IsInOrder, in_order, is_block, free_is, listed_is}
use Rattle.sdr_small.specs.Calls.{TakesBlock}

-- the new block
abbrev new_block : ℕ → ℕ → PoolBlock
new_block low words = record { addr = low + 8; words = words; used = true }

-- a test of the new block, counted
one_more : (p : PoolBlock → Bool) (bs : List PoolBlock) (b : PoolBlock) →
    count_by p (bs ++ b ∷ []) ≡ count_by p bs + cond (p b) 1 0
one_more p bs b = count_by-append p bs (b ∷ []) ∙ omega arith

-- a test that it doesn't pass
no_more : (p : PoolBlock → Bool) (bs : List PoolBlock) (b : PoolBlock) → p b ≡ false →
    count_by p (bs ++ b ∷ []) ≡ count_by p bs
no_more p bs b fails = one_more p bs b ∙ ap (λ (v : Bool). count_by p bs + cond v 1 0) fails ∙ omega arith

-- the bytes from x to y, where a block of so many words is cut at low
module _ (x y : List ℕ) (P : Pools) (words : ℕ) (keeps : KeepsSmall x P) (some : 1 ≤ words) (most : words ≤ 64)
    (fits : P.low + 8 * (1 + words) ≤ P.high)
    (takes : SetsStartBit (P.low / 8) 1
    (with_number 16 (P.low + 8 * (1 + words)) (with_bare_leader P.low words x)) y) where
  order : IsInOrder x P
  order = in_order x P keeps

  -- there is room for the leader
  leader_in : P.low + 8 ≤ length x
  leader_in = omega (arith, fits, order.end)

  led_size : length (with_bare_leader P.low words x) ≡ length x
  led_size = length-with_bare_leader P.low words x leader_in

  low_in : 16 + 8 ≤ length (with_bare_leader P.low words x)
  low_in = omega (arith, led_size, leader_in, order.control, order.small)

  -- low is a whole word, and its start bit is one
  whole : 8 * (P.low / 8) ≡ P.low
  whole = omega (arith, order.whole, order.small, Follows-whole P.start P.low P.small keeps.tiles.follow)

  bit : 1024 + P.low / 8 / 8 < P.start
  bit = order.bits P.low (omega (arith, leader_in))

  -- a byte outside of the start bits and of the word of low, as with the leader
  led_beside : (i : ℕ) → (i < 1024) ⊎ (P.start ≤ i) → (i < 16) ⊎ (16 + 8 ≤ i) →
      get_or y i 0 ≡ get_or (with_bare_leader P.low words x) i 0
  led_beside i out apart =
      takes.others i (not_bit out)
      ∙ get_or-with_number 16 (P.low + 8 * (1 + words)) (with_bare_leader P.low words x) i low_in apart
    where
      not_bit : (i < 1024) ⊎ (P.start ≤ i) → i ≢ 1024 + P.low / 8 / 8
      not_bit (inl lt) = omega (arith, lt)
      not_bit (inr ge) = omega (arith, ge, bit)

  -- a byte outside of the leader besides
  beside : (i : ℕ) → (i < 1024) ⊎ (P.start ≤ i) → (i < 16) ⊎ (16 + 8 ≤ i) → (i < P.low) ⊎ (P.low + 8 ≤ i) →
      get_or y i 0 ≡ get_or x i 0
  beside i out apart outside =
      led_beside i out apart ∙ get_or-with_bare_leader P.low words x i leader_in outside

  -- a byte of a block that was there
  above : (i : ℕ) → P.start ≤ i → i < P.low → get_or y i 0 ≡ get_or x i 0
  above i ge lt = beside i (inr ge) (inr (omega (arith, ge, order.control))) (inl lt)

  size : length y ≡ length x
  size =
      takes.size ∙ length-with_number 16 (P.low + 8 * (1 + words)) (with_bare_leader P.low words x) low_in ∙ led_size

  -- another control word
  control : (place : ℕ) → place + 8 ≤ 1024 → (place + 8 ≤ 16) ⊎ (24 ≤ place) → number_at place y ≡ number_at place x
  control place within apart = number_at-same place x y (λ i ge lt.
      beside i (inl (omega (arith, lt, within))) (side i ge lt apart)
      (inl (omega (arith, lt, within, order.control, order.small))))
    where
      side : (i : ℕ) → place ≤ i → i < place + 8 → (place + 8 ≤ 16) ⊎ (24 ≤ place) → (i < 16) ⊎ (16 + 8 ≤ i)
      side i ge lt (inl before) = inl (omega (arith, lt, before))
      side i ge lt (inr behind) = inr (omega (arith, ge, behind))

  low : number_at 16 y ≡ P.low + 8 * (1 + words)
  low =
      number_at-same 16 (with_number 16 (P.low + 8 * (1 + words)) (with_bare_leader P.low words x)) y
      (λ i ge lt. takes.others i (omega (arith, lt)))
      ∙ number_at-with_number 16 (P.low + 8 * (1 + words)) (with_bare_leader P.low words x) low_in
      (omega (arith, fits, order.end, order.most))

  link : (other a : ℕ) → 0 < count_by (λ b. b == a) (P.small_lists other) → number_at a y ≡ number_at a x
  link other a some_there =
      let there = is_block x P other a keeps (free_is P other a (listed_is x P other a keeps some_there)) in
      number_at-same a x y (λ i ge lt. above i (omega (arith, ge, there.first))
      (omega (arith, lt, there.last, there.some)))

  lists : (other : ℕ) → 1 ≤ other → other ≤ 64 → ChainFrom y (list_place other) (P.small_lists other)
  lists other some_other most_other =
      ChainFrom-moved x y (list_place other) (list_place other) (P.small_lists other)
      (control (list_place other) (omega arith) (inr (omega arith))) (link other)
      (keeps.lists other some_other most_other)

  -- the new block isn't free
  not_free : (other a : ℕ) → count_by (is_free_of other a) (P.small ++ new_block P.low words ∷ [])
      ≡ count_by (is_free_of other a) P.small
  not_free other a =
      no_more (is_free_of other a) P.small (new_block P.low words) (and_false (is_of other a (new_block P.low words)))
    where
      and_false : (v : Bool) → (v && false) ≡ false
      and_false true = refl
      and_false false = refl

  tiles : TilesSmall (with_new_small P words)
  tiles = record {
    bounds = record {
      region = keeps.tiles.bounds.region;
      start = keeps.tiles.bounds.start;
      order = fits;
      end = keeps.tiles.bounds.end;
    };
    follow = Follows-push P.start P.low words true P.small keeps.tiles.follow some most;
    listed = λ other a. keeps.tiles.listed other a ∙ sym (not_free other a);
  }

  -- the leader of a block that was there
  leader : (other a : ℕ) → 0 < count_by (is_of other a) P.small → (i : ℕ) → a - 8 ≤ i → i < a - 8 + 8 →
      get_or y i 0 ≡ get_or x i 0
  leader other a there i ge lt =
      let b = is_block x P other a keeps there in
      above i (omega (arith, ge, b.first)) (omega (arith, lt, b.first, b.last, b.some))

  -- the leader of the new block
  new_leader : (i : ℕ) → P.low ≤ i → i < P.low + 8 → get_or y i 0 ≡ get_or (with_bare_leader P.low words x) i 0
  new_leader i ge lt = led_beside i (inr (omega (arith, ge, order.small)))
      (inr (omega (arith, ge, order.small, order.control)))

  leaders : (other a : ℕ) → 0 < count_by (is_of other a) (P.small ++ new_block P.low words ∷ []) →
      leader_words (a - 8) y ≡ other
  leaders other a there = elim (cases_Bool (is_of other a (new_block P.low words))) [
    | inl here ↦
        let is = is_of-true other a (new_block P.low words) here in
        ap (λ (p : ℕ). leader_words p y) (omega (arith, is.0))
        ∙ leader_words-same P.low (with_bare_leader P.low words x) y new_leader
        ∙ leader_words-with_bare_leader P.low words x leader_in (omega (arith, most))
        ∙ is.1
    | inr other_one ↦
        let was : 0 < count_by (is_of other a) P.small = omega
        (arith, there, no_more (is_of other a) P.small (new_block P.low words) other_one) in
        leader_words-same (a - 8) x y (leader other a was) ∙ keeps.leaders other a was
  ]

  bit_stays : (word : ℕ) → word < 8 * (P.start - 1024) → 8 * word + 8 ≢ P.low + 8 → start_bit word y ≡ start_bit word x
  bit_stays word within apart =
      takes.bits word (omega (arith, apart, whole))
      ∙ start_bit-same word x (with_number 16 (P.low + 8 * (1 + words)) (with_bare_leader P.low words x))
      (get_or-with_number 16 (P.low + 8 * (1 + words)) (with_bare_leader P.low words x) (1024 + word / 8) low_in
      (inr (omega arith))
      ∙ get_or-with_bare_leader P.low words x (1024 + word / 8) leader_in (inl (omega (arith, within, order.small))))

  bits : (word : ℕ) → word < 8 * (P.start - 1024) → 8 * word < P.high →
      start_bit word y ≡ count_by (is_used_at (8 * word + 8)) (P.small ++ new_block P.low words ∷ [])
  bits word within below = elim (cases_eq (8 * word) P.low) [
    | inl here ↦
        ap (λ (w : ℕ). start_bit w y) (omega (arith, here, whole)) ∙ takes.set
        ∙ sym (ap (λ (n : ℕ). count_by (is_used_at (n + 8)) (P.small ++ new_block P.low words ∷ [])) here
        ∙ one_more (is_used_at (P.low + 8)) P.small (new_block P.low words)
        ∙ ap (λ (v : Bool). count_by (is_used_at (P.low + 8)) P.small + cond (v && true) 1 0) (same (P.low + 8))
        ∙ omega (
          arith,
          used-le-at (P.low + 8) P.small,
          at-last P.start P.low (P.low + 8) P.small keeps.tiles.follow (omega arith),
        ))
    | inr apart ↦
        bit_stays word within (omega (arith, apart)) ∙ keeps.bits word within below
        ∙ sym (one_more (is_used_at (8 * word + 8)) P.small (new_block P.low words)
        ∙ ap (λ (v : Bool). count_by (is_used_at (8 * word + 8)) P.small + cond (v && true) 1 0) (differ apart)
        ∙ omega arith)
  ]
    where
      same : (n : ℕ) → (n == n) ≡ true
      same n = grind (arith, nat_tests)

      differ : 8 * word ≢ P.low → (P.low + 8 == 8 * word + 8) ≡ false
      differ apart = grind (arith, nat_tests)

  -- it is in use
  in_use : 0 < count_by (is_used_at (P.low + 8)) (P.small ++ new_block P.low words ∷ [])
  in_use =
      omega (
        arith,
        one_more (is_used_at (P.low + 8)) P.small (new_block P.low words)
            ∙ ap (λ (v : Bool). count_by (is_used_at (P.low + 8)) P.small + cond (v && true) 1 0) (same (P.low + 8)),
      )
    where
      same : (n : ℕ) → (n == n) ≡ true
      same n = grind (arith, nat_tests)

  pub takes_new : TakesBlock P words (record { addr = P.low + 8; pools = with_new_small P words })
      (Some (P.low + 8)) x y
  takes_new = record {
    addr = refl;
    used = record { used = in_use };
    keeps = record {
      tiles = tiles;
      size = size ∙ keeps.size;
      region = control 0 (omega arith) (inl (omega arith)) ∙ keeps.region;
      start = control 8 (omega arith) (inl (omega arith)) ∙ keeps.start;
      low = low;
      high = control 24 (omega arith) (inr (omega arith)) ∙ keeps.high;
      lists = lists;
      leaders = leaders;
      kinds = λ other a there.
          let was : 0 < count_by (is_free_of other a) P.small = omega (arith, there, not_free other a) in
          leader_kind-same (a - 8) x y (leader other a (free_is P other a was)) ∙ keeps.kinds other a was;
      lengths = λ other a there.
          let was : 0 < count_by (is_free_of other a) P.small = omega (arith, there, not_free other a) in
          leader_length-same (a - 8) x y (leader other a (free_is P other a was)) ∙ keeps.lengths other a was;
      bits = bits;
    };
    kind =
        ap (λ (p : ℕ). leader_kind p y) (omega arith)
        ∙ leader_kind-same P.low (with_bare_leader P.low words x) y new_leader
        ∙ leader_kind-with_bare_leader P.low words x leader_in;
    length =
        ap (λ (p : ℕ). leader_length p y) (omega arith)
        ∙ leader_length-same P.low (with_bare_leader P.low words x) y new_leader
        ∙ leader_length-with_bare_leader P.low words x leader_in;
    others = record {
      size = size;
      bytes = λ i not_low not_lists not_bits not_block. beside i not_bits not_low (outside i not_block);
      bits = bit_stays;
    };
  }
    where
      outside : (i : ℕ) → (i < P.low + 8 - 8) ⊎ (P.low + 8 + 8 * words ≤ i) → (i < P.low) ⊎ (P.low + 8 ≤ i)
      outside i (inl before) = inl (omega (arith, before))
      outside i (inr behind) = inr (omega (arith, behind))
