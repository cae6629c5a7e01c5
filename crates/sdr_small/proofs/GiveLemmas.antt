-- A block given back, as the front of its list.
use Rattle.std.proofs.Common.{◌≡◌, ◌≢◌, ◌≤◌, ◌<◌, ◌⊎◌, inl, inr, ℕ, ◌+◌, ◌-◌, ◌*◌, ◌/◌, ◌^◌, false, ◌==◌}
use Rattle.std.proofs.Common.{List, ◌∷◌, length, get_or, sym, ap, ◌∙◌, arith, subst}
use Rattle.std.specs.List.{count_by}
use Rattle.std.proofs.lemmas.Bool.{cases_eq}
use Rattle.sdr_base.specs.Pools.{Pools, IsUsed, is_of, is_free_of, is_used_at, TilesSmall}
use Rattle.sdr_base.specs.SmallPool.{with_used, with_list, words_at}
use Rattle.sdr_base.specs.KeptPools.{ChainFrom, KeepsSmall, StaysBeside, list_place}
use Rattle.sdr_base.specs.Stored.{number_at, with_number, leader_kind, leader_words, leader_length, with_bare_leader}
use Rattle.sdr_base.specs.Stored.{start_bit}
use Rattle.sdr_base.proofs.PoolsLemmas.{apart, free-used-le-at}
use Rattle.sdr_base.proofs.SmallPoolLemmas.{with_list-here, with_list-other, of-with_used}
use Rattle.sdr_base.proofs.SmallPoolLemmas.{words_at-is}
use Rattle.sdr_base.proofs.SmallPoolLemmas.{free-with_used_other, used-with_used_other}
use Rattle.sdr_base.proofs.SmallPoolLemmas.{used-with_used_given}
use Rattle.sdr_base.proofs.StartBitsLemmas.{start_bit-same}
use Rattle.sdr_base.proofs.StoredLemmas.{number_at-with_number, number_at-same, get_or-with_number, length-with_number}
use Rattle.sdr_base.proofs.StoredLemmas.{leader_words-same, leader_kind-same, leader_length-same}
use Rattle.sdr_base.proofs.StoredLemmas.{get_or-with_bare_leader, length-with_bare_leader}
use Rattle.sdr_base.proofs.StoredLemmas.{leader_words-with_bare_leader, leader_kind-with_bare_leader}
use Rattle.sdr_base.proofs.StoredLemmas.{leader_length-with_bare_leader}
use Rattle.sdr_base.proofs.KeptPoolsLemmas.{ChainFrom-moved, IsInOrder, in_order, IsBlock, is_block, free_is, listed_is}
use Rattle.sdr_base.proofs.KeptPoolsLemmas.{next_fits}
use Rattle.sdr_small.proofs.GivenLemmas.{given, tiles_given}
use Rattle.sdr_small.specs.Calls.{PutsFront, GivesBlock}

-- the bytes with the old front as the block's next, and with its leader besides
abbrev pub linked : List ℕ → ℕ → ℕ → List ℕ
linked x words addr = with_number addr (number_at (list_place words) x) x

abbrev pub led : List ℕ → ℕ → ℕ → List ℕ
led x words addr = with_bare_leader (addr - 8) words (linked x words addr)

-- the bytes from x to y, where a block in use becomes the front of the list for its words
module _ (x y : List ℕ) (P : Pools) (words addr : ℕ) (keeps : KeepsSmall x P) (used : IsUsed P.small addr)
    (is : 0 < count_by (is_of words addr) P.small) (puts : PutsFront words addr x y) where
  block : IsBlock x P words addr
  block = is_block x P words addr keeps is

  order : IsInOrder x P
  order = in_order x P keeps

  place_in : list_place words + 8 ≤ 1024
  place_in = omega (arith, block.most)

  -- there is room for each
  link_in : addr + 8 ≤ length x
  link_in = omega (arith, block.last, block.some, order.order, order.end)

  linked_size : length (linked x words addr) ≡ length x
  linked_size = length-with_number addr (number_at (list_place words) x) x link_in

  leader_in : addr - 8 + 8 ≤ length (linked x words addr)
  leader_in = omega (arith, linked_size, link_in, block.first)

  led_size : length (led x words addr) ≡ length x
  led_size =
      length-with_bare_leader (addr - 8) words (linked x words addr) leader_in ∙ linked_size

  list_in : list_place words + 8 ≤ length (led x words addr)
  list_in = omega (arith, led_size, place_in, order.control, order.small, order.order, order.end)

  -- a byte of a block, as with the leader
  led_above : (i : ℕ) → P.start ≤ i →
      get_or y i 0 ≡ get_or (led x words addr) i 0
  led_above i ge =
      puts.others i (omega (arith, ge, block.bit))
      ∙ get_or-with_number (list_place words) addr
      (led x words addr) i list_in
      (inr (omega (arith, ge, place_in, order.control)))

  -- a byte outside of the start bits, of the list's control word, and of the leader and the link
  beside : (i : ℕ) → (i < 1024) ⊎ (P.start ≤ i) → (i < list_place words) ⊎ (list_place words + 8 ≤ i) →
      (i < addr - 8) ⊎ (addr + 8 ≤ i) → get_or y i 0 ≡ get_or x i 0
  beside i out off_list off_block =
      puts.others i (not_bit out)
      ∙ get_or-with_number (list_place words) addr
      (led x words addr) i list_in off_list
      ∙ get_or-with_bare_leader (addr - 8) words (linked x words addr) i leader_in (off_leader off_block)
      ∙ get_or-with_number addr (number_at (list_place words) x) x i link_in (off_link off_block)
    where
      not_bit : (i < 1024) ⊎ (P.start ≤ i) → i ≢ 1024 + (addr - 8) / 8 / 8
      not_bit (inl lt) = omega (arith, lt)
      not_bit (inr ge) = omega (arith, ge, block.bit)

      off_leader : (i < addr - 8) ⊎ (addr + 8 ≤ i) → (i < addr - 8) ⊎ (addr - 8 + 8 ≤ i)
      off_leader (inl lt) = inl lt
      off_leader (inr ge) = inr (omega (arith, ge))

      off_link : (i < addr - 8) ⊎ (addr + 8 ≤ i) → (i < addr) ⊎ (addr + 8 ≤ i)
      off_link (inl lt) = inl (omega (arith, lt))
      off_link (inr ge) = inr ge

  size : length y ≡ length x
  size =
      puts.size
      ∙ length-with_number (list_place words) addr
      (led x words addr) list_in
      ∙ led_size

  -- another control word
  control : (place : ℕ) → place + 8 ≤ 1024 → (place + 8 ≤ list_place words) ⊎ (list_place words + 8 ≤ place) →
      number_at place y ≡ number_at place x
  control place within off = number_at-same place x y (λ i ge lt.
      beside i (inl (omega (arith, lt, within))) (side i ge lt off)
      (inl (omega (arith, lt, within, order.control, block.first))))
    where
      side : (i : ℕ) → place ≤ i → i < place + 8 → (place + 8 ≤ list_place words) ⊎ (list_place words + 8 ≤ place) →
          (i < list_place words) ⊎ (list_place words + 8 ≤ i)
      side i ge lt (inl before) = inl (omega (arith, lt, before))
      side i ge lt (inr behind) = inr (omega (arith, ge, behind))

  -- a byte of another block
  other_block : (other a : ℕ) → 0 < count_by (is_of other a) P.small → a ≢ addr → (i : ℕ) → a - 8 ≤ i → i < a + 8 →
      get_or y i 0 ≡ get_or x i 0
  other_block other a there differ i ge lt =
      beside i (inr (omega (arith, ge, b.first))) (inr (omega (arith, ge, b.first, place_in, order.control)))
      (off (apart P.start P.low words addr other a P.small keeps.tiles.follow is there differ))
    where
      b : IsBlock x P other a
      b = is_block x P other a keeps there

      off : (a + 8 * other + 8 ≤ addr) ⊎ (addr + 8 * words + 8 ≤ a) → (i < addr - 8) ⊎ (addr + 8 ≤ i)
      off (inl before) = inl (omega (arith, before, lt, b.some))
      off (inr behind) = inr (omega (arith, behind, ge, block.some))

  -- the block was not free
  not_free : (other : ℕ) → count_by (is_free_of other addr) P.small ≡ 0
  not_free other = omega (arith, free-used-le-at other addr P.small, block.once, used.used)

  -- nor in a list
  not_listed : (other a : ℕ) → 0 < count_by (is_free_of other a) P.small → a ≢ addr
  not_listed other a there = λ (e : a ≡ addr).
      omega (arith, there, not_free other, ap (λ (n : ℕ). count_by (is_free_of other n) P.small) e)

  -- a block there has its words
  its_words : (other : ℕ) → 0 < count_by (is_of other addr) P.small → other ≡ words
  its_words other there = sym (keeps.leaders other addr there) ∙ keeps.leaders words addr is

  link : (other a : ℕ) → 0 < count_by (λ b. b == a) (P.small_lists other) → number_at a y ≡ number_at a x
  link other a some_there =
      let free : 0 < count_by (is_free_of other a) P.small = listed_is x P other a keeps some_there in
      number_at-same a x y (λ i ge lt.
      other_block other a (free_is P other a free) (not_listed other a free) i (omega (arith, ge)) lt)

  -- the old front fits into a word
  fits : number_at (list_place words) x < 2 ^ 64
  fits = next_fits x P words (list_place words) (P.small_lists words) keeps (keeps.lists words block.some block.most)
      (λ a there. there)

  -- the old front is the block's next
  next : number_at addr y ≡ number_at (list_place words) x
  next =
      number_at-same addr (linked x words addr) y (λ i ge lt.
      led_above i (omega (arith, ge, block.first))
      ∙ get_or-with_bare_leader (addr - 8) words (linked x words addr) i leader_in
      (inr (omega (arith, ge, block.first))))
      ∙ number_at-with_number addr (number_at (list_place words) x) x link_in fits

  -- the block is the front
  front : number_at (list_place words) y ≡ addr
  front =
      number_at-same (list_place words)
      (with_number (list_place words) addr
      (led x words addr)) y
      (λ i ge lt. puts.others i (omega (arith, lt, place_in)))
      ∙ number_at-with_number (list_place words) addr
      (led x words addr) list_in
      (omega (arith, block.last, order.order, order.end, order.most))

  chain : ChainFrom y (list_place words) (addr ∷ P.small_lists words)
  unfolding ChainFrom
  chain = (
    front,
    ChainFrom-moved x y (list_place words) addr (P.small_lists words) next (link words)
        (keeps.lists words block.some block.most),
  )

  lists : (other : ℕ) → 1 ≤ other → other ≤ 64 →
      ChainFrom y (list_place other) (with_list words (addr ∷ P.small_lists words) P.small_lists other)
  lists other some_other most_other = elim (cases_eq other words) [
    | inl same ↦
        subst (λ (w : ℕ). ChainFrom y (list_place w) (with_list words (addr ∷ P.small_lists words) P.small_lists w))
        (sym same)
        (subst (λ (l : List ℕ). ChainFrom y (list_place words) l)
        (sym (with_list-here words (addr ∷ P.small_lists words) P.small_lists)) chain)
    | inr differ ↦
        subst (λ (l : List ℕ). ChainFrom y (list_place other) l)
        (sym (with_list-other words other (addr ∷ P.small_lists words) P.small_lists differ))
        (ChainFrom-moved x y (list_place other) (list_place other) (P.small_lists other)
        (control (list_place other) (omega arith) (sides other differ)) (link other)
        (keeps.lists other some_other most_other))
  ]
    where
      sides : (other : ℕ) → other ≢ words →
          (list_place other + 8 ≤ list_place words) ⊎ (list_place words + 8 ≤ list_place other)
      sides other differ = grind arith

  tiles : TilesSmall (given P words addr)
  tiles = tiles_given P words addr keeps.tiles block.once used is its_words

  -- the leader of another block
  leader : (other a : ℕ) → 0 < count_by (is_of other a) P.small → a ≢ addr → (i : ℕ) → a - 8 ≤ i → i < a - 8 + 8 →
      get_or y i 0 ≡ get_or x i 0
  leader other a there differ i ge lt = other_block other a there differ i ge (omega (arith, lt))

  -- the block's own leader
  own_leader : (i : ℕ) → addr - 8 ≤ i → i < addr - 8 + 8 →
      get_or y i 0 ≡ get_or (led x words addr) i 0
  own_leader i ge lt = led_above i (omega (arith, ge, block.first))

  leaders : (other a : ℕ) → 0 < count_by (is_of other a) (with_used addr false P.small) → leader_words (a - 8) y ≡ other
  leaders other a there =
      let was : 0 < count_by (is_of other a) P.small = omega (arith, there, of-with_used addr false other a P.small) in
      elim (cases_eq a addr) [
        | inl here ↦
            ap (λ (p : ℕ). leader_words (p - 8) y) here
            ∙ leader_words-same (addr - 8) (led x words addr) y own_leader
            ∙ leader_words-with_bare_leader (addr - 8) words (linked x words addr) leader_in
            (omega (arith, block.most))
            ∙ sym (its_words other (subst (λ (n : ℕ). 0 < count_by (is_of other n) P.small) here was))
        | inr differ ↦ leader_words-same (a - 8) x y (leader other a was differ) ∙ keeps.leaders other a was
      ]

  -- another block that is free afterwards was free before
  was_free : (other a : ℕ) → a ≢ addr → 0 < count_by (is_free_of other a) (with_used addr false P.small) →
      0 < count_by (is_free_of other a) P.small
  was_free other a differ there = omega (arith, there, free-with_used_other addr false other a P.small differ)

  kinds : (other a : ℕ) → 0 < count_by (is_free_of other a) (with_used addr false P.small) → leader_kind (a - 8) y ≡ 0
  kinds other a there = elim (cases_eq a addr) [
    | inl here ↦
        ap (λ (p : ℕ). leader_kind (p - 8) y) here
        ∙ leader_kind-same (addr - 8) (led x words addr) y own_leader
        ∙ leader_kind-with_bare_leader (addr - 8) words (linked x words addr) leader_in
    | inr differ ↦
        let was = was_free other a differ there in
        leader_kind-same (a - 8) x y (leader other a (free_is P other a was) differ) ∙ keeps.kinds other a was
  ]

  lengths : (other a : ℕ) → 0 < count_by (is_free_of other a) (with_used addr false P.small) →
      leader_length (a - 8) y ≡ 0
  lengths other a there = elim (cases_eq a addr) [
    | inl here ↦
        ap (λ (p : ℕ). leader_length (p - 8) y) here
        ∙ leader_length-same (addr - 8) (led x words addr) y own_leader
        ∙ leader_length-with_bare_leader (addr - 8) words (linked x words addr) leader_in
    | inr differ ↦
        let was = was_free other a differ there in
        leader_length-same (a - 8) x y (leader other a (free_is P other a was) differ) ∙ keeps.lengths other a was
  ]

  bit_stays : (word : ℕ) → word < 8 * (P.start - 1024) → 8 * word + 8 ≢ addr → start_bit word y ≡ start_bit word x
  bit_stays word within differ =
      puts.bits word (omega (arith, differ, block.whole))
      ∙ start_bit-same word x
      (with_number (list_place words) addr
      (led x words addr))
      (get_or-with_number (list_place words) addr
      (led x words addr) (1024 + word / 8)
      list_in (inr (omega (arith, place_in)))
      ∙ get_or-with_bare_leader (addr - 8) words (linked x words addr) (1024 + word / 8)
      leader_in (inl (omega (arith, within, block.first)))
      ∙ get_or-with_number addr (number_at (list_place words) x) x (1024 + word / 8) link_in
      (inl (omega (arith, within, block.first))))

  bits : (word : ℕ) → word < 8 * (P.start - 1024) → 8 * word < P.high →
      start_bit word y ≡ count_by (is_used_at (8 * word + 8)) (with_used addr false P.small)
  bits word within below = elim (cases_eq (8 * word + 8) addr) [
    | inl here ↦
        ap (λ (w : ℕ). start_bit w y) (omega (arith, here, block.whole)) ∙ puts.set
        ∙ sym (ap (λ (n : ℕ). count_by (is_used_at n) (with_used addr false P.small)) here
        ∙ used-with_used_given addr P.small)
    | inr differ ↦
        bit_stays word within differ ∙ keeps.bits word within below
        ∙ sym (used-with_used_other addr false (8 * word + 8) P.small differ)
  ]

  pub given_keeps : KeepsSmall y (given P words addr)
  given_keeps = record {
    tiles = tiles;
    size = size ∙ keeps.size;
    region = control 0 (omega arith) (inl (omega (arith, block.some))) ∙ keeps.region;
    start = control 8 (omega arith) (inl (omega (arith, block.some))) ∙ keeps.start;
    low = control 16 (omega arith) (inl (omega (arith, block.some))) ∙ keeps.low;
    high = control 24 (omega arith) (inl (omega (arith, block.some))) ∙ keeps.high;
    lists = lists;
    leaders = leaders;
    kinds = kinds;
    lengths = lengths;
    bits = bits;
  }

  pub given_others : StaysBeside P.start addr words x y
  given_others = record {
    size = size;
    bytes = λ i off_low off_lists off_bits off_block. beside i off_bits (off_list i off_lists) (off_its i off_block);
    bits = bit_stays;
  }
    where
      off_list : (i : ℕ) → (i < list_place 1) ⊎ (list_place 65 ≤ i) →
          (i < list_place words) ⊎ (list_place words + 8 ≤ i)
      off_list i (inl before) = inl (omega (arith, before, block.some))
      off_list i (inr behind) = inr (omega (arith, behind, block.most))

      off_its : (i : ℕ) → (i < addr - 8) ⊎ (addr + 8 * words ≤ i) → (i < addr - 8) ⊎ (addr + 8 ≤ i)
      off_its i (inl before) = inl before
      off_its i (inr behind) = inr (omega (arith, behind, block.some))

-- a block in use, given back
pub gives_block : (x y : List ℕ) (P : Pools) (addr : ℕ) → KeepsSmall x P → IsUsed P.small addr →
    PutsFront (words_at addr P.small) addr x y → GivesBlock P addr x y
gives_block x y P addr keeps used puts =
    let is = words_at-is addr P.small used.used in
    record {
      keeps = given_keeps x y P (words_at addr P.small) addr keeps used is puts;
      others = given_others x y P (words_at addr P.small) addr keeps used is puts;
    }
