-- Walks over the blocks and lists of a heap region lead over all that follow one another.
use Rattle.std.proofs.Common.{◌≡◌, ◌≢◌, ◌≤◌, ◌<◌, ◌+◌, ◌-◌, ◌*◌, ℕ, zero, suc, Bool, List, [], ◌∷◌, cond, length, map, arith, ap, ◌∙◌, refl, sym}
use Rattle.std.specs.List.{All}
use Rattle.std.proofs.lemmas.Bool.{eq-eqb, le-leb, lt-leb, ne_eqb}
use Rattle.std.proofs.lemmas.List.Elements.{All-head, All-tail}
use Rattle.sdr_base.specs.KeptLarge.{Links}
use Rattle.sdr_base.specs.KeptPools.{ChainFrom}
use Rattle.sdr_base.specs.LargePool.{extent_of}
use Rattle.sdr_base.specs.Pools.{PoolBlock}
use Rattle.sdr_base.specs.Stored.{leader_words, number_at}
use Rattle.audit_world.specs.ToldPools.{blocks_between, entry_at, linked_from, small_extent}
use Rattle.audit_blocks.proofs.FollowLemmas.{large_rises, small_rises}
use Rattle.audit_blocks.specs.Walk.{LargeFollow, SmallFollow, large_at, small_at}

module _ (led : ℕ → PoolBlock) (size : ℕ → ℕ) (to : ℕ) where
  -- the block at a place, and those behind it
  abbrev led_on : ℕ → ℕ → List PoolBlock
  led_on most from = led from ∷ blocks_between led size to most (from + size (led from).words)

  -- from the place where they end on there is no block
  between-end : (most from : ℕ) → to ≤ from → [] ≡ blocks_between led size to most from
  unfolding blocks_between
  between-end zero from behind = refl
  between-end (suc most) from behind = sym (ap (λ (t : Bool). cond t [] (led_on most from)) (le-leb to from behind))

  -- from a place before there is the block there, and those behind it
  between-next : (block : PoolBlock) (blocks : List PoolBlock) (most from : ℕ) → from < to → block ≡ led from →
      blocks ≡ blocks_between led size to most (from + size block.words) →
      block ∷ blocks ≡ blocks_between led size to (suc most) from
  unfolding blocks_between
  between-next block blocks most from before is rest =
      (λ i. is i ∷ (rest ∙ ap (λ (b : PoolBlock). blocks_between led size to most (from + size b.words)) is) i)
      ∙ sym (ap (λ (t : Bool). cond t [] (led_on most from)) (lt-leb to from before))

-- small blocks that follow one another are those between both places
pub small_between : (bytes : List ℕ) (blocks : List PoolBlock) (from to most : ℕ) → SmallFollow bytes from blocks to → to ≤ from + most →
    blocks ≡ blocks_between (small_at bytes) small_extent to most from
small_between bytes [] from to most at near = between-end (small_at bytes) small_extent to most from (omega (arith, at))
small_between bytes (x ∷ xs) from to zero (here, is, more) near =
    let later = small_rises bytes xs _ to more in
    absurd (omega (arith, near, later))
small_between bytes (x ∷ xs) from to (suc most) (here, is, more) near =
    let later = small_rises bytes xs _ to more in
    between-next (small_at bytes) small_extent to x xs most from (omega (arith, later)) is
    (small_between bytes xs (from + 8 * (1 + x.words)) to most more (omega (arith, near)))

-- and so are large ones
pub large_between : (bytes : List ℕ) (blocks : List PoolBlock) (from to most : ℕ) → LargeFollow bytes from blocks to → to ≤ from + most →
    blocks ≡ blocks_between (large_at bytes) extent_of to most from
large_between bytes [] from to most at near = between-end (large_at bytes) extent_of to most from (omega (arith, at))
large_between bytes (x ∷ xs) from to zero (here, is, more) near =
    let later = large_rises bytes xs _ to more in
    absurd (omega (arith, near, later))
large_between bytes (x ∷ xs) from to (suc most) (here, is, more) near =
    let later = large_rises bytes xs _ to more in
    between-next (large_at bytes) extent_of to x xs most from (omega (arith, later)) is
    (large_between bytes xs (from + 8 * (4 + x.words)) to most more (omega (arith, near)))

module _ (bytes : List ℕ) (before : ℕ) where
  -- a link of 0 leads to none
  linked-end : (most place : ℕ) → number_at place bytes ≡ 0 → [] ≡ linked_from bytes before most place
  unfolding linked_from
  linked-end zero place none = refl
  linked-end (suc most) place none =
      let addr = number_at place bytes in
      sym (ap (λ (t : Bool). cond t [] (addr ∷ linked_from bytes before most (addr - before))) (eq-eqb addr 0 none))

  -- any other leads to an address, and on
  linked-next : (most place addr : ℕ) → number_at place bytes ≡ addr → addr ≢ 0 →
      addr ∷ linked_from bytes before most (addr - before) ≡ linked_from bytes before (suc most) place
  unfolding linked_from
  linked-next most place addr is some =
      ap (λ (n : ℕ). n ∷ linked_from bytes before most (n - before)) (sym is)
      ∙ sym (ap (λ (t : Bool). cond t [] (number_at place bytes ∷ linked_from bytes before most (number_at place bytes - before)))
      (ne_eqb (number_at place bytes) 0 (λ e. some (sym is ∙ e))))

-- the list of a chain is what its links lead to
pub chain_linked : (bytes addrs : List ℕ) (place most : ℕ) → ChainFrom bytes place addrs → All (λ addr. addr ≢ 0) addrs → length addrs ≤ most →
    addrs ≡ linked_from bytes 0 most place
unfolding ChainFrom
chain_linked bytes [] place most none all few = linked-end bytes 0 most place none
chain_linked bytes (a ∷ addrs) place zero chain all few = absurd (omega (arith, few))
chain_linked bytes (a ∷ addrs) place (suc most) (is, more) all few =
    let here : a ≡ a - 0 = omega arith in
    let rest = chain_linked bytes addrs a most more (All-tail (λ addr. addr ≢ 0) a addrs all) (omega (arith, few)) in
    ap (λ (l : List ℕ). a ∷ l) (rest ∙ ap (linked_from bytes 0 most) here)
    ∙ linked-next bytes 0 most place a is (All-head (λ addr. addr ≢ 0) a addrs all)

-- a block in a list of large ones has an address, and the words that its leader tells
pub record IsEntryTold (bytes : List ℕ) (block : ℕ × ℕ) : Type 0 where
  pub some : block.0 ≢ 0
  pub words : leader_words (block.0 - 16) bytes ≡ block.1

-- the list of large blocks that are linked is what their links lead to
pub links_linked : (bytes : List ℕ) (blocks : List (ℕ × ℕ)) (place before most : ℕ) → Links bytes place before blocks →
    All (IsEntryTold bytes) blocks → length blocks ≤ most → blocks ≡ map (entry_at bytes) (linked_from bytes 8 most place)
unfolding Links
links_linked bytes [] place before most none all few = ap (map (entry_at bytes)) (linked-end bytes 8 most place none)
links_linked bytes (b ∷ blocks) place before zero links all few = absurd (omega (arith, few))
links_linked bytes (b ∷ blocks) place before (suc most) (is, back, more) all few =
    let told = All-head (IsEntryTold bytes) b blocks all in
    let rest = links_linked bytes blocks (b.0 - 8) b.0 most more (All-tail (IsEntryTold bytes) b blocks all) (omega (arith, few)) in
    (λ i. (b.0, sym told.words i) ∷ rest i)
    ∙ ap (map (entry_at bytes)) (linked-next bytes 8 most place b.0 is told.some)
