-- A heap region keeps a heap with the pools that it tells.
use Rattle.std.proofs.Common.{◌≡◌, ◌≢◌, ◌≤◌, ◌<◌, ◌-◌, ◌/◌, ◌==◌, ◌&&◌, ℕ, Bool, List, [], ◌∷◌, cond, true, false, length, map, arith, ap, ◌∙◌, refl, sym, inl, inr}
use Rattle.std.specs.Prelude.{count_by, nat_le}
use Rattle.std.specs.List.{All}
use Rattle.std.proofs.lemmas.Bool.{and_from, and_parts, cases_Bool, cases_eq, eq-eqb, eqb-true, le-leb, leb-true, ne_eqb}
use Rattle.std.proofs.lemmas.List.{length-map}
use Rattle.std.proofs.lemmas.List.Elements.{All-contains_itself, All-head, All-map, All-tail, All-weaker}
use Rattle.sdr_base.proofs.PoolsLemmas.{at-once, count_by-no, count_by-yes, free-le-of, inside, of-le-at}
use Rattle.sdr_base.specs.KeptHeap.{KeepsHeap}
use Rattle.sdr_base.specs.KeptLarge.{is_entry, large_place}
use Rattle.sdr_base.specs.KeptPools.{list_place}
use Rattle.sdr_base.specs.LargePool.{order_of}
use Rattle.sdr_base.specs.Pools.{Pools, is_free_of}
use Rattle.sdr_base.specs.Stored.{leader_words}
use Rattle.sdr_large.proofs.FollowsLemmas.{at_once, follows-whole, within}
use Rattle.sdr_large.proofs.ListsLemmas.{order_of-le}
use Rattle.sdr_base.specs.Entries.{AreOnce}
use Rattle.audit_world.proofs.ChainLemmas.{IsPlace, few_places}
use Rattle.audit_world.proofs.ToldWalkLemmas.{IsEntryTold, chain_linked, large_between, links_linked, small_between}
use Rattle.audit_world.specs.ToldPools.{entry_at, large_list_told, large_told, linked_from, pools_of, small_list_told, small_told}
use Rattle.audit_blocks.proofs.HeapLemmas.{blocks_are, counted_each}
use Rattle.audit_blocks.proofs.ListedLemmas.{is_addr}
use Rattle.audit_blocks.proofs.ListsLemmas.{addrs_of, contained_counted}

-- there is nothing among elements of which each is out of the question
none_among : {X : Type 0} (P : X → Type 0) (xs : List X) → ((x : X) → P x → ⊥) → All P xs → xs ≡ []
none_among P [] none all = refl
none_among P (x ∷ xs) none all = absurd (none x (All-head P x xs all))

-- what is counted only where a test passes, passes it
passes_where : (t : Bool) (n : ℕ) → 0 < cond t n 0 → (t ≡ true) × (0 < n)
passes_where true n some = (refl, some)
passes_where false n some = absurd (omega (arith, some))

most_where : (t : Bool) (n : ℕ) → cond t n 0 ≤ n
most_where true n = omega arith
most_where false n = omega arith

-- an address is counted among those of blocks with the words that their leaders tell as often as its block is
addrs_counted : (bytes : List ℕ) (addr : ℕ) (blocks : List (ℕ × ℕ)) → All (IsEntryTold bytes) blocks →
    count_by (is_addr addr) (addrs_of blocks) ≤ count_by (is_entry (leader_words (addr - 16) bytes) addr) blocks
addrs_counted bytes addr [] all = omega arith
addrs_counted bytes addr (b ∷ blocks) all =
    let words : ℕ = leader_words (addr - 16) bytes in
    let rest = addrs_counted bytes addr blocks (All-tail (IsEntryTold bytes) b blocks all) in
    elim (cases_eq b.0 addr) [
      | inl same ↦
          let told = (All-head (IsEntryTold bytes) b blocks all).words in
          let is : b.1 ≡ words = sym told ∙ ap (λ (n : ℕ). leader_words (n - 16) bytes) same in
          let one = count_by-yes (is_addr addr) b.0 (addrs_of blocks) (eq-eqb b.0 addr same) in
          let other = count_by-yes (is_entry words addr) b blocks (and_from _ _ (eq-eqb b.0 addr same) (eq-eqb b.1 words is)) in
          omega (arith, rest, one, other)
      | inr off ↦
          let one = count_by-no (is_addr addr) b.0 (addrs_of blocks) (ne_eqb b.0 addr off) in
          let other = count_by-no (is_entry words addr) b blocks (ap (λ (t : Bool). t && b.1 == words) (ne_eqb b.0 addr off)) in
          omega (arith, rest, one, other)
    ]

module _ (bytes : List ℕ) (P : Pools) (keeps : KeepsHeap bytes P) where
  -- the blocks of both pools are those that the bytes tell
  small_is : P.small ≡ small_told bytes
  small_is =
      let b = keeps.small.tiles.bounds in
      let size = keeps.small.size in
      let low = keeps.small.low in
      small_between bytes P.small _ _ (length bytes) (blocks_are bytes P keeps).follow.below (omega (arith, size, low, b.order, b.end))

  large_is : P.large ≡ large_told bytes
  large_is = large_between bytes P.large _ _ (length bytes) (blocks_are bytes P keeps).follow.above (omega arith)

  -- what holds of a free small block
  record IsSmallListed (words addr : ℕ) : Type 0 where
    some : addr ≢ 0
    place : IsPlace (length bytes) addr
    least : 1 ≤ words
    most : words ≤ 64

  small_listed : (words addr : ℕ) → 0 < count_by (is_free_of words addr) P.small → IsSmallListed words addr
  small_listed words addr some =
      let of = free-le-of words addr P.small in
      let i = inside P.start P.low words addr P.small keeps.small.tiles.follow (omega (arith, some, of)) in
      let b = keeps.small.tiles.bounds in
      let size = keeps.small.size in
      record {
        some = λ e. omega (arith, e, i.first);
        place = record {
          word = addr / 8;
          below = omega (arith, i.first, i.last, i.some, b.order, b.end, size);
          at = omega (arith, i.first, i.whole, b.start);
        };
        least = i.some;
        most = i.most;
      }

  -- so is each block of a small list, and they are few
  all_small_listed : (words : ℕ) → All (IsSmallListed words) (P.small_lists words)
  all_small_listed words =
      All-weaker _ (IsSmallListed words)
      (λ addr among. let c = contained_counted addr (P.small_lists words) among in
      let l = keeps.small.tiles.listed words addr in
      small_listed words addr (omega (arith, c, l))) (P.small_lists words) (All-contains_itself (P.small_lists words))

  small_few : (words : ℕ) → length (P.small_lists words) ≤ length bytes
  small_few words =
      few_places (length bytes) (P.small_lists words)
      (All-weaker (IsSmallListed words) (IsPlace (length bytes)) (λ addr l. l.place) (P.small_lists words) (all_small_listed words))
      (λ addr. let l = keeps.small.tiles.listed words addr in
      let of = free-le-of words addr P.small in
      let at = of-le-at words addr P.small in
      let once = at-once P.start P.low addr P.small keeps.small.tiles.follow in
      omega (arith, l, of, at, once))

  -- a small list is the one that the bytes tell, which is empty where no block has so many words
  abbrev small_linked : ℕ → List ℕ
  small_linked words = linked_from bytes 0 (length bytes) (list_place words)

  small_list_is : (words : ℕ) → P.small_lists words ≡ small_list_told bytes words
  small_list_is words = elim (cases_Bool (nat_le 1 words && nat_le words 64)) [
    | inl short ↦
        let p = and_parts (nat_le 1 words) (nat_le words 64) short in
        let chain = keeps.small.lists words (leb-true 1 words p.0) (leb-true words 64 p.1) in
        let some = All-weaker (IsSmallListed words) (λ addr. addr ≢ 0) (λ addr l. l.some) (P.small_lists words) (all_small_listed words) in
        chain_linked bytes (P.small_lists words) (list_place words) (length bytes) chain some (small_few words)
        ∙ sym (ap (λ (t : Bool). cond t (small_linked words) []) short)
    | inr long ↦
        none_among (IsSmallListed words) (P.small_lists words)
        (λ addr l.
        let is_short = and_from _ _ (le-leb 1 words l.least) (le-leb words 64 l.most) in
        let d : false ≡ true = sym long ∙ is_short in
        cc) (all_small_listed words)
        ∙ sym (ap (λ (t : Bool). cond t (small_linked words) []) long)
  ]

  -- what holds of a block in a large list
  record IsLargeListed (order : ℕ) (block : ℕ × ℕ) : Type 0 where
    told : IsEntryTold bytes block
    place : IsPlace (length bytes) block.0
    most : order ≤ 20

  large_listed : (order : ℕ) (block : ℕ × ℕ) → 0 < count_by (is_entry block.1 block.0) (P.large_lists order) → IsLargeListed order block
  large_listed order block some =
      let l = keeps.large.tiles.lists.listed order block.1 block.0 in
      let p = passes_where (order == order_of block.1) (count_by (is_free_of block.1 block.0) P.large) (omega (arith, l, some)) in
      let of = free-le-of block.1 block.0 P.large in
      let free = p.1 in
      let i = within P.high P.end block.1 block.0 P.large keeps.large.tiles.follow (omega (arith, free, of)) in
      let whole = follows-whole P.high P.end P.large keeps.large.tiles.follow in
      let b = keeps.large.tiles.bounds in
      let size = keeps.small.size in
      let is = eqb-true order (order_of block.1) p.0 in
      let le = order_of-le block.1 in
      record {
        told = record {
          some = λ e. omega (arith, e, i.first);
          words = keeps.large.holds.leaders block.1 block.0 (omega (arith, free, of));
        };
        place = record {
          word = block.0 / 8;
          below = omega (arith, i.last, i.first, i.some, size);
          at = omega (arith, i.first, i.whole, whole, b.region.whole, b.end);
        };
        most = omega (arith, is, le);
      }

  -- so is each block of a large list, at an address of its own, and they are few
  all_large_listed : (order : ℕ) → All (IsLargeListed order) (P.large_lists order)
  all_large_listed order =
      let blocks = P.large_lists order in
      All-weaker (λ (e : ℕ × ℕ). (true ≡ true) → 0 < count_by (is_entry e.1 e.0) blocks) (IsLargeListed order)
      (λ e counted. large_listed order e (counted refl)) blocks
      (counted_each (λ (e : ℕ × ℕ). true) (λ (e : ℕ × ℕ). is_entry e.1 e.0)
      (λ e passes. and_from _ _ (eq-eqb e.0 e.0 refl) (eq-eqb e.1 e.1 refl)) blocks)

  all_told : (order : ℕ) → All (IsEntryTold bytes) (P.large_lists order)
  all_told order = All-weaker (IsLargeListed order) (IsEntryTold bytes) (λ e l. l.told) (P.large_lists order) (all_large_listed order)

  addrs_once : (order : ℕ) → AreOnce (addrs_of (P.large_lists order))
  addrs_once order addr =
      let words : ℕ = leader_words (addr - 16) bytes in
      let counted = addrs_counted bytes addr (P.large_lists order) (all_told order) in
      let l = keeps.large.tiles.lists.listed order words addr in
      let m = most_where (order == order_of words) (count_by (is_free_of words addr) P.large) in
      let of = free-le-of words addr P.large in
      let at = of-le-at words addr P.large in
      let once = at_once P.high P.end addr P.large keeps.large.tiles.follow in
      omega (arith, counted, l, m, of, at, once)

  large_few : (order : ℕ) → length (P.large_lists order) ≤ length bytes
  large_few order =
      let blocks = P.large_lists order in
      let placed =
      All-weaker (IsLargeListed order) (λ (e : ℕ × ℕ). IsPlace (length bytes) e.0) (λ e l. l.place) blocks (all_large_listed order) in
      let few = few_places (length bytes) (addrs_of blocks) (All-map (IsPlace (length bytes)) (λ (e : ℕ × ℕ). e.0) blocks placed)
      (addrs_once order) in
      let long = length-map blocks (λ (e : ℕ × ℕ). e.0) in
      omega (arith, few, long)

  -- a large list is the one that the bytes tell, which is empty where no block is of the order
  abbrev large_linked : ℕ → List (ℕ × ℕ)
  large_linked order = map (entry_at bytes) (linked_from bytes 8 (length bytes) (large_place order))

  large_list_is : (order : ℕ) → P.large_lists order ≡ large_list_told bytes order
  large_list_is order = elim (cases_Bool (nat_le order 20)) [
    | inl few ↦
        let links = keeps.large.holds.lists order (leb-true order 20 few) in
        links_linked bytes (P.large_lists order) (large_place order) 0 (length bytes) links (all_told order) (large_few order)
        ∙ sym (ap (λ (t : Bool). cond t (large_linked order) []) few)
    | inr many ↦
        none_among (IsLargeListed order) (P.large_lists order)
        (λ e l. let d : false ≡ true = sym many ∙ le-leb order 20 l.most in cc) (all_large_listed order)
        ∙ sym (ap (λ (t : Bool). cond t (large_linked order) []) many)
  ]

  -- the pools are those that the bytes tell
  pub pools_are : P ≡ pools_of bytes
  pools_are =
      (λ i. record {
        start = sym keeps.small.start i;
        end = sym keeps.small.size i;
        low = sym keeps.small.low i;
        high = sym keeps.small.high i;
        small = small_is i;
        large = large_is i;
        small_lists = λ words. small_list_is words i;
        large_lists = λ order. large_list_is order i;
      })
