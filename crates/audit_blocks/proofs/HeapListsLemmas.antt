-- The lists of free blocks of a heap that bytes keep are right, and reach each free block.
use Rattle.std.proofs.Common.{◌≡◌, ◌≤◌, ◌<◌, ◌+◌, ◌-◌, ◌*◌, ◌==◌, ◌&&◌, ℕ, suc, Bool, List, [], ◌∷◌, cond, not, true, false, length, arith, ap, ◌∙◌, refl, sym, subst, inl, inr}
use Rattle.std.specs.Prelude.{Contains, count_by, map, nat_le}
use Rattle.std.specs.List.{All}
use Rattle.std.proofs.lemmas.Bool.{and_from, and_parts, cases_Bool, cases_eq, eq-eqb, eqb-true, leb-true, ne_eqb}
use Rattle.std.proofs.lemmas.List.Elements.{All-cons, All-contains_itself, All-head, All-nil, All-tail, All-weaker}
use Rattle.sdr_base.proofs.PoolsLemmas.{at-once, count_by-no, count_by-yes, free-free-le-at, free-le-of, is_at-other, of-le-at}
use Rattle.sdr_base.specs.KeptHeap.{KeepsHeap}
use Rattle.sdr_base.specs.KeptLarge.{FollowsLarge, is_entry}
use Rattle.sdr_base.specs.LargePool.{extent_of, order_of}
use Rattle.sdr_base.specs.Pools.{Follows, PoolBlock, Pools, is_at, is_free_of}
use Rattle.sdr_large.proofs.ListsLemmas.{order_of-le}
use Rattle.audit_blocks.proofs.HeapLemmas.{counted_each, own_of}
use Rattle.audit_blocks.proofs.ListedLemmas.{is_addr}
use Rattle.audit_blocks.proofs.ListsLemmas.{contained_counted, counted_contained}
use Rattle.audit_blocks.specs.Free.{AreListed, IsLargeList, IsListIn, IsListWord, IsSmallList, LargeReached, SmallReached}

-- no large block has an address twice
large_none : (from to addr : ℕ) (blocks : List PoolBlock) → FollowsLarge from blocks to → addr < from + 16 → count_by (is_at addr) blocks ≡ 0
large_none from to addr [] follows before = refl
large_none from to addr (x ∷ blocks) (at, least, more) before =
    count_by-no (is_at addr) x blocks (is_at-other addr x (λ e. omega (arith, e, at, before)))
    ∙ large_none (from + extent_of x.words) to addr blocks more (omega (arith, before))

large_once : (from to addr : ℕ) (blocks : List PoolBlock) → FollowsLarge from blocks to → count_by (is_at addr) blocks ≤ 1
large_once from to addr [] follows = omega arith
large_once from to addr (x ∷ blocks) (at, least, more) = elim (cases_eq x.addr addr) [
  | inl same ↦
      let one = count_by-yes (is_at addr) x blocks (eq-eqb x.addr addr same) in
      let none = large_none (from + extent_of x.words) to addr blocks more (omega (arith, at, same)) in
      omega (arith, one, none)
  | inr off ↦
      let no = count_by-no (is_at addr) x blocks (is_at-other addr x off) in
      let rest = large_once (from + extent_of x.words) to addr blocks more in
      omega (arith, no, rest)
]

-- an entry that is counted is among them
entry_contained : (words addr : ℕ) (entries : List (ℕ × ℕ)) → 0 < count_by (is_entry words addr) entries → Contains entries (addr, words)
entry_contained words addr [] some = absurd (omega (arith, some))
entry_contained words addr (e ∷ entries) some = elim (cases_Bool (is_entry words addr e)) [
  | inl passes ↦
      let p = and_parts (e.0 == addr) (e.1 == words) passes in
      (0, omega arith, (λ i. (eqb-true e.0 addr p.0 i, eqb-true e.1 words p.1 i)))
  | inr fails ↦
      let c = entry_contained words addr entries (omega (arith, some, count_by-no (is_entry words addr) e entries fails)) in
      let within : c.0 < length entries = c.1 in
      (suc c.0, omega (arith, within), c.2)
]

-- where all entries of an address have so many words, they are counted as its entries of so many
same_words : (words addr : ℕ) (entries : List (ℕ × ℕ)) → All (λ (e : ℕ × ℕ). (e.0 ≡ addr) → e.1 ≡ words) entries →
    count_by (is_addr addr) (map (λ (e : ℕ × ℕ). e.0) entries) ≤ count_by (is_entry words addr) entries
same_words words addr [] all = omega arith
same_words words addr (e ∷ entries) all =
    let rest = same_words words addr entries (All-tail (λ (e : ℕ × ℕ). (e.0 ≡ addr) → e.1 ≡ words) e entries all) in
    elim (cases_eq e.0 addr) [
      | inl same ↦
          let one = count_by-yes (is_addr addr) e.0 (map (λ (e : ℕ × ℕ). e.0) entries) (eq-eqb e.0 addr same) in
          let other = count_by-yes (is_entry words addr) e entries
          (and_from _ _ (eq-eqb e.0 addr same) (eq-eqb e.1 words (All-head (λ (e : ℕ × ℕ). (e.0 ≡ addr) → e.1 ≡ words) e entries all same))) in
          omega (arith, rest, one, other)
      | inr off ↦
          let one = count_by-no (is_addr addr) e.0 (map (λ (e : ℕ × ℕ). e.0) entries) (ne_eqb e.0 addr off) in
          let other = count_by-no (is_entry words addr) e entries (ap (λ (t : Bool). t && e.1 == words) (ne_eqb e.0 addr off)) in
          omega (arith, rest, one, other)
    ]

-- what is counted only where a test passes, passes it
passes_where : (t : Bool) (n : ℕ) → 0 < cond t n 0 → (t ≡ true) × (0 < n)
passes_where true n some = (refl, some)
passes_where false n some = absurd (omega (arith, some))

most_where : (t : Bool) (n : ℕ) → cond t n 0 ≤ n
most_where true n = omega arith
most_where false n = omega arith

module _ (bytes : List ℕ) (P : Pools) (keeps : KeepsHeap bytes P) where
  free_once : (words addr : ℕ) → count_by (is_free_of words addr) P.small ≤ 1
  free_once words addr =
      let a = free-le-of words addr P.small in
      let b = of-le-at words addr P.small in
      let c = at-once P.start P.low addr P.small keeps.small.tiles.follow in
      omega (arith, a, b, c)

  small_list : (words : ℕ) → 1 ≤ words → words ≤ 64 → IsSmallList bytes P.small words
  small_list words least most = record {
    addrs = P.small_lists words;
    chain = keeps.small.lists words least most;
    free =
        All-weaker (Contains (P.small_lists words)) (λ addr. 0 < count_by (is_free_of words addr) P.small)
        (λ addr among. let c = contained_counted addr (P.small_lists words) among in let l = keeps.small.tiles.listed words addr in omega (arith, c, l))
        (P.small_lists words) (All-contains_itself (P.small_lists words));
    once = λ addr. let l = keeps.small.tiles.listed words addr in let f = free_once words addr in omega (arith, l, f);
  }

  large_free_once : (words addr : ℕ) → count_by (is_free_of words addr) P.large ≤ 1
  large_free_once words addr =
      let a = free-le-of words addr P.large in
      let b = of-le-at words addr P.large in
      let c = large_once P.high P.end addr P.large keeps.large.tiles.follow in
      omega (arith, a, b, c)

  -- what an entry of a list says of the blocks
  record IsFreeEntry (order : ℕ) (e : ℕ × ℕ) : Type 0 where
    of_order : order_of e.1 ≡ order
    free : 0 < count_by (is_free_of e.1 e.0) P.large

  entries_free : (order : ℕ) → All (IsFreeEntry order) (P.large_lists order)
  entries_free order =
      All-weaker (λ (e : ℕ × ℕ). (true ≡ true) → 0 < count_by (is_entry e.1 e.0) (P.large_lists order)) (IsFreeEntry order)
      (λ e counted. free_entry e (counted refl)) (P.large_lists order)
      (counted_each (λ (e : ℕ × ℕ). true) (λ (e : ℕ × ℕ). is_entry e.1 e.0) (λ e passes. and_from _ _ (eq-eqb e.0 e.0 refl) (eq-eqb e.1 e.1 refl)) (P.large_lists order))
    where
      free_entry : (e : ℕ × ℕ) → 0 < count_by (is_entry e.1 e.0) (P.large_lists order) → IsFreeEntry order e
      free_entry e some =
          let l = keeps.large.tiles.lists.listed order e.1 e.0 in
          let p = passes_where (order == order_of e.1) (count_by (is_free_of e.1 e.0) P.large) (omega (arith, l, some)) in
          record { of_order = sym (eqb-true order (order_of e.1) p.0); free = p.1 }

  entries_once : (order addr : ℕ) → count_by (is_addr addr) (map (λ (e : ℕ × ℕ). e.0) (P.large_lists order)) ≤ 1
  entries_once order addr = by (P.large_lists order) (λ words. most_entries words) (entries_free order)
    where
      most_entries : (words : ℕ) → count_by (is_entry words addr) (P.large_lists order) ≤ 1
      most_entries words =
          let l = keeps.large.tiles.lists.listed order words addr in
          let m = most_where (order == order_of words) (count_by (is_free_of words addr) P.large) in
          let o = large_free_once words addr in
          omega (arith, l, m, o)

      -- all entries of an address have the words of the one
      alike : (words : ℕ) → 0 < count_by (is_free_of words addr) P.large → (e : ℕ × ℕ) → IsFreeEntry order e → (e.0 ≡ addr) → e.1 ≡ words
      alike words some e free same = elim (cases_eq e.1 words) [
        | inl is ↦ is
        | inr off ↦
            let both = free-free-le-at words e.1 addr P.large off in
            let once = large_once P.high P.end addr P.large keeps.large.tiles.follow in
            let other : 0 < count_by (is_free_of e.1 addr) P.large = subst (λ (a : ℕ). 0 < count_by (is_free_of e.1 a) P.large) same free.free in
            absurd (omega (arith, both, once, other, some))
      ]

      -- where one of them has the address, its words are those of all
      by : (entries : List (ℕ × ℕ)) → ((words : ℕ) → count_by (is_entry words addr) entries ≤ 1) → All (IsFreeEntry order) entries →
          count_by (is_addr addr) (map (λ (e : ℕ × ℕ). e.0) entries) ≤ 1
      by [] few all = omega arith
      by (e ∷ entries) few all =
          elim (cases_eq e.0 addr) [
            | inl same ↦
                let some : 0 < count_by (is_free_of e.1 addr) P.large =
                subst (λ (a : ℕ). 0 < count_by (is_free_of e.1 a) P.large) same (All-head (IsFreeEntry order) e entries all).free in
                let le = same_words e.1 addr (e ∷ entries) (All-weaker (IsFreeEntry order) (λ (f : ℕ × ℕ). (f.0 ≡ addr) → f.1 ≡ e.1) (alike e.1 some) (e ∷ entries) all) in
                let f = few e.1 in
                omega (arith, le, f)
            | inr off ↦
                let no = count_by-no (is_addr addr) e.0 (map (λ (e : ℕ × ℕ). e.0) entries) (ne_eqb e.0 addr off) in
                let rest = by entries (λ words. let f = few words in
                let m = count_by-no (is_entry words addr) e entries (ap (λ (t : Bool). t && e.1 == words) (ne_eqb e.0 addr off)) in omega (arith, f, m))
                (All-tail (IsFreeEntry order) e entries all) in
                omega (arith, no, rest)
          ]

  large_list : (order : ℕ) → order ≤ 20 → IsLargeList bytes P.large order
  large_list order most = record {
    blocks = P.large_lists order;
    links = keeps.large.holds.lists order most;
    free = All-weaker (IsFreeEntry order) (λ (e : ℕ × ℕ). 0 < count_by (is_free_of e.1 e.0) P.large) (λ e f. f.free) (P.large_lists order) (entries_free order);
    order_is = All-weaker (IsFreeEntry order) (λ (e : ℕ × ℕ). order_of e.1 ≡ order) (λ e f. f.of_order) (P.large_lists order) (entries_free order);
    once = entries_once order;
  }

  list_in : (word : ℕ) → IsListWord word → IsListIn bytes P.small P.large word
  list_in word is = elim (cases_Bool (nat_le word 67)) [
    | inl small ↦
        let most = leb-true _ _ small in
        let first = is.first in
        subst (λ (t : Bool). cond t (IsSmallList bytes P.small (word - 3)) (IsLargeList bytes P.large (word - 68))) (sym small)
        (small_list (word - 3) (omega (arith, first)) (omega (arith, most)))
    | inr large ↦
        let last = is.last in
        subst (λ (t : Bool). cond t (IsSmallList bytes P.small (word - 3)) (IsLargeList bytes P.large (word - 68))) (sym large)
        (large_list (word - 68) (omega (arith, last)))
  ]

  small_reached : (from to : ℕ) (blocks : List PoolBlock) → Follows from blocks to →
      All (λ (block : PoolBlock). (not block.used ≡ true) → 0 < count_by (is_free_of block.words block.addr) P.small) blocks →
      All (λ (block : PoolBlock). (block.used ≡ false) → SmallReached bytes P.small block) blocks
  unfolding small_list
  small_reached from to [] follows all = All-nil (λ (block : PoolBlock). (block.used ≡ false) → SmallReached bytes P.small block)
  small_reached from to (x ∷ blocks) (at, least, most, more) all =
      All-cons (λ (block : PoolBlock). (block.used ≡ false) → SmallReached bytes P.small block) x blocks
      (λ free.
      let some = All-head (λ (block : PoolBlock). (not block.used ≡ true) → 0 < count_by (is_free_of block.words block.addr) P.small) x blocks all (ap not free) in
      let l = keeps.small.tiles.listed x.words x.addr in
      record { list = small_list x.words least most; reached = counted_contained x.addr (P.small_lists x.words) (omega (arith, some, l)) })
      (small_reached (from + 8 * (1 + x.words)) to blocks more (All-tail (λ (block : PoolBlock). (not block.used ≡ true) → 0 < count_by (is_free_of block.words block.addr) P.small) x blocks all))

  large_reached : (block : PoolBlock) → ((not block.used ≡ true) → 0 < count_by (is_free_of block.words block.addr) P.large) → block.used ≡ false → LargeReached bytes P.large block
  unfolding large_list
  large_reached block counted free =
      let some = counted (ap not free) in
      let l = keeps.large.tiles.lists.listed (order_of block.words) block.words block.addr in
      let own : cond (order_of block.words == order_of block.words) (count_by (is_free_of block.words block.addr) P.large) 0 ≡ count_by (is_free_of block.words block.addr) P.large =
      ap (λ (t : Bool). cond t (count_by (is_free_of block.words block.addr) P.large) 0) (eq-eqb (order_of block.words) (order_of block.words) refl) in
      record {
        list = large_list (order_of block.words) (order_of-le block.words);
        reached = entry_contained block.words block.addr (P.large_lists (order_of block.words)) (omega (arith, some, l, own));
      }

  -- the lists are right, and reach all
  pub lists_are : AreListed bytes P.small P.large
  lists_are = record {
    lists = list_in;
    below =
        small_reached P.start P.low P.small keeps.small.tiles.follow
        (counted_each (λ (block : PoolBlock). not block.used) (λ (block : PoolBlock). is_free_of block.words block.addr) (λ block free. and_from _ _ (own_of block) free) P.small);
    above =
        All-weaker (λ (block : PoolBlock). (not block.used ≡ true) → 0 < count_by (is_free_of block.words block.addr) P.large)
        (λ (block : PoolBlock). (block.used ≡ false) → LargeReached bytes P.large block) large_reached P.large
        (counted_each (λ (block : PoolBlock). not block.used) (λ (block : PoolBlock). is_free_of block.words block.addr) (λ block free. and_from _ _ (own_of block) free) P.large);
  }
