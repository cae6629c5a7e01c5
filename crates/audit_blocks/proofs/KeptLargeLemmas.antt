-- A region that passes each check keeps a large pool.
use Rattle.std.proofs.Common.{◌≡◌, ◌≢◌, ◌≤◌, ◌<◌, ◌⊎◌, ◌+◌, ◌-◌, ◌*◌, ◌==◌, ◌&&◌, ◌||◌, ℕ, Bool, List, [], Option, None, Some, cond, not, true, false, length, arith, ap, ◌∙◌, refl, sym, subst, inl, inr}
use Rattle.std.specs.Prelude.{Contains, count_by}
use Rattle.std.specs.List.{All}
use Rattle.std.specs.Option.{option_map_or}
use Rattle.std.proofs.lemmas.Bool.{and_parts, cases_eq, cases_lt, eq-eqb, eqb-true, lt-leb, ne_eqb, not-false}
use Rattle.std.proofs.lemmas.List.Elements.{All-contains}
use Rattle.sdr_base.proofs.PoolsLemmas.{count_by-le, is_of-true}
use Rattle.sdr_base.specs.Cells.{IsRegionSize}
use Rattle.sdr_base.specs.KeptLarge.{IsFreeBlock, IsUsedBlock, KeepsLarge, Links, TilesLarge, is_entry, is_used_of, large_place, last_word}
use Rattle.sdr_base.specs.LargePool.{order_of}
use Rattle.sdr_base.specs.Pools.{PoolBlock, is_at, is_free_of, is_of}
use Rattle.sdr_base.specs.Stored.{leader_kind, leader_length, leader_words, number_at}
use Rattle.sdr_base.specs.declared.control.TheConstants.{HIGH, LOW, START}
use Rattle.sdr_large.proofs.ListsLemmas.{order_of-le}
use Rattle.audit_blocks.proofs.BegunLemmas.{or_left, or_right, spaced_large}
use Rattle.audit_blocks.proofs.EdgeLemmas.{in_order}
use Rattle.audit_blocks.proofs.EntryLemmas.{contained_entry, entries_most, entry_contained, links_same}
use Rattle.audit_blocks.proofs.KeptSmallLemmas.{begun_holds}
use Rattle.audit_blocks.proofs.ListsLemmas.{addrs_contained, addrs_of}
use Rattle.audit_blocks.proofs.SoundLemmas.{large_bits, large_block, large_empty, large_fits, spaced_counts}
use Rattle.audit_blocks.proofs.CountedLemmas.{free_of_parts}
use Rattle.audit_blocks.proofs.TouchingLemmas.{apart_from, edge_none, large_follows}
use Rattle.audit_blocks.specs.Control.{control_word}
use Rattle.audit_blocks.specs.Free.{IsLargeList, IsSmallList, LargeReached}
use Rattle.audit_blocks.specs.Region.{IsSound}
use Rattle.audit_blocks.specs.Spots.{begun_in}

module _ (bytes : List ℕ) (small large : List PoolBlock) (region : IsRegionSize (length bytes)) (s : IsSound bytes small large) where
  -- the list of free blocks of an order
  pub list : (order : ℕ) → order ≤ 20 → IsLargeList bytes large order
  list order few =
      let e : 68 + order - 68 ≡ order = omega arith in
      subst (λ (n : ℕ). IsLargeList bytes large n) e
      (subst (λ (t : Bool). cond t (IsSmallList bytes small (68 + order - 3)) (IsLargeList bytes large (68 + order - 68))) (lt-leb (68 + order) 67 (omega arith))
      (s.free.lists (68 + order) (record { first = omega arith; last = omega (arith, few) })))

  pub few_or_not : (order : ℕ) → (order ≤ 20) ⊎ (20 < order)
  few_or_not order = elim (cases_lt 20 order) [ inl many ↦ inr many | inr few ↦ inl few ]

  abbrev list_or : (order : ℕ) → (order ≤ 20) ⊎ (20 < order) → List (ℕ × ℕ)
  list_or order (inl few) = (list order few).blocks
  list_or order (inr many) = []

  -- the free blocks of an order, as their list goes
  abbrev pub large_lists : ℕ → List (ℕ × ℕ)
  large_lists order = list_or order (few_or_not order)

  -- a free block, as its leader tells
  free_at : (words addr : ℕ) → 0 < count_by (is_free_of words addr) large → (addr ≢ 0) × (words ≡ leader_words (addr - 16) bytes)
  free_at words addr some =
      let b = large_block bytes small large s (is_free_of words addr) some in
      let parts = free_of_parts words addr b.block b.passes in
      let at = b.at in
      let same = parts.0 in
      let back : b.place ≡ addr - 16 = omega (arith, at, same) in (
        λ none. omega (arith, at, same, none),
        sym parts.1 ∙ b.words ∙ ap (λ (n : ℕ). leader_words n bytes) back,
      )

  nonzero : (order : ℕ) (l : IsLargeList bytes large order) → All (λ (block : ℕ × ℕ). block.0 ≢ 0) l.blocks
  nonzero order l = λ k d inside. (free_at _ _ (l.free k d inside)).0

  -- a free block is in the list of its order
  reached : (words addr : ℕ) → 0 < count_by (is_free_of words addr) large → (l : IsLargeList bytes large (order_of words)) → 0 < count_by (is_entry words addr) l.blocks
  reached words addr some l =
      let b = large_block bytes small large s (is_free_of words addr) some in
      let parts = free_of_parts words addr b.block b.passes in
      let r : LargeReached bytes large b.block =
      begun_holds (λ (x : PoolBlock). (x.used ≡ false) → LargeReached bytes large x) 16 large b.place b.block s.free.above b.begun parts.2 in
      let Q = λ (n a : ℕ). (k : IsLargeList bytes large (order_of n)) × Contains k.blocks (a, n) in
      let other : Q words addr = subst (λ (n : ℕ). Q n addr) parts.1 (subst (λ (a : ℕ). Q b.block.words a) parts.0 (r.list, r.reached)) in
      let contains : Contains (addrs_of l.blocks) addr =
      subst (λ (xs : List ℕ). Contains xs addr)
      (links_same bytes (8 * (68 + order_of words)) 0 other.0.blocks l.blocks other.0.links l.links (nonzero (order_of words) other.0) (nonzero (order_of words) l))
      (addrs_contained addr words other.0.blocks other.1) in
      contained_entry words addr l.blocks
      (λ k d inside at. (free_at _ _ (l.free k d inside)).1 ∙ ap (λ (n : ℕ). leader_words (n - 16) bytes) at ∙ sym (free_at words addr some).1) contains

  -- at most one block is free and of so many words at an address
  free_most : (words addr : ℕ) → count_by (is_free_of words addr) large ≤ 1
  free_most words addr = elim (cases_lt 0 (count_by (is_free_of words addr) large)) [
    | inl some ↦
        let b = large_block bytes small large s (is_free_of words addr) some in
        let parts = free_of_parts words addr b.block b.passes in
        let c =
        spaced_counts 16 b.place addr (λ (x : PoolBlock). true) (sym parts.0 ∙ b.at) large (control_word bytes HIGH) (length bytes)
        (spaced_large bytes small large s.control s.blocks) in
        omega (
          arith,
          count_by-le (is_free_of words addr) (λ (x : PoolBlock). is_at addr x && true) (λ x. at_most (is_at addr x) (x.words == words) (not x.used)) large,
          c,
          one_most (begun_in 16 large b.place),
        )
    | inr none ↦ omega (arith, none)
  ]
    where
      at_most : (a b c : Bool) → cond {A = ℕ} ((a && b) && c) 1 0 ≤ cond {A = ℕ} (a && true) 1 0
      at_most true true true = omega arith
      at_most true true false = omega arith
      at_most true false c = omega arith
      at_most false b c = omega arith

      one_most : (o : Option PoolBlock) → cond {A = ℕ} (option_map_or (λ (x : PoolBlock). true) o false) 1 0 ≤ 1
      one_most None = omega arith
      one_most (Some x) = omega arith

  -- each free block of so many words is in the list of its order, once, and in no other
  listed_or : (order : ℕ) (few : (order ≤ 20) ⊎ (20 < order)) (words addr : ℕ) →
      count_by (is_entry words addr) (list_or order few) ≡ cond (order == order_of words) (count_by (is_free_of words addr) large) 0
  listed_or order (inl few) words addr = elim (cases_eq order (order_of words)) [
    | inl same ↦
        let l = list order few in
        let once = l.once addr in
        let most = entries_most words addr l.blocks in
        let free_once = free_most words addr in
        let rhs : cond (order == order_of words) (count_by (is_free_of words addr) large) 0 ≡ count_by (is_free_of words addr) large =
        ap (λ (t : Bool). cond t (count_by (is_free_of words addr) large) 0) (eq-eqb order (order_of words) same) in
        elim (cases_lt 0 (count_by (is_free_of words addr) large)) [
          | inl some ↦
              let c = moved order (order_of words) same l words addr (λ k. reached words addr some k) in
              omega (arith, c, once, most, free_once, some, rhs)
          | inr none ↦ elim (cases_lt 0 (count_by (is_entry words addr) l.blocks)) [
            | inl counted ↦
                let some = All-contains (λ (block : ℕ × ℕ). 0 < count_by (is_free_of block.1 block.0) large) l.blocks (addr, words) l.free (entry_contained words addr l.blocks counted) in
                absurd (omega (arith, none, some))
            | inr not_counted ↦ omega (arith, none, not_counted, rhs)
          ]
        ]
    | inr off ↦
        let l = list order few in
        let rhs : cond (order == order_of words) (count_by (is_free_of words addr) large) 0 ≡ 0 =
        ap (λ (t : Bool). cond t (count_by (is_free_of words addr) large) 0) (ne_eqb order (order_of words) off) in
        elim (cases_lt 0 (count_by (is_entry words addr) l.blocks)) [
          | inl counted ↦
              let is = All-contains (λ (block : ℕ × ℕ). order_of block.1 ≡ order) l.blocks (addr, words) l.order_is (entry_contained words addr l.blocks counted) in
              absurd (off (sym is))
          | inr not_counted ↦ omega (arith, not_counted, rhs)
        ]
  ]
    where
      moved : (n m : ℕ) (e : n ≡ m) (l : IsLargeList bytes large n) (w a : ℕ) → ((k : IsLargeList bytes large m) → 0 < count_by (is_entry w a) k.blocks) →
          0 < count_by (is_entry w a) l.blocks
      moved n m e l w a holds =
          subst (λ (k : ℕ). (l' : IsLargeList bytes large k) → 0 < count_by (is_entry w a) l'.blocks) (sym e) holds l
  listed_or order (inr many) words addr =
      let most = order_of-le words in
      sym (ap (λ (t : Bool). cond t (count_by (is_free_of words addr) large) 0) (ne_eqb order (order_of words) (λ e. omega (arith, e, many, most))))

  tiles : (small_lists : ℕ → List ℕ) → TilesLarge (record {
    start = control_word bytes START;
    end = length bytes;
    low = control_word bytes LOW;
    high = control_word bytes HIGH;
    small = small;
    large = large;
    small_lists = small_lists;
    large_lists = large_lists;
  })
  tiles small_lists =
      let o = in_order bytes s.control in
      record {
        bounds = record { region = region; start = o.start; order = o.high; end = o.end };
        least = o.low;
        follow = large_follows bytes large (control_word bytes HIGH) (length bytes) s.blocks.follow.above (large_fits bytes small large s);
        lists = record { listed = λ order words addr. listed_or order (few_or_not order) words addr };
        apart = λ words addr some.
            apart_from bytes false large (control_word bytes HIGH) (length bytes) s.blocks.follow.above (or_right _ _ (or_left _ _ s.blocks.right)) words addr some;
        edge = edge_none bytes large (control_word bytes HIGH) (length bytes) s.blocks.follow.above (or_right _ _ s.blocks.right);
      }

  back : (addr addr' place : ℕ) → addr' ≡ addr → addr' ≡ place + 16 → addr - 16 ≡ place
  back addr addr' place same at = omega (arith, same, at)

  -- the bytes keep this large pool, with the small one beside it
  pub keeps_large : (small_lists : ℕ → List ℕ) → KeepsLarge bytes (record {
    start = control_word bytes START;
    end = length bytes;
    low = control_word bytes LOW;
    high = control_word bytes HIGH;
    small = small;
    large = large;
    small_lists = small_lists;
    large_lists = large_lists;
  })
  keeps_large small_lists = record {
    tiles = tiles small_lists;
    holds = record {
      size = refl;
      low = refl;
      high = refl;
      lists = λ order few. linked order (few_or_not order) few;
      leaders = λ words addr some.
          let b = large_block bytes small large s (is_of words addr) some in
          let parts = is_of-true words addr b.block b.passes in
          ap (λ (n : ℕ). leader_words n bytes) (back addr b.block.addr b.place parts.0 b.at) ∙ sym b.words ∙ parts.1;
      free = λ words addr some. free_block words addr some;
      used = λ words addr some. used_block words addr some;
      bits = λ word less above. large_bits bytes small large s word less above;
    };
  }
    where
      linked : (order : ℕ) (few : (order ≤ 20) ⊎ (20 < order)) → order ≤ 20 → Links bytes (large_place order) 0 (list_or order few)
      linked order (inl few) is = (list order few).links
      linked order (inr many) is = absurd (omega (arith, many, is))

      free_block : (words addr : ℕ) → 0 < count_by (is_free_of words addr) large → IsFreeBlock words addr bytes
      free_block words addr some =
          let b = large_block bytes small large s (is_free_of words addr) some in
          let parts = free_of_parts words addr b.block b.passes in
          let empty : (false || leader_length (b.block.addr - 16) bytes == 0) ≡ true =
          sym (ap (λ (t : Bool). t || leader_length (b.block.addr - 16) bytes == 0) parts.2) ∙ large_empty bytes small large s b.place b.block b.begun in
          let last : number_at (b.block.addr + 8 * b.block.words + 8) bytes ≡ last_word b.block.used b.block.words =
          eqb-true _ _ (and_parts _ _ b.ends).0 in
          record {
            kind = ap (λ (n : ℕ). leader_kind n bytes) (back addr b.block.addr b.place parts.0 b.at) ∙ eqb-true _ _ (not-false _ (sym b.used ∙ parts.2));
            length = ap (λ (n : ℕ). leader_length (n - 16) bytes) (sym parts.0) ∙ eqb-true _ _ empty;
            last =
                sym (λ i. number_at (parts.0 i + 8 * parts.1 i + 8) bytes)
                ∙ last ∙ (λ i. last_word (parts.2 i) (parts.1 i));
          }

      used_block : (words addr : ℕ) → 0 < count_by (is_used_of words addr) large → IsUsedBlock words addr bytes
      used_block words addr some =
          let b = large_block bytes small large s (is_used_of words addr) some in
          let p = and_parts (is_of words addr b.block) b.block.used b.passes in
          let parts = is_of-true words addr b.block p.0 in
          let ends = and_parts _ _ b.ends in
          let last : number_at (b.block.addr + 8 * b.block.words + 8) bytes ≡ last_word b.block.used b.block.words = eqb-true _ _ ends.0 in
          let links : (not true || number_at (b.block.addr - 8) bytes == 0 && number_at (b.block.addr + 8 * b.block.words) bytes == 0) ≡ true =
          sym (ap (λ (t : Bool). not t || number_at (b.block.addr - 8) bytes == 0 && number_at (b.block.addr + 8 * b.block.words) bytes == 0) p.1) ∙ ends.1 in
          let both = and_parts (number_at (b.block.addr - 8) bytes == 0) (number_at (b.block.addr + 8 * b.block.words) bytes == 0) links in
          record {
            next = sym (λ i. number_at (parts.0 i - 8) bytes) ∙ eqb-true _ _ both.0;
            before = sym (λ i. number_at (parts.0 i + 8 * parts.1 i) bytes) ∙ eqb-true _ _ both.1;
            last =
                sym (λ i. number_at (parts.0 i + 8 * parts.1 i + 8) bytes)
                ∙ last ∙ (λ i. last_word (p.1 i) (parts.1 i));
          }
