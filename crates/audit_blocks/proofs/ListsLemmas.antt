-- What a list that goes over free blocks says of the list in a control word, both ways.
use Rattle.std.proofs.Common.{◌≡◌, ◌≢◌, ◌≤◌, ◌<◌, ◌+◌, ◌-◌, ◌*◌, ℕ, zero, suc, Bool, List, [], ◌∷◌, cond, true, false, length, get_or, arith, ap, ◌∙◌, refl, sym, subst, inl, inr}
use Rattle.std.specs.Prelude.{Contains, count_by, map}
use Rattle.std.specs.List.{All}
use Rattle.std.proofs.lemmas.Bool.{cases_Bool, cases_eq, eq-eqb, le-leb, leb-false, leb-true, lt-leb, ne_eqb}
use Rattle.std.proofs.lemmas.List.Elements.{All-map, All-weaker}
use Rattle.sdr_base.proofs.PoolsLemmas.{count_by-no, count_by-yes}
use Rattle.sdr_base.specs.LargePool.{order_of}
use Rattle.sdr_base.specs.Pools.{PoolBlock, is_free_of}
use Rattle.sdr_base.specs.Stored.{leader_words}
use Rattle.audit_blocks.proofs.GoesLemmas.{chain_of, goes_all, goes_chain, goes_links, links_of, sized}
use Rattle.audit_blocks.proofs.ListedLemmas.{is_addr}
use Rattle.audit_blocks.proofs.ToldLemmas.{large_counts, large_listed, listed_large, small_counts, small_listed}
use Rattle.audit_blocks.specs.Control.{ControlIsRight}
use Rattle.audit_blocks.specs.Free.{IsLargeList, IsListIn, IsListWord, IsSmallList}
use Rattle.sdr_base.specs.Entries.{AreOnce}
use Rattle.audit_blocks.specs.Listed.{GoesOver, is_listed, is_small_list}
use Rattle.audit_blocks.specs.Walk.{AreBlocks}
use Rattle.audit_blocks.specs.Walked.{AllFound}
use Rattle.audit_blocks.specs.declared.spot.Spot.{Spot}

-- one that is counted is among them
pub counted_contained : (addr : ℕ) (addrs : List ℕ) → 0 < count_by (is_addr addr) addrs → Contains addrs addr
counted_contained addr [] some = absurd (omega (arith, some))
counted_contained addr (a ∷ addrs) some = elim (cases_eq a addr) [
  | inl same ↦ (0, omega arith, same)
  | inr off ↦
      let c = counted_contained addr addrs (omega (arith, some, count_by-no (is_addr addr) a addrs (ne_eqb a addr off))) in
      let inside : c.0 < length addrs = c.1 in
      (suc c.0, omega (arith, inside), c.2)
]

-- one that is among them is counted
pub contained_counted : (addr : ℕ) (addrs : List ℕ) → Contains addrs addr → 0 < count_by (is_addr addr) addrs
contained_counted addr [] (k, inside, is) = absurd (omega (arith, inside))
contained_counted addr (a ∷ addrs) (k, inside, is) = elim (cases_eq a addr) [
  | inl same ↦ let c = count_by-yes (is_addr addr) a addrs (eq-eqb a addr same) in omega (arith, c)
  | inr off ↦
      let c = count_by-no (is_addr addr) a addrs (ne_eqb a addr off) in
      let more = contained_counted addr addrs (later k inside is off) in
      omega (arith, c, more)
]
  where
    later : (k : ℕ) → k < length (a ∷ addrs) → get_or (a ∷ addrs) k addr ≡ addr → a ≢ addr → Contains addrs addr
    later zero inside is off = absurd (off is)
    later (suc k) inside is off = (k, omega (arith, inside), is)

-- the addresses of blocks
abbrev pub addrs_of : List (ℕ × ℕ) → List ℕ
addrs_of blocks = map (λ block. block.0) blocks

pub addrs_of-sized : (bytes : List ℕ) (told : List Spot) (word : ℕ) (addrs : List ℕ) → addrs_of (map (sized bytes told word) addrs) ≡ addrs
addrs_of-sized bytes told word [] = refl
addrs_of-sized bytes told word (a ∷ addrs) = ap (λ (l : List ℕ). a ∷ l) (addrs_of-sized bytes told word addrs)

-- the address of a block that is among them is among theirs
pub addrs_contained : (addr words : ℕ) (blocks : List (ℕ × ℕ)) → Contains blocks (addr, words) → Contains (addrs_of blocks) addr
addrs_contained addr words [] (k, inside, is) = absurd (omega (arith, inside))
addrs_contained addr words (b ∷ blocks) (zero, inside, is) = (0, omega arith, ap (λ (x : ℕ × ℕ). x.0) is)
addrs_contained addr words (b ∷ blocks) (suc k, inside, is) =
    let c = addrs_contained addr words blocks (k, omega (arith, inside), is) in
    let within : c.0 < length (addrs_of blocks) = c.1 in
    (suc c.0, omega (arith, within), c.2)

-- a block is among those at addresses among which its own is
pub sized_contained : (bytes : List ℕ) (told : List Spot) (word addr words : ℕ) (addrs : List ℕ) → words ≡ leader_words (addr - 16) bytes → Contains addrs addr →
    Contains (map (sized bytes told word) addrs) (addr, words)
sized_contained bytes told word addr words [] size (k, inside, is) = absurd (omega (arith, inside))
sized_contained bytes told word addr words (a ∷ addrs) size (zero, inside, is) = (0, omega arith, (λ i. (is i, (ap (λ (n : ℕ). leader_words (n - 16) bytes) is ∙ sym size) i)))
sized_contained bytes told word addr words (a ∷ addrs) size (suc k, inside, is) =
    let c = sized_contained bytes told word addr words addrs size (k, omega (arith, inside), is) in
    let within : c.0 < length (map (sized bytes told word) addrs) = c.1 in
    (suc c.0, omega (arith, within), c.2)

module _ (bytes : List ℕ) (told : List Spot) (right : ControlIsRight bytes) (long : length told * 8 ≡ length bytes) (found : AllFound bytes told)
    (small large : List PoolBlock) (are : AreBlocks bytes small large) where
  pub small_word : (words : ℕ) → words ≤ 64 → is_small_list (3 + words) ≡ true
  small_word words few = le-leb (3 + words) 67 (omega (arith, few))

  pub large_word : (order : ℕ) → is_small_list (68 + order) ≡ false
  large_word order = lt-leb (68 + order) 67 (omega arith)

  pub small_free : (words : ℕ) → words ≤ 64 → (addr : ℕ) → is_listed bytes told (3 + words) addr ≡ true → 0 < count_by (is_free_of words addr) small
  small_free words few addr listed =
      let e : 3 + words - 3 ≡ words = omega arith in
      subst (λ (w : ℕ). 0 < count_by (is_free_of w addr) small) e
      (small_counts bytes told right long found small large are (3 + words) addr (small_word words few) listed)

  -- a list of small blocks that goes over these is right
  abbrev pub small_list : (words : ℕ) → words ≤ 64 → (addrs : List ℕ) → GoesOver bytes told (3 + words) (8 * (3 + words)) 0 addrs → AreOnce addrs →
      IsSmallList bytes small words
  small_list words few addrs over once = record {
    addrs = addrs;
    chain = chain_of bytes told (3 + words) (8 * (3 + words)) 0 addrs over.to over.last (small_word words few) over.goes over.end;
    free =
        All-weaker (λ addr. is_listed bytes told (3 + words) addr ≡ true) (λ addr. 0 < count_by (is_free_of words addr) small)
        (λ addr listed. small_free words few addr listed) addrs
        (goes_all bytes told (3 + words) (8 * (3 + words)) 0 addrs over.to over.last over.goes);
    once = once;
  }

  -- a right list of small blocks goes over just those
  pub small_over : (words : ℕ) → words ≤ 64 → (list : IsSmallList bytes small words) → GoesOver bytes told (3 + words) (8 * (3 + words)) 0 list.addrs
  small_over words few list =
      goes_chain bytes told (3 + words) (8 * (3 + words)) 0 list.addrs (small_word words few) list.chain
      (All-weaker (λ addr. 0 < count_by (is_free_of words addr) small) (λ addr. is_listed bytes told (3 + words) addr ≡ true)
      (λ addr some. small_listed bytes told right long found small large are words addr some) list.addrs list.free)

  pub large_free : (order addr : ℕ) → is_listed bytes told (68 + order) addr ≡ true →
      (0 < count_by (is_free_of (leader_words (addr - 16) bytes) addr) large) × (order_of (leader_words (addr - 16) bytes) ≡ order)
  large_free order addr listed =
      let l = listed_large bytes told right long found small large are (68 + order) addr (large_word order) listed in
      let is = l.order in
      let of_words : order_of l.block.words ≡ order = omega (arith, is) in (
        large_counts bytes told right long found small large are (68 + order) addr (large_word order) listed,
        sym (ap order_of l.sized) ∙ of_words,
      )

  -- a list of large blocks that goes over these is right
  abbrev pub large_list : (order : ℕ) (addrs : List ℕ) → GoesOver bytes told (68 + order) (8 * (68 + order)) 0 addrs → AreOnce addrs → IsLargeList bytes large order
  large_list order addrs over once =
      let all = goes_all bytes told (68 + order) (8 * (68 + order)) 0 addrs over.to over.last over.goes in
      record {
        blocks = map (sized bytes told (68 + order)) addrs;
        links = links_of bytes told (68 + order) (8 * (68 + order)) 0 addrs over.to over.last (large_word order) over.goes over.end;
        free =
            All-map (λ (block : ℕ × ℕ). 0 < count_by (is_free_of block.1 block.0) large) (sized bytes told (68 + order)) addrs
            (All-weaker (λ addr. is_listed bytes told (68 + order) addr ≡ true)
            (λ addr. 0 < count_by (is_free_of (leader_words (addr - 16) bytes) addr) large) (λ addr listed. (large_free order addr listed).0) addrs all);
        order_is =
            All-map (λ (block : ℕ × ℕ). order_of block.1 ≡ order) (sized bytes told (68 + order)) addrs
            (All-weaker (λ addr. is_listed bytes told (68 + order) addr ≡ true) (λ addr. order_of (leader_words (addr - 16) bytes) ≡ order)
            (λ addr listed. (large_free order addr listed).1) addrs all);
        once = subst AreOnce (sym (addrs_of-sized bytes told (68 + order) addrs)) once;
      }

  -- a block of a right list of large ones, as its leader tells
  both_hold : (order : ℕ) (blocks : List (ℕ × ℕ)) → All (λ block. 0 < count_by (is_free_of block.1 block.0) large) blocks → All (λ block. order_of block.1 ≡ order) blocks →
      All (λ block. is_listed bytes told (68 + order) block.0 ≡ true) blocks × All (λ block. block.1 ≡ leader_words (block.0 - 16) bytes) blocks
  both_hold order blocks free order_is = (
    λ k d inside.
        subst (λ (o : ℕ). is_listed bytes told (68 + o) (get_or blocks k d).0 ≡ true) (order_is k d inside)
        (large_listed bytes told right long found small large are (get_or blocks k d).1 (get_or blocks k d).0 (free k d inside)).0,
    λ k d inside. (large_listed bytes told right long found small large are (get_or blocks k d).1 (get_or blocks k d).0 (free k d inside)).1,
  )

  -- a right list of large blocks goes over just those
  pub large_over : (order : ℕ) (list : IsLargeList bytes large order) → GoesOver bytes told (68 + order) (8 * (68 + order)) 0 (addrs_of list.blocks)
  large_over order list =
      let b = both_hold order list.blocks list.free list.order_is in
      goes_links bytes told (68 + order) (8 * (68 + order)) 0 list.blocks (large_word order) list.links b.0 b.1

  -- the list of a control word that goes over blocks, each once, is right
  pub list_right : (word : ℕ) → IsListWord word → (addrs : List ℕ) → GoesOver bytes told word (8 * word) 0 addrs → AreOnce addrs → IsListIn bytes small large word
  list_right word is addrs over once = elim (cases_Bool (is_small_list word)) [
    | inl small_is ↦
        let most : word ≤ 67 = leb-true word 67 small_is in
        let first = is.first in
        let e : word ≡ 3 + (word - 3) = omega (arith, first) in
        subst (λ (t : Bool). cond t (IsSmallList bytes small (word - 3)) (IsLargeList bytes large (word - 68))) (sym small_is)
        (small_list (word - 3) (omega (arith, most)) addrs (subst (λ (w : ℕ). GoesOver bytes told w (8 * w) 0 addrs) e over) once)
    | inr large_is ↦
        let least : 67 < word = leb-false word 67 large_is in
        let e : word ≡ 68 + (word - 68) = omega (arith, least) in
        subst (λ (t : Bool). cond t (IsSmallList bytes small (word - 3)) (IsLargeList bytes large (word - 68))) (sym large_is)
        (large_list (word - 68) addrs (subst (λ (w : ℕ). GoesOver bytes told w (8 * w) 0 addrs) e over) once)
  ]

  -- what a right list goes over, each once
  pub record RightOver (word : ℕ) : Type 0 where
    pub addrs : List ℕ
    pub over : GoesOver bytes told word (8 * word) 0 addrs
    pub once : AreOnce addrs

  pub right_over : (word : ℕ) → IsListWord word → IsListIn bytes small large word → RightOver word
  right_over word is list = elim (cases_Bool (is_small_list word)) [
    | inl small_is ↦
        let most : word ≤ 67 = leb-true word 67 small_is in
        let first = is.first in
        let e : 3 + (word - 3) ≡ word = omega (arith, first) in
        let l : IsSmallList bytes small (word - 3) =
        subst (λ (t : Bool). cond t (IsSmallList bytes small (word - 3)) (IsLargeList bytes large (word - 68))) small_is list in
        record {
          addrs = l.addrs;
          over = subst (λ (w : ℕ). GoesOver bytes told w (8 * w) 0 l.addrs) e (small_over (word - 3) (omega (arith, most)) l);
          once = l.once;
        }
    | inr large_is ↦
        let least : 67 < word = leb-false word 67 large_is in
        let e : 68 + (word - 68) ≡ word = omega (arith, least) in
        let l : IsLargeList bytes large (word - 68) =
        subst (λ (t : Bool). cond t (IsSmallList bytes small (word - 3)) (IsLargeList bytes large (word - 68))) large_is list in
        record {
          addrs = addrs_of l.blocks;
          over = subst (λ (w : ℕ). GoesOver bytes told w (8 * w) 0 (addrs_of l.blocks)) e (large_over (word - 68) l);
          once = l.once;
        }
  ]
