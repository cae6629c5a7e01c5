-- The free blocks that lists may have are those of the pools.
use Rattle.std.proofs.Common.{◌≡◌, ◌≤◌, ◌<◌, ◌+◌, ◌-◌, ◌*◌, ◌/◌, ◌%◌, ℕ, Bool, List, Option, None, Some, cond, true, false, length, get_or, arith, ap, ◌∙◌, refl, sym, subst, inl, inr}
use Rattle.std.specs.Prelude.{count_by}
use Rattle.std.specs.Option.{option_or}
use Rattle.std.proofs.lemmas.Bool.{and_parts, cases_Bool, cases_lt, le-leb, le-ltb, leb-false, leb-true, lt-leb, lt-ltb}
use Rattle.sdr_base.specs.LargePool.{order_of}
use Rattle.sdr_base.specs.Pools.{PoolBlock, is_free_of}
use Rattle.sdr_base.specs.Stored.{leader_words}
use Rattle.sdr_base.specs.declared.control.TheConstants.{HIGH, LOW, START}
use Rattle.audit_blocks.proofs.BitsLemmas.{spots_of}
use Rattle.audit_blocks.proofs.BegunLemmas.{begins_above, begins_below, begun_above, begun_addr, begun_below, begun_large, begun_small, none_small, spaced_large, spaced_small}
use Rattle.audit_blocks.proofs.CountedLemmas.{begun_counts, counted_begins, free_of_from, free_of_parts}
use Rattle.audit_blocks.proofs.EdgeLemmas.{in_order}
use Rattle.audit_blocks.proofs.GoesLemmas.{frame_large, frame_small}
use Rattle.audit_blocks.proofs.ListedLemmas.{at_listed, free_inside, listed_at}
use Rattle.audit_blocks.specs.Control.{ControlIsRight, control_word}
use Rattle.audit_blocks.specs.Listed.{frame_in, is_listed, is_small_list, list_of}
use Rattle.audit_blocks.specs.Spots.{begun_at, begun_in, is_free_spot, spot_of}
use Rattle.audit_blocks.specs.Walk.{AreBlocks}
use Rattle.audit_blocks.specs.Walked.{AllFound}
use Rattle.audit_blocks.specs.declared.spot.Spot.{Spot}
use Rattle.audit_blocks.specs.declared.spot.Spot.TheVariants as spots

-- where a word is told that a free block begins with it, one does
free_some : {told : Spot} (o : Option PoolBlock) → told ≡ spot_of o → is_free_spot told ≡ true → (block : PoolBlock) × (o ≡ Some block) × (block.used ≡ false)
free_some None is is_free = let d : false ≡ true = sym (ap is_free_spot is) ∙ is_free in cc
free_some (Some block) is is_free = (block, refl, by_use block.used (sym (ap is_free_spot is) ∙ is_free))
  where
    by_use : (used : Bool) → is_free_spot (cond used spots.Used spots.Free) ≡ true → used ≡ false
    by_use true holds = let d : false ≡ true = holds in cc
    by_use false holds = refl

module _ (bytes : List ℕ) (told : List Spot) (right : ControlIsRight bytes) (long : length told * 8 ≡ length bytes) (found : AllFound bytes told)
    (small large : List PoolBlock) (are : AreBlocks bytes small large) where
  -- a free block begins at a place
  pub record BeginsFree (place : ℕ) : Type 0 where
    pub block : PoolBlock
    pub begun : begun_at small large place ≡ Some block
    pub free : block.used ≡ false

  pub begins_free : (place : ℕ) → place % 8 ≡ 0 → is_free_spot (get_or told (place / 8) spots.Nothing) ≡ true → BeginsFree place
  begins_free place whole free =
      let inside = free_inside told (place / 8) free in
      let at : 8 * (place / 8) ≡ place = omega (arith, whole) in
      let are_told = spots_of bytes told found small large are (place / 8) inside in
      let s = free_some (begun_at small large (8 * (place / 8))) are_told free in
      record { block = s.0; begun = sym (ap (begun_at small large) at) ∙ s.1; free = s.2 }

  free_begins : (place : ℕ) (block : PoolBlock) → place % 8 ≡ 0 → place < length bytes → begun_at small large place ≡ Some block → block.used ≡ false →
      is_free_spot (get_or told (place / 8) spots.Nothing) ≡ true
  free_begins place block whole inside begun free =
      let at : 8 * (place / 8) ≡ place = omega (arith, whole) in
      let are_told = spots_of bytes told found small large are (place / 8) (omega (arith, inside, long)) in
      ap is_free_spot (are_told ∙ ap spot_of (ap (begun_at small large) at ∙ begun))
      ∙ ap (λ (u : Bool). is_free_spot (cond u spots.Used spots.Free)) free

  list_below : (place : ℕ) → place < control_word bytes LOW → list_of bytes place ≡ 3 + leader_words place bytes
  list_below place below = ap (λ (t : Bool). cond t (3 + leader_words place bytes) (68 + order_of (leader_words place bytes))) (lt-ltb _ _ below)

  list_above : (place : ℕ) → control_word bytes LOW ≤ place → list_of bytes place ≡ 68 + order_of (leader_words place bytes)
  list_above place above = ap (λ (t : Bool). cond t (3 + leader_words place bytes) (68 + order_of (leader_words place bytes))) (le-ltb _ _ above)

  -- a small block has 64 words at most
  small_few : (place : ℕ) {block : PoolBlock} → begun_in 8 small place ≡ Some block → (1 ≤ leader_words place bytes) × (leader_words place bytes ≤ 64)
  small_few place {block} begun =
      let b = begun_small bytes small (control_word bytes START) (control_word bytes LOW) place block are.follow.below begun in
      let a = and_parts _ _ (and_parts _ _ b.0).0 in
      let c = and_parts _ _ a.0 in
      (leb-true _ _ c.1, leb-true _ _ a.1)

  -- what a block is that a list of small blocks may have
  pub record IsSmallAt (word addr : ℕ) : Type 0 where
    pub block : PoolBlock
    pub begun : begun_in 8 small (addr - 8) ≡ Some block
    pub at : block.addr ≡ addr
    pub sized : 3 + block.words ≡ word
    pub free : block.used ≡ false
    pub enough : 8 ≤ addr
    pub inside : addr + 8 ≤ length bytes

  pub listed_small : (word addr : ℕ) → is_small_list word ≡ true → is_listed bytes told word addr ≡ true → IsSmallAt word addr
  listed_small word addr is_small listed =
      let l = listed_at bytes told word addr listed in
      let frame = frame_small word is_small in
      let enough : 8 ≤ addr = subst (λ (f : ℕ). f ≤ addr) frame l.frame in
      let whole : (addr - 8) % 8 ≡ 0 = subst (λ (f : ℕ). (addr - f) % 8 ≡ 0) frame l.whole in
      let list : list_of bytes (addr - 8) ≡ word = subst (λ (f : ℕ). list_of bytes (addr - f) ≡ word) frame l.list in
      let b =
      begins_free (addr - 8) whole (subst (λ (f : ℕ). is_free_spot (get_or told ((addr - f) / 8) spots.Nothing) ≡ true) frame l.free) in
      let most : word ≤ 67 = leb-true _ _ is_small in
      elim (cases_lt (addr - 8) (control_word bytes LOW)) [
        | inl below ↦
            let begun = begun_below bytes small large right are (addr - 8) below b.begun in
            let s = begun_small bytes small (control_word bytes START) (control_word bytes LOW) (addr - 8) b.block are.follow.below begun in
            let addr_is : b.block.addr ≡ addr - 8 + 8 = begun_addr 8 small (addr - 8) b.block begun in
            let ends : addr - 8 + 8 * (1 + leader_words (addr - 8) bytes) ≤ control_word bytes LOW = leb-true _ _ (and_parts _ _ s.0).1 in
            let some = (small_few (addr - 8) begun).0 in
            let high = (in_order bytes right).high in
            let end = (in_order bytes right).end in
            record {
              block = b.block;
              begun = begun;
              at = omega (arith, addr_is, enough);
              sized = ap (λ (x : PoolBlock). 3 + x.words) s.1 ∙ sym (list_below (addr - 8) below) ∙ list;
              free = b.free;
              enough = enough;
              inside = omega (arith, ends, some, high, end, enough);
            }
        | inr above ↦ let a = list_above (addr - 8) above in absurd (omega (arith, a, list, most))
      ]

  pub small_counts : (word addr : ℕ) → is_small_list word ≡ true → is_listed bytes told word addr ≡ true → 0 < count_by (is_free_of (word - 3) addr) small
  small_counts word addr is_small listed =
      let s = listed_small word addr is_small listed in
      let sized = s.sized in
      begun_counts (is_free_of (word - 3) addr) 8 small (addr - 8) s.block s.begun (free_of_from (word - 3) addr s.block s.at (omega (arith, sized)) s.free)

  -- a free small block that begins at a place may be in the list of its words
  pub small_listed_at : (place : ℕ) (block : PoolBlock) → begun_in 8 small place ≡ Some block → place % 8 ≡ 0 → block.used ≡ false →
      (is_listed bytes told (3 + block.words) block.addr ≡ true) × (1 ≤ block.words) × (block.words ≤ 64)
  small_listed_at place block begun whole free =
      let o = in_order bytes right in
      let high = o.high in
      let end = o.end in
      let below = begins_below bytes small large right are place begun in
      let few = small_few place begun in
      let s = begun_small bytes small (control_word bytes START) (control_word bytes LOW) place block are.follow.below begun in
      let words : block.words ≡ leader_words place bytes = ap (λ (x : PoolBlock). x.words) s.1 in
      let most : block.words ≤ 64 = let f = few.1 in omega (arith, words, f) in
      let least : 1 ≤ block.words = let f = few.0 in omega (arith, words, f) in
      let frame : frame_in (3 + block.words) ≡ 8 = frame_small (3 + block.words) (le-leb _ _ (omega (arith, most))) in
      let addr_is = begun_addr 8 small place block begun in
      let back : block.addr - 8 ≡ place = omega (arith, addr_is) in
      let at_begun : begun_at small large place ≡ Some block = ap (λ (o : Option PoolBlock). option_or o (begun_in 16 large place)) begun in (
        at_listed bytes told (3 + block.words) block.addr (record {
          frame = subst (λ (f : ℕ). f ≤ block.addr) (sym frame) (omega (arith, addr_is));
          whole = subst (λ (f : ℕ). (block.addr - f) % 8 ≡ 0) (sym frame) (subst (λ (p : ℕ). p % 8 ≡ 0) (sym back) whole);
          free =
              subst (λ (f : ℕ). is_free_spot (get_or told ((block.addr - f) / 8) spots.Nothing) ≡ true) (sym frame)
              (subst (λ (p : ℕ). is_free_spot (get_or told (p / 8) spots.Nothing) ≡ true) (sym back)
              (free_begins place block whole (omega (arith, below, high, end)) at_begun free));
          list =
              subst (λ (f : ℕ). list_of bytes (block.addr - f) ≡ 3 + block.words) (sym frame)
              (ap (list_of bytes) back ∙ list_below place below ∙ ap (λ (n : ℕ). 3 + n) (sym words));
        }),
        least,
        most,
      )

  pub small_listed : (words addr : ℕ) → 0 < count_by (is_free_of words addr) small → is_listed bytes told (3 + words) addr ≡ true
  small_listed words addr some =
      let f = counted_begins (is_free_of words addr) 8 small (control_word bytes START) (control_word bytes LOW) (spaced_small bytes small large right are) some in
      let parts = free_of_parts words addr f.block f.passes in
      let l = (small_listed_at f.place f.block f.begun f.whole parts.2).0 in
      subst (λ (a : ℕ). is_listed bytes told (3 + words) a ≡ true) parts.0
      (subst (λ (w : ℕ). is_listed bytes told (3 + w) f.block.addr ≡ true) parts.1 l)

  -- what a block is that a list of large blocks may have
  pub record IsLargeAt (word addr : ℕ) : Type 0 where
    pub block : PoolBlock
    pub begun : begun_in 16 large (addr - 16) ≡ Some block
    pub at : block.addr ≡ addr
    pub enough : 16 ≤ addr
    pub sized : block.words ≡ leader_words (addr - 16) bytes
    pub order : 68 + order_of block.words ≡ word
    pub free : block.used ≡ false
    pub inside : addr + 8 * block.words + 16 ≤ length bytes

  pub listed_large : (word addr : ℕ) → is_small_list word ≡ false → is_listed bytes told word addr ≡ true → IsLargeAt word addr
  listed_large word addr is_large listed =
      let l = listed_at bytes told word addr listed in
      let frame = frame_large word is_large in
      let enough : 16 ≤ addr = subst (λ (f : ℕ). f ≤ addr) frame l.frame in
      let whole : (addr - 16) % 8 ≡ 0 = subst (λ (f : ℕ). (addr - f) % 8 ≡ 0) frame l.whole in
      let list : list_of bytes (addr - 16) ≡ word = subst (λ (f : ℕ). list_of bytes (addr - f) ≡ word) frame l.list in
      let b =
      begins_free (addr - 16) whole (subst (λ (f : ℕ). is_free_spot (get_or told ((addr - f) / 8) spots.Nothing) ≡ true) frame l.free) in
      let least : 67 < word = leb-false _ _ is_large in
      elim (cases_lt (addr - 16) (control_word bytes LOW)) [
        | inl below ↦
            let a = list_below (addr - 16) below in
            let few = (small_few (addr - 16) (begun_below bytes small large right are (addr - 16) below b.begun)).1 in
            absurd (omega (arith, a, list, least, few))
        | inr above ↦
            let begun = begun_above bytes small large right are (addr - 16) above b.begun in
            let s = begun_large bytes large (control_word bytes HIGH) (length bytes) (addr - 16) b.block are.follow.above begun in
            let addr_is : b.block.addr ≡ addr - 16 + 16 = begun_addr 16 large (addr - 16) b.block begun in
            let words : b.block.words ≡ leader_words (addr - 16) bytes = ap (λ (x : PoolBlock). x.words) s.1 in
            let ends : addr - 16 + 8 * (4 + leader_words (addr - 16) bytes) ≤ length bytes = leb-true _ _ (and_parts _ _ (and_parts _ _ s.0).0).1 in
            record {
              block = b.block;
              begun = begun;
              at = omega (arith, addr_is, enough);
              enough = enough;
              sized = words;
              order = ap (λ (n : ℕ). 68 + order_of n) words ∙ sym (list_above (addr - 16) above) ∙ list;
              free = b.free;
              inside = omega (arith, ends, words, enough);
            }
      ]

  pub large_counts : (word addr : ℕ) → is_small_list word ≡ false → is_listed bytes told word addr ≡ true →
      0 < count_by (is_free_of (leader_words (addr - 16) bytes) addr) large
  large_counts word addr is_large listed =
      let s = listed_large word addr is_large listed in
      begun_counts (is_free_of (leader_words (addr - 16) bytes) addr) 16 large (addr - 16) s.block s.begun
      (free_of_from (leader_words (addr - 16) bytes) addr s.block s.at s.sized s.free)

  -- a free large block that begins at a place may be in the list of its order
  pub large_listed_at : (place : ℕ) (block : PoolBlock) → begun_in 16 large place ≡ Some block → place % 8 ≡ 0 → block.used ≡ false →
      (is_listed bytes told (68 + order_of block.words) block.addr ≡ true) × (block.words ≡ leader_words (block.addr - 16) bytes)
  large_listed_at place block begun whole free =
      let above = begins_above bytes small large right are place begun in
      let s = begun_large bytes large (control_word bytes HIGH) (length bytes) place block are.follow.above begun in
      let words : block.words ≡ leader_words place bytes = ap (λ (x : PoolBlock). x.words) s.1 in
      let ends : place + 8 * (4 + leader_words place bytes) ≤ length bytes = leb-true _ _ (and_parts _ _ (and_parts _ _ s.0).0).1 in
      let frame : frame_in (68 + order_of block.words) ≡ 16 = frame_large (68 + order_of block.words) (lt-leb _ _ (omega arith)) in
      let addr_is = begun_addr 16 large place block begun in
      let back : block.addr - 16 ≡ place = omega (arith, addr_is) in
      let at_begun : begun_at small large place ≡ Some block =
      ap (λ (o : Option PoolBlock). option_or o (begun_in 16 large place)) (none_small bytes small large right are place above) ∙ begun in (
        at_listed bytes told (68 + order_of block.words) block.addr (record {
          frame = subst (λ (f : ℕ). f ≤ block.addr) (sym frame) (omega (arith, addr_is));
          whole = subst (λ (f : ℕ). (block.addr - f) % 8 ≡ 0) (sym frame) (subst (λ (p : ℕ). p % 8 ≡ 0) (sym back) whole);
          free =
              subst (λ (f : ℕ). is_free_spot (get_or told ((block.addr - f) / 8) spots.Nothing) ≡ true) (sym frame)
              (subst (λ (p : ℕ). is_free_spot (get_or told (p / 8) spots.Nothing) ≡ true) (sym back)
              (free_begins place block whole (omega (arith, ends)) at_begun free));
          list =
              subst (λ (f : ℕ). list_of bytes (block.addr - f) ≡ 68 + order_of block.words) (sym frame)
              (ap (list_of bytes) back ∙ list_above place above ∙ ap (λ (n : ℕ). 68 + order_of n) (sym words));
        }),
        words ∙ ap (λ (p : ℕ). leader_words p bytes) (sym back),
      )

  pub large_listed : (words addr : ℕ) → 0 < count_by (is_free_of words addr) large →
      (is_listed bytes told (68 + order_of words) addr ≡ true) × (words ≡ leader_words (addr - 16) bytes)
  large_listed words addr some =
      let f = counted_begins (is_free_of words addr) 16 large (control_word bytes HIGH) (length bytes) (spaced_large bytes small large right are) some in
      let parts = free_of_parts words addr f.block f.passes in
      let l = large_listed_at f.place f.block f.begun f.whole parts.2 in
      let P = λ (w a : ℕ). (is_listed bytes told (68 + order_of w) a ≡ true) × (w ≡ leader_words (a - 16) bytes) in
      subst (λ (a : ℕ). P words a) parts.0 (subst (λ (w : ℕ). P w f.block.addr) parts.1 l)

  -- the link in a free block of a list lies inside the region
  pub link_inside : (word addr : ℕ) → is_listed bytes told word addr ≡ true → addr - frame_in word + 8 + 8 ≤ length bytes
  link_inside word addr listed = elim (cases_Bool (is_small_list word)) [
    | inl is_small ↦
        let l = listed_small word addr is_small listed in
        let inside = l.inside in
        let enough = l.enough in
        subst (λ (f : ℕ). addr - f + 8 + 8 ≤ length bytes) (sym (frame_small word is_small)) (omega (arith, inside, enough))
    | inr is_large ↦
        let l = listed_large word addr is_large listed in
        let inside = l.inside in
        let enough = l.enough in
        subst (λ (f : ℕ). addr - f + 8 + 8 ≤ length bytes) (sym (frame_large word is_large)) (omega (arith, inside, enough))
  ]
