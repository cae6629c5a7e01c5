-- Each free block is reached, or the first that isn't is known.
use Rattle.std.proofs.Common.{◌≡◌, ◌≤◌, ◌<◌, ◌+◌, ◌-◌, ◌*◌, ◌/◌, ◌%◌, ◌&&◌, ℕ, Bool, List, [], ◌∷◌, Some, cond, not, true, false, length, get_or, arith, ap, ◌∙◌, refl, sym, subst, inl, inr}
use Rattle.std.specs.Prelude.{Contains, count_by}
use Rattle.std.proofs.lemmas.Bool.{and_parts, cases_lt, le-ltb, lt-ltb, not-true}
use Rattle.std.proofs.lemmas.List.Elements.{All-cons, All-nil}
use Rattle.sdr_base.specs.LargePool.{order_of}
use Rattle.sdr_base.specs.Pools.{PoolBlock}
use Rattle.sdr_base.specs.Stored.{leader_words}
use Rattle.sdr_base.specs.declared.control.TheConstants.{HIGH, LOW, START}
use Rattle.sdr_large.proofs.ListsLemmas.{order_of-le}
use Rattle.audit_blocks.proofs.BegunLemmas.{begun_above, begun_addr, begun_below, spaced_large, spaced_small}
use Rattle.audit_blocks.proofs.EdgeLemmas.{in_order}
use Rattle.audit_blocks.proofs.FreeLemmas.{once_marked}
use Rattle.audit_blocks.proofs.GoesLemmas.{frame_large, frame_small, goes_same}
use Rattle.audit_blocks.proofs.ListedLemmas.{is_addr, listed_at, marked_counts}
use Rattle.audit_blocks.proofs.ListsLemmas.{addrs_contained, addrs_of, contained_counted, counted_contained, large_list, large_over, large_word, list_right, sized_contained, small_list, small_over, small_word}
use Rattle.audit_blocks.proofs.SpacedLemmas.{AllBefore, IfBefore, Spaced, all_before, around, begun_first, begun_later, none_some, spaced_before}
use Rattle.audit_blocks.proofs.StruckLemmas.{lost_is}
use Rattle.audit_blocks.proofs.ToldLemmas.{begins_free, large_listed_at, small_listed_at}
use Rattle.audit_blocks.specs.Control.{ControlIsRight, control_word}
use Rattle.audit_blocks.specs.Free.{AreListed, IsListIn, IsListWord, IsLost, LargeReached, SmallReached}
use Rattle.audit_blocks.specs.Listed.{GoesOver, IsFirstLost, IsLeft, ListsWalked, frame_at, frame_in, is_listed, is_lost, is_marked}
use Rattle.audit_blocks.specs.Spots.{begun_in, is_free_spot}
use Rattle.audit_blocks.specs.Walk.{AreBlocks}
use Rattle.audit_blocks.specs.Walked.{AllFound}
use Rattle.audit_blocks.specs.declared.spot.Spot.{Spot}
use Rattle.audit_blocks.specs.declared.spot.Spot.TheVariants as spots

-- what holds of each block that begins before a place holds of those before it
all_begun : (frame : ℕ) (P : PoolBlock → Type 0) (blocks : List PoolBlock) (from to place : ℕ) → Spaced frame blocks from to →
    ((other : ℕ) (block : PoolBlock) → other % 8 ≡ 0 → other < place → begun_in frame blocks other ≡ Some block → P block) → AllBefore frame P blocks place
all_begun frame P [] from to place s holds = All-nil (IfBefore frame P place)
all_begun frame P (x ∷ blocks) from to place (at, whole, (next, later, more)) holds =
    All-cons (IfBefore frame P place) x blocks (λ below. holds from x whole (omega (arith, below, at)) (begun_first frame x blocks from at))
    (all_begun frame P blocks next to place more (λ other block whole' less begun. holds other block whole' less (elim (cases_lt other next) [
      | inl before ↦ absurd (none_some (spaced_before frame blocks next to other more before) begun)
      | inr behind ↦ begun_later frame x blocks other (λ e. omega (arith, e, at, later, behind)) ∙ begun
    ])))

module _ (bytes : List ℕ) (told : List Spot) (reached : List Bool) (right : ControlIsRight bytes) (long : length told * 8 ≡ length bytes) (found : AllFound bytes told)
    (w : ListsWalked bytes told reached 89) (left : List Spot) (left_is : IsLeft told reached left) (small large : List PoolBlock) (are : AreBlocks bytes small large) where
  over : (word : ℕ) → IsListWord word → GoesOver bytes told word (8 * word) 0 (w.lists word)
  over word is = let last = is.last in w.done word is (omega (arith, last))

  lists_right : (word : ℕ) → IsListWord word → IsListIn bytes small large word
  lists_right word is =
      list_right bytes told right long found small large are word is (w.lists word) (over word is) (once_marked bytes told w.lists reached w.marks word)

  -- one that may be in a list is in it where it isn't lost
  in_list : (word addr : ℕ) → is_listed bytes told word addr ≡ true → is_lost left ((addr - frame_in word) / 8) ≡ false → Contains (w.lists word) addr
  in_list word addr listed kept =
      let free = (listed_at bytes told word addr listed).free in
      let marked : is_marked reached word addr ≡ true = by_mark (get_or reached ((addr - frame_in word) / 8) false) (sym (ap (λ (t : Bool). t && not (is_marked reached word addr)) free) ∙ sym (lost_is left_is ((addr - frame_in word) / 8)) ∙ kept) in
      let one = marked_counts bytes told w.lists reached word addr w.marks listed marked in
      counted_contained addr (w.lists word) (omega (arith, one))
    where
      by_mark : (t : Bool) → (true && not t) ≡ false → t ≡ true
      by_mark true e = refl
      by_mark false e = let d : true ≡ false = e in cc

  -- and isn't where it is lost
  not_in_list : (word addr : ℕ) → is_listed bytes told word addr ≡ true → is_lost left ((addr - frame_in word) / 8) ≡ true → Contains (w.lists word) addr → ⊥
  not_in_list word addr listed lost contains =
      let some = contained_counted addr (w.lists word) contains in
      let unmarked = not-true (get_or reached ((addr - frame_in word) / 8) false) (and_parts _ _ (sym (lost_is left_is ((addr - frame_in word) / 8)) ∙ lost)).1 in
      let none : count_by (is_addr addr) (w.lists word) ≡ 0 = w.marks word addr ∙ (λ i. cond {A = ℕ} (listed i && unmarked i) 1 0) in
      omega (arith, some, none)

  module _ (place : ℕ) (block : PoolBlock) (whole : place % 8 ≡ 0) (free : block.used ≡ false) where
    module _ (begun : begun_in 8 small place ≡ Some block) where
      at_small : (is_listed bytes told (3 + block.words) block.addr ≡ true) × (1 ≤ block.words) × (block.words ≤ 64)
      at_small = small_listed_at bytes told right long found small large are place block begun whole free

      is_word : IsListWord (3 + block.words)
      is_word = let least = at_small.1 in let most = at_small.2 in record { first = omega (arith, least); last = omega (arith, most) }

      index : (block.addr - frame_in (3 + block.words)) / 8 ≡ place / 8
      index =
          let addr = begun_addr 8 small place block begun in
          let e : block.addr - 8 ≡ place = omega (arith, addr) in
          ap (λ (f : ℕ). (block.addr - f) / 8) (frame_small (3 + block.words) (small_word bytes told right long found small large are block.words at_small.2))
          ∙ ap (λ (n : ℕ). n / 8) e

      reached_small : is_lost left (place / 8) ≡ false → SmallReached bytes small block
      reached_small kept = record {
        list =
            small_list bytes told right long found small large are block.words at_small.2 (w.lists (3 + block.words)) (over (3 + block.words) is_word)
            (once_marked bytes told w.lists reached w.marks (3 + block.words));
        reached = in_list (3 + block.words) block.addr at_small.0 (ap (is_lost left) index ∙ kept);
      }

      lost_small : is_lost left (place / 8) ≡ true → SmallReached bytes small block → ⊥
      lost_small lost r =
          not_in_list (3 + block.words) block.addr at_small.0 (ap (is_lost left) index ∙ lost)
          (subst (λ (l : List ℕ). Contains l block.addr)
          (goes_same bytes told (3 + block.words) (8 * (3 + block.words)) 0 r.list.addrs (w.lists (3 + block.words))
          (small_over bytes told right long found small large are block.words at_small.2 r.list) (over (3 + block.words) is_word)) r.reached)

    module _ (begun : begun_in 16 large place ≡ Some block) where
      at_large : (is_listed bytes told (68 + order_of block.words) block.addr ≡ true) × (block.words ≡ leader_words (block.addr - 16) bytes)
      at_large = large_listed_at bytes told right long found small large are place block begun whole free

      is_order : IsListWord (68 + order_of block.words)
      is_order = let most = order_of-le block.words in record { first = omega arith; last = omega (arith, most) }

      index_large : (block.addr - frame_in (68 + order_of block.words)) / 8 ≡ place / 8
      index_large =
          let addr = begun_addr 16 large place block begun in
          let e : block.addr - 16 ≡ place = omega (arith, addr) in
          ap (λ (f : ℕ). (block.addr - f) / 8)
          (frame_large (68 + order_of block.words) (large_word bytes told right long found small large are (order_of block.words)))
          ∙ ap (λ (n : ℕ). n / 8) e

      reached_large : is_lost left (place / 8) ≡ false → LargeReached bytes large block
      reached_large kept = record {
        list =
            large_list bytes told right long found small large are (order_of block.words) (w.lists (68 + order_of block.words))
            (over (68 + order_of block.words) is_order) (once_marked bytes told w.lists reached w.marks (68 + order_of block.words));
        reached =
            sized_contained bytes told (68 + order_of block.words) block.addr block.words (w.lists (68 + order_of block.words)) at_large.1
            (in_list (68 + order_of block.words) block.addr at_large.0 (ap (is_lost left) index_large ∙ kept));
      }

      lost_large : is_lost left (place / 8) ≡ true → LargeReached bytes large block → ⊥
      lost_large lost r =
          not_in_list (68 + order_of block.words) block.addr at_large.0 (ap (is_lost left) index_large ∙ lost)
          (subst (λ (l : List ℕ). Contains l block.addr)
          (goes_same bytes told (68 + order_of block.words) (8 * (68 + order_of block.words)) 0 (addrs_of r.list.blocks) (w.lists (68 + order_of block.words))
          (large_over bytes told right long found small large are (order_of block.words) r.list) (over (68 + order_of block.words) is_order))
          (addrs_contained block.addr block.words r.list.blocks r.reached))

  -- what is asked of each block of a pool
  abbrev pub IfFree : (PoolBlock → Type 0) → PoolBlock → Type 0
  IfFree Reached block = (block.used ≡ false) → Reached block

  -- those before a place are reached where none of them is lost
  small_before : (place : ℕ) → ((other : ℕ) → 8 * other < place → is_lost left other ≡ false) → AllBefore 8 (IfFree (SmallReached bytes small)) small place
  small_before place kept =
      all_begun 8 (IfFree (SmallReached bytes small)) small (control_word bytes START) (control_word bytes LOW) place
      (spaced_small bytes small large right are)
      (λ other block whole less begun free.
      reached_small other block whole free begun (kept (other / 8) (let e : 8 * (other / 8) ≡ other = omega (arith, whole) in omega (arith, e, less))))

  large_before : (place : ℕ) → ((other : ℕ) → 8 * other < place → is_lost left other ≡ false) → AllBefore 16 (IfFree (LargeReached bytes large)) large place
  large_before place kept =
      all_begun 16 (IfFree (LargeReached bytes large)) large (control_word bytes HIGH) (length bytes) place
      (spaced_large bytes small large right are)
      (λ other block whole less begun free.
      reached_large other block whole free begun (kept (other / 8) (let e : 8 * (other / 8) ≡ other = omega (arith, whole) in omega (arith, e, less))))

  -- where none is lost all are reached
  pub all_listed : ((word : ℕ) → word < length left → is_lost left word ≡ false) → AreListed bytes small large
  all_listed kept =
      let o = in_order bytes right in
      let high = o.high in
      let end = o.end in
      let before : (other : ℕ) → 8 * other < length bytes → is_lost left other ≡ false = λ other less. kept other (let same = left_is.long in omega (arith, less, long, same)) in
      record {
        lists = lists_right;
        below =
            all_before 8 (IfFree (SmallReached bytes small)) small (control_word bytes START) (control_word bytes LOW) (length bytes)
            (spaced_small bytes small large right are) (omega (arith, high, end)) (small_before (length bytes) before);
        above =
            all_before 16 (IfFree (LargeReached bytes large)) large (control_word bytes HIGH) (length bytes) (length bytes)
            (spaced_large bytes small large right are) (omega arith) (large_before (length bytes) before);
      }

  -- the first that is lost, at its address
  pub first_is_lost : (word : ℕ) → IsFirstLost left word → IsLost bytes small large (8 * word + frame_at (8 * word) (control_word bytes LOW))
  first_is_lost word first =
      let place : ℕ = 8 * word in
      let index : 8 * word / 8 ≡ word = omega arith in
      let whole : 8 * word % 8 ≡ 0 = omega arith in
      let free_told : is_free_spot (get_or told (8 * word / 8) spots.Nothing) ≡ true =
      ap (λ (n : ℕ). is_free_spot (get_or told n spots.Nothing)) index ∙ (and_parts _ _ (sym (lost_is left_is word) ∙ first.wrong)).0 in
      let lost : is_lost left (8 * word / 8) ≡ true = ap (is_lost left) index ∙ first.wrong in
      let before : (other : ℕ) → 8 * other < 8 * word → is_lost left other ≡ false = λ other less. first.before other (omega (arith, less)) in
      let b = begins_free bytes told right long found small large are (8 * word) whole free_told in
      record {
        lists = lists_right;
        first = elim (cases_lt (8 * word) (control_word bytes LOW)) [
          | inl below ↦
              let begun = begun_below bytes small large right are (8 * word) below b.begun in
              let a =
              around 8 (IfFree (SmallReached bytes small)) small (control_word bytes START) (control_word bytes LOW) (8 * word) b.block
              (spaced_small bytes small large right are) (small_before (8 * word) before) begun in
              inl (record {
                before = a.before;
                block = b.block;
                behind = a.behind;
                whole = a.whole;
                found = a.all;
                free = b.free;
                lost = lost_small (8 * word) b.block whole b.free begun lost;
                at = ap (λ (t : Bool). 8 * word + cond t 8 16) (lt-ltb (8 * word) (control_word bytes LOW) below) ∙ sym (begun_addr 8 small (8 * word) b.block begun);
              })
          | inr above ↦
              let begun = begun_above bytes small large right are (8 * word) above b.begun in
              let a =
              around 16 (IfFree (LargeReached bytes large)) large (control_word bytes HIGH) (length bytes) (8 * word) b.block
              (spaced_large bytes small large right are) (large_before (8 * word) before) begun in
              inr (
                all_before 8 (IfFree (SmallReached bytes small)) small (control_word bytes START) (control_word bytes LOW) (8 * word)
                    (spaced_small bytes small large right are) above (small_before (8 * word) before),
                record {
                  before = a.before;
                  block = b.block;
                  behind = a.behind;
                  whole = a.whole;
                  found = a.all;
                  free = b.free;
                  lost = lost_large (8 * word) b.block whole b.free begun lost;
                  at = ap (λ (t : Bool). 8 * word + cond t 8 16) (le-ltb (8 * word) (control_word bytes LOW) above) ∙ sym (begun_addr 16 large (8 * word) b.block begun);
                },
              )
        ];
      }
