-- A block chosen in the large pool.
use Rattle.std.proofs.Common.{◌≡◌, ◌≢◌, ◌≤◌, ◌<◌, inr, ℕ, ◌+◌, ◌-◌, Bool, true, false, cond, ◌&&◌, ◌==◌}
use Rattle.std.proofs.Common.{List, refl, sym, ap, arith, subst}
use Rattle.std.specs.Prelude.{Option, Some, None, nat_lt}
use Rattle.std.specs.Option.{option_or}
use Rattle.std.specs.List.{count_by}
use Rattle.std.proofs.lemmas.Bool.{ltb-false}
use Rattle.std.proofs.lemmas.Bool.Decides.{nat_tests}
use Rattle.sdr_base.specs.KeptLarge.{KeepsLarge, is_used_of}
use Rattle.sdr_base.specs.KeptPools.{KeepsSmall}
use Rattle.sdr_base.specs.LargePool.{extent_of, without, with_placed, with_unlinked, with_used_large, with_free_large}
use Rattle.sdr_base.specs.LargePool.{found_large, take_found, take_large, with_cut, with_new_large}
use Rattle.sdr_base.specs.Pools.{PoolBlock, Pools, is_of, is_used_at}
use Rattle.sdr_base.specs.SmallPool.{Taken, take_small}
use Rattle.sdr_base.proofs.PoolsLemmas.{free-used-le-at}
use Rattle.sdr_large.specs.Gap.{IsFree}
use Rattle.sdr_large.specs.Calls.{TakesBlock, TakesBy, TakesLarge}
use Rattle.sdr_large.proofs.BlocksLemmas.{count_by-with_placed, without-le}
use Rattle.sdr_large.proofs.BothPoolsLemmas.{SameSmall, cut_same, new_same}
use Rattle.sdr_large.proofs.FoundLemmas.{IsFound, found_is}
use Rattle.sdr_large.proofs.GapLemmas.{not_put}
use Rattle.sdr_large.proofs.PartedLemmas.{IsBeside}
use Rattle.sdr_large.proofs.PlacesLemmas.{at_block, free_of, used_of-le-of}
use Rattle.sdr_large.proofs.WalkLemmas.{tiles_whole}
use Rattle.sdr_small.specs.Calls.{TakesBy as SmallTakesBy, TakesSmall}
use Rattle.sdr_heap.specs.Calls.{ChoosesBlock, ChoosesBy, Chooses}
use Rattle.sdr_base.specs.KeptHeap.{KeepsHeap, LabelledBut}
use Rattle.sdr_heap.proofs.BesideLemmas.{labels_beside, beside_kept}
use Rattle.sdr_heap.proofs.BlockInLemmas.{none_in}
use Rattle.sdr_heap.proofs.LabelsLemmas.{labelled_but}
use Rattle.sdr_heap.proofs.UsedLemmas.{small_at, none_small, none_large}
use Rattle.sdr_heap.proofs.LargeChangeLemmas.{NoneCame, large_stay, large_small}

-- a block of so many words or more, that wasn't in use, was chosen in the large pool
module _ (P Q : Pools) (words has addr : ℕ) (found : Option ℕ) (x y : List ℕ) (keeps : KeepsHeap x P)
    (by : TakesBlock P (record { addr = addr; pools = Q }) found x y) (same : SameSmall P Q)
    (came : NoneCame addr P.large Q.large) (there : 0 < count_by (is_of has addr) Q.large) (enough : words ≤ has)
    (above : P.low < addr + 8) (fresh : count_by (is_used_at addr) P.large ≡ 0) where
  small' : KeepsSmall y Q
  small' = large_small P Q addr x y keeps.small keeps.large same by.becomes came

  labels : LabelledBut addr x P
  labels = labelled_but x P addr keeps.small keeps.large keeps.labels

  large_chosen : ChoosesBlock words (record { addr = addr; pools = Q }) found x y
  large_chosen =
      let stay = large_stay P Q addr x y keeps.small keeps.large same by.becomes came in
      record {
        addr = by.addr;
        bare = record {
          small = small';
          large = by.becomes.keeps;
          others = labels_beside P Q addr x y keeps.small keeps.large labels small' by.becomes.keeps stay;
          used = inr by.used;
          exact = λ other used. absurd (omega (
            arith,
            (small_at y Q small' other addr used).last,
            (small_at y Q small' other addr used).some,
            above,
            same.low,
          ));
          enough = λ other used. omega (
            arith,
            by.becomes.keeps.holds.leaders other addr (omega (arith, used, used_of-le-of other addr Q.large)),
            by.becomes.keeps.holds.leaders has addr there,
            enough,
          );
        };
        fresh = none_in x P keeps.small keeps.large addr (none_small x P addr keeps.small above) fresh;
        beside = beside_kept P Q addr x y keeps.small keeps.large labels small' by.becomes.keeps stay;
      }

-- a block of the large pool, in use or free
abbrev block_of : ℕ → ℕ → Bool → PoolBlock
block_of words addr used = record { addr = addr; words = words; used = used }

-- which tests it passes
used_other : (words addr w other : ℕ) (used : Bool) → other ≢ addr →
    is_used_of w other (block_of words addr used) ≡ false
used_other words addr w other used differ =
    let apart : (addr == other) ≡ false = grind (arith, nat_tests) in
    ap (λ (v : Bool). v && words == w && used) apart

used_free : (words addr w other : ℕ) → is_used_of w other (block_of words addr false) ≡ false
used_free words addr w other = never (is_of w other (block_of words addr false))
  where
    never : (v : Bool) → (v && false) ≡ false
    never true = refl
    never false = refl

own : (words addr : ℕ) (used : Bool) → is_of words addr (block_of words addr used) ≡ true
own words addr used = grind (arith, nat_tests)

-- a block that was put is there
put_there : (words addr : ℕ) (used : Bool) (bs : List PoolBlock) →
    0 < count_by (is_of words addr) (with_placed (block_of words addr used) bs)
put_there words addr used bs = omega (
  arith,
  count_by-with_placed (is_of words addr) (block_of words addr used) bs,
  ap (λ (v : Bool). cond v 1 0 + count_by (is_of words addr) bs) (own words addr used),
)

-- one that comes into use alone
pub put_came : (words addr : ℕ) (old bs : List PoolBlock) →
    ((w other : ℕ) → count_by (is_used_of w other) bs ≤ count_by (is_used_of w other) old) →
    NoneCame addr old (with_placed (block_of words addr true) bs)
put_came words addr old bs le = record {
  was = λ w other differ used. omega (
    arith,
    used,
    le w other,
    not_put (is_used_of w other) (block_of words addr true) bs (used_other words addr w other true differ),
  );
}

-- a free block that was found is taken whole
abbrev whole : Pools → ℕ × ℕ → Pools
whole P b = with_used_large (with_unlinked P b.0 b.1) b.0 b.1

-- or cut
abbrev parted : Pools → ℕ → ℕ × ℕ → Pools
parted P words b =
    with_free_large (with_used_large (with_unlinked P b.0 b.1) b.0 words) (b.0 + extent_of words) (b.1 - words - 4)

module _ (P : Pools) (words : ℕ) (b : ℕ × ℕ) where
  cut_came : (v : Bool) → NoneCame b.0 P.large (cond v (whole P b) (parted P words b)).large
  cut_came true =
      put_came b.1 b.0 P.large (without b.0 P.large) (λ w other. without-le (is_used_of w other) b.0 P.large)
  cut_came false =
      let low = put_came words b.0 P.large (without b.0 P.large)
      (λ w other. without-le (is_used_of w other) b.0 P.large) in
      record {
        was = λ w other differ used. low.was w other differ (omega (
          arith,
          used,
          not_put (is_used_of w other) (block_of (b.1 - words - 4) (b.0 + extent_of words) false)
              (with_placed (block_of words b.0 true) (without b.0 P.large))
              (used_free (b.1 - words - 4) (b.0 + extent_of words) w other),
        ));
      }

  cut_there : (v : Bool) → 0 < count_by (is_of (cond v b.1 words) b.0) (cond v (whole P b) (parted P words b)).large
  cut_there true = put_there b.1 b.0 true (without b.0 P.large)
  cut_there false = omega (
    arith,
    put_there words b.0 true (without b.0 P.large),
    count_by-with_placed (is_of words b.0) (block_of (b.1 - words - 4) (b.0 + extent_of words) false)
        (with_placed (block_of words b.0 true) (without b.0 P.large)),
  )

  cut_enough : (v : Bool) → words ≤ b.1 → words ≤ cond v b.1 words
  cut_enough true le = le
  cut_enough false le = omega arith

-- what the rule gives, by the state of the pool
module _ (P : Pools) (words : ℕ) (found : Option ℕ) (x y : List ℕ) (keeps : KeepsHeap x P) where
  free_at : (w a : ℕ) → IsFree P w a → IsBeside P.high P.end P.end P.end w a P.large
  free_at w a free =
      let tiles = tiles_whole P keeps.large.tiles in
      at_block P P.end P.end tiles w a (free_of P P.end P.end tiles w a free)

  cut_chosen : (b : ℕ × ℕ) → IsFound P words b →
      TakesBlock P (record { addr = b.0; pools = with_cut P words b }) found x y →
      ChoosesBlock words (record { addr = b.0; pools = with_cut P words b }) found x y
  cut_chosen b f by =
      let v : Bool = nat_lt b.1 (words + 12) in
      let place = free_at b.1 b.0 f.free in
      large_chosen P (with_cut P words b) words (cond v b.1 words) b.0 found x y keeps by (cut_same P words b)
      (cut_came P words b v) (cut_there P words b v) (cut_enough P words b v f.enough)
      (omega (arith, place.first, keeps.small.tiles.bounds.order))
      (omega (arith, f.free, place.once, free-used-le-at b.1 b.0 P.large))

  new_chosen : P.low + extent_of words ≤ P.high →
      TakesBlock P (record { addr = P.high - extent_of words + 16; pools = with_new_large P words }) found x y →
      ChoosesBlock words (record { addr = P.high - extent_of words + 16; pools = with_new_large P words }) found x y
  new_chosen fits by =
      let addr : ℕ = P.high - extent_of words + 16 in
      large_chosen P (with_new_large P words) words words addr found x y keeps by (new_same P words)
      (put_came words addr P.large P.large (λ w other. omega arith)) (put_there words addr true P.large) (omega arith)
      (omega (arith, fits)) (none_large x P addr keeps.large (omega (arith, fits)))

  new : (full : Bool) → nat_lt P.high (P.low + extent_of words) ≡ full →
      TakesBy P (cond full None (Some (record {
        addr = P.high - extent_of words + 16;
        pools = with_new_large P words;
      }))) found x y →
      ChoosesBy words (cond full None (Some (record {
        addr = P.high - extent_of words + 16;
        pools = with_new_large P words;
      }))) found x y
  new true is by = by
  new false is by = new_chosen (ltb-false P.high (P.low + extent_of words) is) by

  either : (o : Option (ℕ × ℕ)) → found_large P words ≡ o → TakesBy P (take_found P words o) found x y →
      ChoosesBy words (take_found P words o) found x y
  either None is by = new (nat_lt P.high (P.low + extent_of words)) refl by
  either (Some b) is by =
      cut_chosen b (found_is P words b keeps.large.tiles (λ w a f. (free_at w a f).some) is) by

-- where the small pool gives none, what the large pool answers is what the rule gives
pub large_chooses : (x y z : List ℕ) (words : ℕ) (found : Option ℕ) → TakesSmall words None x y →
    TakesLarge words found y z → Chooses words found x z
large_chooses x y z words found none takes =
    record { rule = λ P keeps. small P keeps (take_small P words) (none.rule P keeps.small) }
  where
    small : (P : Pools) → KeepsHeap x P → (t : Option Taken) → SmallTakesBy P words t None x y →
        ChoosesBy words (option_or t (take_large P words)) found x z
    small P keeps None by =
        either P words found x z keeps (found_large P words) refl
        (subst (λ (l : List ℕ). TakesBy P (take_large P words) found l z) by.1
        (takes.rule P (subst (λ (l : List ℕ). KeepsLarge l P) (sym by.1) keeps.large)))
    small P keeps (Some taken) by = let is : None ≡ Some taken.addr = by.addr in absurd cc
