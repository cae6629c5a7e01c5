-- The joins, after the words of the neighbour were read.
use Rattle.std.proofs.Common.{◌≡◌, ◌≢◌, ◌≤◌, ◌<◌, ℕ, ◌+◌, ◌-◌, ◌*◌, ◌/◌, ◌%◌, ◌^◌, Bool, false}
use Rattle.std.proofs.Common.{List, length, sym, ap, ◌∙◌, arith, subst}
use Rattle.std.specs.Prelude.{nat_le}
use Rattle.std.specs.List.{count_by}
use Rattle.sdr_base.specs.Pools.{is_of}
use Rattle.sdr_base.specs.Stored.{number_at, leader_words}
use Rattle.sdr_large.specs.declared.block.Block.{Block}
use Rattle.sdr_large.specs.Giving.{HoldsLoose, JoinsBelow, JoinsAbove}
use Rattle.sdr_large.specs.Steps.{HoldsFree, Unlinks}
use Rattle.sdr_large.proofs.NeighbourLemmas.{first_of}
use Rattle.sdr_large.proofs.PartedLemmas.{both_sides}
use Rattle.sdr_large.proofs.PlacesLemmas.{in_order, at_block}
use Rattle.sdr_large.proofs.GivingLemmas.{below_fits, below_holds, below_joined, above_holds, above_joined}

-- what was read of the block below: its last word says that it is free
pub record ReadsBelow (block : Block) (high words : ℕ) (x : List ℕ) : Type 0 where
  pub high_is : high ≡ number_at 24 x
  pub differ : block.addr - 16 ≢ high
  pub free : nat_le (2 ^ 56) (number_at (block.addr - 16 - 8) x) ≡ false
  pub words_are : words ≡ number_at (block.addr - 16 - 8) x / 2 ^ 32 % 2 ^ 24

pub reads_below : (block : Block) (x a : List ℕ) (high words : ℕ) (used : Bool) → high ≡ number_at 24 x → a ≡ x →
    block.addr - 16 ≢ high → used ≡ nat_le (2 ^ 56) (number_at (block.addr - 16 - 8) a) → used ≡ false →
    words ≡ number_at (block.addr - 16 - 8) a / 2 ^ 32 % 2 ^ 24 → ReadsBelow block high words x
reads_below block x a high words used high_is same differ read is_free words_are = record {
  high_is = high_is;
  differ = differ;
  free = ap (λ (l : List ℕ). nat_le (2 ^ 56) (number_at (block.addr - 16 - 8) l)) (sym same) ∙ sym read ∙ is_free;
  words_are = words_are ∙ ap (λ (l : List ℕ). number_at (block.addr - 16 - 8) l / 2 ^ 32 % 2 ^ 24) same;
}

pub fits_below : (block : Block) (high words : ℕ) (x : List ℕ) → HoldsLoose block x → ReadsBelow block high words x →
    8 * words + 16 + 1024 ≤ block.addr - 16
fits_below block high words x k r =
    below_fits block x high words r.high_is r.differ r.free r.words_are k.loose k.from k.to k.is k.holds k.names

pub unlinks_below : (block : Block) (high words : ℕ) (x z : List ℕ) → HoldsLoose block x →
    ReadsBelow block high words x → z ≡ x → HoldsFree words (block.addr - 16 - 8 * words - 16) z
unlinks_below block high words x z k r same =
    subst (HoldsFree words (block.addr - 16 - 8 * words - 16)) (sym same)
    (below_holds block x high words r.high_is r.differ r.free r.words_are k.loose k.from k.to k.is k.holds k.names)

pub joins_below : (block : Block) (high words : ℕ) (x z y : List ℕ) → ReadsBelow block high words x → z ≡ x →
    Unlinks words (block.addr - 16 - 8 * words - 16) z y →
    JoinsBelow block (record { addr = block.addr - 16 - 8 * words - 16; words = words + 4 + block.words }) x y
joins_below block high words x z y r same unlinks = record {
  rule = λ loose from to is holds names.
      below_joined block x high words r.high_is r.differ r.free r.words_are loose from to is holds names y
      (subst (λ (l : List ℕ). Unlinks words (block.addr - 16 - 8 * words - 16) l y) same unlinks);
}

-- what was read of the block above
pub record ReadsAbove (block : Block) (words : ℕ) (x : List ℕ) : Type 0 where
  pub words_are : words ≡ leader_words (block.addr + 8 * block.words + 16) x
  pub free : nat_le (2 ^ 56) (number_at (block.addr + 8 * block.words + 16 + 8 * words + 24) x) ≡ false
  pub less : block.addr + 8 * block.words + 16 ≢ length x

pub reads_above : (block : Block) (x a : List ℕ) (words size : ℕ) (used : Bool) → size ≡ length x →
    block.addr + 8 * block.words + 16 ≢ size → words ≡ leader_words (block.addr + 8 * block.words + 16) x → a ≡ x →
    used ≡ nat_le (2 ^ 56) (number_at (block.addr + 8 * block.words + 16 + 8 * words + 24) a) → used ≡ false →
    ReadsAbove block words x
reads_above block x a words size used size_is less words_are same read is_free = record {
  words_are = words_are;
  free = ap (λ (l : List ℕ). nat_le (2 ^ 56) (number_at (block.addr + 8 * block.words + 16 + 8 * words + 24) l))
      (sym same) ∙ sym read ∙ is_free;
  less = λ at. less (at ∙ sym size_is);
}

-- the block above stands within the region, free or in use
pub fits_above : (block : Block) (x : List ℕ) (size : ℕ) → HoldsLoose block x → size ≡ length x →
    block.addr + 8 * block.words + 16 ≢ size →
    block.addr + 8 * block.words + 16 + 8 * leader_words (block.addr + 8 * block.words + 16) x + 32 ≤ length x
fits_above block x size k size_is less =
    let P = k.loose.pools in
    let o = in_order P k.from k.to k.is.tiles in
    let p = k.is.tiles.parted in
    let end : k.to ≡ block.addr + 8 * block.words + 16 =
    omega (arith, k.names.addr, k.names.words, k.is.at, k.is.ends) in
    let e = first_of k.to P.end p.above p.second (omega (arith, less, size_is, end, o.second, k.holds.size)) in
    let there : 0 < count_by (is_of e.words e.addr) P.large =
    omega (arith, e.there, both_sides P.high P.end k.from k.to P.large p (is_of e.words e.addr)) in
    let leader : leader_words (block.addr + 8 * block.words + 16) x ≡ e.words =
    ap (λ (n : ℕ). leader_words n x) (omega (arith, end, e.at)) ∙ k.holds.leaders e.words e.addr there in
    omega (
      arith,
      leader,
      end,
      e.at,
      k.holds.size,
      (at_block P k.from k.to k.is.tiles e.words e.addr there).last,
    )

pub unlinks_above : (block : Block) (words : ℕ) (x z : List ℕ) → HoldsLoose block x → ReadsAbove block words x → z ≡ x →
    HoldsFree words (block.addr + 8 * block.words + 16 + 16) z
unlinks_above block words x z k r same =
    subst (HoldsFree words (block.addr + 8 * block.words + 16 + 16)) (sym same)
    (above_holds block x words r.words_are k.loose k.from k.to k.is k.holds k.names r.free r.less)

pub joins_above : (block : Block) (words : ℕ) (x z y : List ℕ) → ReadsAbove block words x → z ≡ x →
    Unlinks words (block.addr + 8 * block.words + 16 + 16) z y →
    JoinsAbove block (record { addr = block.addr; words = block.words + 4 + words }) x y
joins_above block words x z y r same unlinks = record {
  rule = λ loose from to is holds names.
      above_joined block x words r.words_are loose from to is holds names r.free r.less y
      (subst (λ (l : List ℕ). Unlinks words (block.addr + 8 * block.words + 16 + 16) l y) same unlinks);
}
