-- Large blocks with a gap: how it opens, widens, fills and closes.
use Rattle.std.proofs.Common.{◌≡◌, ◌≢◌, ◌≤◌, ◌<◌, ◌⊎◌, inl, inr, ℕ, ◌+◌, ◌-◌, ◌*◌, ◌%◌, Bool, true}
use Rattle.std.proofs.Common.{List, [], ◌∷◌, ◌++◌, refl, sym, ap, ◌∙◌, arith, subst, append_assoc}
use Rattle.std.specs.List.{count_by}
use Rattle.std.proofs.lemmas.Bool.{cases_Bool, cases_lt}
use Rattle.std.proofs.lemmas.Bool.Decides.{nat_tests}
use Rattle.sdr_base.specs.Pools.{PoolBlock, is_at, is_of}
use Rattle.sdr_base.specs.LargePool.{without, with_placed}
use Rattle.sdr_base.specs.KeptLarge.{FollowsLarge}
use Rattle.sdr_base.proofs.PoolsLemmas.{count_by-append, count_by-no, is_of-true, of-le-at}
use Rattle.sdr_large.specs.Gap.{IsParted}
use Rattle.sdr_large.proofs.FollowsLemmas.{follows-le, within, at_first, at_last, at_once, apart, follows-whole}
use Rattle.sdr_large.proofs.BlocksLemmas.{without-between, with_placed-between}

-- one block at a place, between those before and behind it
pub record IsCut (from to words addr : ℕ) (bs : List PoolBlock) : Type 0 where
  pub before : List PoolBlock
  pub behind : List PoolBlock
  pub used : Bool
  pub parts : bs ≡ before ++ (record { addr = addr; words = words; used = used }) ∷ behind
  pub first : FollowsLarge from before (addr - 16)
  pub second : FollowsLarge (addr + 8 * words + 16) behind to

pub cut : (from to words addr : ℕ) (bs : List PoolBlock) → FollowsLarge from bs to →
    0 < count_by (is_of words addr) bs → IsCut from to words addr bs
cut from to words addr [] f some = absurd (omega (arith, some))
cut from to words addr (b ∷ bs) f some = elim (cases_Bool (is_of words addr b)) [
  | inl here ↦
      let is = is_of-true words addr b here in
      record {
        before = [];
        behind = bs;
        used = b.used;
        parts = ap (λ (a : ℕ). (record { addr = a; words = b.words; used = b.used }) ∷ bs) is.0
            ∙ ap (λ (w : ℕ). (record { addr = addr; words = w; used = b.used }) ∷ bs) is.1;
        first = omega (arith, f.0, is.0);
        second = subst (λ (place : ℕ). FollowsLarge place bs to) (omega (arith, f.0, is.0, is.1)) f.2;
      }
  | inr there ↦
      let c = cut (from + 8 * (4 + b.words)) to words addr bs f.2
      (omega (arith, some, count_by-no (is_of words addr) b bs there)) in
      record {
        before = b ∷ c.before;
        behind = c.behind;
        used = c.used;
        parts = ap (λ (l : List PoolBlock). b ∷ l) c.parts;
        first = (f.0, f.1, c.first);
        second = c.second;
      }
]

-- blocks that follow one another
pub follows-append : (from mid to : ℕ) (xs ys : List PoolBlock) → FollowsLarge from xs mid → FollowsLarge mid ys to →
    FollowsLarge from (xs ++ ys) to
follows-append from mid to [] ys f g = subst (λ (place : ℕ). FollowsLarge place ys to) (sym f) g
follows-append from mid to (x ∷ xs) ys f g = (f.0, f.1, follows-append (from + 8 * (4 + x.words)) mid to xs ys f.2 g)

-- none stand between a place and itself
pub follows-none : (from : ℕ) (bs : List PoolBlock) → FollowsLarge from bs from → bs ≡ []
follows-none from [] f = refl
follows-none from (b ∷ bs) f = absurd (omega (arith, follows-le (from + 8 * (4 + b.words)) from bs f.2))

-- the block's own test
is_at-self : (addr words : ℕ) (used : Bool) → is_at addr (record { addr = addr; words = words; used = used }) ≡ true
is_at-self addr words used = grind (arith, nat_tests)

-- a block taken out of a list that is cut there
without-cut : (from to words addr : ℕ) (bs : List PoolBlock) (c : IsCut from to words addr bs) → 16 ≤ addr →
    without addr bs ≡ c.before ++ c.behind
without-cut from to words addr bs c least =
    ap (λ (l : List PoolBlock). without addr l) c.parts
    ∙ without-between addr (record { addr = addr; words = words; used = c.used }) c.before c.behind
    (at_last from (addr - 16) addr c.before c.first (omega (arith, least)))
    (is_at-self addr words c.used)
    (at_first (addr + 8 * words + 16) to addr c.behind c.second (omega arith))

-- a block that leaves opens a gap
pub opened : (high end words addr : ℕ) (bs : List PoolBlock) → FollowsLarge high bs end →
    0 < count_by (is_of words addr) bs → IsParted high end (without addr bs) (addr - 16) (addr + 8 * words + 16)
opened high end words addr bs f some =
    let c = cut high end words addr bs f some in
    let w = within high end words addr bs f some in
    record {
      below = c.before;
      above = c.behind;
      parts = without-cut high end words addr bs c (omega (arith, w.first));
      first = c.first;
      gap = omega arith;
      second = c.second;
    }

-- a gap of no bytes is none
pub closed : (high end from to : ℕ) (bs : List PoolBlock) → IsParted high end bs from to → from ≡ to →
    FollowsLarge high bs end
closed high end from to bs p same =
    subst (λ (l : List PoolBlock). FollowsLarge high l end) (sym p.parts)
    (follows-append high from end p.below p.above p.first
    (subst (λ (place : ℕ). FollowsLarge place p.above end) (sym same) p.second))

-- a gap below all blocks
pub lowered : (high end lower : ℕ) (bs : List PoolBlock) → FollowsLarge high bs end → lower ≤ high →
    IsParted lower end bs lower high
lowered high end lower bs f le =
    record { below = []; above = bs; parts = refl; first = refl; gap = le; second = f }

-- without the gap below all blocks they begin at its end
pub raised : (high end from to : ℕ) (bs : List PoolBlock) → IsParted high end bs from to → from ≡ high →
    FollowsLarge to bs end
raised high end from to bs p same =
    let none : p.below ≡ [] = follows-none high p.below
    (subst (λ (place : ℕ). FollowsLarge high p.below place) same p.first) in
    subst (λ (l : List PoolBlock). FollowsLarge to l end)
    (sym (p.parts ∙ ap (λ (l : List PoolBlock). l ++ p.above) none)) p.second

-- a block at the low end of the gap narrows it
pub filled : (high end from to words : ℕ) (used : Bool) (bs : List PoolBlock) → IsParted high end bs from to →
    1 ≤ words → from + 8 * (4 + words) ≤ to →
    IsParted high end (with_placed (record { addr = from + 16; words = words; used = used }) bs)
    (from + 8 * (4 + words)) to
filled high end from to words used bs p some fits =
    let b : PoolBlock = record { addr = from + 16; words = words; used = used } in
    record {
      below = p.below ++ b ∷ [];
      above = p.above;
      parts = ap (λ (l : List PoolBlock). with_placed b l) p.parts
          ∙ with_placed-between b high from to end p.below p.above p.first (omega arith) (omega (arith, fits)) p.second
          ∙ sym (append_assoc p.below (b ∷ []) p.above);
      first = follows-append high from (from + 8 * (4 + words)) p.below (b ∷ []) p.first (refl, some, refl);
      gap = fits;
      second = p.second;
    }

-- where a block stands beside the gap, and that it is the only one at its address
pub record IsBeside (high end from to words addr : ℕ) (bs : List PoolBlock) : Type 0 where
  pub first : high + 16 ≤ addr
  pub last : addr + 8 * words + 16 ≤ end
  pub some : 1 ≤ words
  pub side : (addr + 8 * words + 16 ≤ from) ⊎ (to + 16 ≤ addr)
  pub once : count_by (is_at addr) bs ≡ 1
  pub whole : high % 8 ≡ 0 → end % 8 ≡ 0 → addr % 8 ≡ 0

module _ (high end from to : ℕ) (bs : List PoolBlock) (p : IsParted high end bs from to) where
  -- what passes a test stands on one of both sides
  pub both_sides : (q : PoolBlock → Bool) → count_by q bs ≡ count_by q p.below + count_by q p.above
  both_sides q = ap (λ (l : List PoolBlock). count_by q l) p.parts ∙ count_by-append q p.below p.above

  pub one_side : (q : PoolBlock → Bool) → 0 < count_by q bs → (0 < count_by q p.below) ⊎ (0 < count_by q p.above)
  one_side q some = elim (cases_lt 0 (count_by q p.below)) [
    | inl below ↦ inl below
    | inr none ↦ inr (omega (arith, some, none, both_sides q))
  ]

  pub beside : (words addr : ℕ) → 0 < count_by (is_of words addr) bs → IsBeside high end from to words addr bs
  beside words addr some = elim (one_side (is_of words addr) some) [
    | inl below ↦
        let w = within high from words addr p.below p.first below in
        record {
          first = w.first;
          last = omega (arith, w.last, p.gap, follows-le to end p.above p.second);
          some = w.some;
          side = inl w.last;
          once = omega (
            arith,
            some,
            of-le-at words addr bs,
            both_sides (is_at addr),
            at_once high from addr p.below p.first,
            at_first to end addr p.above p.second (omega (arith, w.last, p.gap)),
          );
          whole = λ low up. omega (arith, low, w.first, w.whole);
        }
    | inr above ↦
        let w = within to end words addr p.above p.second above in
        record {
          first = omega (arith, w.first, p.gap, follows-le high from p.below p.first);
          last = w.last;
          some = w.some;
          side = inr w.first;
          once = omega (
            arith,
            some,
            of-le-at words addr bs,
            both_sides (is_at addr),
            at_once to end addr p.above p.second,
            at_last high from addr p.below p.first (omega (arith, w.first, p.gap)),
          );
          whole = λ low up. omega (
            arith,
            up,
            w.first,
            w.whole,
            follows-whole to end p.above p.second,
            follows-le to end p.above p.second,
          );
        }
  ]

  -- two blocks lie apart, each with its frame
  pub blocks_apart : (words addr words' addr' : ℕ) → 0 < count_by (is_of words addr) bs →
      0 < count_by (is_of words' addr') bs → addr' ≢ addr →
      (addr' + 8 * words' + 32 ≤ addr) ⊎ (addr + 8 * words + 32 ≤ addr')
  blocks_apart words addr words' addr' some some' differ =
      cases (one_side (is_of words addr) some) (one_side (is_of words' addr') some')
    where
      cases : (0 < count_by (is_of words addr) p.below) ⊎ (0 < count_by (is_of words addr) p.above) →
          (0 < count_by (is_of words' addr') p.below) ⊎ (0 < count_by (is_of words' addr') p.above) →
          (addr' + 8 * words' + 32 ≤ addr) ⊎ (addr + 8 * words + 32 ≤ addr')
      cases (inl low) (inl low') = apart high from words addr words' addr' p.below p.first low low' differ
      cases (inr up) (inr up') = apart to end words addr words' addr' p.above p.second up up' differ
      cases (inl low) (inr up') = inr (omega (
        arith,
        (within high from words addr p.below p.first low).last,
        (within to end words' addr' p.above p.second up').first,
        p.gap,
      ))
      cases (inr up) (inl low') = inl (omega (
        arith,
        (within high from words' addr' p.below p.first low').last,
        (within to end words addr p.above p.second up).first,
        p.gap,
      ))

  -- a block that ends at the gap widens it
  pub widened_below : (words addr : ℕ) → 0 < count_by (is_of words addr) bs → addr + 8 * words + 16 ≡ from →
      IsParted high end (without addr bs) (addr - 16) to
  widened_below words addr some ends = elim (one_side (is_of words addr) some) [
    | inr above ↦ absurd (omega (arith, ends, p.gap, (within to end words addr p.above p.second above).first))
    | inl low ↦
        let c = cut high from words addr p.below p.first low in
        let w = within high from words addr p.below p.first low in
        let none : c.behind ≡ [] = follows-none from c.behind
        (subst (λ (place : ℕ). FollowsLarge place c.behind from) ends c.second) in
        let b : PoolBlock = record { addr = addr; words = words; used = c.used } in
        let is : bs ≡ c.before ++ b ∷ p.above = p.parts
        ∙ ap (λ (l : List PoolBlock). l ++ p.above) (c.parts ∙ ap (λ (l : List PoolBlock). c.before ++ b ∷ l) none)
        ∙ append_assoc c.before (b ∷ []) p.above in
        record {
          below = c.before;
          above = p.above;
          parts = ap (λ (l : List PoolBlock). without addr l) is
              ∙ without-between addr b c.before p.above
              (at_last high (addr - 16) addr c.before c.first (omega (arith, w.first)))
              (is_at-self addr words c.used)
              (at_first to end addr p.above p.second (omega (arith, ends, p.gap)));
          first = c.first;
          gap = omega (arith, ends, p.gap);
          second = p.second;
        }
  ]

  -- so does one that begins at it
  pub widened_above : (words addr : ℕ) → 0 < count_by (is_of words addr) bs → addr ≡ to + 16 →
      IsParted high end (without addr bs) from (addr + 8 * words + 16)
  widened_above words addr some begins = elim (one_side (is_of words addr) some) [
    | inl low ↦ absurd (omega (arith, begins, p.gap, (within high from words addr p.below p.first low).last))
    | inr above ↦
        let c = cut to end words addr p.above p.second above in
        let w = within to end words addr p.above p.second above in
        let none : c.before ≡ [] = follows-none to c.before
        (subst (λ (place : ℕ). FollowsLarge to c.before place) (omega (arith, begins)) c.first) in
        let b : PoolBlock = record { addr = addr; words = words; used = c.used } in
        let is : bs ≡ p.below ++ b ∷ c.behind = p.parts
        ∙ ap (λ (l : List PoolBlock). p.below ++ l)
        (c.parts ∙ ap (λ (l : List PoolBlock). l ++ b ∷ c.behind) none) in
        record {
          below = p.below;
          above = c.behind;
          parts = ap (λ (l : List PoolBlock). without addr l) is
              ∙ without-between addr b p.below c.behind
              (at_last high from addr p.below p.first (omega (arith, begins, p.gap)))
              (is_at-self addr words c.used)
              (at_first (addr + 8 * words + 16) end addr c.behind c.second (omega arith));
          first = p.first;
          gap = omega (arith, begins, p.gap);
          second = c.second;
        }
  ]
