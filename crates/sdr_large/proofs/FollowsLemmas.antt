-- Large blocks that follow one another: where one stands, and that two lie apart.
use Rattle.std.proofs.Common.{◌≡◌, ◌≢◌, ◌≤◌, ◌<◌, ◌⊎◌, inl, inr, ℕ, ◌+◌, ◌-◌, ◌*◌, ◌%◌}
use Rattle.std.proofs.Common.{List, [], ◌∷◌, refl, sym, ◌∙◌, arith}
use Rattle.std.specs.List.{count_by}
use Rattle.std.proofs.lemmas.Bool.{cases_Bool}
use Rattle.sdr_base.specs.Pools.{PoolBlock, is_at, is_of}
use Rattle.sdr_base.specs.KeptLarge.{FollowsLarge}
use Rattle.sdr_base.proofs.PoolsLemmas.{count_by-yes, count_by-no, is_at-true, is_at-other, is_of-true}

pub follows-le : (from to : ℕ) (bs : List PoolBlock) → FollowsLarge from bs to → from ≤ to
follows-le from to [] f = omega (arith, f)
follows-le from to (b ∷ bs) f = omega (arith, follows-le (from + 8 * (4 + b.words)) to bs f.2)

-- they take whole words
pub follows-whole : (from to : ℕ) (bs : List PoolBlock) → FollowsLarge from bs to → (to - from) % 8 ≡ 0
follows-whole from to [] f = omega (arith, f)
follows-whole from to (b ∷ bs) f =
    omega (
      arith,
      follows-whole (from + 8 * (4 + b.words)) to bs f.2,
      follows-le (from + 8 * (4 + b.words)) to bs f.2,
    )

-- where a block of so many words stands
pub record IsWithin (from to words addr : ℕ) : Type 0 where
  pub first : from + 16 ≤ addr
  pub last : addr + 8 * words + 16 ≤ to
  pub some : 1 ≤ words
  pub whole : (addr - from) % 8 ≡ 0

pub within : (from to words addr : ℕ) (bs : List PoolBlock) → FollowsLarge from bs to →
    0 < count_by (is_of words addr) bs →
    IsWithin from to words addr
within from to words addr [] f some = absurd (omega (arith, some))
within from to words addr (b ∷ bs) f some = elim (cases_Bool (is_of words addr b)) [
  | inl here ↦
      let is = is_of-true words addr b here in
      let le = follows-le (from + 8 * (4 + b.words)) to bs f.2 in
      record {
        first = omega (arith, is.0, f.0);
        last = omega (arith, is.0, is.1, f.0, le);
        some = omega (arith, is.1, f.1);
        whole = omega (arith, is.0, f.0);
      }
  | inr there ↦
      let i = within (from + 8 * (4 + b.words)) to words addr bs f.2
      (omega (arith, some, count_by-no (is_of words addr) b bs there)) in
      record {
        first = omega (arith, i.first);
        last = i.last;
        some = i.some;
        whole = omega (arith, i.first, i.whole);
      }
]

-- no block stands before the place from which they follow
pub at_first : (from to addr : ℕ) (bs : List PoolBlock) → FollowsLarge from bs to → addr < from + 16 →
    count_by (is_at addr) bs ≡ 0
at_first from to addr [] f before = refl
at_first from to addr (b ∷ bs) f before =
    count_by-no (is_at addr) b bs (is_at-other addr b (omega (arith, f.0)))
    ∙ at_first (from + 8 * (4 + b.words)) to addr bs f.2 (omega arith)

-- nor behind the place to which they follow
pub at_last : (from to addr : ℕ) (bs : List PoolBlock) → FollowsLarge from bs to → to < addr + 16 →
    count_by (is_at addr) bs ≡ 0
at_last from to addr [] f behind = refl
at_last from to addr (b ∷ bs) f behind =
    count_by-no (is_at addr) b bs
    (is_at-other addr b (omega (arith, f.0, f.1, follows-le (from + 8 * (4 + b.words)) to bs f.2)))
    ∙ at_last (from + 8 * (4 + b.words)) to addr bs f.2 behind

-- one block at most has an address
pub at_once : (from to addr : ℕ) (bs : List PoolBlock) → FollowsLarge from bs to → count_by (is_at addr) bs ≤ 1
at_once from to addr [] f = omega arith
at_once from to addr (b ∷ bs) f = elim (cases_Bool (is_at addr b)) [
  | inl here ↦ omega (
    arith,
    count_by-yes (is_at addr) b bs here,
    at_first (from + 8 * (4 + b.words)) to addr bs f.2 (omega (arith, is_at-true addr b here, f.0)),
  )
  | inr there ↦ omega (arith, count_by-no (is_at addr) b bs there, at_once (from + 8 * (4 + b.words)) to addr bs f.2)
]

-- two blocks lie apart, each with its frame
pub apart : (from to words addr words' addr' : ℕ) (bs : List PoolBlock) → FollowsLarge from bs to →
    0 < count_by (is_of words addr) bs → 0 < count_by (is_of words' addr') bs → addr' ≢ addr →
    (addr' + 8 * words' + 32 ≤ addr) ⊎ (addr + 8 * words + 32 ≤ addr')
apart from to words addr words' addr' [] f some some' differ = absurd (omega (arith, some))
apart from to words addr words' addr' (b ∷ bs) f some some' differ =
    elim (cases_Bool (is_of words addr b)) [
      | inl here ↦ elim (cases_Bool (is_of words' addr' b)) [
        | inl here' ↦ absurd (differ (sym (is_of-true words' addr' b here').0 ∙ (is_of-true words addr b here).0))
        | inr there' ↦ inr (omega (
          arith,
          f.0,
          (is_of-true words addr b here).0,
          (is_of-true words addr b here).1,
          (within (from + 8 * (4 + b.words)) to words' addr' bs f.2
              (omega (arith, some', count_by-no (is_of words' addr') b bs there'))).first,
        ))
      ]
      | inr there ↦ elim (cases_Bool (is_of words' addr' b)) [
        | inl here' ↦ inl (omega (
          arith,
          f.0,
          (is_of-true words' addr' b here').0,
          (is_of-true words' addr' b here').1,
          (within (from + 8 * (4 + b.words)) to words addr bs f.2
              (omega (arith, some, count_by-no (is_of words addr) b bs there))).first,
        ))
        | inr there' ↦ apart (from + 8 * (4 + b.words)) to words addr words' addr' bs f.2
            (omega (arith, some, count_by-no (is_of words addr) b bs there))
            (omega (arith, some', count_by-no (is_of words' addr') b bs there')) differ
      ]
    ]
