-- Large blocks that follow one another, of which no two free ones touch.
use Rattle.std.proofs.Common.{◌≡◌, ◌≢◌, ◌≤◌, ◌<◌, ◌+◌, ◌-◌, ◌*◌, ◌==◌, ◌&&◌, ℕ, Bool, List, [], ◌∷◌, Option, None, Some, cond, not, true, false, arith, ap, ◌∙◌, refl, sym, subst, inl, inr}
use Rattle.std.specs.Prelude.{count_by, find}
use Rattle.std.specs.Option.{option_map}
use Rattle.std.proofs.lemmas.Bool.{cases_Bool, cases_lt, leb-true}
use Rattle.sdr_base.proofs.PoolsLemmas.{count_by-no, is_at-other}
use Rattle.sdr_base.specs.KeptLarge.{FollowsLarge}
use Rattle.sdr_base.specs.LargeGiving.{is_free_at}
use Rattle.sdr_base.specs.LargePool.{extent_of}
use Rattle.sdr_base.specs.Pools.{PoolBlock, is_at, is_free_of}
use Rattle.sdr_base.specs.Rules.{words_for}
use Rattle.sdr_base.specs.Stored.{leader_length}
use Rattle.audit_blocks.proofs.SpacedLemmas.{none_some}
use Rattle.audit_blocks.proofs.CountedLemmas.{free_of_parts}
use Rattle.audit_blocks.specs.Walk.{LargeFollow, first_wrong, free_edge, large_holds, touching_after}

-- where none of these blocks is wrong, the first isn't, and none behind it
first_right : (right : PoolBlock → Bool) (frame : ℕ) (x : PoolBlock) (blocks : List PoolBlock) → first_wrong right frame (x ∷ blocks) ≡ None →
    (right x ≡ true) × (first_wrong right frame blocks ≡ None)
first_right right frame x blocks none = elim (cases_Bool (right x)) [
  | inl holds ↦ (
    holds,
    sym (ap (λ (r : Bool). option_map (λ (b : PoolBlock). b.addr - frame) (cond (not r) (Some x) (find (λ b. not (right b)) blocks))) holds) ∙ none,
  )
  | inr fails ↦
      absurd (none_some
      (sym (ap (λ (r : Bool). option_map (λ (b : PoolBlock). b.addr - frame) (cond (not r) (Some x) (find (λ b. not (right b)) blocks))) fails) ∙ none) refl)
]

-- large blocks that follow one another as their leaders tell, and have the words that their lengths need, follow one another
pub large_follows : (bytes : List ℕ) (blocks : List PoolBlock) (from to : ℕ) → LargeFollow bytes from blocks to → first_wrong (large_holds bytes) 16 blocks ≡ None →
    FollowsLarge from blocks to
large_follows bytes [] from to at none = at
large_follows bytes (block ∷ blocks) from to (here, is, more) none =
    let r = first_right (large_holds bytes) 16 block blocks none in
    let need : words_for (leader_length (block.addr - 16) bytes) ≤ block.words = leb-true _ _ r.0 in (
      ap (λ (x : PoolBlock). x.addr) is,
      omega (arith, need),
      large_follows bytes blocks (from + 8 * (4 + block.words)) to more r.1,
    )

-- none of the large blocks that follow from a place on is counted before it
none_before : (bytes : List ℕ) (p : PoolBlock → Bool) (addr : ℕ) → ((block : PoolBlock) → block.addr ≢ addr → p block ≡ false) → (blocks : List PoolBlock) (from to : ℕ) →
    LargeFollow bytes from blocks to → addr < from + 16 → count_by p blocks ≡ 0
none_before bytes p addr only [] from to at before = refl
none_before bytes p addr only (x ∷ blocks) from to (here, is, more) before =
    let at : x.addr ≡ from + 16 = ap (λ (b : PoolBlock). b.addr) is in
    count_by-no p x blocks (only x (λ e. omega (arith, e, at, before)))
    ∙ none_before bytes p addr only blocks (from + 8 * (4 + x.words)) to more (omega (arith, before))

free_at_only : (addr : ℕ) (block : PoolBlock) → block.addr ≢ addr → is_free_at addr block ≡ false
free_at_only addr block off = ap (λ (t : Bool). t && not block.used) (is_at-other addr block off)

free_of_only : (words addr : ℕ) (block : PoolBlock) → block.addr ≢ addr → is_free_of words addr block ≡ false
free_of_only words addr block off = ap (λ (t : Bool). (t && block.words == words) && not block.used) (is_at-other addr block off)

some_none : {X : Type 0} {x : X} {o : Option X} → o ≡ Some x → o ≡ None → ⊥
some_none is none = none_some none is

-- where the first block isn't free, no free one begins there
pub edge_none : (bytes : List ℕ) (blocks : List PoolBlock) (from to : ℕ) → LargeFollow bytes from blocks to → free_edge blocks ≡ None → count_by (is_free_at (from + 16)) blocks ≡ 0
edge_none bytes [] from to at none = refl
edge_none bytes (x ∷ blocks) from to (here, is, more) none =
    count_by-no (is_free_at (from + 16)) x blocks (not_free x.used refl)
    ∙ none_before bytes (is_free_at (from + 16)) (from + 16) (free_at_only (from + 16)) blocks (from + 8 * (4 + x.words)) to more (omega arith)
  where
    not_free : (u : Bool) → x.used ≡ u → is_free_at (from + 16) x ≡ false
    not_free true used = ap (λ (u : Bool). is_at (from + 16) x && not u) used ∙ and_none (is_at (from + 16) x)
      where
        and_none : (t : Bool) → (t && false) ≡ false
        and_none true = refl
        and_none false = refl
    not_free false used = absurd (some_none (ap (λ (u : Bool). cond u None (Some (x.addr - 16))) used) none)

-- behind a free block none is free where no two touch
touching_edge : (blocks : List PoolBlock) → touching_after true blocks ≡ None → free_edge blocks ≡ None
touching_edge [] none = refl
touching_edge (x ∷ blocks) none = by_use x.used refl
  where
    by_use : (u : Bool) → x.used ≡ u → free_edge (x ∷ blocks) ≡ None
    by_use true used = ap (λ (u : Bool). cond u None (Some (x.addr - 16))) used
    by_use false used = absurd (some_none (ap (λ (u : Bool). cond (true && not u) (Some (x.addr - 16)) (touching_after (not x.used) blocks)) used) none)

touching_rest : (free : Bool) (x : PoolBlock) (blocks : List PoolBlock) → touching_after free (x ∷ blocks) ≡ None → touching_after (not x.used) blocks ≡ None
touching_rest free x blocks none = by_test (free && not x.used) refl
  where
    by_test : (t : Bool) → (free && not x.used) ≡ t → touching_after (not x.used) blocks ≡ None
    by_test true yes_is = absurd (some_none (ap (λ (t : Bool). cond t (Some (x.addr - 16)) (touching_after (not x.used) blocks)) yes_is) none)
    by_test false not_is = sym (ap (λ (t : Bool). cond t (Some (x.addr - 16)) (touching_after (not x.used) blocks)) not_is) ∙ none

-- no free block begins where another one ends
pub apart_from : (bytes : List ℕ) (free : Bool) (blocks : List PoolBlock) (from to : ℕ) → LargeFollow bytes from blocks to → touching_after free blocks ≡ None →
    (words addr : ℕ) → 0 < count_by (is_free_of words addr) blocks → count_by (is_free_at (addr + extent_of words)) blocks ≡ 0
apart_from bytes free [] from to at none words addr some = refl
apart_from bytes free (x ∷ blocks) from to (here, is, more) none words addr some =
    let at : x.addr ≡ from + 16 = ap (λ (b : PoolBlock). b.addr) is in
    let rest = touching_rest free x blocks none in
    elim (cases_Bool (is_free_of words addr x)) [
      | inl this ↦
          let parts = free_of_parts words addr x this in
          let same = parts.0 in
          let sized = parts.1 in
          let touching : touching_after true blocks ≡ None = sym (ap (λ (u : Bool). touching_after (not u) blocks) parts.2) ∙ rest in
          let next : from + 8 * (4 + x.words) + 16 ≡ addr + extent_of words = omega (arith, at, same, sized) in
          count_by-no (is_free_at (addr + extent_of words)) x blocks (free_at_only (addr + extent_of words) x (λ e. omega (arith, e, same)))
          ∙ subst (λ (a : ℕ). count_by (is_free_at a) blocks ≡ 0) next
          (edge_none bytes blocks (from + 8 * (4 + x.words)) to more (touching_edge blocks touching))
      | inr other ↦
          let some_more : 0 < count_by (is_free_of words addr) blocks = omega (arith, some, count_by-no (is_free_of words addr) x blocks other) in
          let behind : from + 8 * (4 + x.words) + 16 ≤ addr = later addr words (from + 8 * (4 + x.words)) to blocks more some_more in
          count_by-no (is_free_at (addr + extent_of words)) x blocks (free_at_only (addr + extent_of words) x (λ e. omega (arith, e, at, behind)))
          ∙ apart_from bytes (not x.used) blocks (from + 8 * (4 + x.words)) to more rest words addr some_more
    ]
  where
    later : (a w f t : ℕ) (bs : List PoolBlock) → LargeFollow bytes f bs t → 0 < count_by (is_free_of w a) bs → f + 16 ≤ a
    later a w f t bs follow counted = elim (cases_lt a (f + 16)) [
      | inl before ↦ let none_is = none_before bytes (is_free_of w a) a (free_of_only w a) bs f t follow before in absurd (omega (arith, counted, none_is))
      | inr behind ↦ behind
    ]
