-- Where each block in use has its layout, the contents of a heap are right.
use Rattle.std.proofs.Common.{◌≡◌, ◌<◌, ◌+◌, ◌-◌, ◌*◌, ◌||◌, ℕ, Bool, true, false, not, List, [], ◌∷◌, length, min, take, drop, Some, arith, refl, sym, ap, ◌∙◌, subst, inl, inr}
use Rattle.std.specs.Prelude.{None, Option, count_by, is_some}
use Rattle.std.specs.List.{All}
use Rattle.std.proofs.lemmas.Bool.{and_from, cases_lt, eq-eqb}
use Rattle.std.proofs.lemmas.List.{take-take, take_all}
use Rattle.std.proofs.lemmas.List.Elements.{All-cons, All-head, All-nil, All-tail}
use Rattle.sdr_base.proofs.PartsLemmas.{length-part}
use Rattle.sdr_base.specs.Blocks.{Block, Reaches}
use Rattle.sdr_base.specs.KeptHeap.{KeepsHeap, block_in, block_of, leader_place}
use Rattle.sdr_base.specs.KeptLarge.{FollowsLarge, is_used_of}
use Rattle.sdr_base.specs.Kinds.{kind_of}
use Rattle.sdr_base.specs.LargePool.{extent_of}
use Rattle.sdr_base.specs.Parts.{part}
use Rattle.sdr_base.specs.Pools.{Follows, PoolBlock, Pools, is_used_at}
use Rattle.sdr_base.specs.Stored.{leader_kind, leader_length}
use Rattle.sdr_base.specs.declared.kind.Kind.{Kind}
use Rattle.sdr_heap.proofs.BlockInLemmas.{large_in, large_place, small_in, small_place}
use Rattle.sdr_heap.proofs.RangeLemmas.{lies_in}
use Rattle.audit_blocks.proofs.HeapLemmas.{counted_each, own_of}
use Rattle.audit_blocks.specs.Content.{AllFilled, ContentIsRight, has_layout, is_filled, is_filled_at, may_have, told_bytes}
use Rattle.audit_blocks.specs.Region.{HasLayouts}

min_is : (a b : ℕ) (first : List ℕ) → length first ≡ b → take a first ≡ take (min a b) first
min_is a b first long = elim (cases_lt a b) [
  | inl less ↦ ap (λ (n : ℕ). take n first) (let e : a ≡ min a b = omega (arith, less) in e)
  | inr more ↦
      let e : min a b ≡ b = omega (arith, more) in
      take_all a first (omega (arith, long, more)) ∙ sym (take_all (min a b) first (omega (arith, long, e)))
]

module _ (bytes : List ℕ) (P : Pools) (keeps : KeepsHeap bytes P) (layouts : HasLayouts bytes) where
  -- a block in use has what its kind's layout asks
  filled_at : (place addr : ℕ) → leader_place bytes addr ≡ Some place →
      block_in bytes addr ≡ block_of (kind_of (leader_kind place bytes)) (part addr (leader_length place bytes) bytes) →
      is_some (kind_of (leader_kind place bytes)) ≡ true → is_filled_at bytes place addr ≡ true
  filled_at place addr at is some = by (kind_of (leader_kind place bytes)) is some
    where
      count : ℕ
      count = leader_length place bytes

      by : (o : Option Kind) → block_in bytes addr ≡ block_of o (part addr (leader_length place bytes) bytes) → is_some o ≡ true →
          may_have o (leader_length place bytes) (part addr (min told_bytes (leader_length place bytes)) bytes) ≡ true
      by None is some = some
      by (Some kind) is some =
          let own = part addr (leader_length place bytes) bytes in
          let uses : Reaches (block_in bytes addr) 0 = subst (λ (b : Option Block). Reaches b 0) (sym is) (omega arith) in
          let lies = lies_in bytes P keeps addr place at uses in
          let fits = lies.fits in
          let inside = lies.inside in
          let long : length (part addr (leader_length place bytes) bytes) ≡ leader_length place bytes =
          length-part addr (leader_length place bytes) bytes (omega (arith, fits, inside)) in
          let first : take told_bytes (part addr (leader_length place bytes) bytes) ≡ part addr (min told_bytes (leader_length place bytes)) bytes =
          min_is told_bytes (leader_length place bytes) (part addr (leader_length place bytes) bytes) long
          ∙ take-take (min told_bytes (leader_length place bytes)) (leader_length place bytes) (drop addr bytes) (omega arith) in
          sym (λ i. has_layout kind (long i) (first i)) ∙ layouts addr (record { kind = kind; bytes = part addr (leader_length place bytes) bytes }) is

  if_used : (frame : ℕ) (block : PoolBlock) → (block.used ≡ true → is_filled_at bytes (block.addr - frame) block.addr ≡ true) → is_filled bytes frame block ≡ true
  if_used frame block filled = by block.used refl
    where
      by : (t : Bool) → block.used ≡ t → is_filled bytes frame block ≡ true
      by true e = ap (λ (t : Bool). not t || is_filled_at bytes (block.addr - frame) block.addr) e ∙ filled e
      by false e = ap (λ (t : Bool). not t || is_filled_at bytes (block.addr - frame) block.addr) e

  abbrev IsCounted : List PoolBlock → PoolBlock → Type 0
  IsCounted all block = block.used ≡ true → (0 < count_by (is_used_at block.addr) all) × (0 < count_by (is_used_of block.words block.addr) all)

  counted : (all blocks : List PoolBlock) → All (λ (block : PoolBlock). (block.used ≡ true) → 0 < count_by (is_used_at block.addr) all) blocks →
      All (λ (block : PoolBlock). (block.used ≡ true) → 0 < count_by (is_used_of block.words block.addr) all) blocks → All (IsCounted all) blocks
  counted all [] at of = All-nil (IsCounted all)
  counted all (x ∷ blocks) at of =
      All-cons (IsCounted all) x blocks
      (λ e. (
        All-head (λ (block : PoolBlock). (block.used ≡ true) → 0 < count_by (is_used_at block.addr) all) x blocks at e,
        All-head (λ (block : PoolBlock). (block.used ≡ true) → 0 < count_by (is_used_of block.words block.addr) all) x blocks of e,
      ))
      (counted all blocks (All-tail (λ (block : PoolBlock). (block.used ≡ true) → 0 < count_by (is_used_at block.addr) all) x blocks at)
      (All-tail (λ (block : PoolBlock). (block.used ≡ true) → 0 < count_by (is_used_of block.words block.addr) all) x blocks of))

  all_counted : (all : List PoolBlock) → All (IsCounted all) all
  all_counted all =
      counted all all
      (counted_each (λ (block : PoolBlock). block.used) (λ (block : PoolBlock). is_used_at block.addr) (λ block used. and_from _ _ (eq-eqb block.addr block.addr refl) used) all)
      (counted_each (λ (block : PoolBlock). block.used) (λ (block : PoolBlock). is_used_of block.words block.addr) (λ block used. and_from _ _ (own_of block) used) all)

  small_filled : (from to : ℕ) (blocks : List PoolBlock) → Follows from blocks to → All (IsCounted P.small) blocks → AllFilled bytes 8 blocks
  small_filled from to [] follows all = All-nil (λ block. is_filled bytes 8 block ≡ true)
  small_filled from to (x ∷ blocks) (at, least, most, more) all =
      All-cons (λ block. is_filled bytes 8 block ≡ true) x blocks
      (if_used 8 x (λ e.
      let c = All-head (IsCounted P.small) x blocks all e in
      filled_at (x.addr - 8) x.addr (small_place bytes P keeps.small keeps.large x.addr (record { used = c.0 }))
      (small_in bytes P keeps.small keeps.large x.addr (record { used = c.0 }))
      (keeps.labels.small x.words x.addr (λ z. omega (arith, z, at)) c.1).kind))
      (small_filled (from + 8 * (1 + x.words)) to blocks more (All-tail (IsCounted P.small) x blocks all))

  large_filled : (from to : ℕ) (blocks : List PoolBlock) → FollowsLarge from blocks to → All (IsCounted P.large) blocks → AllFilled bytes 16 blocks
  large_filled from to [] follows all = All-nil (λ block. is_filled bytes 16 block ≡ true)
  large_filled from to (x ∷ blocks) (at, least, more) all =
      All-cons (λ block. is_filled bytes 16 block ≡ true) x blocks
      (if_used 16 x (λ e.
      let c = All-head (IsCounted P.large) x blocks all e in
      filled_at (x.addr - 16) x.addr (large_place bytes P keeps.small keeps.large x.addr (record { used = c.0 }))
      (large_in bytes P keeps.small keeps.large x.addr (record { used = c.0 }))
      (keeps.labels.large x.words x.addr (λ z. omega (arith, z, at)) c.1).kind))
      (large_filled (from + extent_of x.words) to blocks more (All-tail (IsCounted P.large) x blocks all))

  -- the contents are right
  pub content_right : ContentIsRight bytes P.small P.large
  content_right = record {
    below = small_filled P.start P.low P.small keeps.small.tiles.follow (all_counted P.small);
    above = large_filled P.high P.end P.large keeps.large.tiles.follow (all_counted P.large);
  }
