-- Blocks in use that stay when one of them comes or goes.
use Rattle.std.proofs.Common.{◌≡◌, ◌≢◌, ◌≤◌, ◌<◌, inl, inr, ℕ, ◌+◌, ◌-◌, ◌*◌, false, cond, ◌&&◌}
use Rattle.std.proofs.Common.{List, length, get_or, refl, sym, ap, ◌∙◌, arith, subst}
use Rattle.std.specs.Prelude.{None, is_some, nat_le, nat_lt}
use Rattle.std.specs.List.{count_by}
use Rattle.std.proofs.Math.Path.{fun_ext}
use Rattle.std.proofs.lemmas.Bool.{cases_lt}
use Rattle.std.proofs.lemmas.Bool.Decides.{nat_tests}
use Rattle.std.proofs.lemmas.List.{ext_get_or}
use Rattle.sdr_base.specs.KeptLarge.{KeepsLarge, is_used_of}
use Rattle.sdr_base.specs.KeptPools.{KeepsSmall}
use Rattle.sdr_base.specs.Kinds.{kind_of}
use Rattle.sdr_base.specs.Parts.{part}
use Rattle.sdr_base.specs.Pools.{Pools, IsUsed, is_used_at}
use Rattle.sdr_base.specs.Rules.{words_for}
use Rattle.sdr_base.specs.SmallPool.{words_at}
use Rattle.sdr_base.specs.Stored.{leader_kind, leader_length}
use Rattle.sdr_base.proofs.PartsLemmas.{length-part, get_or-part}
use Rattle.sdr_base.proofs.StoredLemmas.{leader_kind-same, leader_length-same, number_at-same}
use Rattle.sdr_large.proofs.PlacesLemmas.{used_of-le-at}
use Rattle.sdr_heap.specs.Calls.{KeepsBeside}
use Rattle.sdr_base.specs.KeptHeap.{KeepsHeap, LabelledBut, block_of, block_in, root_in}
use Rattle.sdr_heap.proofs.BlockInLemmas.{small_block, large_block, small_in, large_in, none_in}
use Rattle.sdr_heap.proofs.LabelsLemmas.{labelled_all}
use Rattle.sdr_heap.proofs.UsedLemmas.{small_at, large_at, used_words}

-- from pools to others, the blocks in use but the one at an address stay, with their leaders and their bytes
pub record BlocksStay (P Q : Pools) (addr : ℕ) (x y : List ℕ) : Type 0 where
  pub size : length y ≡ length x
  pub small_was : (words other : ℕ) → other ≢ addr → 0 < count_by (is_used_of words other) Q.small →
      0 < count_by (is_used_of words other) P.small
  pub small_is : (words other : ℕ) → other ≢ addr → 0 < count_by (is_used_of words other) P.small →
      0 < count_by (is_used_of words other) Q.small
  pub small_bytes : (words other : ℕ) → other ≢ addr → 0 < count_by (is_used_of words other) P.small →
      (i : ℕ) → other - 8 ≤ i → i < other + 8 * words → get_or y i 0 ≡ get_or x i 0
  pub large_was : (words other : ℕ) → other ≢ addr → 0 < count_by (is_used_of words other) Q.large →
      0 < count_by (is_used_of words other) P.large
  pub large_is : (words other : ℕ) → other ≢ addr → 0 < count_by (is_used_of words other) P.large →
      0 < count_by (is_used_of words other) Q.large
  pub large_bytes : (words other : ℕ) → other ≢ addr → 0 < count_by (is_used_of words other) P.large →
      (i : ℕ) → other - 16 ≤ i → i < other + 8 * words → get_or y i 0 ≡ get_or x i 0

-- and so do the control words that belong to what they keep
pub record UsedStay (P Q : Pools) (addr : ℕ) (x y : List ℕ) : Type 0 where
  pub blocks : BlocksStay P Q addr x y
  pub roots : (i : ℕ) → 712 ≤ i → i < 1024 → get_or y i 0 ≡ get_or x i 0

-- a heap with these pools is kept, without a block at an address, and all others are as before
pub record IsWithout (Q : Pools) (addr : ℕ) (x y : List ℕ) : Type 0 where
  pub keeps : KeepsHeap y Q
  pub gone : block_in y addr ≡ None
  pub beside : KeepsBeside addr x y

-- a part whose bytes are the same
pub part-same : (p n : ℕ) (x y : List ℕ) → length y ≡ length x → p + n ≤ length x →
    ((i : ℕ) → p ≤ i → i < p + n → get_or y i 0 ≡ get_or x i 0) → part p n y ≡ part p n x
part-same p n x y size inside same =
    let long = length-part p n y (omega (arith, size, inside)) in
    ext_get_or 0 (part p n y) (part p n x) (long ∙ sym (length-part p n x inside))
    (λ i lt. let lt' : i < n = omega (arith, long, lt) in
    get_or-part p n y i lt' ∙ same (p + i) (omega arith) (omega (arith, lt')) ∙ sym (get_or-part p n x i lt'))

-- a block whose leader and bytes are the same
pub block_of-same : (place addr : ℕ) (x y : List ℕ) → length y ≡ length x → place + 8 ≤ addr →
    addr + leader_length place x ≤ length x →
    ((i : ℕ) → place ≤ i → i < addr + leader_length place x → get_or y i 0 ≡ get_or x i 0) →
    block_of (kind_of (leader_kind place y)) (part addr (leader_length place y) y)
    ≡ block_of (kind_of (leader_kind place x)) (part addr (leader_length place x) x)
block_of-same place addr x y size before inside same =
    let leader : (i : ℕ) → place ≤ i → i < place + 8 → get_or y i 0 ≡ get_or x i 0 =
    λ (i : ℕ) (ge : place ≤ i) (lt : i < place + 8). same i ge (omega (arith, lt, before)) in
    ap (λ (k : ℕ). block_of (kind_of k) (part addr (leader_length place y) y)) (leader_kind-same place x y leader)
    ∙ ap (λ (n : ℕ). block_of (kind_of (leader_kind place x)) (part addr n y)) (leader_length-same place x y leader)
    ∙ ap (λ (l : List ℕ). block_of (kind_of (leader_kind place x)) l)
    (part-same addr (leader_length place x) x y size inside (λ i ge lt. same i (omega (arith, ge, before)) lt))

module _ (P Q : Pools) (addr : ℕ) (x y : List ℕ) (small : KeepsSmall x P) (large : KeepsLarge x P)
    (labels : LabelledBut addr x P) (small' : KeepsSmall y Q) (large' : KeepsLarge y Q)
    (stay : BlocksStay P Q addr x y) where
  -- a small block in use at another address is the same
  small_same : (other : ℕ) → other ≢ addr → IsUsed P.small other → block_in y other ≡ block_in x other
  small_same other apart used =
      let w : ℕ = words_at other P.small in
      let b = small_block x P small large other used in
      let there = used_words other P.small used.used (omega (arith, b.once)) in
      let l = labels.small w other apart there in
      let long : leader_length (other - 8) x ≤ 8 * w = omega (arith, l.length, b.some) in
      small_in y Q small' large' other (record {
        used = omega (arith, stay.small_is w other apart there, used_of-le-at w other Q.small);
      })
      ∙ block_of-same (other - 8) other x y stay.size (omega (arith, b.first))
      (omega (arith, long, b.last, small.tiles.bounds.order, small.tiles.bounds.end, small.size))
      (λ i ge lt. stay.small_bytes w other apart there i ge (omega (arith, lt, long)))
      ∙ sym (small_in x P small large other used)

  -- a large one too
  large_same : (other : ℕ) → other ≢ addr → IsUsed P.large other → block_in y other ≡ block_in x other
  large_same other apart used =
      let w : ℕ = words_at other P.large in
      let b = large_block x P small large other used in
      let there = used_words other P.large used.used (omega (arith, b.once)) in
      let l = labels.large w other apart there in
      let long : leader_length (other - 16) x ≤ 8 * w = omega (arith, l.length) in
      large_in y Q small' large' other (record {
        used = omega (arith, stay.large_is w other apart there, used_of-le-at w other Q.large);
      })
      ∙ block_of-same (other - 16) other x y stay.size (omega (arith, b.first))
      (omega (arith, long, b.last, small.size))
      (λ i ge lt. stay.large_bytes w other apart there i ge (omega (arith, lt, long)))
      ∙ sym (large_in x P small large other used)

  -- where neither pool had a block in use, neither has one now
  small_none : (other : ℕ) → other ≢ addr → count_by (is_used_at other) P.small ≡ 0 →
      count_by (is_used_at other) Q.small ≡ 0
  small_none other apart none = elim (cases_lt 0 (count_by (is_used_at other) Q.small)) [
    | inr none' ↦ omega (arith, none')
    | inl some ↦
        let w : ℕ = words_at other Q.small in
        let there = used_words other Q.small some
        (omega (arith, (small_block y Q small' large' other (record { used = some })).once)) in
        absurd (omega (arith, none, stay.small_was w other apart there, used_of-le-at w other P.small))
  ]

  large_none : (other : ℕ) → other ≢ addr → count_by (is_used_at other) P.large ≡ 0 →
      count_by (is_used_at other) Q.large ≡ 0
  large_none other apart none = elim (cases_lt 0 (count_by (is_used_at other) Q.large)) [
    | inr none' ↦ omega (arith, none')
    | inl some ↦
        let w : ℕ = words_at other Q.large in
        let there = used_words other Q.large some
        (omega (arith, (large_block y Q small' large' other (record { used = some })).once)) in
        absurd (omega (arith, none, stay.large_was w other apart there, used_of-le-at w other P.large))
  ]

  -- all blocks but the one at the address are as before
  pub blocks_beside : (other : ℕ) → other ≢ addr → block_in y other ≡ block_in x other
  blocks_beside other apart = elim (cases_lt 0 (count_by (is_used_at other) P.small)) [
    | inl some ↦ small_same other apart (record { used = some })
    | inr none ↦ elim (cases_lt 0 (count_by (is_used_at other) P.large)) [
      | inl some ↦ large_same other apart (record { used = some })
      | inr none' ↦
          none_in y Q small' large' other (small_none other apart (omega (arith, none)))
          (large_none other apart (omega (arith, none')))
          ∙ sym (none_in x P small large other (omega (arith, none)) (omega (arith, none')))
    ]
  ]

  -- and all blocks in use but the one at the address have their labels
  pub labels_stay : LabelledBut addr y Q
  labels_stay = record {
    small = λ words other apart used'.
        let used = stay.small_was words other apart used' in
        let b = small_at x P small words other used in
        let l = labels.small words other apart used in
        let leader : (i : ℕ) → other - 8 ≤ i → i < other - 8 + 8 → get_or y i 0 ≡ get_or x i 0 =
        λ (i : ℕ) (ge : other - 8 ≤ i) (lt : i < other - 8 + 8).
        stay.small_bytes words other apart used i ge (omega (arith, lt, b.first, b.some)) in
        record {
          kind = ap (λ (k : ℕ). is_some (kind_of k)) (leader_kind-same (other - 8) x y leader) ∙ l.kind;
          length = ap words_for (leader_length-same (other - 8) x y leader) ∙ l.length;
        };
    large = λ words other apart used'.
        let used = stay.large_was words other apart used' in
        let b = large_at x P large words other used in
        let l = labels.large words other apart used in
        let leader : (i : ℕ) → other - 16 ≤ i → i < other - 16 + 8 → get_or y i 0 ≡ get_or x i 0 =
        λ (i : ℕ) (ge : other - 16 ≤ i) (lt : i < other - 16 + 8).
        stay.large_bytes words other apart used i ge (omega (arith, lt, b.first, b.some)) in
        record {
          kind = ap (λ (k : ℕ). is_some (kind_of k)) (leader_kind-same (other - 16) x y leader) ∙ l.kind;
          length = subst (λ (n : ℕ). words_for n ≤ words) (sym (leader_length-same (other - 16) x y leader))
              l.length;
        };
  }

module _ (P Q : Pools) (addr : ℕ) (x y : List ℕ) (small : KeepsSmall x P) (large : KeepsLarge x P)
    (labels : LabelledBut addr x P) (small' : KeepsSmall y Q) (large' : KeepsLarge y Q) (stay : UsedStay P Q addr x y)
  where
    -- the blocks in use but the one at the address have their labels
    pub labels_beside : LabelledBut addr y Q
    labels_beside = labels_stay P Q addr x y small large labels small' large' stay.blocks

    -- the control words stay
    roots_same : (word : ℕ) → root_in y word ≡ root_in x word
    unfolding root_in
    roots_same word = elim (cases_lt word 128) [
      | inr over ↦
          let never : (nat_le 89 word && nat_lt word 128) ≡ false = grind (arith, nat_tests) in
          rw never refl
      | inl within ↦ elim (cases_lt word 89) [
        | inl before ↦
            let never : (nat_le 89 word && nat_lt word 128) ≡ false = grind (arith, nat_tests) in
            rw never refl
        | inr from ↦ ap (λ (n : ℕ). cond (nat_le 89 word && nat_lt word 128) n 0)
            (number_at-same (8 * word) x y (λ i ge lt.
            stay.roots i (omega (arith, ge, from)) (omega (arith, lt, within))))
      ]
    ]

    -- so all is beside the block
    pub beside_kept : KeepsBeside addr x y
    beside_kept = record {
      size = stay.blocks.size;
      blocks = blocks_beside P Q addr x y small large labels small' large' stay.blocks;
      roots = fun_ext roots_same;
    }

    -- where the block at the address is no more in use, a heap is kept without it
    pub without_kept : count_by (is_used_at addr) Q.small ≡ 0 → count_by (is_used_at addr) Q.large ≡ 0 →
        IsWithout Q addr x y
    without_kept none_small none_large = record {
      keeps = record {
        small = small';
        large = large';
        labels = labelled_all y Q addr labels_beside none_small none_large;
      };
      gone = none_in y Q small' large' addr none_small none_large;
      beside = beside_kept;
    }
