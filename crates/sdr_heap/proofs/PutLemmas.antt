-- What a write into a block in use does to the heap.
use Rattle.std.proofs.Common.{◌≡◌, ◌≤◌, ◌<◌, ◌⊎◌, inl, inr, ℕ, ◌+◌, ◌-◌, ◌*◌}
use Rattle.std.proofs.Common.{List, length, get_or, refl, sym, ap, ◌∙◌, arith, subst}
use Rattle.std.specs.Prelude.{Option, Some, None, is_some}
use Rattle.std.proofs.Math.Path.{fun_ext}
use Rattle.std.proofs.lemmas.Bool.{cases_eq}
use Rattle.std.proofs.lemmas.List.{ext_get_or}
use Rattle.sdr_base.specs.Blocks.{Block, Reaches, UsesRange, overwritten, with_block}
use Rattle.sdr_base.specs.KeptPools.{IsOutside}
use Rattle.sdr_base.specs.Kinds.{kind_of}
use Rattle.sdr_base.specs.Parts.{overwrite, part}
use Rattle.sdr_base.specs.Pools.{Pools}
use Rattle.sdr_base.specs.Rules.{words_for}
use Rattle.sdr_base.specs.SmallPool.{words_at}
use Rattle.sdr_base.specs.Stored.{leader_kind, leader_length}
use Rattle.sdr_base.specs.declared.kind.Kind.{Kind}
use Rattle.sdr_base.proofs.KeptPoolsLemmas.{in_order}
use Rattle.sdr_base.proofs.ObjectsLemmas.{with_block-here, with_block-apart}
use Rattle.sdr_base.proofs.PartsLemmas.{length-overwrite, length-part, get_or-part, get_or-overwrite_inside}
use Rattle.sdr_base.proofs.PartsLemmas.{get_or-overwrite_outside, sides}
use Rattle.sdr_base.proofs.StoredLemmas.{leader_kind-same, leader_words-same, leader_length-same}
use Rattle.sdr_heap.specs.Calls.{KeepsBeside, WritesBlock}
use Rattle.sdr_base.specs.KeptHeap.{KeepsHeap, KeepsSomeHeap, block_in, block_of}
use Rattle.sdr_heap.proofs.BlockInLemmas.{in_use, small_block, large_block, small_in, large_in}
use Rattle.sdr_heap.proofs.InsideLemmas.{ChangesInside}
use Rattle.sdr_heap.proofs.LabelsLemmas.{labelled_but}
use Rattle.sdr_heap.proofs.RelabelledLemmas.{Relabelled, small_relabelled, large_relabelled}
use Rattle.sdr_heap.proofs.RangeLemmas.{reaches-block_of, reaches_some}
use Rattle.sdr_heap.proofs.UsedLemmas.{used_words}

-- bytes put inside of a part are put into the part
pub part-overwrite_inside : (p n q : ℕ) (from x : List ℕ) → p + n ≤ length x → q + length from ≤ n →
    part p n (overwrite (p + q) from x) ≡ overwrite q from (part p n x)
part-overwrite_inside p n q from x inside within =
    let le : p + q + length from ≤ length x = omega arith in
    let size : length (overwrite (p + q) from x) ≡ length x = length-overwrite (p + q) from x le in
    let long : length (part p n x) ≡ n = length-part p n x inside in
    let long' : length (part p n (overwrite (p + q) from x)) ≡ n =
    length-part p n (overwrite (p + q) from x) (omega (arith, size, inside)) in
    ext_get_or 0 (part p n (overwrite (p + q) from x)) (overwrite q from (part p n x))
    (long' ∙ sym (length-overwrite q from (part p n x) (omega (arith, long, within)) ∙ long))
    (λ i lt. let lt' : i < n = omega (arith, long', lt) in
    get_or-part p n (overwrite (p + q) from x) i lt' ∙ here i lt' le long (sides q (length from) i))
  where
    here : (i : ℕ) → i < n → p + q + length from ≤ length x → length (part p n x) ≡ n →
        ((i < q) ⊎ (q + length from ≤ i)) ⊎ ((q ≤ i) × (i < q + length from)) →
        get_or (overwrite (p + q) from x) (p + i) 0 ≡ get_or (overwrite q from (part p n x)) i 0
    here i lt le long (inl (inl before)) =
        get_or-overwrite_outside (p + q) from x (p + i) le (inl (omega (arith, before)))
        ∙ sym (get_or-overwrite_outside q from (part p n x) i (omega (arith, long, within)) (inl before)
        ∙ get_or-part p n x i lt)
    here i lt le long (inl (inr after)) =
        get_or-overwrite_outside (p + q) from x (p + i) le (inr (omega (arith, after)))
        ∙ sym (get_or-overwrite_outside q from (part p n x) i (omega (arith, long, within)) (inr after)
        ∙ get_or-part p n x i lt)
    here i lt le long (inr w) =
        get_or-overwrite_inside (p + q) from x (p + i) le (omega (arith, w.0)) (omega (arith, w.1))
        ∙ ap (λ (k : ℕ). get_or from k 0) (omega arith)
        ∙ sym (get_or-overwrite_inside q from (part p n x) i (omega (arith, long, within)) w.0 w.1)

-- the block has these bytes, the heap is kept, and all else is as before
pub record PutsBytes (P : Pools) (addr place : ℕ) (from x y : List ℕ) : Type 0 where
  pub keeps : KeepsHeap y P
  pub here : block_in y addr ≡ overwritten (block_in x addr) place from
  pub beside : KeepsBeside addr x y

-- bytes put into a block that is a part
overwritten-block_of : (kind : Option Kind) (place : ℕ) (from bytes : List ℕ) →
    overwritten (block_of kind bytes) place from ≡ block_of kind (overwrite place from bytes)
overwritten-block_of None place from bytes = refl
overwritten-block_of (Some kind) place from bytes = refl

module _ (x : List ℕ) (addr place : ℕ) (from : List ℕ) (within : UsesRange (block_in x) addr place (length from)) where
  -- the words of the leader stay, and its kind and length
  puts_at : (P : Pools) (lead words : ℕ) → lead + 8 ≤ addr → leader_length lead x ≤ 8 * words →
      addr + 8 * words ≤ length x →
      block_in x addr ≡ block_of (kind_of (leader_kind lead x)) (part addr (leader_length lead x) x) →
      (ChangesInside lead words addr x (overwrite (addr + place) from x) →
      leader_kind lead (overwrite (addr + place) from x) ≡ leader_kind lead x →
      leader_length lead (overwrite (addr + place) from x) ≡ leader_length lead x →
      Relabelled P lead addr x (overwrite (addr + place) from x)) →
      PutsBytes P addr place from x (overwrite (addr + place) from x)
  puts_at P lead words before fits inside is labelled =
      let y : List ℕ = overwrite (addr + place) from x in
      let kind : Option Kind = kind_of (leader_kind lead x) in
      let n : ℕ = leader_length lead x in
      let few : place + length from ≤ n =
      reaches-block_of kind addr n (place + length from) x (omega (arith, fits, inside))
      (subst (λ (b : Option Block). Reaches b (place + length from)) is within) in
      let le : addr + place + length from ≤ length x = omega (arith, few, fits, inside) in
      let kept : (i : ℕ) → lead ≤ i → i < lead + 8 → get_or y i 0 ≡ get_or x i 0 =
      λ (i : ℕ) (ge : lead ≤ i) (lt : i < lead + 8).
      get_or-overwrite_outside (addr + place) from x i le (inl (omega (arith, lt, before))) in
      let change : ChangesInside lead words addr x y = record {
        size = length-overwrite (addr + place) from x le;
        leader = leader_words-same lead x y kept;
        bytes = λ i out own. get_or-overwrite_outside (addr + place) from x i le
            (side i words (omega (arith, few, fits)) own);
      } in
      let told : leader_kind lead y ≡ leader_kind lead x = leader_kind-same lead x y kept in
      let long : leader_length lead y ≡ n = leader_length-same lead x y kept in
      let r = labelled change told long in
      record {
        keeps = r.keeps;
        here =
            r.here
            ∙ ap (λ (k : ℕ). block_of (kind_of k) (part addr (leader_length lead y) y)) told
            ∙ ap (λ (m : ℕ). block_of kind (part addr m y)) long
            ∙ ap (block_of kind) (part-overwrite_inside addr n place from x (omega (arith, fits, inside)) few)
            ∙ sym (overwritten-block_of kind place from (part addr n x))
            ∙ ap (λ (b : Option Block). overwritten b place from) (sym is);
        beside = r.beside;
      }
    where
      side : (i words : ℕ) → place + length from ≤ 8 * words → IsOutside addr (addr + 8 * words) i →
          (i < addr + place) ⊎ (addr + place + length from ≤ i)
      side i words few (inl lt) = inl (omega (arith, lt))
      side i words few (inr ge) = inr (omega (arith, ge, few))

  -- so it is for whatever pools the heap has
  puts_in : (P : Pools) → KeepsHeap x P → PutsBytes P addr place from x (overwrite (addr + place) from x)
  puts_in P keeps = elim
      (in_use x P keeps.small keeps.large addr (reaches_some (block_in x addr) (place + length from) within)) [
        | inl used ↦
            let w : ℕ = words_at addr P.small in
            let b = small_block x P keeps.small keeps.large addr used in
            let o = in_order x P keeps.small in
            let there = used_words addr P.small used.used (omega (arith, b.once)) in
            let label = keeps.labels.small w addr (λ is. omega (arith, is, b.first)) there in
            puts_at P (addr - 8) w (omega (arith, b.first)) (omega (arith, label.length))
            (omega (arith, b.last, o.order, o.end)) (small_in x P keeps.small keeps.large addr used)
            (λ change told long. small_relabelled x (overwrite (addr + place) from x) P w addr keeps.small keeps.large
            (labelled_but x P addr keeps.small keeps.large keeps.labels) there change (record {
              kind = ap (λ (k : ℕ). is_some (kind_of k)) told ∙ label.kind;
              length = ap words_for long ∙ label.length;
            }))
        | inr used ↦
            let w : ℕ = words_at addr P.large in
            let b = large_block x P keeps.small keeps.large addr used in
            let there = used_words addr P.large used.used (omega (arith, b.once)) in
            let label = keeps.labels.large w addr (λ is. omega (arith, is, b.first)) there in
            puts_at P (addr - 16) w (omega (arith, b.first)) (omega (arith, label.length))
            (omega (arith, b.last, keeps.small.size)) (large_in x P keeps.small keeps.large addr used)
            (λ change told long. large_relabelled x (overwrite (addr + place) from x) P w addr keeps.small keeps.large
            (labelled_but x P addr keeps.small keeps.large keeps.labels) there change (record {
              kind = ap (λ (k : ℕ). is_some (kind_of k)) told ∙ label.kind;
              length = subst (λ (n : ℕ). words_for n ≤ w) (sym long) label.length;
            }))
      ]

  -- what a write into the block does
  pub writes : KeepsSomeHeap x → WritesBlock addr place from x (overwrite (addr + place) from x)
  writes kept =
      let puts = puts_in kept.pools kept.keeps in
      record {
        kept = λ P keeps. (puts_in P keeps).keeps;
        blocks = fun_ext (λ other. elim (cases_eq other addr) [
          | inl is ↦ subst (λ (a : ℕ). block_in (overwrite (addr + place) from x) a
              ≡ with_block (block_in x) addr (overwritten (block_in x addr) place from) a) (sym is)
              (puts.here ∙ sym (with_block-here (block_in x) addr (overwritten (block_in x addr) place from)))
          | inr differ ↦
              puts.beside.blocks other differ
              ∙ sym (with_block-apart (block_in x) addr (overwritten (block_in x addr) place from) other differ)
        ]);
        roots = puts.beside.roots;
      }
