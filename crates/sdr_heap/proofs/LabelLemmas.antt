-- What a label does to the heap.
use Rattle.std.proofs.Common.{◌≡◌, ◌≤◌, ◌<◌, ◌⊎◌, inl, inr, ℕ, ◌+◌, ◌-◌, ◌*◌, ◌%◌, ◌^◌, Bool, true, false, cond}
use Rattle.std.proofs.Common.{List, length, get_or, refl, sym, ap, ◌∙◌, arith, subst}
use Rattle.std.specs.Prelude.{Option, Some, is_some, nat_lt, replicate}
use Rattle.std.proofs.lemmas.Bool.Decides.{nat_tests}
use Rattle.std.proofs.lemmas.List.{length-replicate}
use Rattle.sdr_base.specs.Cells.{IsRegionSize}
use Rattle.sdr_base.specs.KeptPools.{IsOutside}
use Rattle.sdr_base.specs.Kinds.{kind_number, kind_of}
use Rattle.sdr_base.specs.Parts.{overwrite, part}
use Rattle.sdr_base.specs.Pools.{Pools}
use Rattle.sdr_base.specs.Rules.{words_for}
use Rattle.sdr_base.specs.SmallPool.{words_at}
use Rattle.sdr_base.specs.Stored.{number_at, leader_kind, leader_length, leader_words, with_leader}
use Rattle.sdr_base.specs.declared.kind.Kind.{Kind}
use Rattle.sdr_base.specs.declared.kind.Kind.TheVariants as kinds
use Rattle.sdr_base.proofs.KeptPoolsLemmas.{IsInOrder, in_order}
use Rattle.sdr_base.proofs.PartsLemmas.{length-overwrite, get_or-overwrite_outside, part-overwrite}
use Rattle.sdr_base.proofs.StoredLemmas.{leader_kind-same, leader_words-same, leader_length-same}
use Rattle.sdr_large.proofs.PlacesLemmas.{InOrder, in_order as large_order, used_of-le-of}
use Rattle.sdr_large.proofs.WalkLemmas.{tiles_whole}
use Rattle.sdr_heap.specs.Calls.{IsBare, IsSomeBare, KeepsBeside, Labels}
use Rattle.sdr_base.specs.KeptHeap.{KeepsHeap, block_in, block_of, used_place}
use Rattle.sdr_heap.proofs.BlockInLemmas.{small_block, large_block}
use Rattle.sdr_heap.proofs.InsideLemmas.{ChangesInside}
use Rattle.sdr_heap.proofs.LeaderLemmas.{leader_kind-with_leader, leader_words-with_leader}
use Rattle.sdr_heap.proofs.LeaderLemmas.{leader_length-with_leader, get_or-with_leader, length-with_leader}
use Rattle.sdr_heap.proofs.RelabelledLemmas.{Relabelled, small_relabelled, large_relabelled}
use Rattle.sdr_heap.proofs.UsedLemmas.{used_words}

-- the number of a kind is that kind's
pub kind_of-number : (kind : Kind) → kind_of (kind_number kind) ≡ Some kind
kind_of-number kinds.Raw = refl
kind_of-number kinds.Text = refl
kind_of-number kinds.List = refl
kind_of-number kinds.Element = refl
kind_of-number kinds.Table = refl
kind_of-number kinds.Hash = refl
kind_of-number kinds.HashEntry = refl
kind_of-number kinds.Name = refl
kind_of-number kinds.Source = refl
kind_of-number kinds.Object = refl
kind_of-number kinds.Extent = refl
kind_of-number kinds.Capsule = refl
kind_of-number kinds.Ticket = refl

-- the heap is kept, the block has its kind and its zero bytes, and all else is as before
pub record LabelsBlock (P : Pools) (addr : ℕ) (kind : Kind) (need : ℕ) (x y : List ℕ) : Type 0 where
  pub keeps : KeepsHeap y P
  pub here : block_in y addr ≡ Some (record { kind = kind; bytes = replicate need 0 })
  pub beside : KeepsBeside addr x y

-- the bytes with this label at a place, and so many zero bytes at an address
abbrev pub labelled : ℕ → ℕ → Kind → ℕ → List ℕ → List ℕ
labelled lead addr kind need x =
    overwrite addr (replicate need 0) (with_leader lead kind (leader_words lead x) need x)

module _ (x : List ℕ) (addr : ℕ) (kind : Kind) (need : ℕ) where
  labels_at : (P : Pools) (lead words : ℕ) → lead + 8 ≤ addr → leader_words lead x ≡ words → need ≤ 8 * words →
      addr + 8 * words ≤ length x → length x ≤ 16777216 →
      (ChangesInside lead words addr x (labelled lead addr kind need x) →
      is_some (kind_of (leader_kind lead (labelled lead addr kind need x))) ≡ true →
      leader_length lead (labelled lead addr kind need x) ≡ need →
      Relabelled P lead addr x (labelled lead addr kind need x)) →
      LabelsBlock P addr kind need x (labelled lead addr kind need x)
  labels_at P lead words before has enough inside most relabelled =
      let zeros : List ℕ = replicate need 0 in
      let z : List ℕ = with_leader lead kind (leader_words lead x) need x in
      let y : List ℕ = overwrite addr zeros z in
      let le : lead + 8 ≤ length x = omega (arith, before, inside) in
      let long : length zeros ≡ need = length-replicate {A = ℕ} need 0 in
      let size : length z ≡ length x = length-with_leader lead kind (leader_words lead x) need x le in
      let fits : addr + length zeros ≤ length z = omega (arith, long, size, enough, inside) in
      let kept : (i : ℕ) → lead ≤ i → i < lead + 8 → get_or y i 0 ≡ get_or z i 0 =
      λ (i : ℕ) (ge : lead ≤ i) (lt : i < lead + 8).
      get_or-overwrite_outside addr zeros z i fits (inl (omega (arith, lt, before))) in
      let told : leader_kind lead y ≡ kind_number kind =
      leader_kind-same lead z y kept ∙ leader_kind-with_leader lead kind (leader_words lead x) need x le in
      let tells : leader_length lead y ≡ need =
      leader_length-same lead z y kept
      ∙ leader_length-with_leader lead kind (leader_words lead x) need x le (omega (arith, enough, inside, most)) in
      let known : kind_of (leader_kind lead y) ≡ Some kind = ap kind_of told ∙ kind_of-number kind in
      let r = relabelled (record {
        size = length-overwrite addr zeros z fits ∙ size;
        leader =
            leader_words-same lead z y kept
            ∙ leader_words-with_leader lead kind (leader_words lead x) need x le (omega (arith, has, inside, most));
        bytes = λ i out own.
            get_or-overwrite_outside addr zeros z i fits (side i (length zeros) (omega (arith, long, enough)) own)
            ∙ get_or-with_leader lead kind (leader_words lead x) need x le i out;
      }) (ap (is_some {T = Kind}) known) tells in
      record {
        keeps = r.keeps;
        here =
            r.here
            ∙ ap (λ (k : Option Kind). block_of k (part addr (leader_length lead y) y)) known
            ∙ ap (λ (l : List ℕ). Some (record { kind = kind; bytes = l }))
            (ap (λ (n : ℕ). part addr n y) (tells ∙ sym long) ∙ part-overwrite addr zeros z fits);
        beside = r.beside;
      }
    where
      side : (i n : ℕ) → n ≤ 8 * words → IsOutside addr (addr + 8 * words) i → (i < addr) ⊎ (addr + n ≤ i)
      side i n le (inl lt) = inl lt
      side i n le (inr ge) = inr (omega (arith, ge, le))

used_place-low : (x : List ℕ) (addr : ℕ) → addr - 8 < number_at 16 x → used_place x addr ≡ addr - 8
used_place-low x addr low = ap (λ (b : Bool). cond b (addr - 8) (addr - 16)) (test (addr - 8) (number_at 16 x) low)
  where
    test : (a b : ℕ) → a < b → nat_lt a b ≡ true
    test a b lt = grind (arith, nat_tests)

used_place-high : (x : List ℕ) (addr : ℕ) → number_at 16 x ≤ addr - 8 → used_place x addr ≡ addr - 16
used_place-high x addr high = ap (λ (b : Bool). cond b (addr - 8) (addr - 16)) (test (addr - 8) (number_at 16 x) high)
  where
    test : (a b : ℕ) → b ≤ a → nat_lt a b ≡ false
    test a b le = grind (arith, nat_tests)

-- where the leader of a block without a label stands, how many words the block has, and what a label does to it
record BareAt (P : Pools) (need addr : ℕ) (x : List ℕ) : Type 0 where
  place : ℕ
  words : ℕ
  is : used_place x addr ≡ place
  least : 16 ≤ addr
  before : place + 8 ≤ addr
  whole : place % 8 ≡ 0
  has : leader_words place x ≡ words
  enough : need ≤ 8 * words
  inside : addr + 8 * words ≤ length x
  labels : (kind : Kind) → LabelsBlock P addr kind need x (labelled place addr kind need x)

module _ (x : List ℕ) (addr need : ℕ) (P : Pools) (bare : IsBare (words_for need) addr x P) where
  o : IsInOrder x P
  o = in_order x P bare.small

  q : InOrder P P.end P.end
  q = large_order P P.end P.end (tiles_whole P bare.large.tiles)

  bare_at : BareAt P need addr x
  bare_at = elim bare.used [
    | inl used ↦
        let w : ℕ = words_at addr P.small in
        let b = small_block x P bare.small bare.large addr used in
        let there = used_words addr P.small used.used (omega (arith, b.once)) in
        let has : leader_words (addr - 8) x ≡ w =
        bare.small.leaders w addr (omega (arith, there, used_of-le-of w addr P.small)) in
        let exact : w ≡ words_for need = bare.exact w there in
        let enough : need ≤ 8 * w = omega (arith, exact) in
        record {
          place = addr - 8;
          words = w;
          is = used_place-low x addr (omega (arith, bare.small.low, b.last, b.some, b.first));
          least = omega (arith, b.first, o.control);
          before = omega (arith, b.first);
          whole = omega (arith, b.whole);
          has = has;
          enough = enough;
          inside = omega (arith, b.last, o.order, o.end);
          labels = λ kind.
              labels_at x addr kind need P (addr - 8) w (omega (arith, b.first)) has enough
              (omega (arith, b.last, o.order, o.end)) o.most
              (λ change known tells. small_relabelled x (labelled (addr - 8) addr kind need x) P w addr bare.small
              bare.large bare.others there change
              (record { kind = known; length = ap words_for tells ∙ sym exact }));
        }
    | inr used ↦
        let w : ℕ = words_at addr P.large in
        let b = large_block x P bare.small bare.large addr used in
        let there = used_words addr P.large used.used (omega (arith, b.once)) in
        let has : leader_words (addr - 16) x ≡ w =
        bare.large.holds.leaders w addr (omega (arith, there, used_of-le-of w addr P.large)) in
        let most : words_for need ≤ w = bare.enough w there in
        let enough : need ≤ 8 * w = omega (arith, most) in
        record {
          place = addr - 16;
          words = w;
          is = used_place-high x addr (omega (arith, bare.small.low, b.first, o.order));
          least = omega (arith, b.first, o.control);
          before = omega (arith, b.first);
          whole = omega (arith, b.first, b.whole q.whole q.end);
          has = has;
          enough = enough;
          inside = omega (arith, b.last, bare.small.size);
          labels = λ kind.
              labels_at x addr kind need P (addr - 16) w (omega (arith, b.first)) has enough
              (omega (arith, b.last, bare.small.size)) o.most
              (λ change known tells. large_relabelled x (labelled (addr - 16) addr kind need x) P w addr bare.small
              bare.large bare.others there change
              (record { kind = known; length = subst (λ (n : ℕ). words_for n ≤ w) (sym tells) most }));
        }
  ]

-- where the leader of a block without a label stands, and that there is room for so many bytes
pub record BarePlace (need addr : ℕ) (x : List ℕ) : Type 0 where
  pub least : 16 ≤ addr
  pub control : 1024 ≤ length x
  pub before : used_place x addr + 8 ≤ addr
  pub whole : used_place x addr % 8 ≡ 0
  pub words : leader_words (used_place x addr) x < 2 ^ 24
  pub count : need < 2 ^ 32
  pub inside : addr + need ≤ length x
  pub region : IsRegionSize (length x)

pub bare_place : (x : List ℕ) (addr need : ℕ) → IsSomeBare need addr x → BarePlace need addr x
bare_place x addr need some =
    let P = some.pools in
    let b = bare_at x addr need P some.bare in
    let o = in_order x P some.bare.small in
    record {
      least = b.least;
      control = omega (arith, o.control, o.small, o.order, o.end);
      before = omega (arith, b.is, b.before);
      whole = subst (λ (p : ℕ). p % 8 ≡ 0) (sym b.is) b.whole;
      words = subst (λ (p : ℕ). leader_words p x < 2 ^ 24) (sym b.is) (omega (arith, b.has, b.inside, o.most));
      count = omega (arith, b.enough, b.inside, o.most);
      inside = omega (arith, b.enough, b.inside);
      region = subst IsRegionSize (sym some.bare.small.size) some.bare.small.tiles.bounds.region;
    }

-- what a label does to the heap
pub labels : (x : List ℕ) (addr : ℕ) (kind : Kind) (need : ℕ) → IsSomeBare need addr x →
    Labels addr kind need x (labelled (used_place x addr) addr kind need x)
labels x addr kind need some =
    let block = labels_in some.pools some.bare in
    record {
      kept = λ P bare. (labels_in P bare).keeps;
      here = block.here;
      beside = block.beside;
    }
  where
    labels_in : (P : Pools) → IsBare (words_for need) addr x P →
        LabelsBlock P addr kind need x (labelled (used_place x addr) addr kind need x)
    labels_in P bare =
        let b = bare_at x addr need P bare in
        subst (λ (p : ℕ). LabelsBlock P addr kind need x (labelled p addr kind need x)) (sym b.is) (b.labels kind)
