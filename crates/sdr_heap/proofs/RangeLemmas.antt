-- Where the bytes of a block in use stand, and what is told of it.
use Rattle.std.proofs.Common.{◌≡◌, ◌≤◌, ◌<◌, inl, inr, ℕ, ◌+◌, ◌-◌, ◌*◌, ◌/◌, Bool, true, false, cond, ◌==◌}
use Rattle.std.proofs.Common.{List, length, get_or, refl, sym, ap, ◌∙◌, arith, subst}
use Rattle.std.specs.Prelude.{Option, Some, None, option_map}
use Rattle.std.proofs.lemmas.List.{ext_get_or}
use Rattle.sdr_base.specs.Blocks.{Block, HasBytes, Reaches, Uses, UsesRange, kind_length}
use Rattle.sdr_base.specs.Kinds.{kind_of}
use Rattle.sdr_base.specs.Parts.{part}
use Rattle.sdr_base.specs.Pools.{Pools}
use Rattle.sdr_base.specs.SmallPool.{words_at}
use Rattle.sdr_base.specs.Stored.{leader_kind, leader_length, start_bit}
use Rattle.sdr_base.specs.declared.kind.Kind.{Kind}
use Rattle.sdr_base.proofs.KeptPoolsLemmas.{in_order}
use Rattle.sdr_base.proofs.PartsLemmas.{length-part, get_or-part}
use Rattle.sdr_base.specs.KeptHeap.{KeepsHeap, KeepsSomeHeap, block_in, block_led, block_of, leader_place}
use Rattle.sdr_heap.proofs.BlockInLemmas.{small_block, large_block, small_place, large_place, in_use, block_in-at}
use Rattle.sdr_heap.proofs.BlockInLemmas.{small_in, large_in}
use Rattle.sdr_heap.proofs.UsedLemmas.{used_words}

-- a part of a part
pub part-part : (p n q m : ℕ) (x : List ℕ) → p + n ≤ length x → q + m ≤ n → part q m (part p n x) ≡ part (p + q) m x
part-part p n q m x inside within =
    let outer = length-part p n x inside in
    let long = length-part q m (part p n x) (omega (arith, outer, within)) in
    ext_get_or 0 (part q m (part p n x)) (part (p + q) m x)
    (long ∙ sym (length-part (p + q) m x (omega (arith, inside, within))))
    (λ i lt. let lt' : i < m = omega (arith, long, lt) in
    get_or-part q m (part p n x) i lt'
    ∙ get_or-part p n x (q + i) (omega (arith, lt', within))
    ∙ ap (λ (k : ℕ). get_or x k 0) (omega arith)
    ∙ sym (get_or-part (p + q) m x i lt'))

-- the bytes of a block in use lie in its words, and these in the region
pub record LiesIn (x : List ℕ) (place addr : ℕ) : Type 0 where
  pub words : ℕ
  pub fits : leader_length place x ≤ 8 * words
  pub inside : addr + 8 * words ≤ length x

module _ (x : List ℕ) (P : Pools) (keeps : KeepsHeap x P) (addr place : ℕ) (at : leader_place x addr ≡ Some place) where
  -- the bytes that the leader tells of are there
  pub lies_in : Uses (block_in x) addr → LiesIn x place addr
  lies_in uses = elim (in_use x P keeps.small keeps.large addr uses) [
    | inl used ↦
        let b = small_block x P keeps.small keeps.large addr used in
        let o = in_order x P keeps.small in
        let here : addr - 8 ≡ place = some_of (sym (small_place x P keeps.small keeps.large addr used) ∙ at) in
        let label = keeps.labels.small (words_at addr P.small) addr (λ is. omega (arith, is, b.first))
        (used_words addr P.small used.used (omega (arith, b.once))) in
        record {
          words = words_at addr P.small;
          fits = subst (λ (p : ℕ). leader_length p x ≤ 8 * words_at addr P.small) here (omega (arith, label.length));
          inside = omega (arith, b.last, o.order, o.end);
        }
    | inr used ↦
        let b = large_block x P keeps.small keeps.large addr used in
        let here : addr - 16 ≡ place = some_of (sym (large_place x P keeps.small keeps.large addr used) ∙ at) in
        let label = keeps.labels.large (words_at addr P.large) addr (λ is. omega (arith, is, b.first))
        (used_words addr P.large used.used (omega (arith, b.once))) in
        record {
          words = words_at addr P.large;
          fits = subst (λ (p : ℕ). leader_length p x ≤ 8 * words_at addr P.large) here (omega (arith, label.length));
          inside = omega (arith, b.last, keeps.small.size);
        }
  ]
    where
      some_of : {a b : ℕ} → Some a ≡ Some b → a ≡ b
      some_of same = cc

-- where no block begins, none is told of
pub told_nowhere : (x : List ℕ) (addr : ℕ) → leader_place x addr ≡ None → kind_length (block_in x addr) ≡ None
unfolding block_in
told_nowhere x addr is = ap (λ (o : Option ℕ). kind_length (block_led x addr o)) is

-- nor where the start bit is clear
pub told_clear : (x : List ℕ) (addr place : ℕ) → leader_place x addr ≡ Some place → (start_bit (place / 8) x == 1) ≡ false →
    kind_length (block_in x addr) ≡ None
told_clear x addr place at clear =
    ap kind_length (block_in-at x addr place at)
    ∙ ap (λ (b : Bool). kind_length
    (cond b (block_of (kind_of (leader_kind place x)) (part addr (leader_length place x) x)) None)) clear

-- else the kind and the length are those of the leader
pub told_set : (x : List ℕ) (addr place : ℕ) → KeepsSomeHeap x → leader_place x addr ≡ Some place →
    (start_bit (place / 8) x == 1) ≡ true →
    kind_length (block_in x addr) ≡ option_map (λ (kind : Kind). (kind, leader_length place x))
    (kind_of (leader_kind place x))
told_set x addr place kept at set =
    let bytes : List ℕ = part addr (leader_length place x) x in
    let is : block_in x addr ≡ block_of (kind_of (leader_kind place x)) bytes =
    block_in-at x addr place at
    ∙ ap (λ (b : Bool). cond b (block_of (kind_of (leader_kind place x)) bytes) None) set in
    ap kind_length is ∙ told (kind_of (leader_kind place x)) is
  where
    told : (kind : Option Kind) → block_in x addr ≡ block_of kind (part addr (leader_length place x) x) →
        kind_length (block_of kind (part addr (leader_length place x) x))
        ≡ option_map (λ (k : Kind). (k, leader_length place x)) kind
    told None is = refl
    told (Some kind) is =
        let lies = lies_in x kept.pools kept.keeps addr place at
        (subst (λ (b : Option Block). Reaches b 0) (sym is) (omega arith)) in
        ap (λ (n : ℕ). Some (kind, n))
        (length-part addr (leader_length place x) x (omega (arith, lies.fits, lies.inside)))

-- so it is for the kind and the length that were read
pub told_read : (x : List ℕ) (addr place count : ℕ) (kind : Option Kind) → KeepsSomeHeap x →
    leader_place x addr ≡ Some place → (start_bit (place / 8) x == 1) ≡ true → kind ≡ kind_of (leader_kind place x) →
    count ≡ leader_length place x → option_map (λ (k : Kind). (k, count)) kind ≡ kind_length (block_in x addr)
told_read x addr place count kind kept at set kind_is count_is =
    ap (λ (n : ℕ). option_map (λ (k : Kind). (k, n)) kind) count_is
    ∙ ap (option_map (λ (k : Kind). (k, leader_length place x))) kind_is
    ∙ sym (told_set x addr place kept at set)

-- a range of a block in use is one of the region
pub record IsRange (x : List ℕ) (addr place count : ℕ) : Type 0 where
  pub most : length x ≤ 16777216
  pub inside : addr + (place + count) ≤ length x
  pub bytes : (from : List ℕ) → from ≡ part (addr + place) count x → HasBytes (block_in x addr) place count from

-- where the leader of a block in use stands
pub record HasLeader (x : List ℕ) (addr : ℕ) : Type 0 where
  pub place : ℕ
  pub at : leader_place x addr ≡ Some place
  pub is : block_in x addr ≡ block_of (kind_of (leader_kind place x)) (part addr (leader_length place x) x)

pub has_leader : (x : List ℕ) (P : Pools) → KeepsHeap x P → (addr : ℕ) → Uses (block_in x) addr → HasLeader x addr
has_leader x P keeps addr uses = elim (in_use x P keeps.small keeps.large addr uses) [
  | inl used ↦ record {
    place = addr - 8;
    at = small_place x P keeps.small keeps.large addr used;
    is = small_in x P keeps.small keeps.large addr used;
  }
  | inr used ↦ record {
    place = addr - 16;
    at = large_place x P keeps.small keeps.large addr used;
    is = large_in x P keeps.small keeps.large addr used;
  }
]

-- what a block of a part reaches
pub reaches-block_of : (kind : Option Kind) (p n end : ℕ) (x : List ℕ) → p + n ≤ length x →
    Reaches (block_of kind (part p n x)) end → end ≤ n
reaches-block_of None p n end x inside within = absurd within
reaches-block_of (Some kind) p n end x inside within = omega (arith, within, length-part p n x inside)

-- what reaches so far is there
pub reaches_some : (b : Option Block) (end : ℕ) → Reaches b end → Reaches b 0
reaches_some None end within = within
reaches_some (Some block) end within = omega arith

pub uses_range : (x : List ℕ) (addr place count : ℕ) → KeepsSomeHeap x → UsesRange (block_in x) addr place count →
    IsRange x addr place count
uses_range x addr place count kept within =
    let uses : Uses (block_in x) addr = reaches_some (block_in x addr) (place + count) within in
    let leader = has_leader x kept.pools kept.keeps addr uses in
    let lies = lies_in x kept.pools kept.keeps addr leader.place leader.at uses in
    let length' : ℕ = leader_length leader.place x in
    let inside : addr + length' ≤ length x = omega (arith, lies.fits, lies.inside) in
    let few : place + count ≤ length' =
    reaches-block_of (kind_of (leader_kind leader.place x)) addr length' (place + count) x inside
    (subst (λ (b : Option Block). Reaches b (place + count)) leader.is within) in
    record {
      most = (in_order x kept.pools kept.keeps.small).most;
      inside = omega (arith, few, inside);
      bytes = λ from is. subst (λ (b : Option Block). HasBytes b place count from) (sym leader.is)
          (has_bytes (kind_of (leader_kind leader.place x)) addr length' from
          (is ∙ sym (part-part addr length' place count x inside few))
          (subst (λ (b : Option Block). Reaches b 0) leader.is uses));
    }
  where
    has_bytes : (kind : Option Kind) (p n : ℕ) (from : List ℕ) → from ≡ part place count (part p n x) →
        Reaches (block_of kind (part p n x)) 0 → HasBytes (block_of kind (part p n x)) place count from
    has_bytes None p n from is uses = absurd uses
    has_bytes (Some kind) p n from is uses = is
