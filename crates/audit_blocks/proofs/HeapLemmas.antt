-- The blocks of a heap that bytes keep follow one another, and each is right.
use Rattle.std.proofs.Common.{◌≡◌, ◌≢◌, ◌≤◌, ◌<◌, ◌+◌, ◌-◌, ◌*◌, ◌==◌, ◌&&◌, ◌||◌, ℕ, Bool, List, [], ◌∷◌, ◌++◌, None, Some, cond, not, true, false, length, append_assoc, arith, ap, ◌∙◌, refl, sym, subst, inl, inr}
use Rattle.std.specs.Prelude.{count_by, find, is_some}
use Rattle.std.specs.List.{All}
use Rattle.std.specs.Option.{option_map, option_or}
use Rattle.std.proofs.lemmas.Bool.{and_from, cases_Bool, eq-eqb, eqb-true, le-leb, ne_eqb}
use Rattle.std.proofs.lemmas.List.Elements.{All-cons, All-head, All-nil, All-tail, All-weaker}
use Rattle.sdr_base.proofs.PoolsLemmas.{count_by-append, count_by-no, count_by-yes, Follows-le}
use Rattle.sdr_base.specs.KeptHeap.{HasLabel, HasLargeLabel, KeepsHeap}
use Rattle.sdr_base.specs.KeptLarge.{FollowsLarge, IsFreeBlock, IsUsedBlock, is_used_of, last_word}
use Rattle.sdr_base.specs.Kinds.{all_kinds, kind_number, kind_of}
use Rattle.sdr_base.specs.LargeGiving.{is_free_at}
use Rattle.sdr_base.specs.LargePool.{extent_of}
use Rattle.sdr_base.specs.Pools.{Follows, PoolBlock, Pools, is_free_of, is_of}
use Rattle.sdr_base.specs.Rules.{words_for}
use Rattle.sdr_base.specs.Stored.{leader_kind, leader_length, leader_words, number_at}
use Rattle.sdr_base.specs.declared.control.TheConstants.{LOW}
use Rattle.sdr_base.specs.declared.kind.Kind.{Kind}
use Rattle.sdr_base.specs.declared.kind.Kind.TheVariants as kinds
use Rattle.audit_blocks.specs.Control.{control_word}
use Rattle.audit_blocks.specs.Walk.{AreBlocks, BlocksFollow, LargeFollow, SmallFollow, first_wrong, free_edge, has_ends, is_empty, large_at, large_holds, block_length, small_holds, touching_after}

-- the number of a kind is one of 1 to 13
number_few : (kind : Kind) → (1 ≤ kind_number kind) × (kind_number kind ≤ 13)
number_few kinds.Raw = (omega arith, omega arith)
number_few kinds.Text = (omega arith, omega arith)
number_few kinds.List = (omega arith, omega arith)
number_few kinds.Element = (omega arith, omega arith)
number_few kinds.Table = (omega arith, omega arith)
number_few kinds.Hash = (omega arith, omega arith)
number_few kinds.HashEntry = (omega arith, omega arith)
number_few kinds.Name = (omega arith, omega arith)
number_few kinds.Source = (omega arith, omega arith)
number_few kinds.Object = (omega arith, omega arith)
number_few kinds.Extent = (omega arith, omega arith)
number_few kinds.Capsule = (omega arith, omega arith)
number_few kinds.Ticket = (omega arith, omega arith)

-- what is found passes
found_one : {X : Type 0} (p : X → Bool) (xs : List X) → is_some (find p xs) ≡ true → (x : X) × (p x ≡ true)
found_one p [] some = let d : false ≡ true = some in cc
found_one {X} p (x ∷ xs) some = elim (cases_Bool (p x)) [
  | inl passes ↦ (x, passes)
  | inr fails ↦ found_one p xs (sym (ap (λ (t : Bool). is_some (cond t (Some x) (find p xs))) fails) ∙ some)
]

-- a number of a kind is one of 1 to 13
pub kind_few : (number : ℕ) → is_some (kind_of number) ≡ true → (1 ≤ number) × (number ≤ 13)
kind_few number some =
    let f = found_one (λ kind. kind_number kind == number) all_kinds some in
    let same = eqb-true (kind_number f.0) number f.1 in
    let few = number_few f.0 in
    let least = few.0 in
    let most = few.1 in
    (omega (arith, same, least), omega (arith, same, most))

-- each of these that passes one test is counted among them by another that it passes then
pub counted_each : {X : Type 0} (r : X → Bool) (q : X → X → Bool) → ((block : X) → r block ≡ true → q block block ≡ true) → (blocks : List X) →
    All (λ block. (r block ≡ true) → 0 < count_by (q block) blocks) blocks
counted_each r q own [] = All-nil (λ block. (r block ≡ true) → 0 < count_by (q block) [])
counted_each {X} r q own (x ∷ blocks) =
    All-cons (λ block. (r block ≡ true) → 0 < count_by (q block) (x ∷ blocks)) x blocks
    (λ passes. let c = count_by-yes (q x) x blocks (own x passes) in omega (arith, c))
    (All-weaker (λ block. (r block ≡ true) → 0 < count_by (q block) blocks) (λ block. (r block ≡ true) → 0 < count_by (q block) (x ∷ blocks))
    (λ block some passes. let s = some passes in more (q block) s) blocks (counted_each r q own blocks))
  where
    more : (p : X → Bool) → 0 < count_by p blocks → 0 < count_by p (x ∷ blocks)
    more p some = elim (cases_Bool (p x)) [
      | inl passes ↦ let c = count_by-yes p x blocks passes in omega (arith, c)
      | inr fails ↦ let c = count_by-no p x blocks fails in omega (arith, c, some)
    ]

-- none of these blocks is wrong where each is right
none_wrong : (right : PoolBlock → Bool) (frame : ℕ) (blocks : List PoolBlock) → All (λ block. right block ≡ true) blocks → first_wrong right frame blocks ≡ None
none_wrong right frame [] all = refl
none_wrong right frame (x ∷ blocks) all =
    ap (λ (t : Bool). option_map (λ (block : PoolBlock). block.addr - frame) (cond (not t) (Some x) (find (λ block. not (right block)) blocks)))
    (All-head (λ block. right block ≡ true) x blocks all)
    ∙ none_wrong right frame blocks (All-tail (λ block. right block ≡ true) x blocks all)

pub own_of : (block : PoolBlock) → is_of block.words block.addr block ≡ true
own_of block = and_from _ _ (eq-eqb block.addr block.addr refl) (eq-eqb block.words block.words refl)

not_used : (t : Bool) → not t ≡ true → t ≡ false
not_used true e = let d : false ≡ true = e in cc
not_used false e = refl

-- what a leader tells of whether its block is in use
used_is : (used : Bool) (kind : ℕ) → (used ≡ false → kind ≡ 0) → (used ≡ true → 1 ≤ kind) → used ≡ not (kind == 0)
used_is true kind free some = let s = some refl in sym (ap not (ne_eqb kind 0 (λ e. omega (arith, e, s))))
used_is false kind free some = sym (ap (λ (n : ℕ). not (n == 0)) (free refl))

module _ (bytes : List ℕ) (P : Pools) (keeps : KeepsHeap bytes P) where
  -- what the bytes tell of a small block
  record SmallFacts (block : PoolBlock) : Type 0 where
    words : leader_words (block.addr - 8) bytes ≡ block.words
    free_kind : block.used ≡ false → leader_kind (block.addr - 8) bytes ≡ 0
    free_length : block.used ≡ false → leader_length (block.addr - 8) bytes ≡ 0
    label : block.used ≡ true → block.addr ≢ 0 → HasLabel (block.addr - 8) block.words bytes

  abbrev is_free : PoolBlock → Bool
  is_free block = not block.used

  small_facts : All SmallFacts P.small
  small_facts = by P.small (counted_each (λ block. true) (λ block. is_of block.words block.addr) (λ block passes. own_of block) P.small)
      (counted_each is_free (λ block. is_free_of block.words block.addr) (λ block free. and_from _ _ (own_of block) free) P.small)
      (counted_each (λ (block : PoolBlock). block.used) (λ block. is_used_of block.words block.addr) (λ block used. and_from _ _ (own_of block) used) P.small)
    where
      by : (blocks : List PoolBlock) → All (λ block. (true ≡ true) → 0 < count_by (is_of block.words block.addr) P.small) blocks →
          All (λ block. (is_free block ≡ true) → 0 < count_by (is_free_of block.words block.addr) P.small) blocks →
          All (λ (block : PoolBlock). (block.used ≡ true) → 0 < count_by (is_used_of block.words block.addr) P.small) blocks → All SmallFacts blocks
      by [] all free used = All-nil SmallFacts
      by (x ∷ blocks) all free used =
          let own = All-head (λ block. (true ≡ true) → 0 < count_by (is_of block.words block.addr) P.small) x blocks all in
          let own_free = All-head (λ block. (is_free block ≡ true) → 0 < count_by (is_free_of block.words block.addr) P.small) x blocks free in
          let own_used = All-head (λ (block : PoolBlock). (block.used ≡ true) → 0 < count_by (is_used_of block.words block.addr) P.small) x blocks used in
          All-cons SmallFacts x blocks
          (record {
            words = keeps.small.leaders x.words x.addr (own refl);
            free_kind = λ e. keeps.small.kinds x.words x.addr (own_free (ap not e));
            free_length = λ e. keeps.small.lengths x.words x.addr (own_free (ap not e));
            label = λ e some. keeps.labels.small x.words x.addr some (own_used e);
          })
          (by blocks (All-tail (λ block. (true ≡ true) → 0 < count_by (is_of block.words block.addr) P.small) x blocks all)
          (All-tail (λ block. (is_free block ≡ true) → 0 < count_by (is_free_of block.words block.addr) P.small) x blocks free)
          (All-tail (λ (block : PoolBlock). (block.used ≡ true) → 0 < count_by (is_used_of block.words block.addr) P.small) x blocks used))

  small_follow : (from : ℕ) (blocks : List PoolBlock) → Follows from blocks P.low → All SmallFacts blocks → SmallFollow bytes from blocks (control_word bytes LOW)
  small_follow from [] at all = at ∙ sym keeps.small.low
  small_follow from (x ∷ blocks) (at, least, most, more) all =
      let f = All-head SmallFacts x blocks all in
      let back : x.addr - 8 ≡ from = omega (arith, at) in
      let words : leader_words from bytes ≡ x.words = ap (λ (n : ℕ). leader_words n bytes) (sym back) ∙ f.words in
      let rises = Follows-le (from + 8 * (1 + x.words)) P.low blocks more in
      let low = keeps.small.low in
      let kind : (x.used ≡ false → leader_kind from bytes ≡ 0) × (x.used ≡ true → (1 ≤ leader_kind from bytes) × (leader_kind from bytes ≤ 13)) = (
        (λ e. ap (λ (n : ℕ). leader_kind n bytes) (sym back) ∙ f.free_kind e),
        (λ e. kind_few (leader_kind from bytes) (ap (λ (n : ℕ). is_some (kind_of (leader_kind n bytes))) (sym back) ∙ (f.label e (λ z. omega (arith, z, at))).kind)),
      ) in
      let few : leader_kind from bytes ≤ 13 = by_use x.used (leader_kind from bytes) kind.0 (λ e. (kind.1 e).1) in
      let used = used_is x.used (leader_kind from bytes) kind.0 (λ e. (kind.1 e).0) in (
        and_from _ _ (and_from _ _ (and_from _ _ (le-leb _ _ few) (le-leb _ _ (omega (arith, words, least)))) (le-leb _ _ (omega (arith, words, most))))
            (le-leb _ _ (omega (arith, words, rises, low))),
        (λ i. record { addr = at i; words = sym words i; used = used i }),
        small_follow (from + 8 * (1 + x.words)) blocks more (All-tail SmallFacts x blocks all),
      )
    where
      by_use : (t : Bool) (n : ℕ) → (t ≡ false → n ≡ 0) → (t ≡ true → n ≤ 13) → n ≤ 13
      by_use true n free used = used refl
      by_use false n free used = let z = free refl in omega (arith, z)

  -- what the bytes tell of a large block
  record LargeFacts (block : PoolBlock) : Type 0 where
    words : leader_words (block.addr - 16) bytes ≡ block.words
    free : block.used ≡ false → IsFreeBlock block.words block.addr bytes
    used : block.used ≡ true → IsUsedBlock block.words block.addr bytes
    label : block.used ≡ true → block.addr ≢ 0 → HasLargeLabel (block.addr - 16) block.words bytes
    apart : block.used ≡ false → count_by (is_free_at (block.addr + extent_of block.words)) P.large ≡ 0

  large_facts : All LargeFacts P.large
  large_facts = by P.large (counted_each (λ block. true) (λ block. is_of block.words block.addr) (λ block passes. own_of block) P.large)
      (counted_each is_free (λ block. is_free_of block.words block.addr) (λ block free. and_from _ _ (own_of block) free) P.large)
      (counted_each (λ (block : PoolBlock). block.used) (λ block. is_used_of block.words block.addr) (λ block used. and_from _ _ (own_of block) used) P.large)
    where
      by : (blocks : List PoolBlock) → All (λ block. (true ≡ true) → 0 < count_by (is_of block.words block.addr) P.large) blocks →
          All (λ block. (is_free block ≡ true) → 0 < count_by (is_free_of block.words block.addr) P.large) blocks →
          All (λ (block : PoolBlock). (block.used ≡ true) → 0 < count_by (is_used_of block.words block.addr) P.large) blocks → All LargeFacts blocks
      by [] all free used = All-nil LargeFacts
      by (x ∷ blocks) all free used =
          let own = All-head (λ block. (true ≡ true) → 0 < count_by (is_of block.words block.addr) P.large) x blocks all in
          let own_free = All-head (λ block. (is_free block ≡ true) → 0 < count_by (is_free_of block.words block.addr) P.large) x blocks free in
          let own_used = All-head (λ (block : PoolBlock). (block.used ≡ true) → 0 < count_by (is_used_of block.words block.addr) P.large) x blocks used in
          let holds = keeps.large.holds in
          All-cons LargeFacts x blocks
          (record {
            words = holds.leaders x.words x.addr (own refl);
            free = λ e. holds.free x.words x.addr (own_free (ap not e));
            used = λ e. holds.used x.words x.addr (own_used e);
            label = λ e some. keeps.labels.large x.words x.addr some (own_used e);
            apart = λ e. keeps.large.tiles.apart x.words x.addr (own_free (ap not e));
          })
          (by blocks (All-tail (λ block. (true ≡ true) → 0 < count_by (is_of block.words block.addr) P.large) x blocks all)
          (All-tail (λ block. (is_free block ≡ true) → 0 < count_by (is_free_of block.words block.addr) P.large) x blocks free)
          (All-tail (λ (block : PoolBlock). (block.used ≡ true) → 0 < count_by (is_used_of block.words block.addr) P.large) x blocks used))

  -- the words around a large block are right
  ends : (x : PoolBlock) → LargeFacts x → (used : Bool) → x.used ≡ used → has_ends bytes x ≡ true
  ends x f true e =
      let u = f.used e in
      and_from _ _ (eq-eqb _ _ (u.last ∙ ap (λ (t : Bool). last_word t x.words) (sym e)))
      (ap (λ (t : Bool). not t || number_at (x.addr - 8) bytes == 0 && number_at (x.addr + 8 * x.words) bytes == 0) e
      ∙ and_from _ _ (eq-eqb _ _ u.next) (eq-eqb _ _ u.before))
  ends x f false e =
      let u = f.free e in
      and_from _ _ (eq-eqb _ _ (u.last ∙ ap (λ (t : Bool). last_word t x.words) (sym e)))
      (ap (λ (t : Bool). not t || number_at (x.addr - 8) bytes == 0 && number_at (x.addr + 8 * x.words) bytes == 0) e)

  large_le : (from to : ℕ) (blocks : List PoolBlock) → FollowsLarge from blocks to → from ≤ to
  large_le from to [] at = omega (arith, at)
  large_le from to (x ∷ blocks) (at, least, more) = let later = large_le (from + extent_of x.words) to blocks more in omega (arith, later)

  large_follow : (from : ℕ) (blocks : List PoolBlock) → FollowsLarge from blocks P.end → All LargeFacts blocks → LargeFollow bytes from blocks (length bytes)
  large_follow from [] at all = at ∙ sym keeps.small.size
  large_follow from (x ∷ blocks) (at, least, more) all =
      let f = All-head LargeFacts x blocks all in
      let back : x.addr - 16 ≡ from = omega (arith, at) in
      let words : leader_words from bytes ≡ x.words = ap (λ (n : ℕ). leader_words n bytes) (sym back) ∙ f.words in
      let rises = large_le (from + extent_of x.words) P.end blocks more in
      let size = keeps.small.size in
      let kind : (x.used ≡ false → leader_kind from bytes ≡ 0) × (x.used ≡ true → (1 ≤ leader_kind from bytes) × (leader_kind from bytes ≤ 13)) = (
        (λ e. ap (λ (n : ℕ). leader_kind n bytes) (sym back) ∙ (f.free e).kind),
        (λ e. kind_few (leader_kind from bytes) (ap (λ (n : ℕ). is_some (kind_of (leader_kind n bytes))) (sym back) ∙ (f.label e (λ z. omega (arith, z, at))).kind)),
      ) in
      let few : leader_kind from bytes ≤ 13 = by_use x.used (leader_kind from bytes) kind.0 (λ e. (kind.1 e).1) in
      let used = used_is x.used (leader_kind from bytes) kind.0 (λ e. (kind.1 e).0) in
      let same : x ≡ large_at bytes from = (λ i. record { addr = at i; words = sym words i; used = used i }) in (
        and_from _ _ (and_from _ _ (and_from _ _ (le-leb _ _ few) (le-leb _ _ (omega (arith, words, least)))) (le-leb _ _ (omega (arith, words, rises, size))))
            (sym (ap (has_ends bytes) same) ∙ ends x f x.used refl),
        same,
        large_follow (from + extent_of x.words) blocks more (All-tail LargeFacts x blocks all),
      )
    where
      by_use : (t : Bool) (n : ℕ) → (t ≡ false → n ≡ 0) → (t ≡ true → n ≤ 13) → n ≤ 13
      by_use true n free used = used refl
      by_use false n free used = let z = free refl in omega (arith, z)

  pub follow : BlocksFollow bytes P.small P.large
  follow = record {
    below = subst (λ (n : ℕ). SmallFollow bytes n P.small (control_word bytes LOW)) (sym keeps.small.start) (small_follow P.start P.small keeps.small.tiles.follow small_facts);
    above = subst (λ (n : ℕ). LargeFollow bytes n P.large (length bytes)) (sym keeps.small.high) (large_follow P.high P.large keeps.large.tiles.follow large_facts);
  }

  -- each small block has the words that its length needs
  small_hold : (from to : ℕ) (blocks : List PoolBlock) → Follows from blocks to → All SmallFacts blocks → All (λ block. small_holds bytes block ≡ true) blocks
  small_hold from to [] at all = All-nil (λ block. small_holds bytes block ≡ true)
  small_hold from to (x ∷ blocks) (at, least, most, more) all =
      All-cons (λ block. small_holds bytes block ≡ true) x blocks (by x.used refl)
      (small_hold (from + 8 * (1 + x.words)) to blocks more (All-tail SmallFacts x blocks all))
    where
      f : SmallFacts x
      f = All-head SmallFacts x blocks all

      need : ℕ
      need = words_for (block_length bytes 8 x)

      by : (t : Bool) → x.used ≡ t → small_holds bytes x ≡ true
      by true e =
          let l = (f.label e (λ z. omega (arith, z, at))).length in
          and_from _ _ (le-leb _ _ (omega (arith, l))) (ap (λ (t : Bool). not t || words_for (block_length bytes 8 x) == x.words) e ∙ eq-eqb _ _ l)
      by false e =
          let l : words_for (block_length bytes 8 x) ≡ 1 = ap words_for (f.free_length e) in
          and_from _ _ (le-leb _ _ (omega (arith, l, least))) (ap (λ (t : Bool). not t || words_for (block_length bytes 8 x) == x.words) e)

  large_hold : (from to : ℕ) (blocks : List PoolBlock) → FollowsLarge from blocks to → All LargeFacts blocks → All (λ block. large_holds bytes block ≡ true) blocks
  large_hold from to [] at all = All-nil (λ block. large_holds bytes block ≡ true)
  large_hold from to (x ∷ blocks) (at, least, more) all =
      All-cons (λ block. large_holds bytes block ≡ true) x blocks (by x.used refl)
      (large_hold (from + extent_of x.words) to blocks more (All-tail LargeFacts x blocks all))
    where
      f : LargeFacts x
      f = All-head LargeFacts x blocks all

      by : (t : Bool) → x.used ≡ t → large_holds bytes x ≡ true
      by true e = le-leb _ _ (f.label e (λ z. omega (arith, z, at))).length
      by false e = let l : words_for (block_length bytes 16 x) ≡ 1 = ap words_for (f.free e).length in le-leb _ _ (omega (arith, l, least))

  small_emptied : (x : PoolBlock) → SmallFacts x → is_empty bytes 8 x ≡ true
  small_emptied x f = by x.used refl
    where
      by : (t : Bool) → x.used ≡ t → is_empty bytes 8 x ≡ true
      by true e = ap (λ (t : Bool). t || block_length bytes 8 x == 0) e
      by false e = ap (λ (t : Bool). t || block_length bytes 8 x == 0) e ∙ eq-eqb _ _ (f.free_length e)

  large_emptied : (x : PoolBlock) → LargeFacts x → is_empty bytes 16 x ≡ true
  large_emptied x f = by x.used refl
    where
      by : (t : Bool) → x.used ≡ t → is_empty bytes 16 x ≡ true
      by true e = ap (λ (t : Bool). t || block_length bytes 16 x == 0) e
      by false e = ap (λ (t : Bool). t || block_length bytes 16 x == 0) e ∙ eq-eqb _ _ (f.free e).length

  -- where no free block is counted at an address, the one there is in use
  none_free : (before blocks : List PoolBlock) (x : PoolBlock) (addr : ℕ) → P.large ≡ before ++ x ∷ blocks → x.addr ≡ addr → count_by (is_free_at addr) P.large ≡ 0 → x.used ≡ true
  none_free before blocks x addr whole at none = elim (cases_Bool x.used) [
    | inl used ↦ used
    | inr free ↦
        let passes : is_free_at addr x ≡ true = and_from _ _ (eq-eqb x.addr addr at) (ap not free) in
        let all = ap (count_by (is_free_at addr)) whole ∙ count_by-append (is_free_at addr) before (x ∷ blocks) in
        let one = count_by-yes (is_free_at addr) x blocks passes in
        absurd (omega (arith, none, all, one))
  ]

  -- no two free large blocks touch
  none_touch : (free : Bool) (from : ℕ) (before blocks : List PoolBlock) → P.large ≡ before ++ blocks → FollowsLarge from blocks P.end → All LargeFacts blocks →
      (free ≡ true → count_by (is_free_at (from + 16)) P.large ≡ 0) → touching_after free blocks ≡ None
  none_touch free from before [] whole at all none = refl
  none_touch free from before (x ∷ blocks) whole (at, least, more) all none =
      ap (λ (t : Bool). cond t (Some (x.addr - 16)) (touching_after (not x.used) blocks)) (apart free none)
      ∙ none_touch (not x.used) (from + extent_of x.words) (before ++ (x ∷ [])) blocks (whole ∙ sym (append_assoc before (x ∷ []) blocks)) more (All-tail LargeFacts x blocks all) next
    where
      f : LargeFacts x
      f = All-head LargeFacts x blocks all

      apart : (t : Bool) → (t ≡ true → count_by (is_free_at (from + 16)) P.large ≡ 0) → (t && not x.used) ≡ false
      apart false none = refl
      apart true none = ap not (none_free before blocks x (from + 16) whole at (none refl))

      next : not x.used ≡ true → count_by (is_free_at (from + extent_of x.words + 16)) P.large ≡ 0
      next e =
          let place : from + extent_of x.words + 16 ≡ x.addr + extent_of x.words = omega (arith, at) in
          ap (λ (n : ℕ). count_by (is_free_at n) P.large) place ∙ f.apart (not_used x.used e)

  none_at_edge : (blocks : List PoolBlock) → P.large ≡ blocks → FollowsLarge P.high blocks P.end → free_edge blocks ≡ None
  none_at_edge [] whole at = refl
  none_at_edge (x ∷ blocks) whole (at, least, more) =
      ap (λ (t : Bool). cond t None (Some (x.addr - 16))) (none_free [] blocks x (P.high + 16) whole at keeps.large.tiles.edge)

  -- the blocks are right
  pub blocks_are : AreBlocks bytes P.small P.large
  blocks_are = record {
    follow = follow;
    right =
        (λ i. option_or (option_or (option_or (option_or (small_fit i) (large_fit i)) (option_or (small_none i) (large_none i))) (touch i)) (edge i));
  }
    where
      small_fit : first_wrong (small_holds bytes) 8 P.small ≡ None
      small_fit = none_wrong (small_holds bytes) 8 P.small (small_hold P.start P.low P.small keeps.small.tiles.follow small_facts)

      large_fit : first_wrong (large_holds bytes) 16 P.large ≡ None
      large_fit = none_wrong (large_holds bytes) 16 P.large (large_hold P.high P.end P.large keeps.large.tiles.follow large_facts)

      small_none : first_wrong (is_empty bytes 8) 8 P.small ≡ None
      small_none = none_wrong (is_empty bytes 8) 8 P.small (All-weaker SmallFacts (λ block. is_empty bytes 8 block ≡ true) small_emptied P.small small_facts)

      large_none : first_wrong (is_empty bytes 16) 16 P.large ≡ None
      large_none = none_wrong (is_empty bytes 16) 16 P.large (All-weaker LargeFacts (λ block. is_empty bytes 16 block ≡ true) large_emptied P.large large_facts)

      touch : touching_after false P.large ≡ None
      touch = none_touch false P.high [] P.large refl keeps.large.tiles.follow large_facts (λ e. let d : false ≡ true = e in cc)

      edge : free_edge P.large ≡ None
      edge = none_at_edge P.large refl keeps.large.tiles.follow
