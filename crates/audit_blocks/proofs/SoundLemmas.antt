-- The blocks of a region that passes each check, one by one.
use Rattle.std.proofs.Common.{◌≡◌, ◌≢◌, ◌≤◌, ◌<◌, ◌+◌, ◌-◌, ◌*◌, ◌/◌, ◌%◌, ◌==◌, ◌&&◌, ◌⊎◌, ℕ, zero, suc, Bool, List, [], ◌∷◌, Option, None, Some, cond, not, true, false, length, arith, ap, ◌∙◌, refl, sym, inl, inr}
use Rattle.std.specs.Prelude.{count_by}
use Rattle.std.specs.Int.{bit_at}
use Rattle.std.specs.Option.{option_map_or, option_or}
use Rattle.std.proofs.lemmas.Bool.{and_parts, cases_Bool, cases_eq, eq-eqb, eqb-true}
use Rattle.sdr_base.proofs.PoolsLemmas.{count_by-no, count_by-yes, is_at-other}
use Rattle.sdr_base.specs.Pools.{PoolBlock, is_at, is_used_at}
use Rattle.sdr_base.specs.Stored.{leader_kind, leader_words, start_bit}
use Rattle.sdr_base.specs.declared.control.TheConstants.{HIGH, LOW, START}
use Rattle.audit_blocks.proofs.BegunLemmas.{begun_large, begun_right, begun_small, or_left, or_right, spaced_large, spaced_small}
use Rattle.audit_blocks.proofs.FollowLemmas.{large_begins, small_ends}
use Rattle.audit_blocks.proofs.SpacedLemmas.{Spaced, begun_first, begun_later}
use Rattle.audit_blocks.proofs.CountedLemmas.{counted_begins}
use Rattle.audit_blocks.proofs.WalkLemmas.{option_or-none}
use Rattle.audit_blocks.specs.Bits.{begins_with, bits_byte, byte_of_bits}
use Rattle.audit_blocks.specs.Control.{control_word}
use Rattle.audit_blocks.specs.Region.{IsSound}
use Rattle.audit_blocks.specs.Spots.{begun_in}
use Rattle.audit_blocks.specs.Walk.{first_wrong, has_ends, is_empty, is_small_at, large_holds, small_holds}

-- none of the blocks that begin behind an address is counted at it
pub spaced_none : (frame addr : ℕ) (p : PoolBlock → Bool) → ((block : PoolBlock) → block.addr ≢ addr → p block ≡ false) → (blocks : List PoolBlock) (from to : ℕ) →
    Spaced frame blocks from to → addr < from + frame → count_by p blocks ≡ 0
spaced_none frame addr p only [] from to s before = refl
spaced_none frame addr p only (x ∷ blocks) from to (at, whole, (next, later, more)) before =
    count_by-no p x blocks (only x (λ e. omega (arith, e, at, before)))
    ∙ spaced_none frame addr p only blocks next to more (omega (arith, before, later))

at_only : (addr : ℕ) (q : PoolBlock → Bool) (block : PoolBlock) → block.addr ≢ addr → (is_at addr block && q block) ≡ false
at_only addr q block off = ap (λ (t : Bool). t && q block) (is_at-other addr block off)

-- the blocks that pass a test at an address are the one that begins there, if it passes
pub spaced_counts : (frame place addr : ℕ) (q : PoolBlock → Bool) → addr ≡ place + frame → (blocks : List PoolBlock) (from to : ℕ) → Spaced frame blocks from to →
    count_by (λ block. is_at addr block && q block) blocks ≡ cond (option_map_or q (begun_in frame blocks place) false) 1 0
spaced_counts frame place addr q is [] from to s = refl
spaced_counts frame place addr q is (x ∷ blocks) from to (at, whole, (next, later, more)) = elim (cases_eq x.addr (place + frame)) [
  | inl here ↦
      let test : is_at addr x ≡ true = eq-eqb x.addr addr (here ∙ sym is) in
      let none = spaced_none frame addr (λ block. is_at addr block && q block) (at_only addr q) blocks next to more (omega (arith, is, here, at, later)) in
      first (cases_Bool (q x)) test none
      ∙ sym (ap (λ (o : Option PoolBlock). cond {A = ℕ} (option_map_or q o false) 1 0) (begun_first frame x blocks place here))
  | inr there ↦
      count_by-no (λ block. is_at addr block && q block) x blocks (at_only addr q x (λ e. there (e ∙ is)))
      ∙ spaced_counts frame place addr q is blocks next to more
      ∙ sym (ap (λ (o : Option PoolBlock). cond {A = ℕ} (option_map_or q o false) 1 0) (begun_later frame x blocks place there))
]
  where
    first : (q x ≡ true) ⊎ (q x ≡ false) → is_at addr x ≡ true → count_by (λ block. is_at addr block && q block) blocks ≡ 0 →
        count_by (λ block. is_at addr block && q block) (x ∷ blocks) ≡ cond (q x) 1 0
    first (inl passes) test none =
        let c = count_by-yes (λ block. is_at addr block && q block) x blocks (λ i. test i && passes i) in
        let e : cond {A = ℕ} (q x) 1 0 ≡ 1 = ap (λ (t : Bool). cond t 1 0) passes in
        omega (arith, c, e, none)
    first (inr fails) test none =
        let c = count_by-no (λ block. is_at addr block && q block) x blocks (λ i. test i && fails i) in
        let e : cond {A = ℕ} (q x) 1 0 ≡ 0 = ap (λ (t : Bool). cond t 1 0) fails in
        omega (arith, c, e, none)

-- the number whose eight binary digits are these
abbrev pub digits_value : (ℕ → ℕ) → ℕ
digits_value x = 0 + 128 * x 0 + 64 * x 1 + 32 * x 2 + 16 * x 3 + 8 * x 4 + 4 * x 5 + 2 * x 6 + 1 * x 7

-- a binary digit of such a number
digit_is : (x : ℕ → ℕ) → ((k : ℕ) → x k ≤ 1) → (k : ℕ) → k < 8 → bit_at (digits_value x) (7 - k) ≡ x k
digit_is x most zero less = omega (arith, most 0, most 1, most 2, most 3, most 4, most 5, most 6, most 7)
digit_is x most (suc zero) less = omega (arith, most 0, most 1, most 2, most 3, most 4, most 5, most 6, most 7)
digit_is x most (suc (suc zero)) less = omega (arith, most 0, most 1, most 2, most 3, most 4, most 5, most 6, most 7)
digit_is x most (suc (suc (suc zero))) less = omega (arith, most 0, most 1, most 2, most 3, most 4, most 5, most 6, most 7)
digit_is x most (suc (suc (suc (suc zero)))) less = omega (arith, most 0, most 1, most 2, most 3, most 4, most 5, most 6, most 7)
digit_is x most (suc (suc (suc (suc (suc zero))))) less = omega (arith, most 0, most 1, most 2, most 3, most 4, most 5, most 6, most 7)
digit_is x most (suc (suc (suc (suc (suc (suc zero)))))) less = omega (arith, most 0, most 1, most 2, most 3, most 4, most 5, most 6, most 7)
digit_is x most (suc (suc (suc (suc (suc (suc (suc zero))))))) less = omega (arith, most 0, most 1, most 2, most 3, most 4, most 5, most 6, most 7)
digit_is x most (suc (suc (suc (suc (suc (suc (suc (suc k)))))))) less = absurd (omega (arith, less))

scaled : (t : Bool) (n : ℕ) → cond t n 0 ≡ n * cond t 1 0
scaled true n = omega arith
scaled false n = omega arith

one_most : (t : Bool) → cond {A = ℕ} t 1 0 ≤ 1
one_most true = omega arith
one_most false = omega arith

-- a bit of the byte of eight words
pub bit_of_byte : (begins : ℕ → Bool) (word : ℕ) → bit_at (byte_of_bits begins (word / 8)) (7 - word % 8) ≡ cond (begins word) 1 0
bit_of_byte begins word =
    let x : ℕ → ℕ = λ k. cond (begins (8 * (word / 8) + k)) 1 0 in
    let e : 8 * (word / 8) + word % 8 ≡ word = omega arith in
    ap (λ (n : ℕ). bit_at n (7 - word % 8))
    (λ i. 0 + scaled (begins (8 * (word / 8) + 0)) 128 i + scaled (begins (8 * (word / 8) + 1)) 64 i + scaled (begins (8 * (word / 8) + 2)) 32 i
    + scaled (begins (8 * (word / 8) + 3)) 16 i + scaled (begins (8 * (word / 8) + 4)) 8 i + scaled (begins (8 * (word / 8) + 5)) 4 i
    + scaled (begins (8 * (word / 8) + 6)) 2 i + scaled (begins (8 * (word / 8) + 7)) 1 i)
    ∙ digit_is (λ k. cond (begins (8 * (word / 8) + k)) 1 0) (λ k. one_most (begins (8 * (word / 8) + k))) (word % 8) (omega arith)
    ∙ ap (λ (n : ℕ). cond (begins n) 1 0) e

module _ (bytes : List ℕ) (small large : List PoolBlock) (s : IsSound bytes small large) where
  -- a small block that passes a test, as its leader tells
  pub record SmallBlock (p : PoolBlock → Bool) : Type 0 where
    pub block : PoolBlock
    pub passes : p block ≡ true
    pub place : ℕ
    pub at : block.addr ≡ place + 8
    pub whole : place % 8 ≡ 0
    pub from : control_word bytes START ≤ place
    pub begun : begun_in 8 small place ≡ Some block
    pub here : is_small_at bytes place ≡ true
    pub words : block.words ≡ leader_words place bytes
    pub used : block.used ≡ not (leader_kind place bytes == 0)

  pub small_block : (p : PoolBlock → Bool) → 0 < count_by p small → SmallBlock p
  small_block p some =
      let f = counted_begins p 8 small (control_word bytes START) (control_word bytes LOW) (spaced_small bytes small large s.control s.blocks) some in
      let b = begun_small bytes small (control_word bytes START) (control_word bytes LOW) f.place f.block s.blocks.follow.below f.begun in
      record {
        block = f.block;
        passes = f.passes;
        place = f.place;
        at = f.at;
        whole = f.whole;
        from = f.behind;
        begun = f.begun;
        here = b.0;
        words = ap (λ (x : PoolBlock). x.words) b.1;
        used = ap (λ (x : PoolBlock). x.used) b.1;
      }

  -- a large block that passes a test, as its leader tells
  pub record LargeBlock (p : PoolBlock → Bool) : Type 0 where
    pub block : PoolBlock
    pub passes : p block ≡ true
    pub place : ℕ
    pub at : block.addr ≡ place + 16
    pub whole : place % 8 ≡ 0
    pub from : control_word bytes HIGH ≤ place
    pub begun : begun_in 16 large place ≡ Some block
    pub ends : has_ends bytes block ≡ true
    pub words : block.words ≡ leader_words place bytes
    pub used : block.used ≡ not (leader_kind place bytes == 0)

  pub large_block : (p : PoolBlock → Bool) → 0 < count_by p large → LargeBlock p
  large_block p some =
      let f = counted_begins p 16 large (control_word bytes HIGH) (length bytes) (spaced_large bytes small large s.control s.blocks) some in
      let b = begun_large bytes large (control_word bytes HIGH) (length bytes) f.place f.block s.blocks.follow.above f.begun in
      record {
        block = f.block;
        passes = f.passes;
        place = f.place;
        at = f.at;
        whole = f.whole;
        from = f.behind;
        begun = f.begun;
        ends = ap (has_ends bytes) b.1 ∙ (and_parts _ _ b.0).1;
        words = ap (λ (x : PoolBlock). x.words) b.1;
        used = ap (λ (x : PoolBlock). x.used) b.1;
      }

  -- what is asked of blocks besides holds of each
  none_unfit : option_or (first_wrong (small_holds bytes) 8 small) (first_wrong (large_holds bytes) 16 large) ≡ None
  none_unfit = or_left _ _ (or_left _ _ (or_left _ _ s.blocks.right))

  none_full : option_or (first_wrong (is_empty bytes 8) 8 small) (first_wrong (is_empty bytes 16) 16 large) ≡ None
  none_full = or_right _ _ (or_left _ _ (or_left _ _ s.blocks.right))

  pub small_fits : (place : ℕ) (block : PoolBlock) → begun_in 8 small place ≡ Some block → small_holds bytes block ≡ true
  small_fits place block begun = begun_right (small_holds bytes) 8 small place block (or_left _ _ none_unfit) begun

  pub large_fits : first_wrong (large_holds bytes) 16 large ≡ None
  large_fits = or_right _ _ none_unfit

  pub small_empty : (place : ℕ) (block : PoolBlock) → begun_in 8 small place ≡ Some block → is_empty bytes 8 block ≡ true
  small_empty place block begun = begun_right (is_empty bytes 8) 8 small place block (or_left _ _ none_full) begun

  pub large_empty : (place : ℕ) (block : PoolBlock) → begun_in 16 large place ≡ Some block → is_empty bytes 16 block ≡ true
  large_empty place block begun = begun_right (is_empty bytes 16) 16 large place block (or_right _ _ none_full) begun

  -- a start bit tells whether a block in use begins with its word
  pub bit_is : (word : ℕ) → word < 8 * (control_word bytes START - 1024) → start_bit word bytes ≡ cond (begins_with small large word) 1 0
  unfolding start_bit
  bit_is word less =
      let place : ℕ = 1024 + word / 8 in
      let at : 1024 + word / 8 - 1024 ≡ word / 8 = omega arith in
      let is = eqb-true _ _ (s.bits (1024 + word / 8) (record { from = omega arith; to = omega (arith, less) })) in
      ap (λ (n : ℕ). bit_at n (7 - word % 8)) (is ∙ ap (bits_byte small large) at) ∙ bit_of_byte (begins_with small large) word

  -- below high no large block begins, and from low on no small one
  pub begins_small : (word : ℕ) → 8 * word < control_word bytes HIGH →
      begins_with small large word ≡ option_map_or (λ (block : PoolBlock). block.used) (begun_in 8 small (8 * word)) false
  begins_small word below =
      ap (λ (o : Option PoolBlock). option_map_or (λ (block : PoolBlock). block.used) (option_or (begun_in 8 small (8 * word)) o) false)
      (large_begins bytes large (control_word bytes HIGH) (length bytes) (8 * word) s.blocks.follow.above below)
      ∙ ap (λ (o : Option PoolBlock). option_map_or (λ (block : PoolBlock). block.used) o false) (option_or-none (begun_in 8 small (8 * word)))

  pub begins_large : (word : ℕ) → control_word bytes LOW ≤ 8 * word →
      begins_with small large word ≡ option_map_or (λ (block : PoolBlock). block.used) (begun_in 16 large (8 * word)) false
  begins_large word above =
      ap (λ (o : Option PoolBlock). option_map_or (λ (block : PoolBlock). block.used) (option_or o (begun_in 16 large (8 * word))) false)
      (small_ends bytes small (control_word bytes START) (control_word bytes LOW) (8 * word) s.blocks.follow.below above)

  pub small_bits : (word : ℕ) → word < 8 * (control_word bytes START - 1024) → 8 * word < control_word bytes HIGH →
      start_bit word bytes ≡ count_by (is_used_at (8 * word + 8)) small
  small_bits word less below =
      bit_is word less ∙ ap (λ (t : Bool). cond t 1 0) (begins_small word below)
      ∙ sym (spaced_counts 8 (8 * word) (8 * word + 8) (λ (block : PoolBlock). block.used) refl small (control_word bytes START) (control_word bytes LOW)
      (spaced_small bytes small large s.control s.blocks))

  pub large_bits : (word : ℕ) → word < 8 * (control_word bytes START - 1024) → control_word bytes LOW ≤ 8 * word →
      start_bit word bytes ≡ count_by (is_used_at (8 * word + 16)) large
  large_bits word less above =
      bit_is word less ∙ ap (λ (t : Bool). cond t 1 0) (begins_large word above)
      ∙ sym (spaced_counts 16 (8 * word) (8 * word + 16) (λ (block : PoolBlock). block.used) refl large (control_word bytes HIGH) (length bytes)
      (spaced_large bytes small large s.control s.blocks))
