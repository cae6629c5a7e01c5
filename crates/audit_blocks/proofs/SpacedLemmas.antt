-- Blocks that begin one behind another, at whole words.
use Rattle.std.proofs.Common.{◌≡◌, ◌≢◌, ◌≤◌, ◌<◌, ◌+◌, ◌*◌, ◌%◌, ℕ, Bool, List, [], ◌∷◌, ◌++◌, Option, None, Some, cond, arith, ap, ◌∙◌, refl, sym, inl, inr}
use Rattle.std.specs.List.{All}
use Rattle.std.proofs.lemmas.Bool.{cases_eq, cases_lt, eq-eqb, ne_eqb}
use Rattle.std.proofs.lemmas.List.Elements.{All-cons, All-head, All-nil, All-tail}
use Rattle.std.proofs.lemmas.Option.{same_Some}
use Rattle.sdr_base.specs.Pools.{PoolBlock}
use Rattle.audit_blocks.specs.Spots.{begun_in}
use Rattle.audit_blocks.specs.Walk.{LargeFollow, SmallFollow}

-- blocks whose leaders stand so far before their addresses begin one behind another, from a place on and before another
abbrev pub Spaced : ℕ → List PoolBlock → ℕ → ℕ → Type 0
Spaced frame [] from to = from ≡ to
Spaced frame (block ∷ blocks) from to =
    (block.addr ≡ from + frame) × (from % 8 ≡ 0) × ((next : ℕ) × (from < next) × Spaced frame blocks next to)

pub small_spaced : (bytes : List ℕ) (blocks : List PoolBlock) (from to : ℕ) → SmallFollow bytes from blocks to → from % 8 ≡ 0 → Spaced 8 blocks from to
small_spaced bytes [] from to at whole = at
small_spaced bytes (block ∷ blocks) from to (here, is, more) whole =
    (ap (λ (b : PoolBlock). b.addr) is, whole, (from + 8 * (1 + block.words), omega arith, small_spaced bytes blocks (from + 8 * (1 + block.words)) to more (omega (arith, whole))))

pub large_spaced : (bytes : List ℕ) (blocks : List PoolBlock) (from to : ℕ) → LargeFollow bytes from blocks to → from % 8 ≡ 0 → Spaced 16 blocks from to
large_spaced bytes [] from to at whole = at
large_spaced bytes (block ∷ blocks) from to (here, is, more) whole =
    (ap (λ (b : PoolBlock). b.addr) is, whole, (from + 8 * (4 + block.words), omega arith, large_spaced bytes blocks (from + 8 * (4 + block.words)) to more (omega (arith, whole))))

pub spaced_rises : (frame : ℕ) (blocks : List PoolBlock) (from to : ℕ) → Spaced frame blocks from to → from ≤ to
spaced_rises frame [] from to at = omega (arith, at)
spaced_rises frame (block ∷ blocks) from to (at, whole, (next, later, more)) = let r = spaced_rises frame blocks next to more in omega (arith, later, r)

-- none of them begins before the first
pub spaced_before : (frame : ℕ) (blocks : List PoolBlock) (from to place : ℕ) → Spaced frame blocks from to → place < from → begun_in frame blocks place ≡ None
spaced_before frame [] from to place at before = refl
spaced_before frame (block ∷ blocks) from to place (at, whole, (next, later, more)) before =
    ap (λ (t : Bool). cond t (Some block) (begun_in frame blocks place)) (ne_eqb block.addr (place + frame) (λ e. omega (arith, e, at, before)))
    ∙ spaced_before frame blocks next to place more (omega (arith, before, later))

-- what holds of a block where it begins before a place
abbrev pub IfBefore : ℕ → (PoolBlock → Type 0) → ℕ → PoolBlock → Type 0
IfBefore frame P place block = block.addr < place + frame → P block

-- what holds of the blocks that begin before a place
abbrev pub AllBefore : ℕ → (PoolBlock → Type 0) → List PoolBlock → ℕ → Type 0
AllBefore frame P blocks place = All (IfBefore frame P place) blocks

pub none_some : {X : Type 0} {x : X} {o : Option X} → o ≡ None → o ≡ Some x → ⊥
none_some {X} {x} {o} none some = let d : None ≡ Some x = sym none ∙ some in cc

-- the one that begins at a place is the first where that has its address, and else one behind it
pub begun_first : (frame : ℕ) (block : PoolBlock) (blocks : List PoolBlock) (place : ℕ) → block.addr ≡ place + frame → begun_in frame (block ∷ blocks) place ≡ Some block
begun_first frame block blocks place at = ap (λ (t : Bool). cond t (Some block) (begun_in frame blocks place)) (eq-eqb block.addr (place + frame) at)

pub begun_later : (frame : ℕ) (block : PoolBlock) (blocks : List PoolBlock) (place : ℕ) → block.addr ≢ place + frame → begun_in frame (block ∷ blocks) place ≡ begun_in frame blocks place
begun_later frame block blocks place off = ap (λ (t : Bool). cond t (Some block) (begun_in frame blocks place)) (ne_eqb block.addr (place + frame) off)

-- what holds of those before a place behind them all holds of all
pub all_before : (frame : ℕ) (P : PoolBlock → Type 0) (blocks : List PoolBlock) (from to place : ℕ) → Spaced frame blocks from to → to ≤ place →
    AllBefore frame P blocks place → All P blocks
all_before frame P [] from to place s behind all = All-nil P
all_before frame P (block ∷ blocks) from to place (at, aligned, (next, later, more)) behind all =
    let r = spaced_rises frame blocks next to more in
    All-cons P block blocks (All-head (IfBefore frame P place) block blocks all (omega (arith, at, later, r, behind)))
    (all_before frame P blocks next to place more behind (All-tail (IfBefore frame P place) block blocks all))

-- the one that begins at a place, and those around it
pub record Around (frame : ℕ) (P : PoolBlock → Type 0) (blocks : List PoolBlock) (block : PoolBlock) : Type 0 where
  pub before : List PoolBlock
  pub behind : List PoolBlock
  pub whole : blocks ≡ before ++ block ∷ behind
  pub all : All P before

-- what holds of those before a place holds of all before the one that begins there
pub around : (frame : ℕ) (P : PoolBlock → Type 0) (blocks : List PoolBlock) (from to place : ℕ) (block : PoolBlock) → Spaced frame blocks from to →
    AllBefore frame P blocks place → begun_in frame blocks place ≡ Some block → Around frame P blocks block
around frame P [] from to place block s all is = absurd (none_some refl is)
around frame P (first ∷ blocks) from to place block (at, aligned, (next, later, more)) all is =
    elim (cases_eq first.addr (place + frame)) [
      | inl same ↦
          record {
            before = [];
            behind = blocks;
            whole = ap (λ (b : PoolBlock). b ∷ blocks) (same_Some first block (sym (begun_first frame first blocks place same) ∙ is));
            all = All-nil P;
          }
      | inr off ↦
          let is' = sym (begun_later frame first blocks place off) ∙ is in
          let a = around frame P blocks next to place block more (All-tail (IfBefore frame P place) first blocks all) is' in
          record {
            before = first ∷ a.before;
            behind = a.behind;
            whole = ap (λ (l : List PoolBlock). first ∷ l) a.whole;
            all =
                All-cons P first a.before
                (All-head (IfBefore frame P place) first blocks all (elim (cases_lt place next) [
                  | inl less ↦ absurd (none_some (spaced_before frame blocks next to place more less) is')
                  | inr ge ↦ omega (arith, ge, later, at)
                ])) a.all;
          }
    ]
