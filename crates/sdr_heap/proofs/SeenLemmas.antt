-- What the collections see of a heap, and what its calls do to that.
use Rattle.std.proofs.Common.{◌≡◌, ◌≢◌, ◌<◌, inl, inr, ℕ, ◌-◌, ◌/◌, ◌^◌, Bool, true, List, [], ◌∷◌, ◌++◌}
use Rattle.std.proofs.Common.{length, sym, ap, ◌∙◌, arith, subst}
use Rattle.std.specs.Prelude.{Option, Some, None, replicate}
use Rattle.std.proofs.Math.Path.{fun_ext}
use Rattle.std.proofs.lemmas.Bool.{cases_eq}
use Rattle.sdr_base.specs.Blocks.{Block, Blocks, Reaches, with_at, with_block}
use Rattle.sdr_base.specs.Moves.{KeepsSome}
use Rattle.sdr_base.specs.Objects.{Heap, TakesZeros, with_mark, with_root}
use Rattle.sdr_base.specs.Pools.{Pools}
use Rattle.sdr_base.specs.Rules.{words_for}
use Rattle.sdr_base.specs.declared.kind.Kind.{Kind}
use Rattle.sdr_base.specs.declared.moves.Move.{Move}
use Rattle.sdr_base.specs.declared.moves.Move.TheVariants.{Took}
use Rattle.sdr_base.proofs.KeptPoolsLemmas.{in_order}
use Rattle.sdr_base.proofs.ObjectsLemmas.{with_block-here, with_block-apart}
use Rattle.sdr_heap.specs.Calls.{Chooses, IsSomeBare, Labels}
use Rattle.sdr_base.specs.KeptHeap.{KeepsHeap, KeepsRegion, KeepsSomeHeap, block_in, root_in}
use Rattle.sdr_heap.specs.Noted.{Held, marked_in}
use Rattle.sdr_heap.proofs.LabelLemmas.{bare_place}
use Rattle.sdr_heap.proofs.MarkLemmas.{HasMark, has_mark}
use Rattle.sdr_heap.proofs.RootLemmas.{PutsRoot}
use Rattle.sdr_heap.proofs.HeldLemmas.{chosen, keeps_region}

-- what the collections see of a heap
abbrev pub heap_of : {C : Type 0} → (C → List ℕ) → Held C → Heap
heap_of bytes held = record {
  size = held.size;
  blocks = block_in (bytes held.cells);
  roots = root_in (bytes held.cells);
  marks = marked_in held.marks;
  moves = held.moves;
  spare = held.spare;
}

-- a heap with another control word
pub heap_root : {C : Type 0} (bytes : C → List ℕ) (inside seen : Held C) (cells : C) (word value : ℕ) → inside ≡ seen →
    PutsRoot word value (bytes inside.cells) (bytes cells) →
    heap_of bytes (record inside { cells = cells }) ≡ with_root (heap_of bytes seen) word value
heap_root {C = C} bytes inside seen cells word value is puts =
    ap (λ (b : Blocks). record (heap_of bytes (record inside { cells = cells })) { blocks = b }) puts.blocks
    ∙ ap (λ (r : ℕ → ℕ). record (heap_of bytes inside) { roots = r }) puts.roots
    ∙ ap (λ (h : Held C). with_root (heap_of bytes h) word value) is

-- a heap with an address marked
pub heap_mark : {C : Type 0} (bytes : C → List ℕ) (inside seen : Held C) (marks : List Bool) (addr : ℕ) →
    inside ≡ seen →
    marked_in marks ≡ with_at (marked_in inside.marks) addr true →
    heap_of bytes (record inside { marks = marks }) ≡ with_mark (heap_of bytes seen) addr
heap_mark {C = C} bytes inside seen marks addr is marked =
    ap (λ (m : ℕ → Bool). record (heap_of bytes inside) { marks = m }) marked
    ∙ ap (λ (h : Held C). with_mark (heap_of bytes h) addr) is

-- what a call that takes a block does to a heap, step by step
pub record TakesSteps (kind : Kind) (need addr : ℕ) (x y : List ℕ) : Type 0 where
  pub nonzero : addr ≢ 0
  pub small : addr < 2 ^ 32
  pub fresh : block_in x addr ≡ None
  pub blocks : block_in y ≡ with_block (block_in x) addr (Some (record { kind = kind; bytes = replicate need 0 }))
  pub roots : root_in y ≡ root_in x

pub heap_took : {C : Type 0} (bytes : C → List ℕ) (inside seen : Held C) (cells : C) (marks : List Bool)
    (moves : List Move) (spare : ℕ) (kind : Kind) (need addr : ℕ) → inside ≡ seen →
    TakesSteps kind need addr (bytes inside.cells) (bytes cells) →
    marked_in marks ≡ with_at (marked_in inside.marks) addr true → moves ≡ inside.moves ++ Took need addr ∷ [] →
    spare ≡ inside.spare - 1 →
    TakesZeros kind need addr (heap_of bytes seen) (heap_of bytes (record inside {
      cells = cells;
      marks = marks;
      moves = moves;
      spare = spare;
    }))
heap_took {C = C} bytes inside seen cells marks moves spare kind need addr is steps marked moved left =
    subst (λ (h : Held C). TakesZeros kind need addr (heap_of bytes h) (heap_of bytes (record inside {
      cells = cells;
      marks = marks;
      moves = moves;
      spare = spare;
    }))) is (record {
      nonzero = steps.nonzero;
      small = steps.small;
      fresh = steps.fresh;
      taken =
          ap (λ (b : Blocks). record (after (root_in (bytes cells)) (marked_in marks) moves spare) { blocks = b })
          steps.blocks
          ∙ ap (λ (r : ℕ → ℕ). after r (marked_in marks) moves spare) steps.roots
          ∙ ap (λ (m : ℕ → Bool). after (root_in (bytes inside.cells)) m moves spare) marked
          ∙ ap (λ (l : List Move). after (root_in (bytes inside.cells)) marks' l spare) moved
          ∙ ap (λ (n : ℕ). after (root_in (bytes inside.cells)) marks' (inside.moves ++ Took need addr ∷ []) n) left;
    })
  where
    marks' : ℕ → Bool
    marks' = with_at (marked_in inside.marks) addr true

    after : (ℕ → ℕ) → (ℕ → Bool) → List Move → ℕ → Heap
    after roots marks moves spare = record {
      size = inside.size;
      blocks = with_block (block_in (bytes inside.cells)) addr
          (Some (record { kind = kind; bytes = replicate need 0 }));
      roots = roots;
      marks = marks;
      moves = moves;
      spare = spare;
    }

-- a block that was chosen and labelled
pub takes_steps : (x z y : List ℕ) (kind : Kind) (need addr : ℕ) (P : Pools) → KeepsHeap x P →
    Chooses (words_for need) (Some addr) x z → Labels addr kind need z y → TakesSteps kind need addr x y
takes_steps x z y kind need addr P keeps chooses labels =
    let c = chosen x z (words_for need) addr P keeps chooses in
    let b = bare_place z addr need (record { pools = c.pools; bare = c.block.bare }) in
    let most = (in_order z c.pools c.block.bare.small).most in
    record {
      nonzero = λ is. omega (arith, is, b.least);
      small = omega (arith, b.inside, most);
      fresh = c.block.fresh;
      blocks = fun_ext (λ other. elim (cases_eq other addr) [
        | inl is ↦ subst (λ (a : ℕ). block_in y a
            ≡ with_block (block_in x) addr (Some (record { kind = kind; bytes = replicate need 0 })) a) (sym is)
            (labels.here ∙ sym (with_block-here (block_in x) addr
            (Some (record { kind = kind; bytes = replicate need 0 }))))
        | inr differ ↦
            labels.beside.blocks other differ ∙ c.block.beside.blocks other differ
            ∙ sym (with_block-apart (block_in x) addr
            (Some (record { kind = kind; bytes = replicate need 0 })) other differ)
      ]);
      roots = labels.beside.roots ∙ c.block.beside.roots;
    }

-- a block that was chosen can be labelled
pub some_bare : (x z : List ℕ) (need addr : ℕ) → KeepsSomeHeap x → Chooses (words_for need) (Some addr) x z →
    IsSomeBare need addr z
some_bare x z need addr kept chooses =
    let c = chosen x z (words_for need) addr kept.pools kept.keeps chooses in
    record { pools = c.pools; bare = c.block.bare }

-- what was chosen for so many words was chosen for the bytes that need them
pub chosen_for : (need words : ℕ) (found addr : Option ℕ) (x z : List ℕ) → words ≡ words_for need → found ≡ addr →
    Chooses words found x z → Chooses (words_for need) addr x z
chosen_for need words found addr x z many is chooses =
    subst (λ (n : ℕ). Chooses n addr x z) many (subst (λ (o : Option ℕ). Chooses words o x z) is chooses)

-- there is a mark for a block that was chosen and labelled
pub took_mark : {C : Type 0} (bytes : C → List ℕ) (inside seen : Held C) (z y : List ℕ) (kind : Kind) (need addr : ℕ) →
    inside ≡ seen → KeepsSome (KeepsRegion seen.size (bytes seen.cells)) → length y ≡ length (bytes inside.cells) →
    Chooses (words_for need) (Some addr) (bytes inside.cells) z → Labels addr kind need z y →
    length inside.marks ≡ inside.size / 8 → HasMark inside.marks addr
took_mark {C = C} bytes inside seen z y kind need addr is kept size chooses labels many =
    let region = subst (λ (h : Held C). KeepsRegion h.size (bytes h.cells) kept.pools) (sym is) kept.keeps in
    let c = chosen (bytes inside.cells) z (words_for need) addr kept.pools region.heap chooses in
    has_mark inside.size y inside.marks c.pools addr
    (keeps_region inside.size y c.pools (size ∙ region.size) (labels.kept c.pools c.block.bare)) many
    (subst (λ (b : Option Block). Reaches b 0) (sym labels.here) (omega arith))
