-- How moves lead from heap to heap, and what holds where a call was stopped.
use Rattle.std.proofs.Common.{◌≡◌, ℕ, ◌/◌, List, [], ◌∷◌, ◌++◌}
use Rattle.std.proofs.Common.{length, refl, sym, ap, ◌∙◌, subst, arith}
use Rattle.std.specs.Prelude.{Option, Some, None, Result, Ok, Err, IfErr, OnOk}
use Rattle.std.specs.Option.{option_or}
use Rattle.std.proofs.lemmas.List.{append-nil}
use Rattle.sdr_base.specs.Blocks.{Uses}
use Rattle.sdr_base.specs.Entries.{Few}
use Rattle.sdr_base.specs.LargePool.{take_large}
use Rattle.sdr_base.specs.Moves.{KeepsSome, Moves}
use Rattle.sdr_base.specs.Objects.{Heap, IsUnmoved, OnlyFull, OnlyShort, OnlyUnmoved, Settled, UnlessStop}
use Rattle.sdr_base.specs.Pools.{Pools}
use Rattle.sdr_base.specs.Rules.{give_of, take_of, words_for}
use Rattle.sdr_base.specs.SmallPool.{Taken, take_small}
use Rattle.sdr_base.specs.declared.kind.Kind.{Kind}
use Rattle.sdr_base.specs.declared.moves.Move.{Move}
use Rattle.sdr_base.specs.declared.moves.Move.TheVariants.{Took, Gave, Short}
use Rattle.sdr_base.specs.declared.refusal.Refusal.TheVariants.{LogFull}
use Rattle.sdr_base.specs.declared.stop.Stop.{Stop}
use Rattle.sdr_base.specs.declared.stop.Stop.TheVariants.{Refused, DiskFault, MediaFault, Failed}
use Rattle.sdr_base.proofs.MovesLemmas.{Moves-none, Moves-one}
use Rattle.sdr_heap.specs.Calls.{Chooses, ChoosesBy, ChoosesBlock, GivesBack, Labels}
use Rattle.sdr_base.specs.KeptHeap.{KeepsHeap, KeepsRegion, KeepsSomeHeap, block_in}
use Rattle.sdr_heap.specs.Noted.{Held}
use Rattle.sdr_heap.proofs.FewLemmas.{block_in-few}
use Rattle.sdr_heap.proofs.MarkLemmas.{HasMark, has_mark}

-- a heap that is kept in a region of so many bytes
pub keeps_region : (n : ℕ) (x : List ℕ) (P : Pools) → length x ≡ n → KeepsHeap x P → KeepsRegion n x P
keeps_region n x P size keeps = record {
  size = size;
  heap = keeps;
  few = subst (λ (k : ℕ). Few k (block_in x)) size (block_in-few x P keeps);
}

-- where the same pools are kept, no move fits
pub moved_kept : (n : ℕ) (x y : List ℕ) (moves : List Move) → length y ≡ length x →
    ((P : Pools) → KeepsHeap x P → KeepsHeap y P) → Moves (KeepsRegion n x) (KeepsRegion n y) moves moves
moved_kept n x y moves size kept =
    Moves-none (KeepsRegion n x) (KeepsRegion n y) moves
    (λ P region. keeps_region n y P (size ∙ region.size) (kept P region.heap))

-- so it is where the bytes are the same
pub moved_same : (n : ℕ) (x y : List ℕ) (moves : List Move) → y ≡ x →
    Moves (KeepsRegion n x) (KeepsRegion n y) moves moves
moved_same n x y moves same =
    moved_kept n x y moves (ap length same) (λ P keeps. subst (λ (l : List ℕ). KeepsHeap l P) (sym same) keeps)

-- moves that lead on from a heap lead on from what is seen of it
pub held_moved : {C : Type 0} (bytes : C → List ℕ) (n : ℕ) (y : List ℕ) (moves : List Move) (inside seen : Held C) →
    inside ≡ seen → Moves (KeepsRegion inside.size (bytes inside.cells)) (KeepsRegion n y) inside.moves moves →
    Moves (KeepsRegion seen.size (bytes seen.cells)) (KeepsRegion n y) seen.moves moves
held_moved {C = C} bytes n y moves inside seen is moved =
    subst (λ (h : Held C). Moves (KeepsRegion h.size (bytes h.cells)) (KeepsRegion n y) h.moves moves) is moved

-- what is seen of a heap that is kept is kept inside
pub kept_inside : {C : Type 0} (bytes : C → List ℕ) (inside seen : Held C) → inside ≡ seen →
    KeepsSome (KeepsRegion seen.size (bytes seen.cells)) → KeepsSomeHeap (bytes inside.cells)
kept_inside {C = C} bytes inside seen is kept =
    subst (λ (h : Held C). KeepsSomeHeap (bytes h.cells)) (sym is)
    (record { pools = kept.pools; keeps = kept.keeps.heap })

-- there is a mark for the address of a block in use
pub mark_inside : {C : Type 0} (bytes : C → List ℕ) (inside seen : Held C) (addr : ℕ) → inside ≡ seen →
    KeepsSome (KeepsRegion seen.size (bytes seen.cells)) → Uses (block_in (bytes seen.cells)) addr →
    length inside.marks ≡ inside.size / 8 → HasMark inside.marks addr
mark_inside {C = C} bytes inside seen addr is kept uses many =
    has_mark inside.size (bytes inside.cells) inside.marks kept.pools addr
    (subst (λ (h : Held C). KeepsRegion h.size (bytes h.cells) kept.pools) (sym is) kept.keeps) many
    (subst (λ (h : Held C). Uses (block_in (bytes h.cells)) addr) (sym is) uses)

-- a block that was given back is one move
pub moved_gave : (n : ℕ) (x y : List ℕ) (addr : ℕ) (moves : List Move) → length y ≡ length x → GivesBack addr x y →
    Moves (KeepsRegion n x) (KeepsRegion n y) moves (moves ++ Gave addr ∷ [])
moved_gave n x y addr moves size gives =
    Moves-one (KeepsRegion n x) (KeepsRegion n y) moves (moves ++ Gave addr ∷ []) (Gave addr) refl (λ P region. record {
      after = give_of P addr;
      keeps = keeps_region n y (give_of P addr) (size ∙ region.size) (gives.rule P region.heap);
      fit = (gives.used P region.heap, refl);
    })

-- where none was chosen, the rule gives none
none_taken : (words : ℕ) (taken : Option Taken) (x y : List ℕ) → ChoosesBy words taken None x y → taken ≡ None
none_taken words None x y by = refl
none_taken words (Some taken) x y by = let none : None ≡ Some taken.addr = by.addr in absurd cc

-- that is one move too
pub moved_short : (n : ℕ) (x y : List ℕ) (need : ℕ) (moves : List Move) → y ≡ x → Chooses (words_for need) None x y →
    Moves (KeepsRegion n x) (KeepsRegion n y) moves (moves ++ Short need ∷ [])
moved_short n x y need moves same chooses =
    Moves-one (KeepsRegion n x) (KeepsRegion n y) moves (moves ++ Short need ∷ []) (Short need) refl
    (λ P region. record {
      after = P;
      keeps = subst (λ (l : List ℕ). KeepsRegion n l P) (sym same) region;
      fit = (none_taken (words_for need) (take_of P need) x y (chooses.rule P region.heap), refl);
    })

-- where none was chosen, the bytes stay
pub none_same : (x y : List ℕ) (words : ℕ) (P : Pools) → KeepsHeap x P → Chooses words None x y → y ≡ x
none_same x y words P keeps chooses =
    same (option_or (take_small P words) (take_large P words)) (chooses.rule P keeps)
  where
    same : (taken : Option Taken) → ChoosesBy words taken None x y → y ≡ x
    same None by = by.1
    same (Some taken) by = let none : None ≡ Some taken.addr = by.addr in absurd cc

-- the rule gives the block that was chosen
pub record GivesChosen (words addr : ℕ) (P : Pools) (x y : List ℕ) : Type 0 where
  pub pools : Pools
  pub rule : option_or (take_small P words) (take_large P words) ≡ Some (record { addr = addr; pools = pools })
  pub block : ChoosesBlock words (record { addr = addr; pools = pools }) (Some addr) x y

pub chosen : (x y : List ℕ) (words addr : ℕ) (P : Pools) → KeepsHeap x P → Chooses words (Some addr) x y →
    GivesChosen words addr P x y
chosen x y words addr P keeps chooses =
    of (option_or (take_small P words) (take_large P words)) refl (chooses.rule P keeps)
  where
    of : (taken : Option Taken) → option_or (take_small P words) (take_large P words) ≡ taken →
        ChoosesBy words taken (Some addr) x y → GivesChosen words addr P x y
    of None is by = let none : Some addr ≡ None = by.0 in absurd cc
    of (Some taken) is by =
        let same : taken.addr ≡ addr = some_of (sym by.addr) in
        record {
          pools = taken.pools;
          rule = is ∙ ap (λ (a : ℕ). Some (record { addr = a; pools = taken.pools })) same;
          block = subst (λ (a : ℕ). ChoosesBlock words (record { addr = a; pools = taken.pools })
              (Some addr) x y) same by;
        }
      where
        some_of : {a b : ℕ} → Some a ≡ Some b → a ≡ b
        some_of both = cc

-- a block that was chosen and labelled is one move
pub moved_took : (n : ℕ) (x z y : List ℕ) (kind : Kind) (need addr : ℕ) (moves : List Move) → length y ≡ length x →
    Chooses (words_for need) (Some addr) x z → Labels addr kind need z y →
    Moves (KeepsRegion n x) (KeepsRegion n y) moves (moves ++ Took need addr ∷ [])
moved_took n x z y kind need addr moves size chooses labels =
    Moves-one (KeepsRegion n x) (KeepsRegion n y) moves (moves ++ Took need addr ∷ []) (Took need addr) refl
    (λ P region.
    let c = chosen x z (words_for need) addr P region.heap chooses in
    record {
      after = c.pools;
      keeps = keeps_region n y c.pools (size ∙ region.size) (labels.kept c.pools c.block.bare);
      fit = (c.pools, c.rule, refl);
    })

-- what holds after Ok holds unless the call was stopped for want of log room or by a fault
pub Settled-from : {T : Type 0} (P : Type 0) (result : Result T Stop) → OnOk result P → IfErr result OnlyFull →
    Settled result P
Settled-from P (Ok value) p full = p
Settled-from P (Err (Refused (LogFull lines room))) p full = tt
Settled-from P (Err (Refused refusal)) p full = absurd full
Settled-from P (Err DiskFault) p full = tt
Settled-from P (Err MediaFault) p full = tt
Settled-from P (Err Failed) p full = tt

-- where it was, nothing is claimed
pub stopped : (P : Type 0) (stop : Stop) → OnlyFull stop → UnlessStop stop P
stopped P (Refused (LogFull lines room)) full = tt
stopped P (Refused refusal) full = absurd full
stopped P DiskFault full = tt
stopped P MediaFault full = tt
stopped P Failed full = tt

-- a call that was stopped before its first move, by want of log room or by a fault
pub full_short : (need : ℕ) {old new : Heap} (stop : Stop) → IsUnmoved old new → OnlyFull stop →
    OnlyShort need old new stop
full_short need {old} {new} (Refused (LogFull lines room)) same full = record {
  addr = 0;
  made = [];
  first = record { rest = Took need 0 ∷ []; whole = refl };
  moves = same.moves ∙ sym (append-nil old.moves);
  spare = let is = same.spare in omega (arith, is);
}
full_short need (Refused refusal) same full = absurd full
full_short need DiskFault same full = tt
full_short need MediaFault same full = absurd full
full_short need Failed same full = tt

pub full_unmoved : {old new : Heap} (stop : Stop) → IsUnmoved old new → OnlyFull stop → OnlyUnmoved old new stop
full_unmoved (Refused (LogFull lines room)) same full = same
full_unmoved (Refused refusal) same full = absurd full
full_unmoved DiskFault same full = tt
full_unmoved MediaFault same full = absurd full
full_unmoved Failed same full = tt
