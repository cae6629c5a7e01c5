-- A mark for each word of a region.
use Rattle.std.proofs.Common.{◌≡◌, ◌≢◌, ◌<◌, inl, inr, ℕ, ◌/◌, ◌%◌, Bool, true, false, cond, ◌&&◌, ◌==◌}
use Rattle.std.proofs.Common.{List, length, set, refl, sym, ap, ◌∙◌, arith, subst, get_or-set_other, get_or-set_same}
use Rattle.std.proofs.Math.Path.{fun_ext}
use Rattle.std.proofs.lemmas.Bool.{cases_eq, eq-eqb, ne_eqb}
use Rattle.std.proofs.lemmas.Bool.Decides.{nat_tests}
use Rattle.sdr_base.specs.Blocks.{Uses, with_at}
use Rattle.sdr_base.specs.Pools.{Pools}
use Rattle.sdr_base.proofs.KeptPoolsLemmas.{in_order}
use Rattle.sdr_large.proofs.PlacesLemmas.{in_order as large_order}
use Rattle.sdr_large.proofs.WalkLemmas.{tiles_whole}
use Rattle.sdr_base.specs.KeptHeap.{KeepsHeap, KeepsRegion, block_in}
use Rattle.sdr_heap.specs.Noted.{marked_in}
use Rattle.sdr_heap.proofs.BlockInLemmas.{in_use, small_block, large_block}

-- the address of a block in use is that of a whole word of the region
pub record IsWord (x : List ℕ) (addr : ℕ) : Type 0 where
  pub whole : addr % 8 ≡ 0
  pub inside : addr < length x

pub used_word : (x : List ℕ) (P : Pools) → KeepsHeap x P → (addr : ℕ) → Uses (block_in x) addr → IsWord x addr
used_word x P keeps addr uses = elim (in_use x P keeps.small keeps.large addr uses) [
  | inl used ↦
      let b = small_block x P keeps.small keeps.large addr used in
      let o = in_order x P keeps.small in
      record { whole = omega (arith, b.whole); inside = omega (arith, b.last, b.some, o.order, o.end) }
  | inr used ↦
      let b = large_block x P keeps.small keeps.large addr used in
      let q = large_order P P.end P.end (tiles_whole P keeps.large.tiles) in
      record { whole = b.whole q.whole q.end; inside = omega (arith, b.last, b.some, keeps.small.size) }
]

-- there is a mark for the word at an address
pub record HasMark (marks : List Bool) (addr : ℕ) : Type 0 where
  pub whole : addr % 8 ≡ 0
  pub inside : addr / 8 < length marks

-- so it is for the address of a block in use
pub has_mark : (n : ℕ) (x : List ℕ) (marks : List Bool) (P : Pools) (addr : ℕ) → KeepsRegion n x P →
    length marks ≡ n / 8 → Uses (block_in x) addr → HasMark marks addr
has_mark n x marks P addr region many uses =
    let w = used_word x P region.heap addr uses in
    record { whole = w.whole; inside = omega (arith, w.whole, w.inside, region.size, many) }

-- an address marked
pub marked-set : (marks : List Bool) (addr : ℕ) → addr % 8 ≡ 0 → addr / 8 < length marks →
    marked_in (set marks (addr / 8) true) ≡ with_at (marked_in marks) addr true
unfolding with_at
marked-set marks addr whole inside = fun_ext (λ other. elim (cases_eq other addr) [
  | inl is ↦ subst (λ (a : ℕ). marked_in (set marks (addr / 8) true) a ≡ cond (a == addr) true (marked_in marks a))
      (sym is)
      (here ∙ sym (ap (λ (b : Bool). cond b true (marked_in marks addr)) (eq-eqb addr addr refl)))
  | inr differ ↦
      apart other differ ∙ sym (ap (λ (b : Bool). cond b true (marked_in marks other)) (ne_eqb other addr differ))
])
  where
    test : (n : ℕ) → n ≡ 0 → (n == 0) ≡ true
    test n is = grind (arith, nat_tests)

    here : marked_in (set marks (addr / 8) true) addr ≡ true
    here = rw (test (addr % 8) whole, get_or-set_same marks (addr / 8) true false inside) refl

    apart : (other : ℕ) → other ≢ addr → marked_in (set marks (addr / 8) true) other ≡ marked_in marks other
    apart other differ = elim (cases_eq (other / 8) (addr / 8)) [
      | inr word ↦ ap (λ (v : Bool). other % 8 == 0 && v)
          (get_or-set_other marks (addr / 8) (other / 8) true false word)
      | inl word ↦ rw (ne_eqb (other % 8) 0 (λ none. differ (omega (arith, word, none, whole)))) refl
    ]
