-- Blocks that pass a test, and where they begin.
use Rattle.std.proofs.Common.{◌≡◌, ◌≤◌, ◌<◌, ◌+◌, ◌%◌, ◌==◌, ◌&&◌, ℕ, Bool, List, [], ◌∷◌, Some, cond, not, true, false, arith, ap, ◌∙◌, refl, sym, inl, inr}
use Rattle.std.specs.Prelude.{count_by}
use Rattle.std.proofs.lemmas.Bool.{and_from, and_parts, cases_Bool, eq-eqb, eqb-true, not-true, not_from_false}
use Rattle.sdr_base.proofs.PoolsLemmas.{count_by-no, count_by-yes}
use Rattle.sdr_base.specs.Pools.{PoolBlock, is_free_of}
use Rattle.audit_blocks.proofs.SpacedLemmas.{Spaced, begun_first, begun_later, none_some}
use Rattle.audit_blocks.specs.Spots.{begun_in}

-- one that begins at a place and passes a test is counted
pub begun_counts : (p : PoolBlock → Bool) (frame : ℕ) (blocks : List PoolBlock) (place : ℕ) (block : PoolBlock) → begun_in frame blocks place ≡ Some block →
    p block ≡ true → 0 < count_by p blocks
begun_counts p frame [] place block is passes = absurd (none_some refl is)
begun_counts p frame (x ∷ blocks) place block is passes = elim (cases_Bool (p x)) [
  | inl holds ↦ let c = count_by-yes p x blocks holds in omega (arith, c)
  | inr fails ↦ elim (cases_Bool (x.addr == place + frame)) [
    | inl here ↦
        let first : Some x ≡ Some block = sym (ap (λ (t : Bool). cond t (Some x) (begun_in frame blocks place)) here) ∙ is in
        let same : x ≡ block = cc in
        let d : false ≡ true = sym fails ∙ ap p same ∙ passes in cc
    | inr there ↦
        let later = sym (ap (λ (t : Bool). cond t (Some x) (begun_in frame blocks place)) there) ∙ is in
        let c = count_by-no p x blocks fails in
        let more = begun_counts p frame blocks place block later passes in
        omega (arith, c, more)
  ]
]

-- one of these blocks that passes a test, where it begins
pub record FoundBlock (p : PoolBlock → Bool) (frame : ℕ) (blocks : List PoolBlock) (from : ℕ) : Type 0 where
  pub block : PoolBlock
  pub passes : p block ≡ true
  pub place : ℕ
  pub at : block.addr ≡ place + frame
  pub whole : place % 8 ≡ 0
  pub behind : from ≤ place
  pub begun : begun_in frame blocks place ≡ Some block

-- where one that passes a test is counted, one begins
pub counted_begins : (p : PoolBlock → Bool) (frame : ℕ) (blocks : List PoolBlock) (from to : ℕ) → Spaced frame blocks from to → 0 < count_by p blocks →
    FoundBlock p frame blocks from
counted_begins p frame [] from to s some = absurd (omega (arith, some))
counted_begins p frame (x ∷ blocks) from to (at, whole, (next, later, more)) some = elim (cases_Bool (p x)) [
  | inl holds ↦ record {
    block = x;
    passes = holds;
    place = from;
    at = at;
    whole = whole;
    behind = omega arith;
    begun = begun_first frame x blocks from at;
  }
  | inr fails ↦
      let f = counted_begins p frame blocks next to more (omega (arith, some, count_by-no p x blocks fails)) in
      let behind = f.behind in
      record {
        block = f.block;
        passes = f.passes;
        place = f.place;
        at = f.at;
        whole = f.whole;
        behind = omega (arith, behind, later);
        begun = begun_later frame x blocks f.place (λ e. omega (arith, e, at, later, behind)) ∙ f.begun;
      }
]

-- the parts of the test for a free block
pub free_of_parts : (words addr : ℕ) (block : PoolBlock) → is_free_of words addr block ≡ true → (block.addr ≡ addr) × (block.words ≡ words) × (block.used ≡ false)
free_of_parts words addr block is =
    let a = and_parts (block.addr == addr && block.words == words) (not block.used) is in
    let b = and_parts (block.addr == addr) (block.words == words) a.0 in
    (eqb-true _ _ b.0, eqb-true _ _ b.1, not-true _ a.1)

pub free_of_from : (words addr : ℕ) (block : PoolBlock) → block.addr ≡ addr → block.words ≡ words → block.used ≡ false → is_free_of words addr block ≡ true
free_of_from words addr block at sized free = and_from _ _ (and_from _ _ (eq-eqb _ _ at) (eq-eqb _ _ sized)) (not_from_false _ free)
