-- The bytes of blocks in use.
use Rattle.std.proofs.Common.{◌≡◌, ◌≤◌, ◌<◌, ◌+◌, ◌/◌, ◌^◌, ℕ, List, [], drop, take, length, min, arith, ap, ◌∙◌, refl, sym, inl, inr, length-drop, length-take}
use Rattle.std.specs.Prelude.{Option, None, Some}
use Rattle.std.proofs.lemmas.Bool.{cases_lt}
use Rattle.std.proofs.lemmas.List.{take_all}
use Rattle.sdr_base.specs.Blocks.{Block}
use Rattle.sdr_base.specs.Cells.{IsRegionSize}
use Rattle.sdr_base.specs.KeptHeap.{block_in}
use Rattle.audit_owners.specs.Reading.{bytes_of}
use Rattle.audit_owners.proofs.RegionLemmas.{is_part}
use Rattle.audit_owners.specs.View.{length_of}

-- no more than all is taken
pub take_within : {X : Type 0} (n : ℕ) (l : List X) → take (min n (length l)) l ≡ take n l
take_within n l = elim (cases_lt (length l) n) [
  | inl less ↦ take_all (min n (length l)) l (omega (arith, less)) ∙ sym (take_all n l (omega (arith, less)))
  | inr few ↦ let e : min n (length l) ≡ n = omega (arith, few) in ap (λ (k : ℕ). take k l) e
]

-- the bytes of a block are those of the region from its address on
pub record LiesAt (x : List ℕ) (addr : ℕ) (b : Option Block) : Type 0 where
  pub inside : length_of b ≡ 0 → ⊥
  pub end : addr + length_of b ≤ length x
  pub is : take (length_of b) (drop addr x) ≡ bytes_of b

lies_there : (x : List ℕ) (addr : ℕ) (b : Option Block) → block_in x addr ≡ b → (length_of b ≡ 0 → ⊥) → LiesAt x addr b
lies_there x addr None is some = absurd (some refl)
lies_there x addr (Some block) is some =
    let p = is_part x addr block is in
    let long = length-drop addr x in
    let e : length block.bytes ≡ min p.count (length (drop addr x)) =
    ap (λ (l : List ℕ). length l) p.bytes ∙ length-take p.count (drop addr x) in
    let inside = p.inside in
    record {
      inside = some;
      end = omega (arith, e, long, inside);
      is = ap (λ (n : ℕ). take n (drop addr x)) e ∙ take_within p.count (drop addr x) ∙ sym p.bytes;
    }

pub lies_at : (x : List ℕ) (addr : ℕ) → (length_of (block_in x addr) ≡ 0 → ⊥) → LiesAt x addr (block_in x addr)
lies_at x addr some = lies_there x addr (block_in x addr) refl some

-- a block without bytes has none
pub no_bytes : (b : Option Block) → length_of b ≡ 0 → bytes_of b ≡ []
no_bytes None none = refl
no_bytes (Some block) none = sym (take_all 0 block.bytes (omega (arith, none)))

-- a block in use has no more bytes than the region
length_within : (x : List ℕ) (addr : ℕ) (b : Option Block) → block_in x addr ≡ b → length_of b ≤ length x
length_within x addr None is = omega arith
length_within x addr (Some block) is =
    let p = is_part x addr block is in
    let e = ap (λ (l : List ℕ). length l) p.bytes ∙ length-take p.count (drop addr x) ∙ ap (min p.count) (length-drop addr x) in
    omega (arith, e)

pub few_bytes : (x : List ℕ) (addr : ℕ) → IsRegionSize (length x) → length_of (block_in x addr) < 2 ^ 30
few_bytes x addr region =
    let within = length_within x addr (block_in x addr) refl in
    let whole = region.whole in
    let most = region.most in
    omega (arith, within, whole, most)

pub few_words : (x : List ℕ) → IsRegionSize (length x) → length x / 8 < 2 ^ 30
few_words x region =
    let whole = region.whole in
    let most = region.most in
    omega (arith, whole, most)
