-- What the block of an extent in a chain says, and how many bytes the chain has.
use Rattle.std.proofs.Common.{◌≡◌, ◌+◌, ◌<◌, ◌^◌, ℕ, List, [], ◌∷◌, ◌++◌, length, get_or, Option, Some, refl, sym, ◌∙◌, arith, subst, append_assoc}
use Rattle.std.proofs.lemmas.List.Elements.{All-head, All-tail}
use Rattle.std.proofs.lemmas.List.Sums.{sum_by-cons}
use Rattle.sdr_base.specs.Blocks.{Block, Blocks}
use Rattle.sdr_base.specs.Linked.{first_of}
use Rattle.sdr_base.specs.Words.{HasWord, layout}
use Rattle.sdr_base.specs.ZcoObjects.{ExtentRow, extent_addr, extent_block}
use Rattle.sdr_base.specs.declared.kind.Kind.{Kind}
use Rattle.sdr_base.specs.declared.kind.Kind.TheVariants as kinds
use Rattle.sdr_base.proofs.LayoutLemmas.{number_at-layout}
use Rattle.zco_obj.specs.Kept.{ExtentFits, extents_length}
use Rattle.zco_obj.specs.Walks.{ExtentsAt, KeepsExtent, SeesExtent, Sums, TellsExtents}
use Rattle.zco_obj.proofs.KeptLemmas.{first_extent}
use Rattle.zco_obj.proofs.SumLemmas.{extents_all, extents_on, extents_start}
use Rattle.zco_obj.proofs.WalkLemmas.{fits_left, none_at_zero, one_found, sees_extent}

-- a word of a block is there
pub word_there : (o : Option Block) (kind : Kind) (ws rest : List ℕ) (n : ℕ) →
    o ≡ Some (record { kind = kind; bytes = layout ws rest }) → n < length ws → get_or ws n 0 < 2 ^ 64 → HasWord o n (get_or ws n 0)
word_there o kind ws rest n e h fits =
    subst (λ x. HasWord x n (get_or ws n 0)) (sym e) (sym (number_at-layout ws rest n h fits))

-- whichever chain is there where one is has as many bytes as it
module _ {blocks : Blocks} {first : ℕ} {rows : List ExtentRow} (c : ExtentsAt blocks first rows) where
  pub keeps_at : (passed : List ExtentRow) (x : ExtentRow) (xs : List ExtentRow) → rows ≡ passed ++ (x ∷ xs) →
      KeepsExtent (blocks x.addr) (first_of extent_addr 0 xs) x
  keeps_at passed x xs w =
      let fits = fits_left ExtentFits extent_addr extent_block c passed (x ∷ xs) w in
      record {
        block = one_found ExtentFits extent_addr extent_block c passed x xs w;
        fits = All-head ExtentFits x xs fits;
        small = first_extent xs (All-tail ExtentFits x xs fits);
      }

  sees_at : (passed : List ExtentRow) (x : ExtentRow) (xs : List ExtentRow) → rows ≡ passed ++ (x ∷ xs) →
      SeesExtent (blocks x.addr) (record { source = x.source; length = x.length; next = first_of extent_addr 0 xs })
  sees_at passed x xs w =
      let k = keeps_at passed x xs w in
      let ws = x.source ∷ x.offset ∷ x.length ∷ first_of extent_addr 0 xs ∷ [] in
      sees_extent x.source x.length (first_of extent_addr 0 xs)
      (word_there (blocks x.addr) kinds.Extent ws [] 0 k.block (omega arith) k.fits.source)
      (word_there (blocks x.addr) kinds.Extent ws [] 2 k.block (omega arith) (let i = k.fits.inside in omega (arith, i)))
      (word_there (blocks x.addr) kinds.Extent ws [] 3 k.block (omega arith) k.small)

  summed : (passed left : List ExtentRow) → rows ≡ passed ++ left → (cursor i total : ℕ) → cursor ≡ first_of extent_addr 0 left →
      Sums ExtentFits extent_addr extent_block (λ (e : ExtentRow). e.length) blocks first cursor i total →
      TellsExtents blocks first (total + extents_length left)
  summed passed [] w cursor i total e s =
      subst (TellsExtents blocks first) (omega arith) (extents_all s e)
  summed passed (x ∷ xs) w cursor i total e s =
      let nz : cursor ≡ 0 → ⊥ = λ z. none_left (none_at_zero ExtentFits extent_addr extent_block c passed (x ∷ xs) w e z) in
      let v = subst (λ a. SeesExtent (blocks a) (record { source = x.source; length = x.length; next = first_of extent_addr 0 xs })) (sym e)
      (sees_at passed x xs w) in
      let more = summed (passed ++ (x ∷ [])) xs (w ∙ sym (append_assoc passed (x ∷ []) xs)) (first_of extent_addr 0 xs) (i + 1)
      (total + x.length) refl
      (extents_on (record { source = x.source; length = x.length; next = first_of extent_addr 0 xs }) s nz v) in
      subst (TellsExtents blocks first) (let n = sum_by-cons (λ (y : ExtentRow). y.length) x xs in omega (arith, n)) more
    where
      none_left : {y : ExtentRow} {ys : List ExtentRow} → y ∷ ys ≡ [] → ⊥
      none_left z = cc

  pub as_many_bytes : TellsExtents blocks first (extents_length rows)
  as_many_bytes =
      subst (TellsExtents blocks first) (omega arith) (summed [] rows refl first 0 0 c.at_first (extents_start blocks first))
