-- A chain of extents, and one of them.
use Rattle.std.proofs.Common.{◌≡◌, ◌≢◌, ◌∙◌, ◌≤◌, ◌<◌, ℕ, List, [], ◌∷◌, ◌++◌, refl, ap, subst, arith, append_assoc, length-append}
use Rattle.std.proofs.lemmas.List.Elements.{All-cons, All-head, All-tail}
use Rattle.std.specs.Prelude.{All}
use Rattle.sdr_base.proofs.ChainLemmas.{last_holds}
use Rattle.sdr_base.proofs.LayoutLemmas.{length-layout}
use Rattle.sdr_base.proofs.StandingLemmas.{moved}
use Rattle.sdr_base.specs.Blocks.{Blocks, Reaches}
use Rattle.sdr_base.specs.Entries.{Changes, Entries, BlocksAre}
use Rattle.sdr_base.specs.Linked.{first_of, last_of, linked}
use Rattle.sdr_base.specs.Objects.{Heap}
use Rattle.sdr_base.specs.ZcoObjects.{ExtentRow, extent_addr, extent_block, extent_entries}
use Rattle.zco_strip.proofs.ChainChanges.{in_two, one_cut}
use Rattle.zco_strip.specs.Chain.{ChainOf}
use Rattle.zco_strip.specs.Cuts.{HasByte, cut}
use Rattle.zco_strip.specs.Parting.{CutsTo}
use Rattle.zco_obj.proofs.KeptLemmas.{first_extent}
use Rattle.zco_obj.proofs.WalkLemmas.{fits_from, fits_left, one_found}
use Rattle.zco_obj.specs.Kept.{ExtentFits}
use Rattle.zco_obj.specs.Walks.{ExtentsAt, KeepsExtent, SomeExtent}

-- what is left of a chain is one
pub chain_left : {blocks : Blocks} {first : ℕ} (passed left : List ExtentRow) (at : ℕ) → ExtentsAt blocks first (passed ++ left) →
    at ≡ first_of extent_addr 0 left → ExtentsAt blocks at left
chain_left {blocks} passed left at c is =
    let front = linked extent_addr extent_block 0 (first_of extent_addr 0 left) passed in
    record {
      rest = front ++ c.rest;
      stands =
          moved front (extent_entries left) c.rest
          (subst (λ (es : Entries). BlocksAre blocks es)
          (ap (λ (es : Entries). es ++ c.rest) (in_two 0 passed left) ∙ append_assoc front (extent_entries left) c.rest) c.stands);
      at_first = is;
      fits = fits_from ExtentFits passed left c.fits;
      few = let all = length-append passed left in let few = c.few in omega (arith, all, few);
    }

-- and an extent of one is there
pub one_kept : {blocks : Blocks} {first : ℕ} (before : List ExtentRow) (e : ExtentRow) (behind : List ExtentRow) →
    ExtentsAt blocks first (before ++ (e ∷ behind)) → KeepsExtent (blocks e.addr) (first_of extent_addr 0 behind) e
one_kept before e behind c =
    let fits = fits_left ExtentFits extent_addr extent_block c before (e ∷ behind) refl in
    record {
      block = one_found ExtentFits extent_addr extent_block c before e behind refl;
      fits = All-head ExtentFits e behind fits;
      small = first_extent behind (All-tail ExtentFits e behind fits);
    }

-- what holds of all but one, and of another in its place, holds of all with that
pub all_with : (P : ExtentRow → Type 0) (before : List ExtentRow) (e x : ExtentRow) (behind : List ExtentRow) →
    All P (before ++ (e ∷ behind)) → P x → All P (before ++ (x ∷ behind))
all_with P [] e x behind all p = All-cons P x behind p (All-tail P e behind all)
all_with P (b ∷ before) e x behind all p =
    All-cons P b (before ++ (x ∷ behind)) (All-head P b (before ++ (e ∷ behind)) all)
    (all_with P before e x behind (All-tail P b (before ++ (e ∷ behind)) all) p)

-- and of that one
pub all_at : (P : ExtentRow → Type 0) (before : List ExtentRow) (e : ExtentRow) (behind : List ExtentRow) →
    All P (before ++ (e ∷ behind)) → P e
all_at P before e behind all = All-head P e behind (fits_from P before (e ∷ behind) all)

-- an extent that is cut fits still
cut_fits : (from to : ℕ) (e : ExtentRow) → from ≤ to → ExtentFits e → ExtentFits (cut from to e)
cut_fits from to e le f = record {
  addr = f.addr;
  source = f.source;
  inside = let i = f.inside in omega (arith, i, le);
}

-- a chain begins where it began
pub same_first : (before : List ExtentRow) (e x : ExtentRow) (behind : List ExtentRow) → e.addr ≡ x.addr →
    first_of extent_addr 0 (before ++ (e ∷ behind)) ≡ first_of extent_addr 0 (before ++ (x ∷ behind))
same_first [] e x behind same = same
same_first (b ∷ before) e x behind same = refl

-- the last one of a chain is there
pub last_reaches : {b : Blocks} (front rest : Entries) (next : ℕ) (rows : List ExtentRow) →
    BlocksAre b (front ++ (linked extent_addr extent_block 0 next rows ++ rest)) → last_of extent_addr 0 rows ≢ 0 →
    Reaches (b (last_of extent_addr 0 rows)) 32
last_reaches front rest next [] s nz = absurd (nz refl)
last_reaches {b} front rest next (x ∷ xs) s nz =
    last_holds extent_addr extent_block (λ o. Reaches o 32) b front rest 0 next x xs
    (λ p y. let l = length-layout (y.source ∷ y.offset ∷ y.length ∷ next ∷ []) [] in omega (arith, l)) s

-- an extent of a chain, each of which has a byte
module _ (old : Heap) {first : ℕ} (before : List ExtentRow) (e : ExtentRow) (behind : List ExtentRow)
    (c : ChainOf old.blocks first (before ++ (e ∷ behind))) where
  here : KeepsExtent (old.blocks e.addr) (first_of extent_addr 0 behind) e
  here = one_kept before e behind c.chain

  pub one_there : SomeExtent (old.blocks e.addr)
  one_there = record { next = first_of extent_addr 0 behind; extent = e; keeps = here }

  -- it is cut
  module _ {new : Heap} (from to : ℕ) (cuts : CutsTo e.addr from to old new) where
    pub chain_cut : Changes old.blocks new.blocks (extent_entries (before ++ (e ∷ behind)))
        (extent_entries (before ++ (cut from to e ∷ behind)))
    chain_cut = one_cut from to before e behind (cuts.cuts (first_of extent_addr 0 behind) e here)

    -- and the chain is there still
    pub still_chain : from < to → from < e.length → ChainOf new.blocks first (before ++ (cut from to e ∷ behind))
    still_chain lt within = record {
      chain = record {
        rest = c.chain.rest;
        stands = chain_cut.kept c.chain.rest c.chain.stands;
        at_first = c.chain.at_first ∙ same_first before e (cut from to e) behind refl;
        fits = all_with ExtentFits before e (cut from to e) behind c.chain.fits
            (cut_fits from to e (omega (arith, lt)) (all_at ExtentFits before e behind c.chain.fits));
        few =
            let was = length-append before (e ∷ behind) in
            let is = length-append before (cut from to e ∷ behind) in
            let few = c.chain.few in omega (arith, was, is, few);
      };
      bytes = all_with HasByte before e (cut from to e) behind c.bytes (omega (arith, lt, within));
    }
