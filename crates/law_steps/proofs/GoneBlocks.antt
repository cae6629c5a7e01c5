-- The blocks of a world without some things.
use Rattle.std.proofs.Common.{◌≡◌, ◌≤◌, ◌+◌, ℕ, List, [], ◌∷◌, ◌++◌, true, false, nat_eq, Option, Some, None, map, refl, ap, ◌∙◌, arith}
use Rattle.std.specs.Cmp.{nat_eq_equiv}
use Rattle.std.specs.List.{sum_by}
use Rattle.std.proofs.lemmas.Bool.{eqb-true}
use Rattle.std.proofs.lemmas.List.{map-append}
use Rattle.std.proofs.lemmas.List.Sums.{sum_by-append, sum_by-cons}
use Rattle.law_steps.proofs.Changes.{KeepsLimits, blocks_at}
use Rattle.law_steps.proofs.DistinctLemmas.{on_test}
use Rattle.law_steps.proofs.ThingChanges.{own_addr}
use Rattle.law_steps.proofs.WorldChanges.{swapped_limits, swapped_sums, thing_at-apart}
use Rattle.sdr_model.specs.Blocks.{addresses_of, blocks_of}
use Rattle.sdr_model.specs.Gone.{gone_blocks, gone_things, gone_with, without_things}
use Rattle.sdr_model.specs.Steps.{without_thing}
use Rattle.sdr_model.specs.Things.{block_for_extent, inner_blocks, own_block}
use Rattle.sdr_model.specs.World.{World, thing_at}
use Rattle.sdr_model.specs.declared.things.UsedBlock.{UsedBlock}
use Rattle.sdr_model.specs.declared.things.Thing.{Thing}
use Rattle.sdr_model.specs.declared.zco.Extent.{Extent}

-- what is there has one block alone
abbrev pub IsLone : Option Thing → Type 0
IsLone None = ⊥
IsLone (Some thing) = inner_blocks thing ≡ []

-- each of these things has one block alone, where those before it went
abbrev pub GoAlone : World → List ℕ → Type 0
GoAlone w [] = Unit {0}
GoAlone w (addr ∷ addrs) = IsLone (thing_at w addr) × GoAlone (without_thing w addr) addrs

-- the blocks of these things, where those before each went
abbrev pub gone_of : World → List ℕ → List UsedBlock
gone_of w [] = []
gone_of w (addr ∷ addrs) = blocks_at addr (thing_at w addr) ++ gone_of (without_thing w addr) addrs

-- they begin at these addresses
addresses_of-gone_of : (w : World) (addrs : List ℕ) → GoAlone w addrs → addresses_of (gone_of w addrs) ≡ addrs
addresses_of-gone_of w [] alone = refl
addresses_of-gone_of w (addr ∷ addrs) alone =
    map-append (λ (b : UsedBlock). b.addr) (blocks_at addr (thing_at w addr)) (gone_of (without_thing w addr) addrs)
    ∙ ap (λ front. front ++ addresses_of (gone_of (without_thing w addr) addrs)) (one (thing_at w addr) alone.0)
    ∙ ap (λ rest. addr ∷ rest) (addresses_of-gone_of (without_thing w addr) addrs alone.1)
  where
    one : (t : Option Thing) → IsLone t → addresses_of (blocks_at addr t) ≡ addr ∷ []
    one None lone = absurd lone
    one (Some thing) lone =
        ap (λ bs. (own_block addr thing).addr ∷ addresses_of bs) lone ∙ ap (λ a. a ∷ []) (own_addr addr thing)

module _ (measure : UsedBlock → ℕ) where
  -- the blocks of a world without these things
  pub gone_of-sums : (w : World) (addrs : List ℕ)
      → sum_by measure (blocks_of (without_things w addrs)) + sum_by measure (gone_of w addrs)
      ≡ sum_by measure (blocks_of w)
  gone_of-sums w [] = omega arith
  gone_of-sums w (addr ∷ addrs) =
      omega (
        arith,
        gone_of-sums (without_thing w addr) addrs,
        swapped_sums measure w addr None,
        sum_by-append measure (blocks_at addr (thing_at w addr)) (gone_of (without_thing w addr) addrs),
      )

  -- with those at one more address, if they didn't go
  pub gone_at : (w : World) (addrs : List ℕ) (at : ℕ)
      → sum_by measure (blocks_of (without_things w addrs)) + sum_by measure (blocks_at at (thing_at w at))
      ≤ sum_by measure (blocks_of w) + sum_by measure (blocks_at at (thing_at (without_things w addrs) at))
  gone_at w [] at = omega arith
  gone_at w (addr ∷ addrs) at =
      let rest = gone_at (without_thing w addr) addrs at in
      let lost = swapped_sums measure w addr None in
      on_test (nat_eq at addr)
      (λ e. omega (arith, rest, lost, ap (λ a. sum_by measure (blocks_at a (thing_at w a))) (eqb-true at addr e)))
      (λ e. omega (
        arith,
        rest,
        lost,
        ap (λ t. sum_by measure (blocks_at at t)) (thing_at-apart w addr None at (λ same.
            let itself : nat_eq at at ≡ true = nat_eq_equiv.refl at in
            let other : nat_eq at at ≡ false = ap (nat_eq at) same ∙ e in cc)),
      ))

-- the limits of a world without these things
pub gone_limits : (w : World) (addrs : List ℕ) → KeepsLimits w → KeepsLimits (without_things w addrs)
gone_limits w [] limits = limits
gone_limits w (addr ∷ addrs) limits = gone_limits (without_thing w addr) addrs (swapped_limits w addr None tt limits)

-- joined lists of addresses
alone-append : (w : World) (a b : List ℕ) → GoAlone w (a ++ b) → GoAlone w a × GoAlone (without_things w a) b
alone-append w [] b alone = (tt, alone)
alone-append w (x ∷ a) b alone =
    let rest = alone-append (without_thing w x) a b alone.1 in ((alone.0, rest.0), rest.1)

without_things-append : (w : World) (a b : List ℕ)
    → without_things w (a ++ b) ≡ without_things (without_things w a) b
without_things-append w [] b = refl
without_things-append w (x ∷ a) b = without_things-append (without_thing w x) a b

-- the blocks that are given back where extents go, where those before went
abbrev pub gone_given : World → World → List Extent → List Extent → List UsedBlock
gone_given w v all [] = []
gone_given w v all (e ∷ es) =
    let with_it = gone_with w all es e in
    gone_of v with_it ++ block_for_extent e ∷ gone_given w (without_things v with_it) all es

-- they begin at these addresses
pub addresses_of-gone_given : (w v : World) (all es : List Extent) → GoAlone v (gone_things w all es)
    → addresses_of (gone_given w v all es) ≡ gone_blocks w all es
addresses_of-gone_given w v all [] alone = refl
addresses_of-gone_given w v all (e ∷ es) alone =
    let with_it = gone_with w all es e in
    let parts = alone-append v with_it (gone_things w all es) alone in
    let rest = gone_given w (without_things v with_it) all es in
    map-append (λ (b : UsedBlock). b.addr) (gone_of v with_it) (block_for_extent e ∷ rest)
    ∙ ap (λ front. front ++ e.block ∷ addresses_of rest) (addresses_of-gone_of v with_it parts.0)
    ∙ ap (λ back. with_it ++ e.block ∷ back) (addresses_of-gone_given w (without_things v with_it) all es parts.1)

-- and are those of the things that go, and of the extents
pub gone_given-sums : (measure : UsedBlock → ℕ) (w v : World) (all es : List Extent)
    → sum_by measure (blocks_of (without_things v (gone_things w all es))) + sum_by measure (gone_given w v all es)
    ≡ sum_by measure (blocks_of v) + sum_by measure (map block_for_extent es)
gone_given-sums measure w v all [] = refl
gone_given-sums measure w v all (e ∷ es) =
    let with_it = gone_with w all es e in
    let rest = gone_given w (without_things v with_it) all es in
    omega (
      arith,
      gone_given-sums measure w (without_things v with_it) all es,
      gone_of-sums measure v with_it,
      ap (λ u. sum_by measure (blocks_of u)) (without_things-append v with_it (gone_things w all es)),
      sum_by-append measure (gone_of v with_it) (block_for_extent e ∷ rest),
      sum_by-cons measure (block_for_extent e) rest,
      sum_by-cons measure (block_for_extent e) (map block_for_extent es),
    )
