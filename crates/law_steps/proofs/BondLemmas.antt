-- The blocks that headers and trailers become where an object is bonded.
use Rattle.std.proofs.Common.{◌≡◌, ◌≤◌, ◌+◌, ◌*◌, ℕ, suc, List, [], ◌∷◌, ◌++◌, Some, map, length, refl, ap, ◌∙◌, arith}
use Rattle.std.specs.List.{sum_by}
use Rattle.std.specs.Prelude.{All}
use Rattle.std.proofs.lemmas.List.Elements.{All-cons, All-nil}
use Rattle.std.proofs.lemmas.List.Sums.{sum_by-cons}
use Rattle.law_steps.proofs.Alike.{Alike, alike-with_thing}
use Rattle.law_steps.proofs.Changes.{KeepsLimits, blocks_at}
use Rattle.law_steps.proofs.DistinctLemmas.{others}
use Rattle.law_steps.proofs.SourceShapes.{valid_taken_over}
use Rattle.law_steps.proofs.WorldChanges.{elsewhere, swapped, swapped_limits, swapped_sums, thing_at-apart}
use Rattle.law_steps.specs.Fresh.{AreFresh}
use Rattle.law_steps.specs.MovesBlocks.{given_addresses, taken_needs}
use Rattle.sdr_model.specs.Blocks.{addresses_of, blocks_of}
use Rattle.sdr_model.specs.BondSteps.{bond_moves, bonded_extents, with_bonded}
use Rattle.sdr_model.specs.SourceSteps.{new_source}
use Rattle.sdr_model.specs.Steps.{taken_addresses, with_thing}
use Rattle.sdr_model.specs.Things.{block_for_capsule, block_for_extent, own_block}
use Rattle.sdr_model.specs.Valid.{IsValidCapsule}
use Rattle.sdr_model.specs.World.{World, thing_at}
use Rattle.sdr_model.specs.declared.things.UsedBlock.{UsedBlock}
use Rattle.sdr_model.specs.declared.things.Thing.{Thing}
use Rattle.sdr_model.specs.declared.things.Thing.TheVariants as things
use Rattle.sdr_model.specs.declared.zco.Capsule.{Capsule}
use Rattle.sdr_model.specs.declared.zco.Extent.{Extent}
use Rattle.sdr_model.specs.declared.zco.Subject.TheVariants as subjects
use Rattle.law_steps.proofs.BondRoom.{HasRoom, room_empty, room_given, room_made, room_taken}

-- the raw object, the source and the extent that a header or trailer becomes, the first at `at k`
abbrev raw_of : Capsule → Thing
raw_of c = things.Raw c.text

abbrev source_of : (ℕ → ℕ) → ℕ → Capsule → Thing
source_of at k c = things.Source (new_source (subjects.Heap (at k)) (length c.text))

abbrev extent_of : (ℕ → ℕ) → ℕ → Capsule → Extent
extent_of at k c = record { block = at (k + 2); source = at (k + 1); offset = 0; length = length c.text }

-- their blocks, for all of these headers and trailers
abbrev pub bond_taken : (ℕ → ℕ) → ℕ → List Capsule → List UsedBlock
bond_taken at k [] = []
bond_taken at k (c ∷ cs) =
    own_block (at k) (raw_of c) ∷ own_block (at (k + 1)) (source_of at k c) ∷ block_for_extent (extent_of at k c)
    ∷ bond_taken at (k + 3) cs

-- are those that the moves take
pub bond_needs : (at : ℕ → ℕ) (k : ℕ) (cs : List Capsule)
    → map (λ (b : UsedBlock). b.bytes) (bond_taken at k cs) ≡ taken_needs (bond_moves at k cs)
bond_needs at k [] = refl
bond_needs at k (c ∷ cs) = ap (λ ns. (8 + length c.text) ∷ (48 + 0) ∷ 32 ∷ ns) (bond_needs at (k + 3) cs)

pub bond_takes : (at : ℕ → ℕ) (k : ℕ) (cs : List Capsule)
    → addresses_of (bond_taken at k cs) ≡ taken_addresses (bond_moves at k cs)
bond_takes at k [] = refl
bond_takes at k (c ∷ cs) = ap (λ ns. at k ∷ at (k + 1) ∷ at (k + 2) ∷ ns) (bond_takes at (k + 3) cs)

-- and those of the headers and trailers are those that they give back
pub bond_gives : (at : ℕ → ℕ) (k : ℕ) (cs : List Capsule)
    → addresses_of (map block_for_capsule cs) ≡ given_addresses (bond_moves at k cs)
bond_gives at k [] = refl
bond_gives at k (c ∷ cs) = ap (λ ns. c.block ∷ ns) (bond_gives at (k + 3) cs)

-- the extents of joined headers and trailers
pub bonded_extents-append : (at : ℕ → ℕ) (k : ℕ) (a b : List Capsule)
    → bonded_extents at k (a ++ b) ≡ bonded_extents at k a ++ bonded_extents at (k + 3 * length a) b
bonded_extents-append at k [] b = ap (λ n. bonded_extents at n b) (omega arith)
bonded_extents-append at k (c ∷ a) b =
    let next : k + 3 + 3 * length a ≡ k + 3 * length (c ∷ a) = omega arith in
    ap (λ es. extent_of at k c ∷ es)
    (bonded_extents-append at (k + 3) a b ∙ ap (λ n. bonded_extents at (k + 3) a ++ bonded_extents at n b) next)

-- an extent of a header or trailer has a byte
pub bonded_long : (at : ℕ → ℕ) (k : ℕ) (cs : List Capsule) → All IsValidCapsule cs
    → All (λ e. 1 ≤ e.length) (bonded_extents at k cs)
bonded_long at k [] all = All-nil _
bonded_long at k (c ∷ cs) all =
    All-cons (λ (e : Extent). 1 ≤ e.length) (extent_of at k c) (bonded_extents at (k + 3) cs)
    (all 0 c (omega arith)).0 (bonded_long at (k + 3) cs (λ i d within. all (suc i) d (omega (arith, within))))

-- the world with what they become keeps its limits
pub bonded_limits : (w : World) (at : ℕ → ℕ) (k : ℕ) (cs : List Capsule) → All IsValidCapsule cs → KeepsLimits w
    → KeepsLimits (with_bonded w at k cs)
bonded_limits w at k [] all limits = limits
bonded_limits w at k (c ∷ cs) all limits =
    let short = (all 0 c (omega arith)).1 in
    let mid = swapped w (at k) (Some (raw_of c)) in
    bonded_limits (swapped mid (at (k + 1)) (Some (source_of at k c))) at (k + 3) cs
    (λ i d within. all (suc i) d (omega (arith, within)))
    (swapped_limits mid (at (k + 1)) (Some (source_of at k c))
    (valid_taken_over (at k) (length c.text) (omega (arith, short)))
    (swapped_limits w (at k) (Some (raw_of c)) (omega (arith, short)) limits))

-- it has else what it had
pub bonded_rest : (w : World) (at : ℕ → ℕ) (k : ℕ) (cs : List Capsule)
    → with_bonded w at k cs ≡ record w { things = (with_bonded w at k cs).things }
bonded_rest w at k [] = refl
bonded_rest w at k (c ∷ cs) =
    bonded_rest (with_thing (with_thing w (at k) (raw_of c)) (at (k + 1)) (source_of at k c)) at (k + 3) cs

-- and is alike that of a world that is alike
pub alike-bonded : (w v : World) (at : ℕ → ℕ) (k : ℕ) (cs : List Capsule) → Alike w v
    → Alike (with_bonded w at k cs) (with_bonded v at k cs)
alike-bonded w v at k [] like = like
alike-bonded w v at k (c ∷ cs) like =
    alike-bonded (with_thing (with_thing w (at k) (raw_of c)) (at (k + 1)) (source_of at k c))
    (with_thing (with_thing v (at k) (raw_of c)) (at (k + 1)) (source_of at k c)) at (k + 3) cs
    (alike-with_thing (at (k + 1)) (source_of at k c) (alike-with_thing (at k) (raw_of c) like))

-- Where the blocks taken are fresh, the world has what headers and trailers become besides, and each thing of before.
pub bonded_sums : (measure : UsedBlock → ℕ) (w : World) (at : ℕ → ℕ) (k : ℕ) (cs : List Capsule) (used : List ℕ)
    → HasRoom w cs used → AreFresh used (bond_moves at k cs)
    → sum_by measure (blocks_of (with_bonded w at k cs))
    + sum_by measure (map block_for_extent (bonded_extents at k cs))
    ≡ sum_by measure (blocks_of w) + sum_by measure (bond_taken at k cs)
bonded_sums measure w at k [] used room fresh = refl
bonded_sums measure w at k (c ∷ cs) used room fresh =
    let raw = own_block (at k) (raw_of c) in
    let source = own_block (at (k + 1)) (source_of at k c) in
    let extent = block_for_extent (extent_of at k c) in
    let mid = swapped w (at k) (Some (raw_of c)) in
    let next = swapped mid (at (k + 1)) (Some (source_of at k c)) in
    let first = room_made (at k) (raw_of c) room fresh.1 in
    let second = room_made (at (k + 1)) (source_of at k c) first fresh.2.1 in
    let third = room_given (room_taken (at (k + 2)) second fresh.2.2.1) in
    omega (
      arith,
      bonded_sums measure next at (k + 3) cs
          (others c.block (at (k + 2) ∷ at (k + 1) ∷ at k ∷ used)) third fresh.2.2.2,
      swapped_sums measure w (at k) (Some (raw_of c)),
      swapped_sums measure mid (at (k + 1)) (Some (source_of at k c)),
      ap (λ t. sum_by measure (blocks_at (at k) t)) (room_empty (at k) room fresh.1),
      ap (λ t. sum_by measure (blocks_at (at (k + 1)) t)) (room_empty (at (k + 1)) first fresh.2.1),
      sum_by-cons measure raw [],
      sum_by-cons measure source [],
      sum_by-cons measure raw (source ∷ extent ∷ bond_taken at (k + 3) cs),
      sum_by-cons measure source (extent ∷ bond_taken at (k + 3) cs),
      sum_by-cons measure extent (bond_taken at (k + 3) cs),
      sum_by-cons measure extent (map block_for_extent (bonded_extents at (k + 3) cs)),
    )

pub bonded_there : (w : World) (at : ℕ → ℕ) (k : ℕ) (cs : List Capsule) (used : List ℕ) (q : ℕ) (t : Thing)
    → HasRoom w cs used → AreFresh used (bond_moves at k cs) → thing_at w q ≡ Some t
    → thing_at (with_bonded w at k cs) q ≡ Some t
bonded_there w at k [] used q t room fresh is = is
bonded_there w at k (c ∷ cs) used q t room fresh is =
    let mid = swapped w (at k) (Some (raw_of c)) in
    let next = swapped mid (at (k + 1)) (Some (source_of at k c)) in
    let first = room_made (at k) (raw_of c) room fresh.1 in
    let second = room_made (at (k + 1)) (source_of at k c) first fresh.2.1 in
    let still = thing_at-apart w (at k) (Some (raw_of c)) q
    (elsewhere w q (at k) t is (room_empty (at k) room fresh.1)) ∙ is in
    bonded_there next at (k + 3) cs (others c.block (at (k + 2) ∷ at (k + 1) ∷ at k ∷ used)) q t
    (room_given (room_taken (at (k + 2)) second fresh.2.2.1)) fresh.2.2.2
    (thing_at-apart mid (at (k + 1)) (Some (source_of at k c)) q
    (elsewhere mid q (at (k + 1)) t still (room_empty (at (k + 1)) first fresh.2.1)) ∙ still)
