-- The shape of the row that bonds an object.
use Rattle.std.proofs.Common.{◌≡◌, ◌≤◌, ◌+◌, ◌*◌, ℕ, List, ◌++◌, Some, map, length, refl, sym, ap, ◌∙◌, subst, arith}
use Rattle.std.specs.List.{sum_by}
use Rattle.std.specs.Prelude.{All}
use Rattle.std.proofs.lemmas.List.{map-append}
use Rattle.std.proofs.lemmas.List.Elements.{All-append, All-nil}
use Rattle.std.proofs.lemmas.List.Sums.{sum_by-append}
use Rattle.law_steps.proofs.BondLemmas.{alike-bonded, bond_gives, bond_needs, bond_taken, bond_takes, bonded_extents-append, bonded_limits, bonded_long, bonded_rest, bonded_sums, bonded_there}
use Rattle.law_steps.proofs.BondRoom.{room_first}
use Rattle.law_steps.proofs.Alike.{Alike, alike-with_thing}
use Rattle.law_steps.proofs.Changes.{Changes, blocks_at, thing_limits}
use Rattle.law_steps.proofs.ChargeShapes.{on_charges}
use Rattle.law_steps.proofs.ObjectLemmas.{capsules_sum, extents_sum, object_parts, object_sum}
use Rattle.law_steps.proofs.Shapes.{Shape, does_with, on_addr}
use Rattle.law_steps.proofs.ThingLemmas.{object_is}
use Rattle.law_steps.proofs.WorldChanges.{builds, swapped, swapped_limits, swapped_sums}
use Rattle.law_steps.specs.Fresh.{AreFresh}
use Rattle.law_steps.specs.MovesBlocks.{given_addresses, taken_needs}
use Rattle.sdr_model.specs.Accounts.{ticket_blocks}
use Rattle.sdr_model.specs.Blocks.{addresses_of, blocks_of}
use Rattle.sdr_model.specs.BondSteps as bonds
use Rattle.sdr_model.specs.ObjectSteps.{with_object}
use Rattle.sdr_model.specs.RowMoves.{bond_moves_of}
use Rattle.sdr_model.specs.Step.{is_answer}
use Rattle.sdr_model.specs.Steps.{DoesWith, Outcome, taken_addresses, taken_at}
use Rattle.sdr_model.specs.Things.{block_for_capsule, block_for_extent, own_block}
use Rattle.sdr_model.specs.Valid.{IsValidCapsule, IsValidObject}
use Rattle.sdr_model.specs.World.{World, thing_at}
use Rattle.sdr_model.specs.Zco.{object_at}
use Rattle.sdr_model.specs.declared.answer.Reply.TheVariants as replies
use Rattle.sdr_model.specs.declared.call.Call.TheVariants as calls
use Rattle.sdr_model.specs.declared.things.UsedBlock.{UsedBlock}
use Rattle.sdr_model.specs.declared.things.Thing.TheVariants as things
use Rattle.sdr_model.specs.declared.zco.Extent.{Extent}
use Rattle.sdr_model.specs.declared.zco.ZcoObject.{ZcoObject}

-- the headers and trailers of an object keep to their limits
pub valid_all : (z : ZcoObject) → IsValidObject z → All IsValidCapsule (bonds.capsules_of z)
valid_all z valid = All-append IsValidCapsule z.headers z.trailers valid.headers valid.trailers

-- a bonded object keeps its limits
valid_bonded : (at : ℕ → ℕ) (z : ZcoObject) → IsValidObject z → IsValidObject (bonds.bonded at z)
valid_bonded at z valid =
    let first = bonds.bonded_extents at 0 z.headers in
    let last = bonds.bonded_extents at (3 * length z.headers) z.trailers in
    record {
      headers = All-nil _;
      trailers = All-nil _;
      extents = All-append (λ (e : Extent). 1 ≤ e.length) (first ++ z.extents) last
          (All-append (λ (e : Extent). 1 ≤ e.length) first z.extents (bonded_long at 0 z.headers valid.headers)
          valid.extents) (bonded_long at (3 * length z.headers) z.trailers valid.trailers);
      part = omega arith;
    }

-- its blocks are those of before, with the extents that its headers and trailers became in their place
bonded_object : (measure : UsedBlock → ℕ) (addr : ℕ) (at : ℕ → ℕ) (z : ZcoObject)
    → object_sum measure addr (bonds.bonded at z) + sum_by measure (map block_for_capsule (bonds.capsules_of z))
    ≡ object_sum measure addr z + extents_sum measure addr (bonds.bonded_extents at 0 (bonds.capsules_of z))
bonded_object measure addr at z =
    let first = bonds.bonded_extents at 0 z.headers in
    let last = bonds.bonded_extents at (3 * length z.headers) z.trailers in
    let joined : (a b : List Extent)
    → extents_sum measure addr (a ++ b) ≡ extents_sum measure addr a + extents_sum measure addr b =
    λ a b. ap (sum_by measure) (map-append block_for_extent a b)
    ∙ sum_by-append measure (map block_for_extent a) (map block_for_extent b) in
    let parts : object_sum measure addr (bonds.bonded at z)
    ≡ measure (own_block addr (things.Object z)) + 0 + extents_sum measure addr (first ++ z.extents ++ last) + 0 =
    object_parts measure addr (bonds.bonded at z) in
    let whole : extents_sum measure addr (bonds.bonded_extents at 0 (bonds.capsules_of z))
    ≡ extents_sum measure addr (first ++ last) =
    let count : 0 + 3 * length z.headers ≡ 3 * length z.headers = omega arith in
    ap (extents_sum measure addr) (bonded_extents-append at 0 z.headers z.trailers
    ∙ ap (λ n. first ++ bonds.bonded_extents at n z.trailers) count) in
    let capsules : sum_by measure (map block_for_capsule (bonds.capsules_of z))
    ≡ capsules_sum measure addr z.headers + capsules_sum measure addr z.trailers =
    ap (sum_by measure) (map-append block_for_capsule z.headers z.trailers)
    ∙ sum_by-append measure (map block_for_capsule z.headers) (map block_for_capsule z.trailers) in
    omega (
      arith,
      object_parts measure addr z,
      parts,
      whole,
      capsules,
      joined (first ++ z.extents) last,
      joined first z.extents,
      joined first last,
    )

-- what a bond goes on with where its charge is allowed
abbrev pub Bonds : World → Outcome → ℕ → ZcoObject → World → Type 0
Bonds w o addr z used =
    DoesWith w o (λ at. bonds.bond_moves at 0 (bonds.capsules_of z))
    (λ at. with_object (bonds.with_bonded used at 0 (bonds.capsules_of z)) addr (bonds.bonded at z))
    (λ at. replies.Done)

module _ {w : World} {o : Outcome} where
  -- an object is bonded
  bonded : (addr : ℕ) (z : ZcoObject) (used : World) → Alike w used → thing_at w addr ≡ Some (things.Object z)
      → Bonds w o addr z used → Changes w o
  bonded addr z used like is d =
      let at = taken_at o.moves in
      let cs = bonds.capsules_of z in
      let mid = bonds.with_bonded w at 0 cs in
      let after = Some (things.Object (bonds.bonded at z)) in
      let next = swapped mid addr after in
      let rest = bonded_rest w at 0 cs in
      let same : Alike next (with_object (bonds.with_bonded used at 0 cs) addr (bonds.bonded at z)) =
      alike-with_thing addr (things.Object (bonds.bonded at z)) (alike-bonded w used at 0 cs like) in
      builds w o next (record {
        taken = bond_taken at 0 cs;
        given = map block_for_capsule cs;
        answered = ap is_answer d.2;
        marks = ap (λ (v : World). v.marks) d.1;
        shown = ap (λ (v : World). v.shown) d.1;
        like = record {
          things = ap (λ (v : World). v.things) d.1 ∙ same.things;
          names = ap (λ (v : World). v.names) d.1 ∙ same.names;
          tickets = ap (λ (v : World). ticket_blocks v.accounts) d.1 ∙ same.tickets;
          marks = refl;
          taken = ap (λ (v : World). v.taken) d.1 ∙ same.taken;
        };
        counted = ap (λ (v : World). v.taken) rest;
        needs = bond_needs at 0 cs ∙ sym (ap taken_needs d.0);
        takes = bond_takes at 0 cs ∙ sym (ap taken_addresses d.0);
        gives = bond_gives at 0 cs ∙ sym (ap given_addresses d.0);
        sums = λ valid fresh measure.
            let room = room_first w addr z valid is in
            let anew = subst (AreFresh (addresses_of (blocks_of w))) d.0 fresh in
            omega (
              arith,
              bonded_sums measure w at 0 cs (addresses_of (blocks_of w)) room anew,
              swapped_sums measure mid addr after,
              ap (λ t. sum_by measure (blocks_at addr t))
                  (bonded_there w at 0 cs (addresses_of (blocks_of w)) addr (things.Object z) room anew is),
              bonded_object measure addr at z,
            );
        limits = λ limits.
            let valid = thing_limits w addr (things.Object z) is limits in
            swapped_limits mid addr after (valid_bonded at z valid)
            (bonded_limits w at 0 cs (valid_all z valid) limits);
      })

  pub bond : (addr number : ℕ) → bonds.Bond w o addr number → Shape w (calls.Bond addr number) o
  bond addr number h =
      on_addr addr (object_at w addr) h (λ z is h.
      on_charges z.account number (bonds.bond_charge (bonds.capsules_of z)) (Bonds w o addr z) h (λ used like d.
      does_with (λ at. bonds.bond_moves at 0 (bonds.capsules_of z)) d.0 refl (λ at. ap (λ z. bond_moves_of z at) is)
      (bonded addr z used like (object_is _ _ is) d)))
