-- The step that bonds an object: its headers and trailers become extents.
use Rattle.std.specs.Prelude.{ℕ, ◌+◌, ◌-◌, ◌*◌, List, [], ◌∷◌, ◌++◌, length, sum_by}
use Rattle.sdr_base.specs.declared.kind.Space.{Space}
use Rattle.sdr_base.specs.declared.kind.Space.TheVariants as spaces
use Rattle.sdr_base.specs.declared.moves.Move.{Move}
use Rattle.sdr_base.specs.declared.moves.Move.TheVariants.{Took, Gave}
use Rattle.sdr_model.specs.Charges.{bytes_charge, capsule_charge}
use Rattle.sdr_model.specs.Charging.{Charges}
use Rattle.sdr_model.specs.ObjectSteps.{with_object}
use Rattle.sdr_model.specs.SourceSteps.{new_source}
use Rattle.sdr_model.specs.Steps.{Outcome, DoesWith, On, with_thing}
use Rattle.sdr_model.specs.Things.{extent_need, raw_need, source_need}
use Rattle.sdr_model.specs.World.{World}
use Rattle.sdr_model.specs.Zco.{object_at, whole_of}
use Rattle.sdr_model.specs.declared.answer.Reply.TheVariants as replies
use Rattle.sdr_model.specs.declared.things.Thing.TheVariants as things
use Rattle.sdr_model.specs.declared.zco.Capsule.{Capsule}
use Rattle.sdr_model.specs.declared.zco.Extent.{Extent}
use Rattle.sdr_model.specs.declared.zco.Subject.TheVariants as subjects
use Rattle.sdr_model.specs.declared.zco.ZcoObject.{ZcoObject}

-- what a header or trailer charges more of a space as an extent
abbrev pub bond_rise : Space → Capsule → ℕ
bond_rise space c = bytes_charge spaces.Heap (length c.text) space - capsule_charge space c

-- the headers and trailers of an object, in order
abbrev pub capsules_of : ZcoObject → List Capsule
capsules_of z = z.headers ++ z.trailers

-- what bonding these headers and trailers charges of a space
abbrev pub bond_charge : List Capsule → Space → ℕ
bond_charge capsules space = sum_by (bond_rise space) capsules

-- the moves in which these headers and trailers become extents: for each a raw object, its source and the extent are taken,
-- the first at `at k`, and its own block is given back
abbrev pub bond_moves : (ℕ → ℕ) → ℕ → List Capsule → List Move
bond_moves at k [] = []
bond_moves at k (c ∷ cs) =
    Took (raw_need (length c.text)) (at k)
    ∷ Took (source_need 0) (at (k + 1))
    ∷ Took extent_need (at (k + 2))
    ∷ Gave c.block
    ∷ bond_moves at (k + 3) cs

-- the extents that these headers or trailers become
abbrev pub bonded_extents : (ℕ → ℕ) → ℕ → List Capsule → List Extent
bonded_extents at k [] = []
bonded_extents at k (c ∷ cs) =
    record { block = at (k + 2); source = at (k + 1); offset = 0; length = length c.text }
    ∷ bonded_extents at (k + 3) cs

-- the world with the raw objects and sources that these headers and trailers become
abbrev pub with_bonded : World → (ℕ → ℕ) → ℕ → List Capsule → World
with_bonded w at k [] = w
with_bonded w at k (c ∷ cs) =
    with_bonded (with_thing (with_thing w (at k) (things.Raw c.text)) (at (k + 1))
    (things.Source (new_source (subjects.Heap (at k)) (length c.text)))) at (k + 3) cs

-- the extents of the object after it: those of its headers before, and those of its trailers behind
abbrev pub bond_extents : (ℕ → ℕ) → ZcoObject → List Extent
bond_extents at z =
    bonded_extents at 0 z.headers ++ z.extents ++ bonded_extents at (3 * length z.headers) z.trailers

-- the object after it
abbrev pub bonded : (ℕ → ℕ) → ZcoObject → ZcoObject
bonded at z = record z {
  headers = [];
  extents = bond_extents at z;
  trailers = [];
  part = whole_of (bond_extents at z);
}

-- each header and trailer becomes a raw object, its source and an extent in its place, and the part is the whole
abbrev pub Bond : World → Outcome → ℕ → ℕ → Type 0
Bond w o addr number =
    On w o addr (object_at w addr) (λ z.
    Charges w o z.account number (bond_charge (capsules_of z)) (λ used.
    DoesWith w o (λ at. bond_moves at 0 (capsules_of z))
    (λ at. with_object (with_bonded used at 0 (capsules_of z)) addr (bonded at z))
    (λ at. replies.Done)))
