-- The call that bonds an object, and how many lines it touches.
use Rattle.std.specs.Prelude.{◌+◌, ◌/◌, ℕ, length, sum_by}
use Rattle.std.specs.Option.{option_map_or}
use Rattle.sdr_model.specs.BondSteps.{capsules_of}
use Rattle.sdr_model.specs.World.{World}
use Rattle.sdr_model.specs.Zco.{object_at}
use Rattle.sdr_model.specs.declared.zco.Capsule.{Capsule}

-- so many lines are touched at most where a header or trailer becomes an extent
abbrev pub capsule_lines : Capsule → ℕ
capsule_lines c = 114 + (8 + length c.text) / 32

-- so many lines it touches at most: 8 beside those for each header and trailer of the object
abbrev pub bond_lines : World → ℕ → ℕ
bond_lines w object = option_map_or (λ z. 8 + sum_by capsule_lines (capsules_of z)) (object_at w object) 0
