-- What a thing names, where there is one.
use Rattle.sdr_model.specs.Zco.{names_raw, naming}
use Rattle.sdr_model.specs.declared.things.Thing.TheVariants as things
use Rattle.sdr_model.specs.declared.things.Thing.{Thing}
use Rattle.sdr_model.specs.declared.zco.Extent.{Extent}
use Rattle.std.specs.Prelude.{ℕ, Bool, false, List, [], Option, None, Some}

-- the extents of an object, none of anything else
abbrev pub extents_in : Option Thing → List Extent
extents_in (Some (things.Object z)) = z.extents
extents_in thing = []

-- whether there is a source of a raw object
abbrev pub names_at : ℕ → Option Thing → Bool
names_at raw None = false
names_at raw (Some thing) = names_raw raw thing

-- how many extents of a thing name a source
abbrev pub naming_in : ℕ → ℕ × Thing → ℕ
naming_in source e = naming source (extents_in (Some e.1))
