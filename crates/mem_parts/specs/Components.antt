-- What is added to an object: an extent, a header or a trailer.
use Rattle.std.specs.Prelude.{◌≡◌, ℕ, Option, None, Some}
use Rattle.sdr_model.specs.ObjectSteps.{with_extent, with_header, with_object, with_trailer}
use Rattle.mem_parts.specs.Bounds.{EndsInTime, IsShort}
use Rattle.sdr_model.specs.World.{World}
use Rattle.mem_parts.specs.declared.component.Component.{Component}
use Rattle.mem_parts.specs.declared.component.Component.TheVariants as components
use Rattle.sdr_model.specs.declared.zco.ZcoObject.{ZcoObject}

-- the object with one more component
abbrev pub with_component : ZcoObject → Component → ZcoObject
with_component z (components.Extent e) = with_extent z e
with_component z (components.Header c) = with_header z c
with_component z (components.Trailer c) = with_trailer z c

-- the component's own address
abbrev pub block_of : Component → ℕ
block_of (components.Extent e) = e.block
block_of (components.Header c) = c.block
block_of (components.Trailer c) = c.block

-- the component keeps to the limits
abbrev pub KeepsLimits : Component → Type 0
KeepsLimits (components.Extent e) = EndsInTime e
KeepsLimits (components.Header c) = IsShort c
KeepsLimits (components.Trailer c) = IsShort c

-- the object is there, and the world is this one with one more component in the object
abbrev pub Grows : Option ZcoObject → ℕ → Component → World → World → Type 0
Grows None addr component used w' = ⊥
Grows (Some z) addr component used w' = w' ≡ with_object used addr (with_component z component)
