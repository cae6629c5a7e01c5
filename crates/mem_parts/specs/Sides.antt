-- The two sides on which an object gets headers and trailers.
use Rattle.std.specs.Prelude.{ℕ, List}
use Rattle.sdr_model.specs.ObjectSteps.{with_header, with_trailer}
use Rattle.sdr_model.specs.declared.call.Call.{Call}
use Rattle.sdr_model.specs.declared.call.Call.TheVariants as calls
use Rattle.mem_parts.specs.declared.component.Side.{Side}
use Rattle.mem_parts.specs.declared.component.Side.TheVariants as sides
use Rattle.mem_parts.specs.declared.component.Component.{Component}
use Rattle.mem_parts.specs.declared.component.Component.TheVariants as components
use Rattle.sdr_model.specs.declared.zco.Capsule.{Capsule}
use Rattle.sdr_model.specs.declared.zco.ZcoObject.{ZcoObject}

-- the call that adds a header or trailer on a side
abbrev pub capsule_call : Side → ℕ → ℕ → List ℕ → Call
capsule_call sides.Front addr number text = calls.PrependHeader addr number text
capsule_call sides.Back addr number text = calls.AppendTrailer addr number text

-- the object with one more header or trailer on a side
abbrev pub with_capsule : Side → ZcoObject → Capsule → ZcoObject
with_capsule sides.Front = with_header
with_capsule sides.Back = with_trailer

-- the header or trailer as a component
abbrev pub component_on : Side → Capsule → Component
component_on sides.Front c = components.Header c
component_on sides.Back c = components.Trailer c
