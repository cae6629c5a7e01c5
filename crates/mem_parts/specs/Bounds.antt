-- The bounds of what is in an object, by which all sums over it fit a word.
use Rattle.sdr_model.specs.Limits.{longest_capsule, longest_source}
use Rattle.sdr_model.specs.Zco.{capsules_length, extents_length}
use Rattle.sdr_model.specs.declared.zco.Capsule.{Capsule}
use Rattle.sdr_model.specs.declared.zco.Extent.{Extent}
use Rattle.sdr_model.specs.declared.zco.ZcoObject.{ZcoObject}
use Rattle.std.specs.Prelude.{◌≤◌, ◌^◌, ◌+◌, List, length, All}

-- the extent ends where the longest source ends, or before
abbrev pub EndsInTime : Extent → Type 0
EndsInTime e = e.offset + e.length ≤ longest_source

-- the text is at most the longest one
abbrev pub IsShort : Capsule → Type 0
IsShort c = length c.text ≤ longest_capsule

-- these extents have few bytes together
abbrev pub AreFewBytes : List Extent → Type 0
AreFewBytes extents = extents_length extents ≤ 2 ^ 62

-- these headers or trailers have few bytes together
abbrev pub AreFewTexts : List Capsule → Type 0
AreFewTexts capsules = capsules_length capsules ≤ 2 ^ 42

-- the bytes in the object are few, each extent ends in time, and the part lies inside the extents' sum
pub record IsBounded (z : ZcoObject) : Type 0 where
  pub headers : AreFewTexts z.headers
  pub ends : All EndsInTime z.extents
  pub extents : AreFewBytes z.extents
  pub trailers : AreFewTexts z.trailers
  pub part : z.part.offset + z.part.length ≤ extents_length z.extents
