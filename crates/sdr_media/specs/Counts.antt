-- How the counts of media rise.
use Rattle.std.specs.Prelude.{ℕ, nat_lt, if◌then◌else◌}
use Rattle.sdr_base.specs.Causes.{counted}
use Rattle.sdr_media.specs.declared.counts.Counts.{Counts}

-- after one read more
abbrev pub asked : Counts → Counts
asked c = record c { asks = counted c.asks }

-- after one fault more
abbrev pub failed : Counts → Counts
failed c = record c { faults = counted c.faults }

-- after an answer of so many of the bytes that were asked for
abbrev pub answered : ℕ → ℕ → Counts → Counts
answered given asked c = record c { short = if nat_lt given asked then counted c.short else c.short }
