-- Sources that extents name.
use Rattle.std.specs.Prelude.{ℕ, ◌==◌, Bool, List, not}
use Rattle.sdr_model.specs.Zco.{naming}
use Rattle.sdr_model.specs.declared.zco.Extent.{Extent}

-- whether any of these extents names a source
abbrev pub is_named : ℕ → List Extent → Bool
is_named source extents = not (naming source extents == 0)
