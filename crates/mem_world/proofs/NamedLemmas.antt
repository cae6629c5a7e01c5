-- The source that names a raw object.
use Rattle.std.proofs.Common.{ℕ, List, Option}
use Rattle.std.specs.List.{find as find_first}
use Rattle.std.specs.Option.{option_map}
use Rattle.sdr_model.specs.Zco.{names_raw}
use Rattle.sdr_model.specs.declared.things.Thing.{Thing}

abbrev pub first_source : ℕ → List (ℕ × Thing) → Option ℕ
first_source raw es = option_map (λ e. e.0) (find_first (λ e. names_raw raw e.1) es)
