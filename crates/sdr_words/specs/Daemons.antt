-- The daemons of a script.
use Rattle.std.specs.Prelude.{ℕ, List, ◌==◌, filter}
use Rattle.std.specs.List.{list_any, range_with_len}
use Rattle.sdr_model.specs.declared.script.ScriptStep.{ScriptStep}

-- the numbers that daemons may have, from 1 to 16
abbrev pub all_daemons : List ℕ
all_daemons = range_with_len 1 16

-- the daemons that a script names
abbrev pub daemons_of : List ScriptStep → List ℕ
daemons_of script = filter (λ daemon. list_any (λ step. step.daemon == daemon) script) all_daemons
