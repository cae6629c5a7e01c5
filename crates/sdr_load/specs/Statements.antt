-- Statements of daemons, and the steps that they are, a line each.
use Rattle.std.specs.Prelude.{ℕ, ◌+◌, List, [], ◌∷◌}
use Rattle.sdr_load.specs.VerbPlaces.{place_of}
use Rattle.sdr_load.specs.VerbWords.{verb_word}
use Rattle.sdr_load.specs.declared.statement.Statement.{Statement}
use Rattle.sdr_load.specs.declared.verb.Verb.{Verb}
use Rattle.sdr_model.specs.declared.script.Arg.{Arg}
use Rattle.sdr_model.specs.declared.script.ScriptStep.{ScriptStep}

-- a daemon's statement that binds no name
abbrev pub says : ℕ → Verb → List Arg → Statement
says daemon verb args = record { daemon = daemon; name = []; verb = verb; args = args }

-- a daemon's statement that binds a name
abbrev pub binds : ℕ → List ℕ → Verb → List Arg → Statement
binds daemon name verb args = record { daemon = daemon; name = name; verb = verb; args = args }

-- the step of a statement in a line
abbrev pub step_in : ℕ → Statement → ScriptStep
step_in line s =
    record { line = line; daemon = s.daemon; name = s.name; verb = place_of (verb_word s.verb); args = s.args }

-- the steps of statements one behind another, a line each, from this line on
abbrev pub numbered : ℕ → List Statement → List ScriptStep
numbered line [] = []
numbered line (s ∷ statements) = step_in line s ∷ numbered (line + 1) statements
