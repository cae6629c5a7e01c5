-- A script that was read before it is run.
use Rattle.std.specs.Prelude.{◌≤◌, ◌+◌, List, IfSome, length}
use Rattle.sdr_base.specs.declared.source.Source.{Ghosts as SourceGhosts}
use Rattle.sdr_model.specs.declared.script.ScriptStep.{ScriptStep}
use Rattle.sdr_words.specs.Reading.{ReadsScript}

-- The input was read to its end, and is this script. Each read but the last gave a byte.
pub record WasRead {S : Type 0} (s : SourceGhosts S) (script : List ScriptStep) (input input' : S) : Type 0 where
  pub reads_script : ReadsScript (s.left input) (s.left input') script
  pub later : s.faults input ≤ s.faults input'
  pub reads : s.reads input' ≤ s.reads input + 1048577
  pub each : IfSome (s.left input) (λ bytes. s.reads input' ≤ s.reads input + length bytes + 1)
