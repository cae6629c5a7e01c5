-- A run of daemons whose journal is on a board.
use Rattle.std.specs.Prelude.{List, []}
use Rattle.atomic_table.specs.Seated.{TableId}
use Rattle.sdr_daemon.specs.Progressing.{ScriptedCore}
use Rattle.sdr_model.specs.declared.journal.Entry.{Entry}

-- a run, and the entries whose totals were published last
pub record PostedCore (T : Type 0) : Type 0 where
  pub run : ScriptedCore T
  pub posted : List Entry

-- no board: what is named where none is picked
abbrev pub no_board : TableId
no_board = record { words = 0; slots = 0; views_name = 0; atom = 0; block = 0; offset = 0; slot_names = [] }
