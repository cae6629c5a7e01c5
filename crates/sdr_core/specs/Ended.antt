-- What stands behind a run in which no number is held any more.
use Rattle.std.specs.Prelude.{◌≡◌, List, length, true}
use Rattle.sdr_core.specs.CoreKept.{RunStart}
use Rattle.sdr_machine.specs.Crash.{is_sound}
use Rattle.sdr_machine.specs.Legal.{IsAfter}
use Rattle.sdr_machine.specs.Serving.{SomeState}
use Rattle.sdr_machine.specs.Standing.{GroundState}
use Rattle.sdr_machine.specs.declared.has_ground.HasGround.{Ghosts}
use Rattle.sdr_model.specs.declared.journal.Entry.{Entry}

-- A run with this journal has come to the states, and no transaction is open.
pub record HasEnded (b : RunStart) (journal : List Entry) (v : GroundState) : Type 0 where
  pub after : IsAfter b.told b.daemons b.first journal (length journal) v.before
  pub closed : v.now ≡ v.before

-- unless the disk failed in an entry, the ground stands for what the run has come to
abbrev pub StandsEnded : {T : Type 0} → Ghosts T → RunStart → List Entry → T → Type 0
StandsEnded g b journal base = is_sound journal ≡ true → SomeState g.stands base (HasEnded b journal)
