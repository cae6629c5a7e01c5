-- What a reading call changes.
use Rattle.std.specs.Prelude.{◌≡◌, [], ◌∷◌, ◌++◌}
use Rattle.sdr_model.specs.World.{World}
use Rattle.sdr_model.specs.declared.call.Call.{Call}
use Rattle.sdr_model.specs.declared.call.Call.TheVariants as calls

-- the world is as before but for the bytes shown, and `stage` marks its raw object besides
abbrev pub ShowsOnly : Call → World → World → Type 0
ShowsOnly (calls.Stage addr count) w w' = w' ≡ record w { marks = w.marks ++ addr ∷ []; shown = w'.shown }
ShowsOnly call w w' = w' ≡ record w { shown = w'.shown }
