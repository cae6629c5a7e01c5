-- What a daemon does in its next turn.
use Rattle.std.specs.Prelude.{◌+◌, ◌^◌, ◌||◌, ℕ, Bool, false, true, List, [], ◌∷◌, if◌then◌else◌, is_some, nat_le, slice_get}
use Rattle.std.specs.Option.{option_map_or}
use Rattle.sdr_machine.specs.Core.{has_left}
use Rattle.sdr_machine.specs.Roll.{Roll}
use Rattle.sdr_model.specs.declared.script.ScriptStep.{ScriptStep}
use Rattle.sdr_words.specs.Bindings.{event_of}
use Rattle.sdr_daemon.specs.Progressing.{ScriptedCore, steps_ahead}
use Rattle.sdr_daemon.specs.Turns.{is_refused_outside}
use Rattle.sdr_daemon.specs.declared.coming.Coming.TheVariants as comings
use Rattle.sdr_daemon.specs.declared.coming.Coming.{Coming}
use Rattle.sdr_daemon.specs.declared.script_place.ScriptPlace.{ScriptPlace}

-- what a daemon with these lines ahead does: it leaves behind the last one; else it passes over its next line where that is refused
-- outside a transaction, and comes with it where that is a begin or a look
abbrev pub coming_with : ScriptPlace → List ScriptStep → Coming
coming_with s [] = comings.Comes s.daemon 0
coming_with s (step ∷ rest) =
    if is_refused_outside (event_of s.names step) then comings.Passes else comings.Comes s.daemon step.line

-- whether a daemon leaves, whatever lines are ahead: the disk has failed, it means to leave, or its numbers are spent
abbrev pub leaves_early : Roll → ScriptPlace → Bool
leaves_early r s = is_some r.failed || is_some s.leaving || nat_le (2 ^ 40) (s.drawn + 1)

-- what a daemon that hasn't left does
abbrev pub coming_of : Roll → List ScriptStep → ScriptPlace → Coming
coming_of r script s =
    if leaves_early r s then comings.Comes s.daemon 0 else coming_with s (steps_ahead script s.daemon s.place)

-- what the daemon at a place does: nothing where there is none or it has left
abbrev pub coming_at : {T : Type 0} → List ScriptStep → ℕ → ScriptedCore T → Coming
coming_at script place v =
    option_map_or (λ (s : ScriptPlace). if has_left v.core.lock.roll s.daemon then comings.Gone else coming_of v.core.lock.roll script s) (slice_get v.progress place) comings.Gone

-- whether nothing comes
abbrev pub is_over : Coming → Bool
is_over comings.Gone = true
is_over coming = false
