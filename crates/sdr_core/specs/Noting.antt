-- What is noted of an event.
use Rattle.std.specs.Prelude.{ℕ, List}
use Rattle.sdr_base.specs.declared.moves.Move.{Move}
use Rattle.sdr_machine.specs.Core.{Under}
use Rattle.sdr_machine.specs.Machine.{Made}
use Rattle.sdr_machine.specs.Serving.{made_with, said_with}
use Rattle.sdr_model.specs.declared.event.Event.{Event}
use Rattle.sdr_model.specs.declared.journal.Entry.{Entry}
use Rattle.sdr_model.specs.declared.journal.Said.{Said}
use Rattle.sdr_model.specs.declared.journal.What.{What}
use Rattle.sdr_core.specs.declared.noted.Noted.{Noted}
use Rattle.sdr_core.specs.declared.noted.Under as noted

-- what an event was made under
abbrev pub under_of : noted.Under → Under
under_of u = record { number = u.number; waited = u.waited; left = u.left }

-- what was said in the event
abbrev pub said_noted : Noted → Event → List Move → List ℕ → Said
said_noted n event moves shown = said_with n.line event n.came moves shown

-- the event as it was made
abbrev pub made_noted : Noted → Event → List Move → List ℕ → Made
made_noted n event moves shown = made_with n.daemon event n.came n.begun n.done n.line moves shown

-- the entry of it
abbrev pub entry_noted : Noted → What → Entry
entry_noted n what = record { number = n.under.number; daemon = n.daemon; begun = n.begun; done = n.done; what = what }
