-- What is asked of media in an event: pieces of an object's bytes that lie with them.
use Rattle.std.specs.Prelude.{◌&&◌, ◌==◌, ℕ, List, Bool, false, count_by, is_none, nat_le, not, if◌then◌else◌}
use Rattle.std.specs.Option.{option_map_or}
use Rattle.sdr_model.specs.Limits.{longest_read}
use Rattle.sdr_model.specs.Pieces.{asked_count, pieces_asked}
use Rattle.sdr_model.specs.World.{World}
use Rattle.sdr_model.specs.declared.call.Call.{Call}
use Rattle.sdr_model.specs.declared.event.Event.{Event}
use Rattle.sdr_model.specs.declared.event.Event.TheVariants as events
use Rattle.sdr_model.specs.declared.piece.Piece.{Piece}
use Rattle.sdr_machine.specs.Ground.{lies_with_media}
use Rattle.sdr_machine.specs.Machine.{Machine}
use Rattle.sdr_machine.specs.Roll.{Roll, daemon_of, served_number}
use Rattle.sdr_machine.specs.declared.daemon.Daemon.{Daemon}
use Rattle.sdr_machine.specs.declared.daemon.Holding.{Holding}

-- how many of these pieces lie with media
abbrev pub count_outside : List Piece → ℕ
count_outside = count_by lies_with_media

-- how many extents that lie with media a call needs bytes of: those of which it asks bytes, where it asks for at most a page
abbrev pub outside_needed : World → Call → ℕ
outside_needed w call = if nat_le (asked_count call) longest_read then count_outside (pieces_asked w call) else 0

-- whether a transaction is served under the number, and isn't doomed
abbrev pub is_served : Roll → Holding → Bool
is_served r h = not (h.nesting.depth == 0) && served_number r == h.number && is_none h.nesting.doom

-- whether a call of the daemon is made: it hasn't left, its number is served, and it is in a transaction that isn't doomed
abbrev pub makes_calls : Roll → ℕ → Bool
makes_calls r id =
    option_map_or (λ (d : Daemon). not d.left && option_map_or (λ (h : Holding). is_served r h) d.holds false) (daemon_of r id) false

-- how many extents that lie with media a daemon's event needs bytes of: those of its call, where the call is made
abbrev pub outside_asked : Machine → ℕ → Event → ℕ
outside_asked m daemon (events.Say call) = if makes_calls m.roll daemon then outside_needed m.now.world call else 0
outside_asked m daemon event = 0
