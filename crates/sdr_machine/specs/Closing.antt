-- How a transaction closes that isn't doomed.
use Rattle.std.specs.Prelude.{Bool, if◌then◌else◌}
use Rattle.sdr_base.specs.declared.refusal.Reason.TheVariants as reasons
use Rattle.sdr_model.specs.declared.answer.Close.{Close}
use Rattle.sdr_model.specs.declared.answer.Close.TheVariants as closes
use Rattle.sdr_model.specs.declared.event.Event.{Event}
use Rattle.sdr_model.specs.declared.event.Event.TheVariants as events

-- how the event closes it: an exit cancels where something was changed, and a leave always
abbrev pub close_of : Event → Bool → Close
close_of events.Cancel modified = closes.Cancelled reasons.Asked
close_of events.Exit modified = if modified then closes.Cancelled reasons.Modified else closes.Exited
close_of (events.Leaves leave) modified = closes.Cancelled reasons.Left
close_of event modified = closes.Ended
