use Rattle.std.proofs.Common.{refl}
use Rattle.sdr_command.specs.Ending.{EndsWith}
use Rattle.sdr_command.proofs.ending.run.Goals as goal

pub returns-in-About : goal.returns-in-About
returns-in-About g c =
    EndsWith.prints _ c.in-About.ensures (record {
      known = c.print.ensures.known;
      done = c.print.ensures.done;
      part = c.print.ensures.part;
      cause = c.print.ensures.cause;
      unread = refl;
    })

pub returns-in-Usage : goal.returns-in-Usage
returns-in-Usage g c = EndsWith.usage _ c.in-Usage.ensures c.answer_usage.ensures.usage c.answer_usage.ensures.ends

pub returns-in-Ok : goal.returns-in-Ok
returns-in-Ok g c = EndsWith.answered _ _ _ c.in-Form.ensures c.answer_form.ensures

pub returns-in-Err : goal.returns-in-Err
returns-in-Err g c = EndsWith.unopened _ _ _ c.in-Form.ensures (record { status_is = refl; unread = refl; unprinted = refl })
