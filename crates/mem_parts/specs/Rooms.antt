-- Queues that are served in the room of an account.
use Rattle.std.specs.Prelude.{List, [], ◌∷◌, if◌then◌else◌}
use Rattle.sdr_base.specs.declared.account.Amounts.{Amounts}
use Rattle.sdr_model.specs.Amounts.{are_within, minus}
use Rattle.sdr_model.specs.Queue.{granted}
use Rattle.sdr_model.specs.declared.accounts.Ticket.{Ticket}

-- the queue, served: the first waiting ticket is granted while each amount that it asks is at most the room, which a grant lessens
abbrev pub served_in : Amounts → List Ticket → List Ticket
served_in room [] = []
served_in room (t ∷ ts) =
    if t.granted then t ∷ served_in room ts
    else if are_within t.asked room then granted t ∷ served_in (minus room t.asked) ts
    else t ∷ ts
