-- Less room will do.
use Rattle.std.proofs.Common.{◌≤◌, ℕ, List}
use Rattle.sdr_base.specs.Objects.{Heap}
use Rattle.zco_join.specs.declared.filled.Filled.{Filled}
use Rattle.law_pieces.proofs.TextLemmas.{text_less}
use Rattle.example_pieces.specs.Nodes.{HasPayload, SomePayload, room_for_next}

pub some_payload : {heap : Heap} {parts : List Filled} {object n room : ℕ} → room_for_next n ≤ room → HasPayload heap parts object n room →
    SomePayload heap parts object
some_payload {n = n} le h = record { n = n; has = record { before = h.before; behind = h.behind; few = h.few; text = text_less le h.text } }
