-- The text is finished, and the object is sent.
use Rattle.example_pieces.proofs.node.finish_and_send.Goals as goal

pub start_sending-requires : goal.start_sending-requires
start_sending-requires g c = record {
  kept = let s = c.requires.clones in (c.in_ok-object.ensures.works s.together s.keeps).kept;
}

pub transmit-requires-clause-object : goal.transmit-requires-clause-object
transmit-requires-clause-object g c =
    rw (c.in_ok-reader.ensures.looks.same, c.in_ok-reader.ensures.begins) (c.requires.wire _ _ c.in_ok-object.ensures.finished)
