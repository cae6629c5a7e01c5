-- One piece is added behind another.
use Rattle.std.proofs.Common.{arith}
use Rattle.example_pieces.proofs.NodeLemmas.{some_payload}
use Rattle.example_pieces.proofs.node.add_all.Goals as goal

pub add_next-requires-clause-payload : goal.add_next-requires-clause-payload
add_next-requires-clause-payload g c =
    some_payload (omega arith) c.requires.payload

pub add_next-requires-2-clause-payload : goal.add_next-requires-2-clause-payload
add_next-requires-2-clause-payload g c =
    let p1 = c.in_ok-first.ensures.text.adds 0 296 c.requires.payload in
    some_payload (omega arith) p1

pub add_next-requires-3-clause-payload : goal.add_next-requires-3-clause-payload
add_next-requires-3-clause-payload g c =
    let p1 = c.in_ok-first.ensures.text.adds 0 296 c.requires.payload in
    let p2 = c.in_ok-second.ensures.text.adds 1 288 p1 in
    some_payload (omega arith) p2

pub add_next-requires-4-clause-payload : goal.add_next-requires-4-clause-payload
add_next-requires-4-clause-payload g c =
    let p1 = c.in_ok-first.ensures.text.adds 0 296 c.requires.payload in
    let p2 = c.in_ok-second.ensures.text.adds 1 288 p1 in
    let p3 = c.in_ok-third.ensures.text.adds 3 272 p2 in
    some_payload (omega arith) p3

pub add_next-requires-5-clause-payload : goal.add_next-requires-5-clause-payload
add_next-requires-5-clause-payload g c =
    let p1 = c.in_ok-first.ensures.text.adds 0 296 c.requires.payload in
    let p2 = c.in_ok-second.ensures.text.adds 1 288 p1 in
    let p3 = c.in_ok-third.ensures.text.adds 3 272 p2 in
    let p4 = c.in_ok-fourth.ensures.text.adds 7 240 p3 in
    some_payload (omega arith) p4

pub returns-clause-text : goal.returns-clause-text
returns-clause-text g c =
    let p1 = c.in_ok-first.ensures.text.adds 0 296 c.requires.payload in
    let p2 = c.in_ok-second.ensures.text.adds 1 288 p1 in
    let p3 = c.in_ok-third.ensures.text.adds 3 272 p2 in
    let p4 = c.in_ok-fourth.ensures.text.adds 7 240 p3 in
    c.in_ok-fifth.ensures.text.adds 15 176 p4
