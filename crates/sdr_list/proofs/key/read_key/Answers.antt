-- The bytes that are read are the key.
use Rattle.std.proofs.Common.{arith}
use Rattle.std.proofs.lemmas.List.{length-take-le}
use Rattle.sdr_list.proofs.KeyLemmas.{key_reaches, key_read}
use Rattle.sdr_list.proofs.key.read_key.Goals as goal

pub get-requires-clause-inside : goal.get-requires-clause-inside
get-requires-clause-inside g c =
    let l = length-take-le c.in_ok-count.count c.args.into.now (omega (arith, c.told-into, c.in_ok-count.ensures.short)) in
    rw c.key_length.ensures.looks.same (key_reaches _ c.in_ok-count.count _ c.in_ok-count.ensures.given c.if-count-gt0.true l)

pub returns-in_ok-get-clause-given : goal.returns-in_ok-get-clause-given
returns-in_ok-get-clause-given g c =
    let l = length-take-le c.in_ok-count.count c.args.into.now (omega (arith, c.told-into, c.in_ok-count.ensures.short)) in
    key_read _ c.get.new.into _ c.in_ok-count.count _ c.in_ok-count.ensures.given c.in_ok-count.ensures.short l
    (rw c.key_length.ensures.looks.same at c.in_ok-get.ensures.given)
