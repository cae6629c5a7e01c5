-- The value is in the key's entry.
use Rattle.std.proofs.Common.{arith}
use Rattle.std.proofs.lemmas.Result.{IfOk-weaker}
use Rattle.sdr_base.proofs.WritingLemmas.{reaches_less}
use Rattle.sdr_hash.proofs.FindLemmas.{finds, some_place}
use Rattle.sdr_hash.proofs.OutLemmas.{place_reaches}
use Rattle.sdr_hash.proofs.searching.retrieve.Goals as goal

pub word-requires-clause-inside : goal.word-requires-clause-inside
word-requires-clause-inside g c =
    let l = c.in_ok-place.ensures.located in
    rw c.locate.ensures.looks.same
    (reaches_less _ 16 _ (place_reaches (some_place l.fronts (g.met.O.Objects.few c.args.o.now c.requires.kept)
    (g.met.O.Objects.small c.args.o.now c.requires.kept) l.found (c.requires.hash l.fronts.is.kind))) (omega arith))

pub returns-clause-found : goal.returns-clause-found
returns-clause-found g c =
    let l = c.in_ok-place.ensures.located in
    IfOk-weaker _ _ _
    (λ value h. finds l.fronts (g.met.O.Objects.few c.args.o.now c.requires.kept)
    (g.met.O.Objects.small c.args.o.now c.requires.kept) l.found h)
    (rw c.locate.ensures.looks.same at c.word.ensures.given)
