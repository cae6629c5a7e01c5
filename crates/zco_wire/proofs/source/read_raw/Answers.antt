-- The range lies in the raw object's block.
use Rattle.std.proofs.Common.{◌+◌, Option, length, subst, sym, arith}
use Rattle.std.proofs.lemmas.Result.{on_ok_weaker}
use Rattle.sdr_base.specs.Blocks.{HasBytes, Reaches}
use Rattle.sdr_base.specs.Media.{Told}
use Rattle.zco_ref.proofs.KeptLemmas.{source_reaches}
use Rattle.zco_wire.specs.Sources.{GivesRange}
use Rattle.zco_wire.proofs.SourceLemmas.{raw_given, raw_range}
use Rattle.zco_wire.proofs.source.read_raw.Goals as goal

pub word-requires-clause-inside : goal.word-requires-clause-inside
word-requires-clause-inside g c = source_reaches c.requires.named.named.tied.keeps 40 (omega arith)

pub get-requires-clause-inside : goal.get-requires-clause-inside
get-requires-clause-inside g c =
    let blocks = (g.O.HasHeap.heap c.args.o.now).blocks in
    rw c.word.ensures.looks.same
    (subst (λ n. Reaches (blocks c.in_ok-addr.addr) (8 + c.args.range.offset + n)) (sym c.requires.long)
    (raw_range c.in_ok-addr.addr c.requires.named.named c.requires.raw c.in_ok-addr.ensures.given))

pub returns-clause-gives : goal.returns-clause-gives
returns-clause-gives g c =
    let blocks = (g.O.HasHeap.heap c.args.o.now).blocks in
    let given : HasBytes (blocks c.in_ok-addr.addr) (8 + c.args.range.offset) (length c.args.into.now) c.get.new.into → (told : Option Told) →
    GivesRange told blocks c.args.range c.get.new.into =
    λ got told. raw_given told c.in_ok-addr.addr c.get.new.into c.requires.raw c.in_ok-addr.ensures.given
    (subst (λ n. HasBytes (blocks c.in_ok-addr.addr) (8 + c.args.range.offset) n c.get.new.into) c.requires.long got) in
    on_ok_weaker _ given (rw c.word.ensures.looks.same at c.get.ensures.given)
