-- The small pool's answer, or else the large one's.
use Rattle.std.proofs.Common.{ℕ, subst}
use Rattle.std.specs.Prelude.{Option}
use Rattle.std.proofs.lemmas.Result.{IfOk-weaker}
use Rattle.sdr_base.proofs.LeavingLemmas.{none_behind}
use Rattle.sdr_small.specs.Calls.{TakesSmall}
use Rattle.sdr_large.specs.Calls.{TakesLarge}
use Rattle.sdr_heap.specs.Calls.{Chooses}
use Rattle.sdr_heap.proofs.ChooseSmallLemmas.{small_chooses}
use Rattle.sdr_heap.proofs.ChooseLargeLemmas.{large_chooses}
use Rattle.sdr_heap.proofs.choosing.choose.Goals as goal

pub returns-in-Some-clause-chosen : goal.returns-in-Some-clause-chosen
returns-in-Some-clause-chosen g c =
    small_chooses _ _ c.args.words c.in-Some.addr c.requires.some (rw c.in-Some.is at c.in_ok-addr.ensures.taken)

pub returns-in-None-clause-chosen : goal.returns-in-None-clause-chosen
returns-in-None-clause-chosen g c =
    IfOk-weaker c.take-in-None.result
    (λ found. TakesLarge c.args.words found (g.C.Cells.bytes c.take.new.c) (g.C.Cells.bytes c.take-in-None.new.c))
    (λ found. Chooses c.args.words found (g.C.Cells.bytes c.args.c.now) (g.C.Cells.bytes c.take-in-None.new.c))
    (λ found takes. large_chooses (g.C.Cells.bytes c.args.c.now) (g.C.Cells.bytes c.take.new.c)
    (g.C.Cells.bytes c.take-in-None.new.c) c.args.words found
    (subst (λ (o : Option ℕ). TakesSmall c.args.words o (g.C.Cells.bytes c.args.c.now) (g.C.Cells.bytes c.take.new.c))
    c.in-None.is c.in_ok-addr.ensures.taken) takes)
    c.take-in-None.ensures.taken

pub returns-in-None-clause-none : goal.returns-in-None-clause-none
returns-in-None-clause-none g c =
    let t = g.C.Cells.transaction in
    none_behind (t c.args.c.now) (t c.take.new.c) (t c.take-in-None.new.c) c.take-in-None.result (rw c.in-None.is at c.in_ok-addr.ensures.none) c.take-in-None.ensures.none
