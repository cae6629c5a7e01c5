-- The block that was found, or a new one.
use Rattle.std.proofs.Common.{subst}
use Rattle.std.specs.Prelude.{Option}
use Rattle.std.proofs.lemmas.Result.{IfOk-weaker}
use Rattle.sdr_base.proofs.LeavingLemmas.{none_behind}
use Rattle.sdr_large.specs.declared.block.Block.{Block}
use Rattle.sdr_large.specs.Calls.{TakesLarge, TakesNew, IsGiveable}
use Rattle.sdr_large.specs.Steps.{Finds}
use Rattle.sdr_large.proofs.CallsLemmas.{found_cut, takes_cut, takes_new, TakesLarge-kept, TakesLarge-used, TakesLarge-others, OnOk-from}
use Rattle.sdr_large.proofs.taking.take.Goals as goal

pub take_cut-requires : goal.take_cut-requires
take_cut-requires g c = record {
  cut = found_cut (g.C.Cells.bytes c.args.c.now) (g.C.Cells.bytes c.find.new.c) c.args.words c.in-Some.block
      c.requires.pools
      (subst (λ (o : Option Block). Finds c.args.words o (g.C.Cells.bytes c.args.c.now)) c.in-Some.is
      c.in_ok-block.ensures.found) c.in_ok-block.ensures.same c.requires.some;
}

pub returns-in_ok-take_cut-in-Some-clause-taken : goal.returns-in_ok-take_cut-in-Some-clause-taken
returns-in_ok-take_cut-in-Some-clause-taken g c =
    takes_cut (g.C.Cells.bytes c.args.c.now) (g.C.Cells.bytes c.find.new.c) (g.C.Cells.bytes c.take_cut.new.c) c.args.words
    c.in-Some.block
    (subst (λ (o : Option Block). Finds c.args.words o (g.C.Cells.bytes c.args.c.now)) c.in-Some.is
    c.in_ok-block.ensures.found) c.in_ok-block.ensures.same c.requires.some c.in_ok-take_cut-in-Some.ensures.cut

pub returns-in_ok-take_cut-in-Some-clause-used : goal.returns-in_ok-take_cut-in-Some-clause-used
returns-in_ok-take_cut-in-Some-clause-used g c =
    TakesLarge-used _ _ c.args.words _ c.requires.pools (returns-in_ok-take_cut-in-Some-clause-taken g c)

pub returns-in_ok-take_cut-in-Some-clause-kept : goal.returns-in_ok-take_cut-in-Some-clause-kept
returns-in_ok-take_cut-in-Some-clause-kept g c =
    TakesLarge-kept _ _ c.args.words _ c.requires.pools (returns-in_ok-take_cut-in-Some-clause-taken g c)

pub returns-in-None-clause-taken : goal.returns-in-None-clause-taken
returns-in-None-clause-taken g c =
    IfOk-weaker c.take_new.result
    (λ found. TakesNew c.args.words found (g.C.Cells.bytes c.find.new.c) (g.C.Cells.bytes c.take_new.new.c))
    (λ found. TakesLarge c.args.words found (g.C.Cells.bytes c.args.c.now) (g.C.Cells.bytes c.take_new.new.c))
    (λ found takes. takes_new (g.C.Cells.bytes c.args.c.now) (g.C.Cells.bytes c.find.new.c)
    (g.C.Cells.bytes c.take_new.new.c) c.args.words found
    (subst (λ (o : Option Block). Finds c.args.words o (g.C.Cells.bytes c.args.c.now)) c.in-None.is
    c.in_ok-block.ensures.found) c.in_ok-block.ensures.same c.requires.some takes)
    c.take_new.ensures.taken

pub returns-in-None-clause-used : goal.returns-in-None-clause-used
returns-in-None-clause-used g c =
    IfOk-weaker c.take_new.result
    (λ found. TakesLarge c.args.words found (g.C.Cells.bytes c.args.c.now) (g.C.Cells.bytes c.take_new.new.c))
    (λ found. IsGiveable found (g.C.Cells.bytes c.take_new.new.c))
    (λ found takes. TakesLarge-used _ _ c.args.words found c.requires.pools takes)
    (returns-in-None-clause-taken g c)

pub returns-in-None-clause-kept : goal.returns-in-None-clause-kept
returns-in-None-clause-kept g c =
    OnOk-from (λ found. TakesLarge c.args.words found (g.C.Cells.bytes c.args.c.now) (g.C.Cells.bytes c.take_new.new.c))
    c.take_new.result (λ found takes. TakesLarge-kept _ _ c.args.words found c.requires.pools takes)
    (returns-in-None-clause-taken g c)

pub returns-in_ok-take_cut-in-Some-clause-others : goal.returns-in_ok-take_cut-in-Some-clause-others
returns-in_ok-take_cut-in-Some-clause-others g c =
    TakesLarge-others _ _ c.args.words _ (returns-in_ok-take_cut-in-Some-clause-taken g c)

pub returns-in-None-clause-others : goal.returns-in-None-clause-others
returns-in-None-clause-others g c =
    OnOk-from (λ found. TakesLarge c.args.words found (g.C.Cells.bytes c.args.c.now) (g.C.Cells.bytes c.take_new.new.c))
    c.take_new.result (λ found takes. TakesLarge-others _ _ c.args.words found takes)
    (returns-in-None-clause-taken g c)

pub returns-in-None-clause-none : goal.returns-in-None-clause-none
returns-in-None-clause-none g c =
    let t = g.C.Cells.transaction in
    none_behind (t c.args.c.now) (t c.find.new.c) (t c.take_new.new.c) c.take_new.result c.in_ok-block.ensures.room.touched c.take_new.ensures.none
