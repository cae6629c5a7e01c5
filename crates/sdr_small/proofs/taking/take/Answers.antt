-- The front or a new block is what the rule gives.
use Rattle.std.proofs.Common.{◌≡◌, ◌∙◌, sym, ap, arith, ℕ, List}
use Rattle.std.proofs.lemmas.Result.{IfOk-weaker}
use Rattle.sdr_base.proofs.LeavingLemmas.{none_behind}
use Rattle.sdr_base.specs.Stored.{number_at}
use Rattle.sdr_base.specs.KeptPools.{list_place}
use Rattle.sdr_small.specs.Calls.{TakesNew, TakesSmall, IsGiveable}
use Rattle.sdr_small.proofs.CallsLemmas.{FitsIn, front_fits, takes_front, takes_cut, TakesSmall-kept, TakesSmall-used, OnOk-from}
use Rattle.sdr_small.proofs.taking.take.Goals as goal

pub returns-then-front-eq0-clause-taken : goal.returns-then-front-eq0-clause-taken
returns-then-front-eq0-clause-taken g c =
    let x = g.C.Cells.bytes c.args.c.now in
    let z = g.C.Cells.bytes c.read_number-2.new.c in
    let y = g.C.Cells.bytes c.take_new.new.c in
    let given : c.in_ok-front.front ≡ number_at (list_place c.args.words) x =
    c.in_ok-front.ensures.given ∙ ap (λ (l : List ℕ). number_at (list_place c.args.words) l) c.in_ok-low.ensures.same in
    IfOk-weaker c.take_new.result
    (λ found. TakesNew c.args.words c.in_ok-low.low found z y)
    (λ found. TakesSmall c.args.words found x y)
    (λ found takes. takes_cut x z y c.args.words c.in_ok-low.low found
    (c.in_ok-front.ensures.same ∙ c.in_ok-low.ensures.same) c.requires.some (omega arith)
    c.in_ok-low.ensures.given (sym given ∙ c.if-front-eq0.true) takes)
    c.take_new.ensures.taken

pub take_listed-requires : goal.take_listed-requires
take_listed-requires g c =
    let x = g.C.Cells.bytes c.args.c.now in
    let z = g.C.Cells.bytes c.read_number-2.new.c in
    let given : c.in_ok-front.front ≡ number_at (list_place c.args.words) x =
    c.in_ok-front.ensures.given ∙ ap (λ (l : List ℕ). number_at (list_place c.args.words) l) c.in_ok-low.ensures.same in
    let f : FitsIn z c.in_ok-front.front =
    front_fits x z c.requires.pools.pools c.args.words c.in_ok-front.front
    (c.in_ok-front.ensures.same ∙ c.in_ok-low.ensures.same) c.requires.pools.keeps c.requires.some (omega arith) given
    c.if-front-eq0.false in
    record {
      words = omega arith;
      least = f.least;
      control = f.control;
      inside = f.inside;
      bit = f.bit;
    }

pub returns-clause-taken : goal.returns-clause-taken
returns-clause-taken g c =
    let x = g.C.Cells.bytes c.args.c.now in
    let z = g.C.Cells.bytes c.read_number-2.new.c in
    let y = g.C.Cells.bytes c.take_listed.new.c in
    let given : c.in_ok-front.front ≡ number_at (list_place c.args.words) x =
    c.in_ok-front.ensures.given ∙ ap (λ (l : List ℕ). number_at (list_place c.args.words) l) c.in_ok-low.ensures.same in
    takes_front x z y c.args.words c.in_ok-front.front (c.in_ok-front.ensures.same ∙ c.in_ok-low.ensures.same)
    c.requires.some (omega arith) given c.if-front-eq0.false c.in_ok-take_listed.ensures.taken

pub returns-then-front-eq0-clause-used : goal.returns-then-front-eq0-clause-used
returns-then-front-eq0-clause-used g c =
    let x = g.C.Cells.bytes c.args.c.now in
    let y = g.C.Cells.bytes c.take_new.new.c in
    IfOk-weaker c.take_new.result (λ found. TakesSmall c.args.words found x y) (λ found. IsGiveable found y)
    (λ found takes. TakesSmall-used x y c.args.words found c.requires.pools takes)
    (returns-then-front-eq0-clause-taken g c)

pub returns-then-front-eq0-clause-kept : goal.returns-then-front-eq0-clause-kept
returns-then-front-eq0-clause-kept g c =
    let x = g.C.Cells.bytes c.args.c.now in
    let y = g.C.Cells.bytes c.take_new.new.c in
    OnOk-from (λ found. TakesSmall c.args.words found x y) c.take_new.result
    (λ found takes. TakesSmall-kept x y c.args.words found c.requires.pools takes)
    (returns-then-front-eq0-clause-taken g c)

pub returns-clause-used : goal.returns-clause-used
returns-clause-used g c = TakesSmall-used _ _ c.args.words _ c.requires.pools (returns-clause-taken g c)

pub returns-clause-kept : goal.returns-clause-kept
returns-clause-kept g c = TakesSmall-kept _ _ c.args.words _ c.requires.pools (returns-clause-taken g c)

pub returns-then-front-eq0-clause-none : goal.returns-then-front-eq0-clause-none
returns-then-front-eq0-clause-none g c =
    let t = g.C.Cells.transaction in
    none_behind (t c.args.c.now) (t c.read_number-2.new.c) (t c.take_new.new.c) c.take_new.result
    (c.in_ok-front.ensures.room.touched ∙ c.in_ok-low.ensures.room.touched) c.take_new.ensures.none
