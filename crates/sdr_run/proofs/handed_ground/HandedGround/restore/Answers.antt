use Rattle.std.proofs.Common.{◌≡◌, ◌∙◌, ◌<◌, [], ap, arith, false, length, subst, sym}
use Rattle.sdr_image.specs.Opened.{Holds}
use Rattle.sdr_machine.specs.Serving.{Brings, RollsBack}
use Rattle.sdr_run.proofs.HandedLemmas.{stays_more}
use Rattle.sdr_run.proofs.QuietLemmas.{holds_same}
use Rattle.sdr_run.specs.Quiet.{IsSame}
use Rattle.sdr_station.specs.Grounded.{Grounded, StandsInMemory}
use Rattle.sdr_run.proofs.handed_ground.HandedGround.restore.Goals as goal

pub unreachable-requires : goal.unreachable-requires
unreachable-requires g c =
    let D = g.row.D.Denot in
    let M = g.row.M.Denot in
    let none = ap (λ (o : Grounded D M). o.heap.cells.touched) c.self.view_is ∙ c.requires.untouched in
    let some = c.in-Err.ensures.some in
    let zero = ap length none in
    omega (arith, some, zero)

pub returns-clause-back : goal.returns-clause-back
returns-clause-back g c =
    let D = g.row.D.Denot in
    let M = g.row.M.Denot in
    subst (λ (o : Grounded D M). Brings StandsInMemory o c.restore.new.self RollsBack) c.self.view_is c.in-Ok.ensures.memory

pub returns-clause-going : goal.returns-clause-going
returns-clause-going g c =
    let D = g.row.D.Denot in
    let M = g.row.M.Denot in
    c.in-Ok.ensures.going (ap (λ (o : Grounded D M). o.heap.cells.failed) c.self.view_is ∙ c.requires.sound)

pub returns-clause-untouched : goal.returns-clause-untouched
returns-clause-untouched g c =
    let D = g.row.D.Denot in
    let M = g.row.M.Denot in
    c.in-Ok.ensures.untouched (ap (λ (o : Grounded D M). o.heap.cells.failed) c.self.view_is ∙ c.requires.sound)

pub returns-clause-same : goal.returns-clause-same
returns-clause-same g c =
    let D = g.row.D.Denot in
    let M = g.row.M.Denot in
    let e = c.in-Ok.ensures in
    let none = ap (λ (o : Grounded D M). o.heap.cells.touched) c.self.view_is ∙ c.requires.untouched in
    subst (λ (o : Grounded D M). IsSame o c.restore.new.self) c.self.view_is (record { disk = e.still none; frame = e.inside.frame; media = e.media })

pub returns-clause-holds : goal.returns-clause-holds
returns-clause-holds g c =
    let D = g.row.D.Denot in
    let M = g.row.M.Denot in
    let e = c.in-Ok.ensures in
    let sound = ap (λ (o : Grounded D M). o.heap.cells.failed) c.self.view_is ∙ c.requires.sound in
    let none = ap (λ (o : Grounded D M). o.heap.cells.touched) c.self.view_is ∙ c.requires.untouched in
    subst (λ (o : Grounded D M). Holds g.D.Disk.bytes o.heap.cells) c.self.view_is
    (holds_same g.D.Disk.bytes c.self.inside.ground c.restore.new.self (e.sound ∙ sound) (e.untouched sound) none (e.still none) e.inside.frame e.begun e.holds)

pub returns-clause-seen : goal.returns-clause-seen
returns-clause-seen g c =
    let D = g.row.D.Denot in
    let M = g.row.M.Denot in
    subst (λ (o : Grounded D M). o.moment ≡ g.D.Disk.moment o.heap.cells.disk) c.self.view_is c.in-Ok.ensures.seen

pub invariant_of-self : goal.invariant_of-self
invariant_of-self g c =
    stays_more g.D.Disk.bytes g.D.Disk.tells_crashes g.J.HandedIn.was.bytes c.self.inside.ground c.restore.new.self c.self.invariant c.in-Ok.ensures.inside
