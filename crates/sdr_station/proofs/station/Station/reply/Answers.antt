use Rattle.std.proofs.Common.{◌≡◌, ◌∙◌, ℕ, Some, ap, arith, refl, sym, subst, true}
use Rattle.sdr_machine.proofs.ServedLemmas.{noted_depth}
use Rattle.sdr_machine.proofs.WorkLemmas.{on_none}
use Rattle.sdr_machine.specs.Crash.{LeavesBefore}
use Rattle.sdr_machine.specs.declared.nesting.Nesting.{Nesting}
use Rattle.sdr_model.specs.Reading.{is_reading}
use Rattle.sdr_model.specs.declared.answer.Reply.TheVariants as replies
use Rattle.sdr_station.proofs.ForgettingLemmas.{unmade_asks, unmade_depth, unmade_leaves, unmade_lines, unmade_quiet}
use Rattle.sdr_station.proofs.GroundLemmas.{heap_ground}
use Rattle.sdr_station.proofs.SayingLemmas.{failed_station, says_well}
use Rattle.sdr_station.proofs.ServingLemmas.{QuietOn}
use Rattle.sdr_station.proofs.StationLemmas.{undoomed_noted}
use Rattle.sdr_station.specs.Giving.{AsksMedia}
use Rattle.sdr_station.specs.Stationed.{SaysOr, Stationed}
use Rattle.sdr_station.proofs.station.Station.reply.Goals as goal

pub returns-in-Ok-clause-says : goal.returns-in-Ok-clause-says
returns-in-Ok-clause-says g c =
    let D = g.row.D.Denot in
    let M = g.row.M.Denot in
    let h = heap_ground g.D.Disk.bytes g.D.Disk.tells_crashes g.D.Disk.moment g.D.Disk.faults g.D.Disk.may_hold_after g.M.Media in
    let e = c.in-Ok.ensures in
    let reply = c.in-Ok.reply in
    let old : Stationed D M = record { ground = c.self.inside.ground; nesting = c.self.inside.nesting; failed = c.self.inside.failed } in
    let new : Stationed D M = record { ground = c.serve.new.self; nesting = c.note.new.self; failed = c.self.inside.failed } in
    subst (λ (s : Stationed D M). SaysOr h c.args.call.now reply s new) c.self.view_is
    (on_none _ _ c.self.inside.failed c.in_default.is (on_none _ _ c.self.inside.nesting.doom c.in_default-doom.is
    (says_well h c.args.call.now reply old new e.other (record {
      memory = e.memory;
      steps = e.answered;
      nesting = c.note.ensures;
      failed = c.in_default.is;
      restored = e.restored;
      gap = e.gap;
      unread = e.unread;
      keeps = e.keeps;
    }))))

pub returns-in-Err-clause-says : goal.returns-in-Err-clause-says
returns-in-Err-clause-says g c =
    let D = g.row.D.Denot in
    let M = g.row.M.Denot in
    let h = heap_ground g.D.Disk.bytes g.D.Disk.tells_crashes g.D.Disk.moment g.D.Disk.faults g.D.Disk.may_hold_after g.M.Media in
    let new : Stationed D M = record { ground = c.serve.new.self; nesting = c.self.inside.nesting; failed = Some c.moment.result } in
    subst (λ (s : Stationed D M). SaysOr h c.args.call.now replies.DiskFault s new) c.self.view_is
    (on_none _ _ c.self.inside.failed c.in_default.is (on_none _ _ c.self.inside.nesting.doom c.in_default-doom.is
    (record {
      fault = c.in-Err.ensures.fault;
      failed = ap (λ (m : ℕ). Some m) c.moment.ensures;
      nesting = refl;
      restored = c.in-Err.ensures.restored;
    })))

pub invariant_of-self : goal.invariant_of-self
invariant_of-self g c =
    let call = c.args.call.now in
    let reply = c.in-Ok.reply in
    let n : Nesting = c.self.inside.nesting in
    record {
      going = λ sound none. c.in-Ok.ensures.stopped ∙ undoomed_noted call reply n (ap (λ (m : Nesting). m.doom) (sym c.note.ensures) ∙ none);
      idle = λ sound zero.
          let same : c.note.new.self.depth ≡ n.depth = ap (λ (m : Nesting). m.depth) c.note.ensures ∙ noted_depth call reply n in
          let here : n.depth ≡ c.args.self.now.nesting.depth = ap (λ (s : Stationed g.row.D.Denot g.row.M.Denot). s.nesting.depth) c.self.view_is in
          absurd (omega (arith, same, here, zero, c.requires.begun));
      outside = λ sound zero.
          let same : c.note.new.self.depth ≡ n.depth = ap (λ (m : Nesting). m.depth) c.note.ensures ∙ noted_depth call reply n in
          let here : n.depth ≡ c.args.self.now.nesting.depth = ap (λ (s : Stationed g.row.D.Denot g.row.M.Denot). s.nesting.depth) c.self.view_is in
          absurd (omega (arith, same, here, zero, c.requires.begun));
      sound = λ sound. c.in-Ok.ensures.sound;
    }

pub invariant_of-self-in-Err : goal.invariant_of-self-in-Err
invariant_of-self-in-Err g c = failed_station c.serve.new.self c.self.inside.nesting c.moment.result

pub returns-in-Ok-clause-any_moment : goal.returns-in-Ok-clause-any_moment
returns-in-Ok-clause-any_moment g c =
    let h = heap_ground g.D.Disk.bytes g.D.Disk.tells_crashes g.D.Disk.moment g.D.Disk.faults g.D.Disk.may_hold_after g.M.Media in
    subst (λ (s : Stationed g.row.D.Denot g.row.M.Denot). LeavesBefore h s.ground c.serve.new.self) c.self.view_is c.in-Ok.ensures.any_moment

pub returns-in-Ok-clause-quiet : goal.returns-in-Ok-clause-quiet
returns-in-Ok-clause-quiet g c =
    subst (λ (s : Stationed g.row.D.Denot g.row.M.Denot). QuietOn g.D.Disk s.ground.heap.cells c.serve.new.self.heap.cells) c.self.view_is
    c.in-Ok.ensures.quiet

pub returns-in-Ok-clause-lines : goal.returns-in-Ok-clause-lines
returns-in-Ok-clause-lines g c =
    subst (λ (s : Stationed g.row.D.Denot g.row.M.Denot). is_reading c.args.call.now ≡ true
    → c.serve.new.self.heap.cells.touched ≡ s.ground.heap.cells.touched) c.self.view_is c.in-Ok.ensures.lines

pub returns-in-Ok-clause-asks : goal.returns-in-Ok-clause-asks
returns-in-Ok-clause-asks g c =
    subst (λ (s : Stationed g.row.D.Denot g.row.M.Denot). AsksMedia g.M.Media c.args.call.now s.ground c.serve.new.self) c.self.view_is
    c.in-Ok.ensures.asks

pub returns-in-Err-clause-any_moment : goal.returns-in-Err-clause-any_moment
returns-in-Err-clause-any_moment g c =
    let h = heap_ground g.D.Disk.bytes g.D.Disk.tells_crashes g.D.Disk.moment g.D.Disk.faults g.D.Disk.may_hold_after g.M.Media in
    subst (λ (s : Stationed g.row.D.Denot g.row.M.Denot). LeavesBefore h s.ground c.serve.new.self) c.self.view_is c.in-Err.ensures.any_moment

pub returns-in-Err-clause-quiet : goal.returns-in-Err-clause-quiet
returns-in-Err-clause-quiet g c =
    subst (λ (s : Stationed g.row.D.Denot g.row.M.Denot). QuietOn g.D.Disk s.ground.heap.cells c.serve.new.self.heap.cells) c.self.view_is
    c.in-Err.ensures.quiet

pub returns-in-Err-clause-lines : goal.returns-in-Err-clause-lines
returns-in-Err-clause-lines g c =
    subst (λ (s : Stationed g.row.D.Denot g.row.M.Denot). is_reading c.args.call.now ≡ true
    → c.serve.new.self.heap.cells.touched ≡ s.ground.heap.cells.touched) c.self.view_is c.in-Err.ensures.lines

pub returns-in-Err-clause-asks : goal.returns-in-Err-clause-asks
returns-in-Err-clause-asks g c =
    subst (λ (s : Stationed g.row.D.Denot g.row.M.Denot). AsksMedia g.M.Media c.args.call.now s.ground c.serve.new.self) c.self.view_is
    c.in-Err.ensures.asks

pub returns-in-Some-clause-any_moment : goal.returns-in-Some-clause-any_moment
returns-in-Some-clause-any_moment g c =
    let d = g.D.Disk in
    unmade_leaves c.args.self.now c.leave_unmade.new.self c.leave_unmade.ensures d.bytes d.tells_crashes d.moment d.faults d.may_hold_after g.M.Media

pub returns-in-Some-clause-quiet : goal.returns-in-Some-clause-quiet
returns-in-Some-clause-quiet g c =
    let d = g.D.Disk in
    unmade_quiet c.args.self.now c.leave_unmade.new.self c.leave_unmade.ensures d.bytes d.tells_crashes d.moment d.may_hold_after

pub returns-in-Some-clause-lines : goal.returns-in-Some-clause-lines
returns-in-Some-clause-lines g c reads = unmade_lines c.args.self.now c.leave_unmade.new.self c.leave_unmade.ensures

pub returns-in-Some-clause-depth : goal.returns-in-Some-clause-depth
returns-in-Some-clause-depth g c = unmade_depth c.args.self.now c.leave_unmade.new.self c.leave_unmade.ensures

pub returns-in-Some-clause-asks : goal.returns-in-Some-clause-asks
returns-in-Some-clause-asks g c = unmade_asks c.args.self.now c.leave_unmade.new.self c.leave_unmade.ensures g.M.Media c.args.call.now

pub returns-in-Some-doom-clause-any_moment : goal.returns-in-Some-doom-clause-any_moment
returns-in-Some-doom-clause-any_moment g c =
    let d = g.D.Disk in
    unmade_leaves c.args.self.now c.leave_unmade-in-Some-doom.new.self c.leave_unmade-in-Some-doom.ensures d.bytes d.tells_crashes d.moment d.faults d.may_hold_after g.M.Media

pub returns-in-Some-doom-clause-quiet : goal.returns-in-Some-doom-clause-quiet
returns-in-Some-doom-clause-quiet g c =
    let d = g.D.Disk in
    unmade_quiet c.args.self.now c.leave_unmade-in-Some-doom.new.self c.leave_unmade-in-Some-doom.ensures d.bytes d.tells_crashes d.moment d.may_hold_after

pub returns-in-Some-doom-clause-lines : goal.returns-in-Some-doom-clause-lines
returns-in-Some-doom-clause-lines g c reads = unmade_lines c.args.self.now c.leave_unmade-in-Some-doom.new.self c.leave_unmade-in-Some-doom.ensures

pub returns-in-Some-doom-clause-depth : goal.returns-in-Some-doom-clause-depth
returns-in-Some-doom-clause-depth g c = unmade_depth c.args.self.now c.leave_unmade-in-Some-doom.new.self c.leave_unmade-in-Some-doom.ensures

pub returns-in-Some-doom-clause-asks : goal.returns-in-Some-doom-clause-asks
returns-in-Some-doom-clause-asks g c = unmade_asks c.args.self.now c.leave_unmade-in-Some-doom.new.self c.leave_unmade-in-Some-doom.ensures g.M.Media c.args.call.now
