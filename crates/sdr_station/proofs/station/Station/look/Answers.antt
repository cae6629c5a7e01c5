-- What a ground shows of a ticket is told.
use Rattle.std.proofs.Common.{◌≡◌, ◌∙◌, ℕ, Bool, false, true≢false, Option, None, Some, Err, refl, sym, ap, subst}
use Rattle.std.specs.Prelude.{is_some}
use Rattle.sdr_base.specs.declared.stop.Stop.TheVariants as stops
use Rattle.sdr_machine.proofs.WorkLemmas.{on_none}
use Rattle.sdr_station.proofs.GroundLemmas.{heap_ground}
use Rattle.sdr_station.proofs.SayingLemmas.{failed_station, looks_same, looks_well}
use Rattle.sdr_station.specs.Grounded.{Grounded}
use Rattle.sdr_station.specs.Stationed.{IsTicketTold, LooksAt, StaysLooked, Stationed}
use Rattle.sdr_station.proofs.station.Station.look.Goals as goal

none_of : (o : Option ℕ) → is_some o ≡ false → o ≡ None
none_of None is = refl
none_of (Some x) is = absurd (true≢false is)

pub look-requires : goal.look-requires
look-requires g c =
    let none = none_of c.self.inside.failed (sym c.is_some.ensures ∙ c.if-is_some.false) in
    record { idle = c.self.invariant.outside none (ap (λ (s : Stationed g.row.D.Denot g.row.M.Denot). s.nesting.depth) c.self.view_is ∙ c.requires.outside) }

pub returns-in-Ok-clause-looks : goal.returns-in-Ok-clause-looks
returns-in-Ok-clause-looks g c =
    let D = g.row.D.Denot in
    let M = g.row.M.Denot in
    let d = g.D.Disk in
    let h = heap_ground d.bytes d.tells_crashes d.moment d.faults d.may_hold_after g.M.Media in
    let none = none_of c.self.inside.failed (sym c.is_some.ensures ∙ c.if-is_some.false) in
    let e = c.in-Ok.ensures in
    let old : Stationed D M = record { ground = c.self.inside.ground; nesting = c.self.inside.nesting; failed = c.self.inside.failed } in
    let new : Stationed D M = record { ground = c.look.new.self; nesting = c.self.inside.nesting; failed = c.self.inside.failed } in
    subst (λ (o : Stationed D M). LooksAt h c.args.ticket o new c.ticket_told.result) c.self.view_is
    (on_none _ _ c.self.inside.failed none
    (looks_well h c.args.ticket old new c.in-Ok.shown c.ticket_told.result c.ticket_told.ensures (record {
      told = λ v at.
          subst (λ (o : Option Bool). IsTicketTold c.args.ticket o c.ticket_told.result) (e.memory.each v at).tells.shown c.ticket_told.ensures;
      after = ap (λ (ground : Grounded D M). record { ground = ground; nesting = c.self.inside.nesting; failed = c.self.inside.failed }) e.same;
      still = record {
        each = λ v at.
            let s = e.memory.each v at in record { for = s.for; holds = s.holds; tells = s.tells.still };
      };
    })))

pub returns-in-Ok-clause-still : goal.returns-in-Ok-clause-still
returns-in-Ok-clause-still g c =
    let D = g.row.D.Denot in
    let M = g.row.M.Denot in
    let e = c.in-Ok.ensures in
    let new : Stationed D M = record { ground = c.look.new.self; nesting = c.self.inside.nesting; failed = c.self.inside.failed } in
    subst (λ (o : Stationed D M). StaysLooked g.D.Disk o new) c.self.view_is
    (record { reads = e.reads; quiet = e.quiet; media = ap (λ (x : Grounded D M). x.media) e.same })

pub returns-in-Err-clause-looks : goal.returns-in-Err-clause-looks
returns-in-Err-clause-looks g c =
    let D = g.row.D.Denot in
    let M = g.row.M.Denot in
    let d = g.D.Disk in
    let h = heap_ground d.bytes d.tells_crashes d.moment d.faults d.may_hold_after g.M.Media in
    let none = none_of c.self.inside.failed (sym c.is_some.ensures ∙ c.if-is_some.false) in
    let new : Stationed D M = record { ground = c.look.new.self; nesting = c.self.inside.nesting; failed = Some c.moment.result } in
    subst (λ (o : Stationed D M). LooksAt h c.args.ticket o new (Err stops.DiskFault)) c.self.view_is
    (on_none _ _ c.self.inside.failed none
    (record {
      fault = c.in-Err.ensures.fault;
      failed = ap (λ (m : ℕ). Some m) c.moment.ensures;
      nesting = refl;
      restored = ap (λ (x : Grounded D M). x.restored) c.in-Err.ensures.failed;
    }))

pub returns-in-Err-clause-still : goal.returns-in-Err-clause-still
returns-in-Err-clause-still g c =
    let D = g.row.D.Denot in
    let M = g.row.M.Denot in
    let e = c.in-Err.ensures in
    let new : Stationed D M = record { ground = c.look.new.self; nesting = c.self.inside.nesting; failed = Some c.moment.result } in
    subst (λ (o : Stationed D M). StaysLooked g.D.Disk o new) c.self.view_is
    (record { reads = e.reads; quiet = e.quiet; media = ap (λ (x : Grounded D M). x.media) e.failed })

pub returns-then-is_some-clause-still : goal.returns-then-is_some-clause-still
returns-then-is_some-clause-still g c = looks_same g.D.Disk c.args.self.now

pub invariant_of-self : goal.invariant_of-self
invariant_of-self g c =
    let is = c.self.invariant in
    let same = c.in-Ok.ensures.same in
    record {
      going = λ sound none. ap (λ (o : Grounded g.row.D.Denot g.row.M.Denot). o.stopped) same ∙ is.going sound none;
      idle = is.idle;
      outside = λ sound zero. ap (λ (o : Grounded g.row.D.Denot g.row.M.Denot). o.idle) same ∙ is.outside sound zero;
      sound = λ sound. c.in-Ok.ensures.sound;
    }

pub invariant_of-self-in-Err : goal.invariant_of-self-in-Err
invariant_of-self-in-Err g c = failed_station c.look.new.self c.self.inside.nesting c.moment.result
