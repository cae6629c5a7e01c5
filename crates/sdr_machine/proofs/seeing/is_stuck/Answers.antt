use Rattle.std.proofs.Common.{[], ◌∷◌, not, subst, sym}
use Rattle.sdr_machine.specs.Serving.{Brings, Finds}
use Rattle.sdr_machine.proofs.GroundLemmas.{brings_also, brings_same}
use Rattle.sdr_machine.proofs.SeeingLemmas.{finds_going, finds_left, finds_waiting}
use Rattle.sdr_machine.proofs.seeing.is_stuck.Goals as goal

pub returns-then-daemon-clause-found : goal.returns-then-daemon-clause-found
returns-then-daemon-clause-found g c = brings_same (finds_left c.args.daemon.now c.if-daemon.true)

pub returns-in-None-clause-found : goal.returns-in-None-clause-found
returns-in-None-clause-found g c = brings_same (finds_going c.args.daemon.now c.if-daemon.false c.in-None.is)

pub returns-in-Ok-clause-found : goal.returns-in-Ok-clause-found
returns-in-Ok-clause-found g c =
    let d = c.args.daemon.now in
    subst (λ b. Brings g.T.HasGround.stands c.args.base.now c.look.new.self (Finds (d ∷ []) (not b))) (sym c.unwrap_or.ensures)
    (brings_also (finds_waiting d c.in-Some.ticket c.in-Ok.granted c.if-daemon.false c.in-Some.is) c.in-Ok.ensures.shown)
