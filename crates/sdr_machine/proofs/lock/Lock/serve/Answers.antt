use Rattle.std.proofs.Common.{IfOk, subst, sym, ◌≡◌, false, arith, ◌==◌}
use Rattle.sdr_model.specs.declared.event.Event.{Event}
use Rattle.sdr_machine.specs.Crash.{commits_in}
use Rattle.sdr_machine.specs.Machine.{OnTurn, is_outside}
use Rattle.sdr_machine.specs.Serving.{Acts}
use Rattle.std.proofs.lemmas.Bool.Decides.{nat_tests}
use Rattle.sdr_machine.proofs.lock.Lock.serve.Goals as goal

pub returns-in-Begin-clause-serves : goal.returns-in-Begin-clause-serves
returns-in-Begin-clause-serves g c =
    let h = c.args.holding in
    let d = c.args.daemon in
    subst (λ (ev : Event). Acts g.T.HasGround (commits_in h.nesting ev) (λ m e m'. OnTurn m d h ev e m') d.id ev c.begin.result c.args.self.now c.begin.new.self) (sym c.in-Begin.is) c.begin.ensures

pub returns-in-End-clause-serves : goal.returns-in-End-clause-serves
returns-in-End-clause-serves g c =
    let h = c.args.holding in
    let d = c.args.daemon in
    subst (λ (ev : Event). IfOk c.end.result (λ a. Acts g.T.HasGround (commits_in h.nesting ev) (λ m e m'. OnTurn m d h ev e m') d.id ev a c.args.self.now c.end.new.self)) (sym c.in-End.is) c.end.ensures.closes

pub returns-in-Cancel-clause-serves : goal.returns-in-Cancel-clause-serves
returns-in-Cancel-clause-serves g c =
    let h = c.args.holding in
    let d = c.args.daemon in
    subst (λ (ev : Event). IfOk c.cancel.result (λ a. Acts g.T.HasGround (commits_in h.nesting ev) (λ m e m'. OnTurn m d h ev e m') d.id ev a c.args.self.now c.cancel.new.self)) (sym c.in-Cancel.is) c.cancel.ensures.closes

pub returns-in-Exit-clause-serves : goal.returns-in-Exit-clause-serves
returns-in-Exit-clause-serves g c =
    let h = c.args.holding in
    let d = c.args.daemon in
    subst (λ (ev : Event). IfOk c.exit.result (λ a. Acts g.T.HasGround (commits_in h.nesting ev) (λ m e m'. OnTurn m d h ev e m') d.id ev a c.args.self.now c.exit.new.self)) (sym c.in-Exit.is) c.exit.ensures.closes

pub returns-in-Say-clause-serves : goal.returns-in-Say-clause-serves
returns-in-Say-clause-serves g c =
    let h = c.args.holding in
    let d = c.args.daemon in
    subst (λ (ev : Event). IfOk c.say.result (λ a. Acts g.T.HasGround (commits_in h.nesting ev) (λ m e m'. OnTurn m d h ev e m') d.id ev a c.args.self.now c.say.new.self)) (sym c.in-Say.is) c.say.ensures.serves

pub say-requires-clause-begun : goal.say-requires-clause-begun
say-requires-clause-begun g c =
    let inside : (c.args.holding.nesting.depth == 0) ≡ false = subst (λ (ev : Event). is_outside c.args.holding ev ≡ false) c.in-Say.is c.requires.inside in
    grind (arith, nat_tests, inside)
