use Rattle.std.proofs.Common.{◌≡◌, ◌∙◌, ℕ, ap, sym, arith}
use Rattle.sdr_daemon.specs.Coming.{is_over}
use Rattle.sdr_daemon.specs.Drawing.{entries_at, have_leave}
use Rattle.sdr_model.specs.declared.journal.Entry.{Entry}
use Rattle.sdr_turn.specs.declared.known.Known.{Known}
use Rattle.sdr_live.proofs.at_lock.take_turn.Goals as goal

pub returns : goal.returns
returns g c =
    let seat = c.give.new.seat in
    let place : seat.knows.place ≡ c.args.own.now.seat.knows.place =
    ap (λ (k : Known Entry). k.place) c.give.ensures.gave ∙ ap (λ (k : Known Entry). k.place) c.take-held.ensures.taken
    ∙ ap (λ (k : Known Entry). k.place) c.in-Some.ensures.drawn in
    let same : c.place-place.result ≡ c.take-held.new.seat.knows.place =
    c.place-place.ensures ∙ sym (ap (λ (k : Known Entry). k.place) c.take-held.ensures.taken) in
    let own = λ (p : ℕ). entries_at g.J.Origin.begins.daemons p c.draw_number-coming.new.self.run.core.log.journal in
    let comes : is_over c.draw_number-coming.result ≡ have_leave seat.knows.mine =
    c.draw_number-coming.ensures.left ∙ ap have_leave (ap own same ∙ c.give.ensures.made) in
    record {
      idle = (
        c.give.ensures.lock ∙ c.take-held.ensures.lock ∙ c.draw.ensures.lock ∙ c.requires.seat.idle.0,
        ap (λ (k : Known Entry). k.number) c.give.ensures.gave,
      );
      place = omega (arith, place, c.requires.seat.place);
      comes = comes;
    }
