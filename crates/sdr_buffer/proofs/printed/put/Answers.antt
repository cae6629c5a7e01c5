use Rattle.std.proofs.Common.{◌≡◌, ◌∙◌, List, OnErr, OnOk, Some, ap, arith, subst, take, ℕ}
use Rattle.std.specs.Io.KnownBytes.{Appends, append_known}
use Rattle.sdr_base.specs.Written.{AppendsPart}
use Rattle.sdr_buffer.proofs.WaitingLemmas.{cut_back, full_of}
use Rattle.sdr_buffer.proofs.printed.put.Given.{Over}
use Rattle.sdr_buffer.proofs.printed.put.Goals as goal

-- a part of the text was put behind what waited
part : (g : Over) (c : goal.After-put_straight g) → AppendsPart (Some c.args.waiting.now.bytes) (Some c.write_to.new.out.bytes) (g.P.Printed.text c.args.piece.now)
part g c =
    subst (λ (bytes : List ℕ). AppendsPart (Some bytes) (Some c.write_to.new.out.bytes) (g.P.Printed.text c.args.piece.now)) c.start-start.ensures.same
    c.in-Err.ensures.err

-- and is cut off again
back : (g : Over) (c : goal.After-put_straight g) → take c.start-start.result c.write_to.new.out.bytes ≡ c.args.waiting.now.bytes
back g c = ap (λ n. take n c.write_to.new.out.bytes) c.start-start.ensures.start ∙ cut_back c.args.waiting.now.bytes c.write_to.new.out.bytes _ (part g c)

pub returns-in-Err-clause-ok : goal.returns-in-Err-clause-ok
returns-in-Err-clause-ok g c =
    subst (λ (bytes : List ℕ). OnOk c.put_straight.result (Appends (append_known (g.K.Sink.taken c.args.out.now) bytes)
    (append_known (g.K.Sink.taken c.put_straight.new.out) c.put_straight.new.waiting.bytes) (g.P.Printed.text c.args.piece.now))) (back g c) c.put_straight.ensures.ok

pub returns-in-Err-clause-err : goal.returns-in-Err-clause-err
returns-in-Err-clause-err g c =
    subst (λ (bytes : List ℕ). OnErr c.put_straight.result (AppendsPart (append_known (g.K.Sink.taken c.args.out.now) bytes)
    (append_known (g.K.Sink.taken c.put_straight.new.out) c.put_straight.new.waiting.bytes) (g.P.Printed.text c.args.piece.now))) (back g c) c.put_straight.ensures.err

-- the buffer refused a write, so that it was full
pub returns-in-Err-clause-idle : goal.returns-in-Err-clause-idle
returns-in-Err-clause-idle g c = λ fits.
    let rose = c.in-Err.ensures.cause.failed in
    let none = c.start-start.ensures.none in
    let full = c.put_straight.ensures.full (omega (arith, rose, none)) in
    absurd (omega (arith, fits, full, full_of c.args.waiting.now.bytes c.write_to.new.out.bytes _ (part g c)))
