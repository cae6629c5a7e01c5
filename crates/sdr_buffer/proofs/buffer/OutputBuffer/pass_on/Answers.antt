use Rattle.std.proofs.Common.{List, ap, subst, take, ℕ}
use Rattle.std.specs.Io.KnownBytes.{Appends}
use Rattle.sdr_buffer.specs.Waiting.{Waiting}
use Rattle.sdr_buffer.proofs.WaitingLemmas.{moved_on, part_of}
use Rattle.sdr_buffer.proofs.buffer.OutputBuffer.pass_on.Given.{Over}
use Rattle.sdr_buffer.proofs.buffer.OutputBuffer.pass_on.Goals as goal

-- a front of what waits was written
written : (g : Over) (c : goal.After-keep_behind g)
    → Appends (g.K.Sink.taken c.args.out.now) (g.K.Sink.taken c.write_front-count.new.out) (take c.write_front-count.result.0 c.args.self.now.bytes)
written g c =
    subst (λ (bytes : List ℕ). Appends (g.K.Sink.taken c.args.out.now) (g.K.Sink.taken c.write_front-count.new.out) (take c.write_front-count.result.0 bytes))
    (ap (λ (w : Waiting). w.bytes) c.self.view_is) c.write_front-count.ensures.bytes

pub returns-clause-err : goal.returns-clause-err
returns-clause-err g c = part_of c.write_front-count.result.1 _ _ c.args.self.now.bytes c.write_front-count.result.0 (written g c)

pub returns-clause-same : goal.returns-clause-same
returns-clause-same g c =
    moved_on _ _ c.args.self.now.bytes c.keep_behind.new.self.bytes c.write_front-count.result.0 (written g c) (ap (λ (w : Waiting). w.bytes) c.keep_behind.ensures)
