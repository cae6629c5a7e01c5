use Rattle.std.proofs.Common.{◌∙◌, ap, drop}
use Rattle.std.proofs.lemmas.Slice.{between_is}
use Rattle.sdr_buffer.proofs.WaitingLemmas.{waiting_of}
use Rattle.sdr_buffer.specs.Waiting.{Waiting}
use Rattle.sdr_buffer.proofs.buffer.OutputBuffer.keep_rest.Goals as goal

pub returns : goal.returns
returns c =
    waiting_of _ _
    (c.put_behind-len.ensures.text ∙ between_is c.self.inside.bytes c.args.count c.self.inside.len
    ∙ ap (drop c.args.count) (ap (λ (w : Waiting). w.bytes) c.self.view_is))
