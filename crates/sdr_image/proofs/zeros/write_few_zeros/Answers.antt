use Rattle.std.proofs.Common.{◌∙◌, ap, List, ℕ}
use Rattle.sdr_base.specs.Parts.{overwrite}
use Rattle.sdr_base.proofs.PartsLemmas.{take_zeros}
use Rattle.sdr_image.proofs.zeros.write_few_zeros.Goals as goal

pub returns-clause-written : goal.returns-clause-written
returns-clause-written g c =
    c.in_ok-write_at.ensures.written
    ∙ ap (λ (l : List ℕ). overwrite c.args.place l (g.D.Disk.bytes c.args.disk.now)) (take_zeros 4096 c.args.count c.requires.few)
