use Rattle.std.proofs.Common.{◌∙◌, ap}
use Rattle.std.specs.Prelude.{map}
use Rattle.sdr_image.specs.Marks.{stand_of}
use Rattle.sdr_image.proofs.MarksLemmas.{clean_bytes}
use Rattle.sdr_image.proofs.marks.Marks.new.Goals as goal

pub returns : goal.returns
returns c = ap (map stand_of) (c.in_ok-vec.ensures.items_if_clones_equal (λ y is. is)) ∙ clean_bytes c.args.lines
