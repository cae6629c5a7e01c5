use Rattle.std.proofs.Common.{◌∙◌, ap, List}
use Rattle.std.specs.Prelude.{map, slice_set}
use Rattle.std.proofs.lemmas.List.{map-set}
use Rattle.sdr_image.specs.Marks.{stand_of}
use Rattle.sdr_image.specs.declared.marks.Stand.{Stand}
use Rattle.sdr_image.proofs.marks.Marks.set.Goals as goal

pub returns : goal.returns
returns c =
    map-set stand_of c.self.inside.bytes.items c.args.line c.byte_of.result
    ∙ ap (slice_set (map stand_of c.self.inside.bytes.items) c.args.line) c.byte_of.ensures
    ∙ ap (λ (v : List Stand). slice_set v c.args.line c.args.stand) c.self.view_is
