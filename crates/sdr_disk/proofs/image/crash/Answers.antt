-- The image is that of the last good sync, with what was written since torn.
use Rattle.std.proofs.Common.{List, subst, sym}
use Rattle.sdr_disk.specs.Image.{AllFit, SplitsAtSync}
use Rattle.sdr_disk.specs.declared.change.KeptChange.{KeptChange}
use Rattle.sdr_disk.proofs.ImageLemmas.{AllFit-led, AllFit-rest, AllFit-take, image_of-crash}
use Rattle.sdr_disk.proofs.image.crash.Goals as goal

pub undo_all-requires : goal.undo_all-requires
undo_all-requires c = AllFit-rest _ _ _ (AllFit-led _ _ _ c.requires)

pub tear_all-requires : goal.tear_all-requires
tear_all-requires c =
    AllFit-rest _ _ _
    (subst (AllFit _) (sym c.begun.ensures)
    (AllFit-take _ _ _ (rw c.undo_all.auto.image (AllFit-led _ _ _ c.requires))))

pub returns : goal.returns
returns c =
    image_of-crash c.args.torn c.args.kept.now c.args.image.now c.args.moment c.synced-last.result c.requires
    (subst (λ (l : List KeptChange). SplitsAtSync l c.synced-last.result) c.returned.ensures c.synced-last.ensures)
    _ _ _ c.begun.ensures c.undo_all.ensures c.tear_all.ensures
