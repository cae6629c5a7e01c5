-- The word that is read is that of the bytes.
use Rattle.std.proofs.Common.{◌≡◌, ◌*◌, ◌∙◌, ap}
use Rattle.std.proofs.lemmas.Result.{IfOk-weaker}
use Rattle.sdr_base.specs.Stored.{number_at}
use Rattle.sdr_base.specs.KeptHeap.{root_in}
use Rattle.sdr_heap.specs.Noted.{Held}
use Rattle.sdr_heap.proofs.HeldWorksLemmas.{held_looks}
use Rattle.sdr_heap.proofs.RootLemmas.{root_is}
use Rattle.sdr_heap.proofs.objects.HeapObjects.root.Goals as goal

pub returns-clause-given : goal.returns-clause-given
returns-clause-given g c =
    IfOk-weaker c.read_number.result
    (λ value. value ≡ number_at (8 * c.args.word) (g.C.Cells.bytes c.self.inside.cells))
    (λ value. value ≡ root_in (g.C.Cells.bytes c.args.self.now.cells) c.args.word)
    (λ value is. is ∙ root_is (g.C.Cells.bytes c.self.inside.cells) c.args.word c.requires.least c.requires.most
    ∙ ap (λ (h : Held g.row.C.Denot). root_in (g.C.Cells.bytes h.cells) c.args.word) c.self.view_is)
    c.read_number.ensures.given

pub returns-clause-looks : goal.returns-clause-looks
returns-clause-looks g c =
    held_looks g.C.Cells.bytes g.C.Cells.transaction g.C.Cells.quiet g.met.C.Cells.quiet_trans
    _ _ c.read_number.new.c c.read_number.result c.self.view_is c.requires.kept c.read_number.ensures.same
    c.read_number.ensures.room c.read_number.ensures.cause c.read_number.ensures.quiet
