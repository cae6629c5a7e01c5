use Rattle.std.proofs.Common.{◌∙◌, refl, sym, ap}
use Rattle.audit_blocks.proofs.LargeLemmas.{large_walked}
use Rattle.audit_blocks.specs.declared.findings.Findings.{Findings}
use Rattle.audit_blocks.proofs.blocks.find_large.Goals as goal

pub returns-clause-walked : goal.returns-clause-walked
returns-clause-walked c =
    large_walked c.args.heap.now c.args.place c.read_label-label.result c.read_label-label.ensures.given c.requires.edges.right c.requires.edges.between
    c.requires.walked (sym c.is_large.ensures ∙ c.if-not-is_large.false)
    refl refl refl (ap (λ (f : Findings). f.unfit) c.note_large.ensures) (ap (λ (f : Findings). f.full) c.note_large.ensures)
    (ap (λ (f : Findings). f.touching) c.note_large.ensures) (ap (λ (f : Findings). f.edge) c.note_large.ensures)
    (ap (λ (f : Findings). f.after_free) c.note_large.ensures) c.spot.ensures
