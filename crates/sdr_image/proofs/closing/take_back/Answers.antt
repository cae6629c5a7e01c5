use Rattle.std.proofs.Common.{◌∙◌, ap, subst, List, ℕ, length}
use Rattle.std.specs.Prelude.{Contains, replicate}
use Rattle.sdr_image.specs.Lines.{begun_of}
use Rattle.sdr_image.specs.declared.lines.Lines.{Lines}
use Rattle.sdr_image.specs.declared.marks.Stand.TheVariants.{Clean}
use Rattle.sdr_image.proofs.RestedLemmas.{all_marked, cached_begun, ends_rest, rested, rested_lines}
use Rattle.sdr_image.proofs.closing.take_back.Goals as goal

pub returns-clause-rests : goal.returns-clause-rests
returns-clause-rests g c =
    let a = c.args in
    let f = a.frame in
    let o = a.lines.now in
    let x = g.D.Disk.bytes a.disk.now in
    let y = g.D.Disk.bytes c.undo_all.new.disk in
    let l = c.untouch.new.lines in
    let u = c.untouch.ensures in
    let ends = c.in_ok-undo_all.ensures.ends in
    let cache = ap (λ (v : Lines). v.cache) u in
    rested f (begun_of x) y l ends (ap (λ (v : Lines). v.place) u) (ap (λ (v : Lines). v.logged) u)
    (ap (λ (v : Lines). v.buffer) u) (length o.marks) (ap (λ (v : Lines). v.marks) u)
    (λ e has. cached_begun f (begun_of x) o x c.requires.stands c.requires.kept y ends.heap e
    (subst (λ (es : List (ℕ × List ℕ)). Contains es e) cache has))

pub returns-clause-kept : goal.returns-clause-kept
returns-clause-kept g c told keeps =
    let x = g.D.Disk.bytes c.args.disk.now in
    ends_rest c.args.frame (begun_of x) _ _ (c.in_ok-undo_all.ensures.rests told keeps)

pub returns-clause-lines : goal.returns-clause-lines
returns-clause-lines g c =
    let f = c.args.frame in
    let u = c.untouch.ensures in
    let k = c.requires.kept in
    rested_lines f c.untouch.new.lines (ap (λ (v : Lines). v.logged) u) (ap (λ (v : Lines). v.buffer) u)
    (ap (λ (v : Lines). v.marks) u ∙ ap (λ (n : ℕ). replicate n Clean) k.long)
    (ap (λ (v : Lines). length v.batch.items) u ∙ k.batch)

pub untouch-requires : goal.untouch-requires
untouch-requires g c =
    let x = g.D.Disk.bytes c.args.disk.now in
    all_marked c.args.frame (begun_of x) c.args.lines.now x c.requires.stands c.requires.kept
