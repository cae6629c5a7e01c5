use Rattle.std.proofs.Common.{◌∙◌, ap, subst, sym, List, ℕ, length}
use Rattle.std.specs.Prelude.{Contains, replicate}
use Rattle.sdr_log.specs.Calls.{AreBelow, HoldLines}
use Rattle.sdr_log.specs.Log.{heap_of}
use Rattle.sdr_image.specs.Lines.{IsLineOf, begun_of, now_of}
use Rattle.sdr_image.specs.declared.lines.Lines.{Lines}
use Rattle.sdr_image.specs.declared.marks.Stand.TheVariants.{Clean}
use Rattle.sdr_image.proofs.RestedLemmas.{cached_now, news_held, rested, rested_lines, risen_marked}
use Rattle.sdr_image.proofs.closing.end.Goals as goal

pub returns-clause-rests : goal.returns-clause-rests
returns-clause-rests g c =
    let a = c.args in
    let f = a.frame in
    let o = a.lines.now in
    let x = g.D.Disk.bytes a.disk.now in
    let y = g.D.Disk.bytes c.close_all.new.disk in
    let m = c.close_all.new.lines in
    let l = c.untouch.new.lines in
    let u = c.untouch.ensures in
    let ends = c.in_ok-close_all.ensures.ends in
    let cache = ap (λ (v : Lines). v.cache) u in
    let held = subst (HoldLines (heap_of f y)) (sym c.news.ensures)
    (news_held f (begun_of x) o x c.requires.stands c.requires.kept y ends.heap m.buffer c.close_all.ensures.risen) in
    let below = subst (AreBelow f.heap_lines) (sym c.news.ensures) c.close_all.ensures.lines.below in
    let cached : (e : ℕ × List ℕ) → Contains m.cache e → IsLineOf f y e =
    λ e has. cached_now f (begun_of x) o x c.requires.stands c.requires.kept y ends.heap e
    (subst (λ (es : List (ℕ × List ℕ)). Contains es e) c.close_all.ensures.cache has) in
    rested f (now_of f o x) y l ends (ap (λ (v : Lines). v.place) u) (ap (λ (v : Lines). v.logged) u)
    (ap (λ (v : Lines). v.buffer) u) (length m.marks) (ap (λ (v : Lines). v.marks) u)
    (λ e has. c.keep_all.ensures f y held below cached e
    (subst (λ (es : List (ℕ × List ℕ)). Contains es e) cache has))

pub returns-clause-lines : goal.returns-clause-lines
returns-clause-lines g c =
    let f = c.args.frame in
    let u = c.untouch.ensures in
    let k = c.close_all.ensures.lines in
    rested_lines f c.untouch.new.lines (ap (λ (v : Lines). v.logged) u) (ap (λ (v : Lines). v.buffer) u)
    (ap (λ (v : Lines). v.marks) u ∙ ap (λ (n : ℕ). replicate n Clean) k.long)
    (ap (λ (v : Lines). length v.batch.items) u ∙ k.batch)

pub returns-clause-written : goal.returns-clause-written
returns-clause-written g c gate = c.in_ok-close_all.ensures.written gate

pub untouch-requires : goal.untouch-requires
untouch-requires g c =
    let e = c.close_all.ensures in
    risen_marked c.args.frame (begun_of (g.D.Disk.bytes c.args.disk.now)) c.args.lines.now (g.D.Disk.bytes c.args.disk.now)
    c.requires.stands c.requires.kept (record c.close_all.new.lines { cache = c.keep_all.new.cache }) e.risen e.logged e.marks
