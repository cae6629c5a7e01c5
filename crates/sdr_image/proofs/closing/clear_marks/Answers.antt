use Rattle.std.proofs.Common.{◌≡◌, ◌∙◌, ℕ, List, cond, ap, sym}
use Rattle.std.specs.Prelude.{replicate}
use Rattle.sdr_log.specs.Log.{names_line}
use Rattle.sdr_log.specs.declared.record.Record.{Record}
use Rattle.sdr_image.specs.Marks.{stand_at}
use Rattle.sdr_image.specs.declared.marks.Stand.{Stand}
use Rattle.sdr_image.specs.declared.marks.Stand.TheVariants.{Clean}
use Rattle.sdr_image.proofs.MarksLemmas.{put_clean, replicate-clean}
use Rattle.sdr_image.proofs.closing.clear_marks.Goals as goal

pub set_all-requires-clause-below : goal.set_all-requires-clause-below
set_all-requires-clause-below c line named =
    c.requires.below line (sym (ap (λ (rs : List Record). names_line rs line) c.olds.ensures) ∙ named)

pub returns : goal.returns
returns c =
    let old = c.args.lines.now in
    let new = c.set_all.new.self in
    let each : (line : ℕ) → stand_at new line ≡ Clean = λ line.
    c.set_all.ensures.marked line
    ∙ ap (λ (rs : List Record). cond (names_line rs line) Clean (stand_at old.marks line)) c.olds.ensures
    ∙ put_clean (names_line old.buffer.olds line) (stand_at old.marks line) (c.requires.named c.if-lines-ne0.false line) in
    let is = replicate-clean new each ∙ ap (λ (n : ℕ). replicate n Clean) c.set_all.ensures.long in
    ap (λ (ms : List Stand). record old { marks = ms }) is
