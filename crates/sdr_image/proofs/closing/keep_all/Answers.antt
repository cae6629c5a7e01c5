use Rattle.std.proofs.Common.{List, subst, sym, inl, inr}
use Rattle.sdr_log.specs.Calls.{AreBelow, HoldLines}
use Rattle.sdr_log.specs.Log.{heap_of}
use Rattle.sdr_log.specs.declared.record.Record.{Record}
use Rattle.sdr_image.specs.Lines.{IsLineOf}
use Rattle.sdr_image.proofs.closing.keep_all.Goals as goal

pub loop-first-init : goal.loop-first-init
loop-first-init c f x held below cached = (held, below, cached)

pub loop-first-preserved : goal.loop-first-preserved
loop-first-preserved c f x held below cached =
    let inv = c.loop-first.invariant f x held below cached in
    let is = c.in-Some.ensures.cases.0 in
    let held' = subst (λ (rs : List Record). HoldLines (heap_of f x) rs) is inv.0 in
    let below' = subst (λ (rs : List Record). AreBelow f.heap_lines rs) is inv.1 in (
      held'.1,
      below'.1,
      λ e has. elim (c.keep.ensures e has) [
        | inl old ↦ inv.2 e old
        | inr is ↦ subst (IsLineOf f x) (sym is) (below'.0, held'.0)
      ],
    )

pub returns : goal.returns
returns c f x held below cached = (c.loop-first.invariant f x held below cached).2
