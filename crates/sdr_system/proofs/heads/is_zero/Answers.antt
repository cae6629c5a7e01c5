use Rattle.std.proofs.Common.{◌≡◌, ◌∙◌, ◌==◌, ℕ, List, false, true, refl, rules, sym, ap, arith}
use Rattle.std.specs.List.{list_all}
use Rattle.sdr_base.specs.Parts.{part}
use Rattle.sdr_disk.proofs.MomentsLemmas.{Reads-trans}
use Rattle.sdr_system.proofs.HeadsLemmas.{zeros_more, zeros_not}
use Rattle.sdr_system.proofs.heads.is_zero.Goals as goal

pub returns-then-not-branch-clause-zero : goal.returns-then-not-branch-clause-zero
returns-then-not-branch-clause-zero g c =
    let piece = c.in_ok-is_zero_part.ensures.zero
    ∙ ap (λ (x : List ℕ). list_all (λ b. b == 0) (part c.loop-place.place c.min-next.result x)) c.loop-place.invariant.reads.same in
    let other : c.in_ok-is_zero_part.field-0 ≡ false = search (rules, c.if-not-branch.true) in
    sym (zeros_not _ c.loop-place.place c.min-next.result c.args.count
    (omega (arith, c.min-next.ensures, c.loop-place.invariant.inside)) c.loop-place.invariant.zero (sym piece ∙ other))

pub loop-place-preserved : goal.loop-place-preserved
loop-place-preserved g c =
    let piece = c.in_ok-is_zero_part.ensures.zero
    ∙ ap (λ (x : List ℕ). list_all (λ b. b == 0) (part c.loop-place.place c.min-next.result x)) c.loop-place.invariant.reads.same in
    let zero : c.in_ok-is_zero_part.field-0 ≡ true = search (rules, c.if-not-branch.false) in
    record {
      inside = omega (arith, c.min-next.ensures, c.loop-place.invariant.inside);
      zero = zeros_more _ c.loop-place.place c.min-next.result _ refl c.loop-place.invariant.zero (sym piece ∙ zero);
      later = omega (arith, c.loop-place.invariant.later, c.is_zero_part.ensures.cause.later);
      reads = Reads-trans _ _ _ _ _ _ _ c.loop-place.invariant.reads c.is_zero_part.ensures.reads;
    }
