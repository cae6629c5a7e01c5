use Rattle.std.proofs.Common.{◌≡◌, ◌∙◌, ◌+◌, ◌-◌, ℕ, ap, arith, drop, length, take}
use Rattle.sdr_image.proofs.lines.copy.Goals as goal

pub returns : goal.returns
returns c =
    let n = length c.args.into.now in
    let count : c.args.at + n - c.args.at ≡ n = omega arith in
    c.copy_from_slice.ensures.after ∙ ap (λ (k : ℕ). take k (drop c.args.at c.args.line.now)) count
