use Rattle.std.proofs.Common.{◌≡◌, ◌≤◌, ◌==◌, ℕ, false, get_or, length, take}
use Rattle.std.specs.List.{list_any}
use Rattle.sdr_run.proofs.steps.named_by.Given as goal

abbrev pub invariant-loop-step : goal.invariant-loop-step
invariant-loop-step l =
    (length l.named ≡ 256)
    × ((daemon : ℕ) → daemon ≤ 255
    → get_or l.named daemon false ≡ list_any (λ step. step.daemon == daemon) (take l.step-index l.script))
