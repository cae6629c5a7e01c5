use Rattle.std.proofs.Common.{◌≡◌, ◌≤◌, ◌<◌, ◌+◌, ◌-◌, min, length, drop, ap, ◌∙◌, arith}
use Rattle.sdr_load.proofs.LeftLemmas.{left_of_next, left_of_passed}
use Rattle.sdr_load.proofs.load_steps.LoadSteps.pass.Goals as goal

pub returns-then-left-gt1 : goal.returns-then-left-gt1
returns-then-left-gt1 c =
    let s = c.self.inside in
    let now : s.done + c.min.result ≡ s.done + min (length s.steps - s.done) 1 = omega arith in
    let is = left_of_passed s.steps s.done s.line s.round s.last (s.done + c.min.result) c.self.invariant now ∙ ap (drop 1) c.self.view_is in
    record {
      passed = λ step rest was. is ∙ ap (drop 1) was;
      none = λ was. is ∙ ap (drop 1) was;
      same = tt;
    }

pub returns : goal.returns
returns c =
    let s = c.self.inside in
    let next = c.in_ok-next.next in
    let end : length s.steps ≤ s.done + 1 = omega arith in
    let more : s.round < s.last = omega arith in
    let is = left_of_next s.steps next s.done s.line s.round s.last (s.line + c.len-2.result) c.self.invariant more end
    c.in_ok-next.ensures.steps (ap (λ n. s.line + n) c.len-2.ensures) ∙ ap (drop 1) c.self.view_is in
    record {
      passed = λ step rest was. is ∙ ap (drop 1) was;
      none = λ was. is ∙ ap (drop 1) was;
      same = tt;
    }
