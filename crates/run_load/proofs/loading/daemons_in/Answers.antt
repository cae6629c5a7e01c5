use Rattle.std.proofs.Common.{◌≡◌, ◌+◌, ◌∙◌, IfOk, List, ℕ, ap, arith, min, subst, sym}
use Rattle.std.specs.List.{range_with_len}
use Rattle.run_load.proofs.LoadingLemmas.{first_are}
use Rattle.run_load.proofs.loading.daemons_in.Goals as goal

pub returns-clause-daemons : goal.returns-clause-daemons
returns-clause-daemons c =
    let last : c.min-count.result ≡ min 4 (c.args.rounds + 1) = omega arith in
    subst (λ (l : List ℕ). IfOk c.first_daemons.result (λ daemons. daemons.items ≡ l))
    (first_are c.min-count.result (omega arith) ∙ ap (range_with_len 1) last ∙ sym (c.daemons_of_loads.ensures c.args.rounds)) c.first_daemons.ensures.first
