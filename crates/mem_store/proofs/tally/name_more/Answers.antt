use Rattle.std.proofs.Common.{◌+◌, ap, arith, refl, ◌∙◌}
use Rattle.std.specs.Option.{option_copied}
use Rattle.sdr_model.specs.Amounts.{amount}
use Rattle.mem_store.specs.Tallies.{source_bytes}
use Rattle.mem_store.proofs.TallyLemmas.{Sums-again, Sums-first}
use Rattle.mem_store.proofs.tally.name_more.Goals as goal

pub returns-in_ok-tally-clause-sums : goal.returns-in_ok-tally-clause-sums
returns-in_ok-tally-clause-sums c = λ acct sums.
    Sums-first acct _ c.args.tally.now _ c.args.source c.in_ok-checked_add.field-0 (λ at. c.in_ok-set_count.ensures at)
    (omega (arith, c.count-before.ensures))
    (omega (arith, c.in_ok-checked_add.ensures))
    (λ space. c.in_ok-tally.ensures (λ s. source_bytes s (option_copied c.thing_at.result)) c.source_charge.ensures space
    ∙ ap (λ o. amount c.args.tally.now.charged space + source_bytes space o) c.thing_at.ensures)
    sums

pub returns-else-before-eq0-clause-sums : goal.returns-else-before-eq0-clause-sums
returns-else-before-eq0-clause-sums c = λ acct sums.
    Sums-again acct _ c.args.tally.now _ c.args.source c.in_ok-checked_add.field-0 (λ at. c.in_ok-set_count.ensures at)
    (omega (arith, c.count-before.ensures))
    (omega (arith, c.in_ok-checked_add.ensures))
    refl
    sums
