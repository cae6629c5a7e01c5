use Rattle.std.proofs.Common.{◌+◌, ap, arith, refl, sym, ◌∙◌}
use Rattle.std.specs.Option.{option_copied}
use Rattle.sdr_model.specs.Amounts.{amount}
use Rattle.mem_store.specs.Tallies.{source_bytes}
use Rattle.mem_store.proofs.TallyLemmas.{Sums-again, Sums-last}
use Rattle.mem_store.proofs.tally.name_less.Goals as goal

pub returns-in_ok-tally-clause-sums : goal.returns-in_ok-tally-clause-sums
returns-in_ok-tally-clause-sums c = λ acct sums.
    Sums-last acct _ c.args.tally.now _ c.args.source c.in_ok-after.after (λ at. c.in_ok-set_count.ensures at)
    (omega (arith, c.count.ensures, c.in_ok-after.ensures))
    (omega arith)
    (λ space. ap (λ o. amount c.in_ok-tally.field-0 space + source_bytes space o) (sym c.thing_at.ensures)
    ∙ c.in_ok-tally.ensures (λ s. source_bytes s (option_copied c.thing_at.result)) c.source_charge.ensures space)
    sums

pub returns-else-after-eq0-clause-sums : goal.returns-else-after-eq0-clause-sums
returns-else-after-eq0-clause-sums c = λ acct sums.
    Sums-again acct _ c.args.tally.now _ c.args.source c.in_ok-after.after (λ at. c.in_ok-set_count.ensures at)
    (omega (arith, c.count.ensures, c.in_ok-after.ensures))
    (omega arith)
    refl
    sums
