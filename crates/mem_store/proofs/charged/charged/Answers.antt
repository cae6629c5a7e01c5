use Rattle.std.proofs.Common.{◌≡◌, ◌+◌, [], arith, ap, ◌∙◌, rules}
use Rattle.std.specs.Prelude.{sum_by}
use Rattle.std.specs.Option.{option_copied}
use Rattle.sdr_base.specs.declared.kind.Space.{Space}
use Rattle.sdr_model.specs.Amounts.{amount}
use Rattle.sdr_model.specs.Charges.{thing_charge}
use Rattle.sdr_model.proofs.AmountLemmas.{amount-by, nothing_in, same_amounts}
use Rattle.mem_parts.specs.Capped.{capped, capped_by}
use Rattle.mem_store.specs.Charged.{charge_at, charged, world_of}
use Rattle.mem_store.specs.Store.{now_at, things_at, things_in}
use Rattle.mem_store.proofs.ChargedLemmas.{charge-pass}
use Rattle.mem_store.proofs.PlacesLemmas.{entries-things_at, sorted_places}
use Rattle.mem_store.proofs.charged.charged.Goals as goal

pub loop-addr-init : goal.loop-addr-init
loop-addr-init c =
    let places = c.args.places.now.entries in
    let w = world_of (things_at now_at places) in
    let all = λ (space : Space). ap (λ l. sum_by (λ e. thing_charge w c.args.acct space e.0 e.1) (things_in l)) (c.into_iter-addr-iterator.ensures.into_iter_gives ∙ c.iter-addr-items.ensures.rest)
    ∙ ap (sum_by (λ e. thing_charge w c.args.acct space e.0 e.1)) (entries-things_at places (sorted_places places c.iter-addr-items.ensures.ordered)) in
    record {
      held = λ space. omega (arith, nothing_in space);
      sum = λ space. omega (arith, nothing_in space, all space);
    }

pub loop-addr-preserved : goal.loop-addr-preserved
loop-addr-preserved c =
    let w = world_of (things_at now_at c.args.places.now.entries) in
    let acct = c.args.acct in
    let addr = c.in-Some.addr.now in
    let was = c.loop-addr.charge in
    let more = c.thing_charge.result in
    let both = λ (space : Space). ap (λ a. amount a space) c.capped_plus-charge.ensures ∙ amount-by (λ s. capped (amount was s + amount more s)) space in
    let here = λ (space : Space). ap (λ a. amount a space) c.thing_charge.ensures
    ∙ amount-by (λ s. capped (charge_at w acct s addr (option_copied c.current.result))) space
    ∙ ap (λ o. capped (charge_at w acct space addr o)) c.current.ensures in
    record {
      held = λ space. omega (arith, both space);
      sum = λ space.
          omega (
            arith,
            both space,
            here space,
            charge-pass (addr, c.in-Some.place.now) c.next.new.self c.loop-addr.addr-iterator c.in-Some.ensures.steps w acct space,
            c.loop-addr.invariant.sum space,
          );
    }

pub returns : goal.returns
returns c =
    let w = world_of (things_at now_at c.args.places.now.entries) in
    let acct = c.args.acct in
    let nil : c.loop-addr.addr-iterator ≡ [] = search rules in
    same_amounts c.loop-addr.charge (capped_by (charged w acct)) (λ space.
    omega (
      arith,
      c.loop-addr.invariant.held space,
      c.loop-addr.invariant.sum space,
      ap (λ l. sum_by (λ e. thing_charge w acct space e.0 e.1) (things_in l)) nil,
      amount-by (λ s. capped (charged w acct s)) space,
    ))
