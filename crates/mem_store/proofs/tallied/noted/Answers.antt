use Rattle.std.proofs.Common.{ap, sym, subst, ◌∙◌}
use Rattle.std.specs.FinMap.{remove}
use Rattle.std.specs.Prelude.{IfSome}
use Rattle.mem_store.specs.Store.{now_at, things_at}
use Rattle.mem_store.specs.Tallies.{AreNoted, raw_named}
use Rattle.mem_store.proofs.RawsLemmas.{AreNoted-other, noted-noted}
use Rattle.mem_store.proofs.tallied.noted.Goals as goal

pub returns-in-Some : goal.returns-in-Some
returns-in-Some c = λ are.
    let all = things_at now_at c.args.places.now.entries in
    noted-noted all c.args.addr c.in_ok-raws.raws c.note.result c.in-Some.raw
    (ap raw_named (sym c.thing_at.ensures) ∙ sym c.raw_named.ensures ∙ c.in-Some.is)
    c.note.ensures
    (subst (λ o. IfSome o (AreNoted (remove all c.args.addr))) c.in_ok-raws.was are)

pub returns-in-None : goal.returns-in-None
returns-in-None c = λ are.
    let all = things_at now_at c.args.places.now.entries in
    AreNoted-other all c.args.addr c.in_ok-raws.raws
    (ap raw_named (sym c.thing_at.ensures) ∙ sym c.raw_named.ensures ∙ c.in-None.is)
    (subst (λ o. IfSome o (AreNoted (remove all c.args.addr))) c.in_ok-raws.was are)
