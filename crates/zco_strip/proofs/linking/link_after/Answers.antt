-- The last one's word is set, where there is one.
use Rattle.std.specs.Prelude.{Result, Ok, Err, OnOk}
use Rattle.std.proofs.lemmas.Result.{on_ok_weaker}
use Rattle.zco_strip.proofs.LinkLemmas.{links_after, links_none}
use Rattle.zco_strip.proofs.linking.link_after.Goals as goal

-- what holds in any case holds on success
always_ok : {T E P : Type 0} (r : Result T E) → P → OnOk r P
always_ok (Ok v) p = p
always_ok (Err e) p = tt

pub returns-then-last-eq0-clause-linked : goal.returns-then-last-eq0-clause-linked
returns-then-last-eq0-clause-linked g c =
    always_ok _ (links_none c.args.last c.args.next c.if-last-eq0.true c.check_failed.ensures.looks.same)

pub returns-else-last-eq0-clause-linked : goal.returns-else-last-eq0-clause-linked
returns-else-last-eq0-clause-linked g c =
    on_ok_weaker _ (λ w. links_after c.args.last c.args.next c.if-last-eq0.false w) c.set_word.ensures.written
