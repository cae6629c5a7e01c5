-- The extent comes, and then the source counts it.
use Rattle.std.proofs.Common.{refl}
use Rattle.std.proofs.lemmas.Result.{IfErr-weaker, on_ok_weaker}
use Rattle.sdr_base.specs.Objects.{OnlyShort}
use Rattle.sdr_base.proofs.HeapLemmas.{short_after}
use Rattle.zco_obj.proofs.PairLemmas.{names_source, some_below, some_of_pair}
use Rattle.zco_part.proofs.WholeLemmas.{whole_of_pair}
use Rattle.zco_part.proofs.copying.name_bytes.Goals as goal

pub account-requires-clause-object : goal.account-requires-clause-object
account-requires-clause-object g c = some_of_pair c.requires.some.pair

pub push_extent-requires-clause-object : goal.push_extent-requires-clause-object
push_extent-requires-clause-object g c = rw c.account.ensures.looks.same (whole_of_pair c.requires.some)

pub attach-requires-clause-source : goal.attach-requires-clause-source
attach-requires-clause-source g c =
    some_below c.args.piece (rw c.account.ensures.looks.same at c.in_ok-push_extent.ensures.added) c.in_ok-acct.ensures.told c.requires.some.pair

pub returns-clause-named : goal.returns-clause-named
returns-clause-named g c =
    let a = rw c.account.ensures.looks.same at c.in_ok-push_extent.ensures.added in
    on_ok_weaker _ (λ b. names_source c.args.piece a c.in_ok-acct.ensures.told c.requires.some.pair b) c.attach.ensures.attached

pub returns-clause-refused : goal.returns-clause-refused
returns-clause-refused g c =
    let old = g.O.HasHeap.heap c.args.o.now in
    let mid = g.O.HasHeap.heap c.push_extent.new.o in
    let new = g.O.HasHeap.heap c.attach.new.o in
    let a = rw c.account.ensures.looks.same at c.in_ok-push_extent.ensures.added in
    IfErr-weaker _ _ (OnlyShort 32 old new) (λ stop u. short_after mid new stop a.made refl u) c.attach.ensures.refused
