use Rattle.std.proofs.Common.{◌++◌}
use Rattle.std.proofs.KnownBytes.{Appends-trans}
use Rattle.sdr_base.specs.declared.account.Acct.TheVariants as accts
use Rattle.sdr_text.proofs.TextLemmas.{on_err, part_front, part_later}
use Rattle.sdr_text.proofs.PartLemmas.{part_behind, whole_behind}
use Rattle.sdr_text_world.specs.WorldText.{account_text, heap_line}
use Rattle.sdr_text_world.proofs.world.write_front.Goals as goal

pub returns-in_err-write_heap-clause-err : goal.returns-in_err-write_heap-clause-err
returns-in_err-write_heap-clause-err g c =
    let heap = heap_line c.args.census.now in
    let inbound = account_text c.args.world.now accts.Inbound in
    let outbound = account_text c.args.world.now accts.Outbound in
    on_err _ (part_front _ _ (heap ++ inbound) outbound (part_front _ _ heap inbound c.in_err-write_heap.ensures.err))

pub returns-in_err-write_account_of-clause-err : goal.returns-in_err-write_account_of-clause-err
returns-in_err-write_account_of-clause-err g c =
    let heap = heap_line c.args.census.now in
    let inbound = account_text c.args.world.now accts.Inbound in
    let outbound = account_text c.args.world.now accts.Outbound in
    on_err _
    (part_front _ _ (heap ++ inbound) outbound
    (part_later _ _ _ heap inbound c.in_ok-write_heap.ensures.ok c.in_err-write_account_of.ensures.err))

pub returns-clause-ok : goal.returns-clause-ok
returns-clause-ok g c =
    let heap = heap_line c.args.census.now in
    let inbound = account_text c.args.world.now accts.Inbound in
    whole_behind c.write_account_of-2.result _ _ _ (heap ++ inbound) (account_text c.args.world.now accts.Outbound)
    (Appends-trans _ _ _ heap inbound c.in_ok-write_heap.ensures.ok c.in_ok-write_account_of.ensures.ok)
    c.write_account_of-2.ensures.ok

pub returns-clause-err : goal.returns-clause-err
returns-clause-err g c =
    let heap = heap_line c.args.census.now in
    let inbound = account_text c.args.world.now accts.Inbound in
    part_behind c.write_account_of-2.result _ _ _ (heap ++ inbound) (account_text c.args.world.now accts.Outbound)
    (Appends-trans _ _ _ heap inbound c.in_ok-write_heap.ensures.ok c.in_ok-write_account_of.ensures.ok)
    c.write_account_of-2.ensures.err
