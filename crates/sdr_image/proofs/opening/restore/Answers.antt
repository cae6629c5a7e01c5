use Rattle.sdr_image.proofs.FaultedLemmas.{back_failed}
use Rattle.sdr_image.proofs.OpenedLemmas.{may_put_back}
use Rattle.sdr_image.proofs.opening.restore.Goals as goal

pub returns-in-Ok-clause-synced : goal.returns-in-Ok-clause-synced
returns-in-Ok-clause-synced g c told may later =
    (c.in-Ok.ensures.rest told (may_put_back _ _ _ c.requires.framed.head may)).only

pub returns-in-Ok-clause-any_moment : goal.returns-in-Ok-clause-any_moment
returns-in-Ok-clause-any_moment g c told may =
    c.put_back_found.ensures.any_moment told (may_put_back _ _ _ c.requires.framed.head may)

pub returns-in-Err-DiskFault-clause-any_moment : goal.returns-in-Err-DiskFault-clause-any_moment
returns-in-Err-DiskFault-clause-any_moment g c told may =
    c.put_back_found.ensures.any_moment told (may_put_back _ _ _ c.requires.framed.head may)

pub returns-in-Err-BadLog-clause-any_moment : goal.returns-in-Err-BadLog-clause-any_moment
returns-in-Err-BadLog-clause-any_moment g c told may =
    c.put_back_found.ensures.any_moment told (may_put_back _ _ _ c.requires.framed.head may)

pub returns-in-Err-NoMemory-clause-any_moment : goal.returns-in-Err-NoMemory-clause-any_moment
returns-in-Err-NoMemory-clause-any_moment g c told may =
    c.put_back_found.ensures.any_moment told (may_put_back _ _ _ c.requires.framed.head may)

pub returns-in-Err-DiskFault-clause-faulted : goal.returns-in-Err-DiskFault-clause-faulted
returns-in-Err-DiskFault-clause-faulted g c =
    back_failed g.D.Disk.bytes g.D.Disk.tells_crashes g.D.Disk.moment g.D.Disk.may_hold_after c.args.frame _ _ c.requires.framed.head
    c.in-Err-DiskFault.ensures.faulted

pub returns-in-Err-BadLog-clause-faulted : goal.returns-in-Err-BadLog-clause-faulted
returns-in-Err-BadLog-clause-faulted g c =
    back_failed g.D.Disk.bytes g.D.Disk.tells_crashes g.D.Disk.moment g.D.Disk.may_hold_after c.args.frame _ _ c.requires.framed.head
    c.in-Err-BadLog.ensures.faulted

pub returns-in-Err-NoMemory-clause-faulted : goal.returns-in-Err-NoMemory-clause-faulted
returns-in-Err-NoMemory-clause-faulted g c =
    back_failed g.D.Disk.bytes g.D.Disk.tells_crashes g.D.Disk.moment g.D.Disk.may_hold_after c.args.frame _ _ c.requires.framed.head
    c.in-Err-NoMemory.ensures.faulted
