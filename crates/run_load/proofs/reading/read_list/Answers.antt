use Rattle.run_load.proofs.AskingLemmas.{fails_cause, still_by}
use Rattle.run_load.proofs.FoundLemmas.{asks_back, list_back}
use Rattle.sdr_machine.proofs.LockLemmas.{if_ok}
use Rattle.sdr_run.proofs.QuietLemmas.{quiet_behind}
use Rattle.run_load.proofs.reading.read_list.Goals as goal

pub restore-requires-clause-sound : goal.restore-requires-clause-sound
restore-requires-clause-sound g c = c.requires.stands.holds.sound

pub list_found-requires-clause-ready : goal.list_found-requires-clause-ready
list_found-requires-clause-ready g c =
    asks_back c.args.base.now c.restore.new.self c.requires.stands c.restore.ensures.back c.restore.ensures.going c.restore.ensures.untouched

pub returns-clause-list : goal.returns-clause-list
returns-clause-list g c =
    if_ok c.list_found.result _ _ (λ list is. list_back c.args.base.now c.restore.new.self list c.restore.ensures.back is) c.list_found.ensures.list

pub returns-clause-cause : goal.returns-clause-cause
returns-clause-cause g c =
    fails_cause g.D.Disk c.list_found.result c.args.base.now c.restore.new.self c.list_found.new.base c.restore.ensures.same c.list_found.ensures.fails

pub returns-clause-still : goal.returns-clause-still
returns-clause-still g c =
    quiet_behind g.D.Disk c.args.base.now c.restore.new.self c.list_found.new.base c.restore.ensures.same
    (still_by g.D.Disk c.list_found.result c.restore.new.self c.list_found.new.base c.list_found.ensures.asks c.list_found.ensures.fails)
