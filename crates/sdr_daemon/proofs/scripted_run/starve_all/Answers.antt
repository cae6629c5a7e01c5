use Rattle.std.proofs.Common.{Some, ap}
use Rattle.std.specs.Prelude.{slice_index_or, slice_set}
use Rattle.sdr_daemon.proofs.StarveLemmas.{starved_step}
use Rattle.sdr_model.specs.declared.event.Leave.{Leave}
use Rattle.sdr_daemon.specs.declared.script_place.ScriptPlace.{ScriptPlace}
use Rattle.sdr_daemon.proofs.scripted_run.starve_all.Goals as goal

pub loop-own-preserved : goal.loop-own-preserved
loop-own-preserved c =
    let i = c.loop-own.own-index in
    let own = slice_index_or c.loop-own.these i c.own-item.result in
    starved_step c.args.these.now c.loop-own.these _ i own c.loop-own.invariant (ap (λ (s : ScriptPlace). slice_index_or c.loop-own.these i s) c.own-item.is) c.loop-own-test.true
    (ap (λ (leave : Leave). slice_set c.loop-own.these i (record own { leaving = Some leave })) c.unwrap_or.ensures)
