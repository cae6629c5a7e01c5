use Rattle.std.proofs.Common.{◌∙◌, ◌+◌, ap, List, ℕ, ◌∷◌, [], arith, length}
use Rattle.sdr_base.specs.Parts.{overwrite}
use Rattle.sdr_disk.proofs.RangesLemmas.{Agrees-trans}
use Rattle.sdr_log.specs.Calls.{KeepsOutside}
use Rattle.sdr_log.proofs.BatchLemmas.{length-batch_of}
use Rattle.sdr_log.proofs.OpeningLemmas.{opens_written, with_batch-written}
use Rattle.sdr_log.proofs.OutsideLemmas.{agrees_inside}
use Rattle.sdr_log.proofs.PendingLemmas.{synced_only}
use Rattle.sdr_log.proofs.ProtocolLemmas.{at_batch, at_gate}
use Rattle.sdr_log.proofs.batch.write_batch.Given as given
use Rattle.sdr_log.proofs.batch.write_batch.Goals as goal
use Rattle.sdr_log.proofs.batch.write_batch.Goals.{After-save_batch}

pub save_batch-requires-clause-inside : goal.save_batch-requires-clause-inside
save_batch-requires-clause-inside g c = omega (
  arith,
  ap length c.gather-batch.ensures.batch,
  length-batch_of c.args.records.now c.gather-batch.ensures.lines,
  c.requires.place.fits,
  c.requires.regions.inside,
)

-- the batch lies in the log region
batch_inside : (g : given.Over) (c : After-save_batch g)
    → KeepsOutside c.args.frame (g.D.Disk.bytes c.args.disk.now) (g.D.Disk.bytes c.save_batch.new.disk)
batch_inside g c =
    agrees_inside c.args.frame (64 + c.args.place + 1) (length c.gather-batch.result.now) _ _ (omega arith)
    (omega (
      arith,
      ap length c.gather-batch.ensures.batch,
      length-batch_of c.args.records.now c.gather-batch.ensures.lines,
      c.requires.place.fits,
    ))
    c.save_batch.ensures.others

pub returns-in_err-save_batch-clause-inside : goal.returns-in_err-save_batch-clause-inside
returns-in_err-save_batch-clause-inside g c = batch_inside g (goal.at.returns-in_err-save_batch-clause-inside g c).After-save_batch

pub returns-in_err-open_gate-clause-inside : goal.returns-in_err-open_gate-clause-inside
returns-in_err-open_gate-clause-inside g c =
    Agrees-trans _ _ _ _ (batch_inside g (goal.at.returns-in_err-open_gate-clause-inside g c).After-save_batch)
    (agrees_inside c.args.frame (64 + c.args.place) 1 _ _ (omega arith) (omega (arith, c.requires.place.fits)) c.open_gate.ensures.others)

pub returns-clause-inside : goal.returns-clause-inside
returns-clause-inside g c =
    Agrees-trans _ _ _ _ (batch_inside g (goal.at.returns-clause-inside g c).After-save_batch)
    (agrees_inside c.args.frame (64 + c.args.place) 1 _ _ (omega arith) (omega (arith, c.requires.place.fits)) c.open_gate.ensures.others)

pub returns-in_err-save_batch-clause-any_moment : goal.returns-in_err-save_batch-clause-any_moment
returns-in_err-save_batch-clause-any_moment g c told m =
    at_batch _ _ _ _ _ _ _ _ m c.gather-batch.ensures.lines c.requires.place _ c.gather-batch.ensures.batch _
    c.save_batch.ensures.any_moment

pub returns-in_err-open_gate-clause-any_moment : goal.returns-in_err-open_gate-clause-any_moment
returns-in_err-open_gate-clause-any_moment g c told m =
    at_gate _ _ _ _ _ _ _ _ m c.gather-batch.ensures.lines c.requires.place _ c.gather-batch.ensures.batch _ _
    c.save_batch.ensures.any_moment
    (synced_only _ c.in_ok-save_batch.ensures.written
    (c.in_ok-save_batch.ensures.durable (c.save_batch.ensures.tells ∙ told))) c.open_gate.ensures.any_moment

pub returns-clause-next : goal.returns-clause-next
returns-clause-next g c = omega (
  arith,
  ap length c.gather-batch.ensures.batch,
  length-batch_of c.args.records.now c.gather-batch.ensures.lines,
)

pub returns-clause-written : goal.returns-clause-written
returns-clause-written g c =
    let x = g.D.Disk.bytes c.args.disk.now in
    c.in_ok-open_gate.ensures.written
    ∙ ap (overwrite (64 + c.args.place) (1 ∷ [])) c.in_ok-save_batch.ensures.written
    ∙ ap (λ (b : List ℕ). overwrite (64 + c.args.place) (1 ∷ []) (overwrite (64 + c.args.place + 1) b x))
    c.gather-batch.ensures.batch
    ∙ with_batch-written c.args.place c.args.records.now x (omega (
      arith,
      length-batch_of c.args.records.now c.gather-batch.ensures.lines,
      c.requires.place.fits,
      c.requires.regions.inside,
    ))

pub returns-clause-opens : goal.returns-clause-opens
returns-clause-opens g c told m =
    let x = g.D.Disk.bytes c.args.disk.now in
    opens_written _ _ _ x _ m c.gather-batch.ensures.lines c.requires.place.some c.requires.place.fits _ _
    (c.in_ok-open_gate.ensures.written
    ∙ ap (overwrite (64 + c.args.place) (1 ∷ [])) c.in_ok-save_batch.ensures.written
    ∙ ap (λ (b : List ℕ). overwrite (64 + c.args.place) (1 ∷ []) (overwrite (64 + c.args.place + 1) b x))
    c.gather-batch.ensures.batch)
    (c.in_ok-open_gate.ensures.durable (c.open_gate.ensures.tells ∙ c.save_batch.ensures.tells ∙ told))

pub returns-clause-any_moment : goal.returns-clause-any_moment
returns-clause-any_moment g c told m =
    at_gate _ _ _ _ _ _ _ _ m c.gather-batch.ensures.lines c.requires.place _ c.gather-batch.ensures.batch _ _
    c.save_batch.ensures.any_moment
    (synced_only _ c.in_ok-save_batch.ensures.written
    (c.in_ok-save_batch.ensures.durable (c.save_batch.ensures.tells ∙ told))) c.open_gate.ensures.any_moment
