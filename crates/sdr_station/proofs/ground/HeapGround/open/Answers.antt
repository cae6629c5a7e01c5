use Rattle.std.proofs.Common.{arith, ◌∙◌, ap, false, sym, subst, true}
use Rattle.sdr_disk.specs.Moments.{AtEach, Reads}
use Rattle.sdr_disk.specs.Pending.{IsSynced}
use Rattle.sdr_disk.proofs.MomentsLemmas.{Reads-trans}
use Rattle.sdr_image.proofs.OpenedLemmas.{reads_synced}
use Rattle.sdr_image.proofs.OutsideLemmas.{UnlessFault-then}
use Rattle.sdr_log.specs.Calls.{KeepsRest, PutsBack}
use Rattle.sdr_audit.specs.declared.census.Census.{Census}
use Rattle.sdr_heap.specs.Noted.{Held}
use Rattle.sdr_image.specs.Opened.{Opened, transaction_of}
use Rattle.sdr_log.specs.Logged.{GivesSame}
use Rattle.sdr_station.proofs.OpeningLemmas.{audit_later, audit_leaves, back_read, explains_audit, image_again, image_leaves, moments_read, open_ground, open_stands, opened_synced, rest_read, synced_again}
use Rattle.sdr_station.specs.Grounded.{Grounded}
use Rattle.sdr_station.specs.Opening.{ExplainsOpen, IsOpen}
use Rattle.sdr_station.specs.declared.error.OpenError.TheVariants as errors
use Rattle.sdr_station.proofs.ground.HeapGround.open.Goals as goal

pub returns-in-Err-clause-bytes : goal.returns-in-Err-clause-bytes
returns-in-Err-clause-bytes g c =
    let b = g.D.Disk.bytes in
    let t = g.D.Disk.tells_crashes in
    image_leaves (b c.args.disk) (b c.in-Err.shut.disk) c.in-Err.shut.why c.of_image.result c.of_image.ensures
    (UnlessFault-then c.in-Err.shut.why (λ (reads : Reads b t g.D.Disk.moment g.D.Disk.may_hold_after c.args.disk c.in-Err.shut.disk). reads.same) c.in-Err.ensures.same)

pub returns-in-Err-check-clause-bytes : goal.returns-in-Err-check-clause-bytes
returns-in-Err-check-clause-bytes g c =
    let b = g.D.Disk.bytes in
    let t = g.D.Disk.tells_crashes in
    audit_leaves (b c.args.disk) (b c.into_disk.result) c.in-Err-check.why c.of_audit.result c.of_audit.ensures (record {
      frame = c.in-Ok.image.frame;
      count = c.in-Ok.image.restored;
      back = subst (λ (d : g.row.D.Denot). PutsBack c.in-Ok.image.frame c.in-Ok.image.restored (b c.args.disk) (b d))
          (sym c.into_disk.ensures.disk)
          (back_read c.args.disk (c.check.ensures.reads.quiet.reads (c.check.ensures.reads.touched ∙ c.in-Ok.ensures.opened.touched)) c.in-Ok.ensures.opened.back);
    })

pub returns-in-Err-check-clause-why : goal.returns-in-Err-check-clause-why
returns-in-Err-check-clause-why g c =
    let b = g.D.Disk.bytes in
    let f = g.D.Disk.faults in
    let e = c.in-Err-check.ensures in
    let o = c.in-Ok.ensures.opened in
    subst (λ (d : g.row.D.Denot). ExplainsOpen (b c.args.disk) (f c.args.disk) (f d) c.of_audit.result) (sym c.into_disk.ensures.disk)
    (explains_audit Census (b c.args.disk) (f c.args.disk) c.in-Ok.image.bytes (transaction_of f c.in-Ok.image) (transaction_of f c.check.new.c)
    c.in-Err-check.why c.of_audit.result c.of_audit.ensures o.heap e.reads.cause o.sound c.in-Ok.ensures.disk.later e.damaged e.none)

pub returns-in-Err-check-clause-later : goal.returns-in-Err-check-clause-later
returns-in-Err-check-clause-later g c =
    let f = g.D.Disk.faults in
    let e = c.in-Err-check.ensures in
    let later = audit_later Census (transaction_of f c.in-Ok.image) (transaction_of f c.check.new.c) c.in-Err-check.why e.reads.cause in
    let same = ap f c.into_disk.ensures.disk in
    omega (arith, later, same, c.in-Ok.ensures.disk.later)

pub returns-in-Err-check-clause-any_moment : goal.returns-in-Err-check-clause-any_moment
returns-in-Err-check-clause-any_moment g c told may =
    let D = g.row.D.Denot in
    let P = GivesSame (g.D.Disk.bytes c.args.disk) in
    subst (λ (d : D). AtEach g.D.Disk.moment g.D.Disk.may_hold_after c.args.disk d P) (sym c.into_disk.ensures.disk)
    (moments_read c.args.disk (c.check.ensures.reads.quiet.reads (c.check.ensures.reads.touched ∙ c.in-Ok.ensures.opened.touched)) P
    (c.in-Ok.ensures.any_moment told may))

pub returns-in-Ok-new-clause-opened : goal.returns-in-Ok-new-clause-opened
returns-in-Ok-new-clause-opened g c =
    let D = g.row.D.Denot in
    let M = g.row.M.Denot in
    let b = g.D.Disk.bytes in
    let t = g.D.Disk.tells_crashes in
    let m = g.D.Disk.moment in
    let l = g.D.Disk.may_hold_after in
    let made = c.in-Ok-new.ensures.made in
    subst (λ (n : Grounded D M). IsOpen b t m l c.args.disk n)
    (λ i. record {
      heap = sym made i;
      media = c.args.media;
      shown = sym c.new-in-Ok-new.ensures i;
      stopped = false;
      idle = true;
      moment = sym c.now-moment.ensures.moment i;
      restored = sym c.restored-restored.ensures i;
    })
    (open_stands b t m l c.args.disk c.args.media c.in-Ok.image c.check.new.c _ _ c.in-Ok.ensures.opened c.check.ensures.reads.quiet c.in_default.ensures.reads.cause.explained.1 c.check.ensures.reads.bytes c.check.ensures.reads.touched c.in_default.ensures.stands)

pub returns-in-Ok-new-clause-any_moment : goal.returns-in-Ok-new-clause-any_moment
returns-in-Ok-new-clause-any_moment g c told may =
    let D = g.row.D.Denot in
    let P = GivesSame (g.D.Disk.bytes c.args.disk) in
    subst (λ (d : D). AtEach g.D.Disk.moment g.D.Disk.may_hold_after c.args.disk d P) (sym (ap (λ (h : Held (Opened D)). h.cells.disk) c.in-Ok-new.ensures.made))
    (moments_read c.args.disk (c.check.ensures.reads.quiet.reads (c.check.ensures.reads.touched ∙ c.in-Ok.ensures.opened.touched)) P
    (c.in-Ok.ensures.any_moment told may))

pub returns-in-Err-new-clause-any_moment : goal.returns-in-Err-new-clause-any_moment
returns-in-Err-new-clause-any_moment g c told may =
    let D = g.row.D.Denot in
    let P = GivesSame (g.D.Disk.bytes c.args.disk) in
    subst (λ (d : D). AtEach g.D.Disk.moment g.D.Disk.may_hold_after c.args.disk d P) (sym (c.into_disk-in-Err-new.ensures.disk ∙ ap (λ (i : Opened D). i.disk) c.in-Err-new.ensures.back))
    (moments_read c.args.disk (c.check.ensures.reads.quiet.reads (c.check.ensures.reads.touched ∙ c.in-Ok.ensures.opened.touched)) P
    (c.in-Ok.ensures.any_moment told may))

pub invariant_of-result : goal.invariant_of-result
invariant_of-result g c =
    let D = g.row.D.Denot in
    let M = g.row.M.Denot in
    let b = g.D.Disk.bytes in
    let t = g.D.Disk.tells_crashes in
    let m = g.D.Disk.moment in
    let l = g.D.Disk.may_hold_after in
    let made = c.in-Ok-new.ensures.made in
    open_ground b t m l c.args.disk _ (subst (λ (n : Grounded D M). IsOpen b t m l c.args.disk n)
    (λ i. record {
      heap = sym made i;
      media = c.args.media;
      shown = sym c.new-in-Ok-new.ensures i;
      stopped = false;
      idle = true;
      moment = sym c.now-moment.ensures.moment i;
      restored = sym c.restored-restored.ensures i;
    })
    (open_stands b t m l c.args.disk c.args.media c.in-Ok.image c.check.new.c _ _ c.in-Ok.ensures.opened c.check.ensures.reads.quiet c.in_default.ensures.reads.cause.explained.1 c.check.ensures.reads.bytes c.check.ensures.reads.touched c.in_default.ensures.stands))

pub returns-in-Err-clause-again : goal.returns-in-Err-clause-again
returns-in-Err-clause-again g c =
    image_again g.D.Disk.bytes g.D.Disk.tells_crashes g.D.Disk.moment g.D.Disk.may_hold_after c.args.disk c.in-Err.shut.disk c.in-Err.shut.why c.of_image.result
    c.of_image.ensures c.in-Err.ensures.same c.in-Err.ensures.faulted

pub returns-in-Err-check-clause-again : goal.returns-in-Err-check-clause-again
returns-in-Err-check-clause-again g c =
    let D = g.row.D.Denot in
    let b = g.D.Disk.bytes in
    let t = g.D.Disk.tells_crashes in
    let m = g.D.Disk.moment in
    let l = g.D.Disk.may_hold_after in
    let reads = c.check.ensures.reads.quiet.reads (c.check.ensures.reads.touched ∙ c.in-Ok.ensures.opened.touched) in
    synced_again b t m l c.args.disk c.into_disk.result c.of_audit.result
    (ap t c.into_disk.ensures.disk ∙ reads.tells ∙ c.in-Ok.ensures.disk.keeps.tells)
    (λ may. subst (λ (d : D). IsSynced b t m l d) (sym c.into_disk.ensures.disk)
    (reads_synced reads (opened_synced b t m l c.args.disk c.in-Ok.image c.in-Ok.ensures.opened may)))

pub returns-in-Err-new-clause-again : goal.returns-in-Err-new-clause-again
returns-in-Err-new-clause-again g c =
    let D = g.row.D.Denot in
    let b = g.D.Disk.bytes in
    let t = g.D.Disk.tells_crashes in
    let m = g.D.Disk.moment in
    let l = g.D.Disk.may_hold_after in
    let reads = c.check.ensures.reads.quiet.reads (c.check.ensures.reads.touched ∙ c.in-Ok.ensures.opened.touched) in
    synced_again b t m l c.args.disk c.into_disk-in-Err-new.result errors.NoMemory
    (ap t (c.into_disk-in-Err-new.ensures.disk ∙ ap (λ (i : Opened D). i.disk) c.in-Err-new.ensures.back) ∙ reads.tells
    ∙ c.in-Ok.ensures.disk.keeps.tells)
    (λ may. subst (λ (d : D). IsSynced b t m l d)
    (sym (c.into_disk-in-Err-new.ensures.disk ∙ ap (λ (i : Opened D). i.disk) c.in-Err-new.ensures.back))
    (reads_synced reads (opened_synced b t m l c.args.disk c.in-Ok.image c.in-Ok.ensures.opened may)))

pub returns-in-Err-check-clause-inside : goal.returns-in-Err-check-clause-inside
returns-in-Err-check-clause-inside g c =
    let D = g.row.D.Denot in
    subst (λ (d : D). KeepsRest (g.D.Disk.bytes c.args.disk) (g.D.Disk.bytes d)) (sym (c.into_disk.ensures.disk))
    (rest_read c.args.disk (c.check.ensures.reads.quiet.reads (c.check.ensures.reads.touched ∙ c.in-Ok.ensures.opened.touched)) c.in-Ok.ensures.inside)

pub returns-in-Ok-new-clause-inside : goal.returns-in-Ok-new-clause-inside
returns-in-Ok-new-clause-inside g c =
    let D = g.row.D.Denot in
    subst (λ (d : D). KeepsRest (g.D.Disk.bytes c.args.disk) (g.D.Disk.bytes d)) (sym (ap (λ (h : Held (Opened D)). h.cells.disk) c.in-Ok-new.ensures.made))
    (rest_read c.args.disk (c.check.ensures.reads.quiet.reads (c.check.ensures.reads.touched ∙ c.in-Ok.ensures.opened.touched)) c.in-Ok.ensures.inside)

pub returns-in-Err-new-clause-inside : goal.returns-in-Err-new-clause-inside
returns-in-Err-new-clause-inside g c =
    let D = g.row.D.Denot in
    subst (λ (d : D). KeepsRest (g.D.Disk.bytes c.args.disk) (g.D.Disk.bytes d)) (sym (c.into_disk-in-Err-new.ensures.disk ∙ ap (λ (i : Opened D). i.disk) c.in-Err-new.ensures.back))
    (rest_read c.args.disk (c.check.ensures.reads.quiet.reads (c.check.ensures.reads.touched ∙ c.in-Ok.ensures.opened.touched)) c.in-Ok.ensures.inside)

pub returns-in-Err-check-clause-quiet : goal.returns-in-Err-check-clause-quiet
returns-in-Err-check-clause-quiet g c gate =
    let D = g.row.D.Denot in
    let d = g.D.Disk in
    subst (λ (x : D). Reads d.bytes d.tells_crashes d.moment d.may_hold_after c.args.disk x) (sym (c.into_disk.ensures.disk))
    (Reads-trans d.bytes d.tells_crashes d.moment d.may_hold_after c.args.disk c.in-Ok.image.disk c.check.new.c.disk (c.in-Ok.ensures.quiet gate)
    (c.check.ensures.reads.quiet.reads (c.check.ensures.reads.touched ∙ c.in-Ok.ensures.opened.touched)))

pub returns-in-Ok-new-clause-quiet : goal.returns-in-Ok-new-clause-quiet
returns-in-Ok-new-clause-quiet g c gate =
    let D = g.row.D.Denot in
    let d = g.D.Disk in
    subst (λ (x : D). Reads d.bytes d.tells_crashes d.moment d.may_hold_after c.args.disk x) (sym (ap (λ (h : Held (Opened D)). h.cells.disk) c.in-Ok-new.ensures.made))
    (Reads-trans d.bytes d.tells_crashes d.moment d.may_hold_after c.args.disk c.in-Ok.image.disk c.check.new.c.disk (c.in-Ok.ensures.quiet gate)
    (c.check.ensures.reads.quiet.reads (c.check.ensures.reads.touched ∙ c.in-Ok.ensures.opened.touched)))

pub returns-in-Err-new-clause-quiet : goal.returns-in-Err-new-clause-quiet
returns-in-Err-new-clause-quiet g c gate =
    let D = g.row.D.Denot in
    let d = g.D.Disk in
    subst (λ (x : D). Reads d.bytes d.tells_crashes d.moment d.may_hold_after c.args.disk x) (sym (c.into_disk-in-Err-new.ensures.disk ∙ ap (λ (i : Opened D). i.disk) c.in-Err-new.ensures.back))
    (Reads-trans d.bytes d.tells_crashes d.moment d.may_hold_after c.args.disk c.in-Ok.image.disk c.check.new.c.disk (c.in-Ok.ensures.quiet gate)
    (c.check.ensures.reads.quiet.reads (c.check.ensures.reads.touched ∙ c.in-Ok.ensures.opened.touched)))

pub returns-in-Ok-new-clause-calls : goal.returns-in-Ok-new-clause-calls
returns-in-Ok-new-clause-calls g c =
    let D = g.row.D.Denot in
    let m = g.D.Disk.moment in
    let same = ap (λ (h : Held (Opened D)). m h.cells.disk) c.in-Ok-new.ensures.made in
    let time = c.check.ensures.reads.quiet.reads (c.check.ensures.reads.touched ∙ c.in-Ok.ensures.opened.touched) in
    omega (arith, same, time.time, c.in-Ok.ensures.calls, c.restored-restored.ensures)
