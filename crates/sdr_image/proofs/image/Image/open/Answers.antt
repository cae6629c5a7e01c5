use Rattle.std.proofs.Common.{◌∙◌, ap, false, refl, sym, Some}
use Rattle.sdr_log.specs.Log.{heap_of}
use Rattle.sdr_image.proofs.EndedLemmas.{opened_image, opened_rested, rested_rests}
use Rattle.sdr_image.proofs.StandsLemmas.{stands_begun}
use Rattle.sdr_image.proofs.image.Image.open.Goals as goal

pub invariant_of-result : goal.invariant_of-result
invariant_of-result g c =
    let d = g.D.Disk in
    let loaded = c.in-Ok.loaded in
    let e = c.in-Ok.ensures in
    opened_image loaded.frame loaded.restored (d.bytes c.args.disk) (d.bytes c.load.new.disk) loaded.lines e.fresh e.back e.found
    e.disk.size

pub returns-in-Ok-clause-opened : goal.returns-in-Ok-clause-opened
returns-in-Ok-clause-opened g c =
    let d = g.D.Disk in
    let loaded = c.in-Ok.loaded in
    let e = c.in-Ok.ensures in
    let f = loaded.frame in
    let x = d.bytes c.args.disk in
    let y = d.bytes c.load.new.disk in
    let r = opened_rested f loaded.restored x y loaded.lines e.fresh e.back in
    record {
      limits = e.found.limits;
      head = e.found.head;
      heap = e.back.gives ∙ ap Some (sym r.now);
      back = e.back;
      rests = λ may.
          rested_rests d.bytes d.tells_crashes d.moment d.may_hold_after c.load.new.disk f (heap_of f y) loaded.lines false
          false loaded.restored r (λ told. e.synced (sym e.disk.tells ∙ told) (may (sym e.disk.tells ∙ told)) told);
      begun = stands_begun f (heap_of f y) loaded.lines y r.stands ∙ sym r.now;
      touched = r.untouched;
      closed = refl;
      sound = refl;
    }
