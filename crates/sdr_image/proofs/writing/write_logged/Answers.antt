use Rattle.std.proofs.Common.{◌<◌, ◌∙◌, ◌+◌, ◌*◌, ℕ, List, length, refl, sym, ap, subst, arith}
use Rattle.sdr_base.specs.Parts.{overwrite, part}
use Rattle.sdr_log.specs.Frame.{LieInside}
use Rattle.sdr_log.specs.Log.{heap_of}
use Rattle.sdr_log.specs.Spilled.{KeepsBegin}
use Rattle.sdr_log.specs.declared.record.Record.{Record}
use Rattle.sdr_log.proofs.SpilledLemmas.{through_bytes}
use Rattle.sdr_image.specs.Lines.{Keeps, Leaves, Stands, Steps, begun_of, now_of}
use Rattle.sdr_image.specs.Marks.{touched_in}
use Rattle.sdr_image.proofs.EnteredLemmas.{logged_touched, through_long, through_named, through_now, through_stands}
use Rattle.sdr_image.proofs.StandsLemmas.{keeps_left}
use Rattle.sdr_image.proofs.StepsLemmas.{leaves_then, steps_read, steps_then}
use Rattle.sdr_image.proofs.writing.write_logged.Goals as goal

pub returns-in_err-bytes-clause-steps : goal.returns-in_err-bytes-clause-steps
returns-in_err-bytes-clause-steps g c =
    let d = g.D.Disk in
    let a = c.args in
    let f = a.frame in
    let o = a.lines.now in
    let x = d.bytes a.disk.now in
    let s = c.requires.stands in
    let k = c.requires.kept in
    let line = a.line in
    let below = c.requires.below in
    steps_read f a.disk.now c.read_line.new.disk o o c.read_line.ensures.reads k (omega arith)

pub returns-in_err-put_through-clause-steps : goal.returns-in_err-put_through-clause-steps
returns-in_err-put_through-clause-steps g c =
    let d = g.D.Disk in
    let a = c.args in
    let f = a.frame in
    let o = a.lines.now in
    let x = d.bytes a.disk.now in
    let s = c.requires.stands in
    let k = c.requires.kept in
    let line = a.line in
    let below = c.requires.below in
    let read = c.read_line.ensures.reads in
    let x1 = d.bytes c.read_line.new.disk in
    let r : Record = record { line = line; bytes = c.put_at.new.bytes } in
    let is = c.put_at.ensures ∙ ap (overwrite a.at a.from.now) c.in_ok-bytes.ensures.given in
    let s1 : Stands f (begun_of x1) o x1 = subst (λ (z : List ℕ). Stands f (begun_of z) o z) (sym read.same) s in
    let some : 0 < length (touched_in o.marks) = logged_touched f o line k below c.requires.logged in
    let keeps1 : Keeps f (begun_of x1) x1 (d.may_hold_after c.read_line.new.disk (d.moment c.read_line.new.disk)) →
    KeepsBegin f (begun_of x1) o.place s1.records x1 (d.may_hold_after c.read_line.new.disk (d.moment c.read_line.new.disk)) =
    λ keeps. keeps_left f (begun_of x1) o x1 s1 _ keeps in
    let is1 = is ∙ ap (λ (z : List ℕ). overwrite a.at a.from.now (part (64 * line) 64 (heap_of f z))) (sym read.same) in
    let named1 = through_named f (begun_of x1) o x1 s1 k line a.at c.put_at.new.bytes a.from.now c.requires.logged below is1
    c.requires.inside in
    let through : Steps d.bytes d.tells_crashes d.moment d.may_hold_after f c.read_line.new.disk c.put_through.new.disk o o =
    record {
      keeps = c.put_through.ensures.disk;
      inside = c.put_through.ensures.inside;
      forward = c.put_through.ensures.forward;
      lines = k;
      kept = omega arith;
      reads = λ none. absurd (omega (arith, ap length none, some));
      any_moment = λ told keeps.
          c.put_through.ensures.any_moment told (begun_of x1) o.place s1.records (keeps1 keeps) named1;
    } in
    steps_then f a.disk.now c.read_line.new.disk c.put_through.new.disk o o o read refl through

pub returns-clause-steps : goal.returns-clause-steps
returns-clause-steps g c =
    let d = g.D.Disk in
    let a = c.args in
    let f = a.frame in
    let o = a.lines.now in
    let x = d.bytes a.disk.now in
    let s = c.requires.stands in
    let k = c.requires.kept in
    let line = a.line in
    let below = c.requires.below in
    let read = c.read_line.ensures.reads in
    let x1 = d.bytes c.read_line.new.disk in
    let r : Record = record { line = line; bytes = c.put_at.new.bytes } in
    let is = c.put_at.ensures ∙ ap (overwrite a.at a.from.now) c.in_ok-bytes.ensures.given in
    let s1 : Stands f (begun_of x1) o x1 = subst (λ (z : List ℕ). Stands f (begun_of z) o z) (sym read.same) s in
    let some : 0 < length (touched_in o.marks) = logged_touched f o line k below c.requires.logged in
    let keeps1 : Keeps f (begun_of x1) x1 (d.may_hold_after c.read_line.new.disk (d.moment c.read_line.new.disk)) →
    KeepsBegin f (begun_of x1) o.place s1.records x1 (d.may_hold_after c.read_line.new.disk (d.moment c.read_line.new.disk)) =
    λ keeps. keeps_left f (begun_of x1) o x1 s1 _ keeps in
    let is1 = is ∙ ap (λ (z : List ℕ). overwrite a.at a.from.now (part (64 * line) 64 (heap_of f z))) (sym read.same) in
    let named1 = through_named f (begun_of x1) o x1 s1 k line a.at c.put_at.new.bytes a.from.now c.requires.logged below is1
    c.requires.inside in
    let through : Steps d.bytes d.tells_crashes d.moment d.may_hold_after f c.read_line.new.disk c.put_through.new.disk o o =
    record {
      keeps = c.put_through.ensures.disk;
      inside = c.put_through.ensures.inside;
      forward = c.put_through.ensures.forward;
      lines = k;
      kept = omega arith;
      reads = λ none. absurd (omega (arith, ap length none, some));
      any_moment = λ told keeps.
          c.put_through.ensures.any_moment told (begun_of x1) o.place s1.records (keeps1 keeps) named1;
    } in
    steps_then f a.disk.now c.read_line.new.disk c.put_through.new.disk o o o read refl through

pub returns-clause-leaves : goal.returns-clause-leaves
returns-clause-leaves g c =
    let d = g.D.Disk in
    let a = c.args in
    let f = a.frame in
    let o = a.lines.now in
    let x = d.bytes a.disk.now in
    let s = c.requires.stands in
    let k = c.requires.kept in
    let line = a.line in
    let below = c.requires.below in
    let read = c.read_line.ensures.reads in
    let x1 = d.bytes c.read_line.new.disk in
    let r : Record = record { line = line; bytes = c.put_at.new.bytes } in
    let is = c.put_at.ensures ∙ ap (overwrite a.at a.from.now) c.in_ok-bytes.ensures.given in
    let s1 : Stands f (begun_of x1) o x1 = subst (λ (z : List ℕ). Stands f (begun_of z) o z) (sym read.same) s in
    let some : 0 < length (touched_in o.marks) = logged_touched f o line k below c.requires.logged in
    let keeps1 : Keeps f (begun_of x1) x1 (d.may_hold_after c.read_line.new.disk (d.moment c.read_line.new.disk)) →
    KeepsBegin f (begun_of x1) o.place s1.records x1 (d.may_hold_after c.read_line.new.disk (d.moment c.read_line.new.disk)) =
    λ keeps. keeps_left f (begun_of x1) o x1 s1 _ keeps in
    let is1 = is ∙ ap (λ (z : List ℕ). overwrite a.at a.from.now (part (64 * line) 64 (heap_of f z))) (sym read.same) in
    let named1 = through_named f (begun_of x1) o x1 s1 k line a.at c.put_at.new.bytes a.from.now c.requires.logged below is1
    c.requires.inside in
    let long = through_long f (begun_of x1) o x1 s1 k line a.at c.put_at.new.bytes a.from.now c.requires.logged below is1
    c.requires.inside in
    let y = d.bytes c.put_through.new.disk in
    let p = through_bytes f (begun_of x1) o.place s1.records r x1 y s1.may.keeps named1 long c.in_ok-put_through.ensures.written in
    let left : Leaves d.bytes d.tells_crashes d.moment d.may_hold_after f c.read_line.new.disk c.put_through.new.disk o
    (overwrite (64 * line + a.at) a.from.now (now_of f o x1)) =
    record {
      stands = through_stands f (begun_of x1) o x1 s1 k line a.at c.put_at.new.bytes a.from.now c.requires.logged below is1
          c.requires.inside y p;
      bytes_now = through_now f (begun_of x1) o x1 s1 k line a.at c.put_at.new.bytes a.from.now c.requires.logged below is1
          c.requires.inside y p;
      rests = λ told keeps.
          let t = c.in_ok-put_through.ensures.through told (begun_of x1) o.place s1.records (keeps1 keeps) named1 in
          record { place = o.place; records = s1.records; keeps = t.keeps };
    } in
    subst (λ (z : List ℕ). Leaves d.bytes d.tells_crashes d.moment d.may_hold_after f a.disk.now c.put_through.new.disk o
    (overwrite (64 * line + a.at) a.from.now (now_of f o z))) read.same
    (leaves_then f a.disk.now c.read_line.new.disk c.put_through.new.disk o o o read refl _ left)

pub put_through-requires-clause-regions : goal.put_through-requires-clause-regions
put_through-requires-clause-regions g c =
    subst (λ (y : List ℕ). LieInside c.args.frame (length y)) (sym c.read_line.ensures.reads.same) c.requires.regions
