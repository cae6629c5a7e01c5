use Rattle.std.proofs.Common.{◌≡◌, ◌<◌, ◌∙◌, ◌+◌, ◌*◌, ◌∷◌, ◌++◌, ℕ, true, List, [], length, refl, sym, ap, subst, arith}
use Rattle.std.specs.Prelude.{IsPermutation}
use Rattle.sdr_base.specs.Parts.{overwrite, part}
use Rattle.sdr_base.proofs.PartsLemmas.{length-overwrite, length-part}
use Rattle.sdr_log.specs.Frame.{LieInside, room_of}
use Rattle.sdr_log.specs.Log.{heap_of}
use Rattle.sdr_image.specs.Lines.{IsLines, Stands, begun_of, now_of}
use Rattle.sdr_image.specs.Marks.{is_clean, stand_at, touched_in}
use Rattle.sdr_image.specs.declared.lines.Lines.{Lines}
use Rattle.sdr_image.proofs.EnteredLemmas.{changes, clean_apart, entered_lines, entered_now, entered_stands, entered_touched}
use Rattle.sdr_image.proofs.EnteredLemmas.{touched_more, unbuffered}
use Rattle.sdr_image.proofs.StandsLemmas.{stands_wide}
use Rattle.sdr_image.proofs.StepsLemmas.{cached_clean, leaves_entered, leaves_then, recached, recached_lines, steps_entered}
use Rattle.sdr_image.proofs.StepsLemmas.{steps_read, steps_then}
use Rattle.sdr_image.proofs.writing.write_clean.Goals as goal

pub clean_line-requires-clause-clean : goal.clean_line-requires-clause-clean
clean_line-requires-clause-clean g c e has =
    (c.requires.stands.clean e has).0

pub returns-in_err-old-clause-steps : goal.returns-in_err-old-clause-steps
returns-in_err-old-clause-steps g c =
    let d = g.D.Disk in
    let a = c.args in
    let f = a.frame in
    let o = a.lines.now in
    let x = d.bytes a.disk.now in
    let s = c.requires.stands in
    let k = c.requires.kept in
    let line = a.line in
    let below = c.requires.below in
    let read = c.clean_line.ensures.reads in
    let x1 = d.bytes c.clean_line.new.disk in
    let cache = c.clean_line.new.cache in
    let o1 : Lines = record o { cache = cache } in
    let clean1 = cached_clean f o x line cache s.clean c.requires.clean c.clean_line.ensures.kept in
    let s1 : Stands f (begun_of x1) o1 x1 =
    subst (λ (z : List ℕ). Stands f (begun_of z) o1 z) (sym read.same) (recached f (begun_of x) o x cache s clean1) in
    let k1 : IsLines f o1 = recached_lines f o cache k in
    steps_read f a.disk.now c.clean_line.new.disk o o1 read k1 (omega arith)

pub make_room-requires-clause-kept : goal.make_room-requires-clause-kept
make_room-requires-clause-kept g c =
    let d = g.D.Disk in
    let a = c.args in
    let f = a.frame in
    let o = a.lines.now in
    let x = d.bytes a.disk.now in
    let s = c.requires.stands in
    let k = c.requires.kept in
    let line = a.line in
    let below = c.requires.below in
    let read = c.clean_line.ensures.reads in
    let x1 = d.bytes c.clean_line.new.disk in
    let cache = c.clean_line.new.cache in
    let o1 : Lines = record o { cache = cache } in
    let clean1 = cached_clean f o x line cache s.clean c.requires.clean c.clean_line.ensures.kept in
    let s1 : Stands f (begun_of x1) o1 x1 =
    subst (λ (z : List ℕ). Stands f (begun_of z) o1 z) (sym read.same) (recached f (begun_of x) o x cache s clean1) in
    let k1 : IsLines f o1 = recached_lines f o cache k in
    k1

pub make_room-requires-clause-stands : goal.make_room-requires-clause-stands
make_room-requires-clause-stands g c =
    let d = g.D.Disk in
    let a = c.args in
    let f = a.frame in
    let o = a.lines.now in
    let x = d.bytes a.disk.now in
    let s = c.requires.stands in
    let k = c.requires.kept in
    let line = a.line in
    let below = c.requires.below in
    let read = c.clean_line.ensures.reads in
    let x1 = d.bytes c.clean_line.new.disk in
    let cache = c.clean_line.new.cache in
    let o1 : Lines = record o { cache = cache } in
    let clean1 = cached_clean f o x line cache s.clean c.requires.clean c.clean_line.ensures.kept in
    let s1 : Stands f (begun_of x1) o1 x1 =
    subst (λ (z : List ℕ). Stands f (begun_of z) o1 z) (sym read.same) (recached f (begun_of x) o x cache s clean1) in
    let k1 : IsLines f o1 = recached_lines f o cache k in
    s1

pub returns-in_err-make_room-clause-steps : goal.returns-in_err-make_room-clause-steps
returns-in_err-make_room-clause-steps g c =
    let d = g.D.Disk in
    let a = c.args in
    let f = a.frame in
    let o = a.lines.now in
    let x = d.bytes a.disk.now in
    let s = c.requires.stands in
    let k = c.requires.kept in
    let line = a.line in
    let below = c.requires.below in
    let read = c.clean_line.ensures.reads in
    let x1 = d.bytes c.clean_line.new.disk in
    let cache = c.clean_line.new.cache in
    let o1 : Lines = record o { cache = cache } in
    let clean1 = cached_clean f o x line cache s.clean c.requires.clean c.clean_line.ensures.kept in
    let s1 : Stands f (begun_of x1) o1 x1 =
    subst (λ (z : List ℕ). Stands f (begun_of z) o1 z) (sym read.same) (recached f (begun_of x) o x cache s clean1) in
    let k1 : IsLines f o1 = recached_lines f o cache k in
    steps_then f a.disk.now c.clean_line.new.disk c.make_room.new.disk o o1 c.make_room.new.lines read refl
    c.make_room.ensures.steps

pub returns-in_err-make_room-clause-few : goal.returns-in_err-make_room-clause-few
returns-in_err-make_room-clause-few g c =
    let d = g.D.Disk in
    let a = c.args in
    let f = a.frame in
    let o = a.lines.now in
    let x = d.bytes a.disk.now in
    let s = c.requires.stands in
    let k = c.requires.kept in
    let line = a.line in
    let below = c.requires.below in
    let read = c.clean_line.ensures.reads in
    let x1 = d.bytes c.clean_line.new.disk in
    let cache = c.clean_line.new.cache in
    let o1 : Lines = record o { cache = cache } in
    let clean1 = cached_clean f o x line cache s.clean c.requires.clean c.clean_line.ensures.kept in
    let s1 : Stands f (begun_of x1) o1 x1 =
    subst (λ (z : List ℕ). Stands f (begun_of z) o1 z) (sym read.same) (recached f (begun_of x) o x cache s clean1) in
    let k1 : IsLines f o1 = recached_lines f o cache k in
    omega (arith, ap length c.make_room.ensures.marks.touched)

pub returns-clause-touched : goal.returns-clause-touched
returns-clause-touched g c =
    let d = g.D.Disk in
    let a = c.args in
    let f = a.frame in
    let o = a.lines.now in
    let x = d.bytes a.disk.now in
    let s = c.requires.stands in
    let k = c.requires.kept in
    let line = a.line in
    let below = c.requires.below in
    let read = c.clean_line.ensures.reads in
    let x1 = d.bytes c.clean_line.new.disk in
    let cache = c.clean_line.new.cache in
    let o1 : Lines = record o { cache = cache } in
    let clean1 = cached_clean f o x line cache s.clean c.requires.clean c.clean_line.ensures.kept in
    let s1 : Stands f (begun_of x1) o1 x1 =
    subst (λ (z : List ℕ). Stands f (begun_of z) o1 z) (sym read.same) (recached f (begun_of x) o x cache s clean1) in
    let k1 : IsLines f o1 = recached_lines f o cache k in
    let m = c.make_room.new.lines in
    let x2 = d.bytes c.make_room.new.disk in
    let steps = c.make_room.ensures.steps in
    let same = c.make_room.ensures.marks in
    let lv = c.in_ok-make_room.ensures.leaves in
    let clean2 : is_clean (stand_at m.marks line) ≡ true = same.clean line ∙ c.requires.clean in
    let now2 : now_of f m x2 ≡ now_of f o x = lv.bytes_now ∙ ap (λ (z : List ℕ). now_of f o z) read.same in
    let given2 : c.in_ok-old.old ≡ part (64 * line) 64 (heap_of f x2) =
    c.in_ok-old.ensures.given
    ∙ sym (unbuffered f (begun_of x) o x s k line below (clean_apart (stand_at o.marks line) c.requires.clean).1)
    ∙ ap (part (64 * line) 64) (sym now2)
    ∙ unbuffered f (begun_of x1) m x2 lv.stands steps.lines line below (clean_apart (stand_at m.marks line) clean2).1 in
    let few2 : length (touched_in m.marks) < room_of f = omega (arith, ap length same.touched, c.requires.room) in
    let l = c.enter.new.lines in
    let e = c.enter.ensures.entered in
    let place_is = ap (λ (v : Lines). v.place) e in
    let logged_is = ap (λ (v : Lines). v.logged) e in
    let marks_is = ap (λ (v : Lines). v.marks) e in
    let buffer_is = ap (λ (v : Lines). v.buffer) e
    ∙ ap (λ (b : List ℕ). changes m.buffer line c.in_ok-old.old b) c.put_at.ensures in
    subst (λ (t : List ℕ). IsPermutation (t ++ line ∷ []) (touched_in l.marks)) same.touched (entered_touched f (begun_of x1) m x2 lv.stands steps.lines line a.at c.in_ok-old.old a.from.now below clean2 given2 c.requires.inside few2 l place_is logged_is buffer_is marks_is c.enter.ensures.cache)

pub returns-clause-leaves : goal.returns-clause-leaves
returns-clause-leaves g c =
    let d = g.D.Disk in
    let a = c.args in
    let f = a.frame in
    let o = a.lines.now in
    let x = d.bytes a.disk.now in
    let s = c.requires.stands in
    let k = c.requires.kept in
    let line = a.line in
    let below = c.requires.below in
    let read = c.clean_line.ensures.reads in
    let x1 = d.bytes c.clean_line.new.disk in
    let cache = c.clean_line.new.cache in
    let o1 : Lines = record o { cache = cache } in
    let clean1 = cached_clean f o x line cache s.clean c.requires.clean c.clean_line.ensures.kept in
    let s1 : Stands f (begun_of x1) o1 x1 =
    subst (λ (z : List ℕ). Stands f (begun_of z) o1 z) (sym read.same) (recached f (begun_of x) o x cache s clean1) in
    let k1 : IsLines f o1 = recached_lines f o cache k in
    let m = c.make_room.new.lines in
    let x2 = d.bytes c.make_room.new.disk in
    let steps = c.make_room.ensures.steps in
    let same = c.make_room.ensures.marks in
    let lv = c.in_ok-make_room.ensures.leaves in
    let clean2 : is_clean (stand_at m.marks line) ≡ true = same.clean line ∙ c.requires.clean in
    let now2 : now_of f m x2 ≡ now_of f o x = lv.bytes_now ∙ ap (λ (z : List ℕ). now_of f o z) read.same in
    let given2 : c.in_ok-old.old ≡ part (64 * line) 64 (heap_of f x2) =
    c.in_ok-old.ensures.given
    ∙ sym (unbuffered f (begun_of x) o x s k line below (clean_apart (stand_at o.marks line) c.requires.clean).1)
    ∙ ap (part (64 * line) 64) (sym now2)
    ∙ unbuffered f (begun_of x1) m x2 lv.stands steps.lines line below (clean_apart (stand_at m.marks line) clean2).1 in
    let few2 : length (touched_in m.marks) < room_of f = omega (arith, ap length same.touched, c.requires.room) in
    let l = c.enter.new.lines in
    let e = c.enter.ensures.entered in
    let place_is = ap (λ (v : Lines). v.place) e in
    let logged_is = ap (λ (v : Lines). v.logged) e in
    let marks_is = ap (λ (v : Lines). v.marks) e in
    let buffer_is = ap (λ (v : Lines). v.buffer) e
    ∙ ap (λ (b : List ℕ). changes m.buffer line c.in_ok-old.old b) c.put_at.ensures in
    leaves_then f a.disk.now c.clean_line.new.disk c.make_room.new.disk o o1 l read refl _
    (leaves_entered f c.clean_line.new.disk c.make_room.new.disk m l _ _ lv (entered_stands f (begun_of x1) m x2 lv.stands steps.lines line a.at c.in_ok-old.old a.from.now below clean2 given2 c.requires.inside few2 l place_is logged_is buffer_is marks_is c.enter.ensures.cache)
    (entered_now f (begun_of x1) m x2 lv.stands steps.lines line a.at c.in_ok-old.old a.from.now below clean2 given2 c.requires.inside few2 l place_is logged_is buffer_is marks_is c.enter.ensures.cache ∙ ap (overwrite (64 * line + a.at) a.from.now) now2))

pub returns-clause-few : goal.returns-clause-few
returns-clause-few g c =
    let d = g.D.Disk in
    let a = c.args in
    let f = a.frame in
    let o = a.lines.now in
    let x = d.bytes a.disk.now in
    let s = c.requires.stands in
    let k = c.requires.kept in
    let line = a.line in
    let below = c.requires.below in
    let read = c.clean_line.ensures.reads in
    let x1 = d.bytes c.clean_line.new.disk in
    let cache = c.clean_line.new.cache in
    let o1 : Lines = record o { cache = cache } in
    let clean1 = cached_clean f o x line cache s.clean c.requires.clean c.clean_line.ensures.kept in
    let s1 : Stands f (begun_of x1) o1 x1 =
    subst (λ (z : List ℕ). Stands f (begun_of z) o1 z) (sym read.same) (recached f (begun_of x) o x cache s clean1) in
    let k1 : IsLines f o1 = recached_lines f o cache k in
    let m = c.make_room.new.lines in
    let x2 = d.bytes c.make_room.new.disk in
    let steps = c.make_room.ensures.steps in
    let same = c.make_room.ensures.marks in
    let lv = c.in_ok-make_room.ensures.leaves in
    let clean2 : is_clean (stand_at m.marks line) ≡ true = same.clean line ∙ c.requires.clean in
    let now2 : now_of f m x2 ≡ now_of f o x = lv.bytes_now ∙ ap (λ (z : List ℕ). now_of f o z) read.same in
    let given2 : c.in_ok-old.old ≡ part (64 * line) 64 (heap_of f x2) =
    c.in_ok-old.ensures.given
    ∙ sym (unbuffered f (begun_of x) o x s k line below (clean_apart (stand_at o.marks line) c.requires.clean).1)
    ∙ ap (part (64 * line) 64) (sym now2)
    ∙ unbuffered f (begun_of x1) m x2 lv.stands steps.lines line below (clean_apart (stand_at m.marks line) clean2).1 in
    let few2 : length (touched_in m.marks) < room_of f = omega (arith, ap length same.touched, c.requires.room) in
    let l = c.enter.new.lines in
    let e = c.enter.ensures.entered in
    let place_is = ap (λ (v : Lines). v.place) e in
    let logged_is = ap (λ (v : Lines). v.logged) e in
    let marks_is = ap (λ (v : Lines). v.marks) e in
    let buffer_is = ap (λ (v : Lines). v.buffer) e
    ∙ ap (λ (b : List ℕ). changes m.buffer line c.in_ok-old.old b) c.put_at.ensures in
    omega (arith, touched_more f (begun_of x1) m x2 lv.stands steps.lines line a.at c.in_ok-old.old a.from.now below clean2 given2 c.requires.inside few2 l place_is logged_is buffer_is marks_is c.enter.ensures.cache, ap length same.touched)

pub returns-clause-steps : goal.returns-clause-steps
returns-clause-steps g c =
    let d = g.D.Disk in
    let a = c.args in
    let f = a.frame in
    let o = a.lines.now in
    let x = d.bytes a.disk.now in
    let s = c.requires.stands in
    let k = c.requires.kept in
    let line = a.line in
    let below = c.requires.below in
    let read = c.clean_line.ensures.reads in
    let x1 = d.bytes c.clean_line.new.disk in
    let cache = c.clean_line.new.cache in
    let o1 : Lines = record o { cache = cache } in
    let clean1 = cached_clean f o x line cache s.clean c.requires.clean c.clean_line.ensures.kept in
    let s1 : Stands f (begun_of x1) o1 x1 =
    subst (λ (z : List ℕ). Stands f (begun_of z) o1 z) (sym read.same) (recached f (begun_of x) o x cache s clean1) in
    let k1 : IsLines f o1 = recached_lines f o cache k in
    let m = c.make_room.new.lines in
    let x2 = d.bytes c.make_room.new.disk in
    let steps = c.make_room.ensures.steps in
    let same = c.make_room.ensures.marks in
    let lv = c.in_ok-make_room.ensures.leaves in
    let clean2 : is_clean (stand_at m.marks line) ≡ true = same.clean line ∙ c.requires.clean in
    let now2 : now_of f m x2 ≡ now_of f o x = lv.bytes_now ∙ ap (λ (z : List ℕ). now_of f o z) read.same in
    let given2 : c.in_ok-old.old ≡ part (64 * line) 64 (heap_of f x2) =
    c.in_ok-old.ensures.given
    ∙ sym (unbuffered f (begun_of x) o x s k line below (clean_apart (stand_at o.marks line) c.requires.clean).1)
    ∙ ap (part (64 * line) 64) (sym now2)
    ∙ unbuffered f (begun_of x1) m x2 lv.stands steps.lines line below (clean_apart (stand_at m.marks line) clean2).1 in
    let few2 : length (touched_in m.marks) < room_of f = omega (arith, ap length same.touched, c.requires.room) in
    let l = c.enter.new.lines in
    let e = c.enter.ensures.entered in
    let place_is = ap (λ (v : Lines). v.place) e in
    let logged_is = ap (λ (v : Lines). v.logged) e in
    let marks_is = ap (λ (v : Lines). v.marks) e in
    let buffer_is = ap (λ (v : Lines). v.buffer) e
    ∙ ap (λ (b : List ℕ). changes m.buffer line c.in_ok-old.old b) c.put_at.ensures in
    let batch = ap (λ (v : Lines). length v.batch.items) e ∙ steps.lines.batch in
    let more = touched_more f (begun_of x1) m x2 lv.stands steps.lines line a.at c.in_ok-old.old a.from.now below clean2 given2 c.requires.inside few2 l place_is logged_is buffer_is marks_is c.enter.ensures.cache in
    steps_then f a.disk.now c.clean_line.new.disk c.make_room.new.disk o o1 l read refl
    (steps_entered f c.clean_line.new.disk c.make_room.new.disk o1 m l steps (entered_lines f (begun_of x1) m x2 lv.stands steps.lines line a.at c.in_ok-old.old a.from.now below clean2 given2 c.requires.inside few2 l place_is logged_is buffer_is marks_is c.enter.ensures.cache batch) (omega (arith, more))
    (omega (arith, more)))

pub make_room-requires-clause-regions : goal.make_room-requires-clause-regions
make_room-requires-clause-regions g c =
    subst (λ (y : List ℕ). LieInside c.args.frame (length y)) (sym c.clean_line.ensures.reads.same) c.requires.regions

pub enter-requires-clause-below : goal.enter-requires-clause-below
enter-requires-clause-below g c =
    omega (arith, c.requires.below, c.make_room.ensures.steps.lines.long)

pub enter-requires-clause-old : goal.enter-requires-clause-old
enter-requires-clause-old g c =
    let d = g.D.Disk in
    let a = c.args in
    let f = a.frame in
    let o = a.lines.now in
    let x = d.bytes a.disk.now in
    let s = c.requires.stands in
    let k = c.requires.kept in
    let line = a.line in
    let below = c.requires.below in
    let old : length c.in_ok-old.old ≡ 64 = ap length c.in_ok-old.ensures.given
    ∙ length-part (64 * line) 64 (heap_of f x) (omega (arith, below, stands_wide f (begun_of x) o x s)) in
    old

pub enter-requires-clause-new : goal.enter-requires-clause-new
enter-requires-clause-new g c =
    let d = g.D.Disk in
    let a = c.args in
    let f = a.frame in
    let o = a.lines.now in
    let x = d.bytes a.disk.now in
    let s = c.requires.stands in
    let k = c.requires.kept in
    let line = a.line in
    let below = c.requires.below in
    let old : length c.in_ok-old.old ≡ 64 = ap length c.in_ok-old.ensures.given
    ∙ length-part (64 * line) 64 (heap_of f x) (omega (arith, below, stands_wide f (begun_of x) o x s)) in
    ap length c.put_at.ensures
    ∙ length-overwrite c.args.at c.args.from.now c.in_ok-old.old (omega (arith, old, c.requires.inside)) ∙ old
