use Rattle.std.proofs.Common.{◌≡◌, ◌≤◌, ◌∙◌, ◌+◌, ℕ, cond, List, length, refl, sym, ap, subst, arith}
use Rattle.std.specs.Vec.{with_items}
use Rattle.std.proofs.lemmas.List.Sorted.{length_permutation}
use Rattle.sdr_log.specs.Batch.{batch_size, with_batch}
use Rattle.sdr_log.specs.Calls.{AreBelow, AreNamed, HasPlace, with_records}
use Rattle.sdr_log.specs.Log.{names_line}
use Rattle.sdr_log.specs.Spilled.{MaySpill}
use Rattle.sdr_log.specs.declared.record.Record.{Record}
use Rattle.sdr_image.specs.Lines.{Keeps, begun_of}
use Rattle.sdr_image.specs.Marks.{stand_at}
use Rattle.sdr_image.specs.declared.lines.Lines.{Lines}
use Rattle.sdr_image.specs.declared.marks.Stand.TheVariants.{Logged}
use Rattle.sdr_image.proofs.StandsLemmas.{keeps_left, risen_below, risen_counted, risen_marks, risen_may, risen_named}
use Rattle.sdr_image.proofs.StandsLemmas.{risen_place, risen_touched, spilled_bytes_now, spilled_clean, spilled_lines}
use Rattle.sdr_image.proofs.StandsLemmas.{spilled_stands, spilled_touched}
use Rattle.sdr_image.proofs.VecLemmas.{items_anew}
use Rattle.sdr_image.proofs.spilling.spill.Goals as goal

pub spill-requires-clause-place : goal.spill-requires-clause-place
spill-requires-clause-place g c =
    let d = g.D.Disk in
    let a = c.args in
    let f = a.frame in
    let o = a.lines.now in
    let x = d.bytes a.disk.now in
    let begun = begun_of x in
    let s = c.requires.stands in
    let k = c.requires.kept in
    let risen = c.rise.new.self in
    let r = c.rise.ensures in
    let some = c.requires.some in
    let few : length o.buffer.olds ≤ 64 =
    omega (arith, c.len-count.ensures.len, c.len-count.ensures.few, length_permutation _ _ r.olds) in
    subst (λ (rs : List Record). HasPlace f o.place (length rs) (length c.deref_mut.result.now)) (sym c.olds.ensures)
    (risen_place f begun o x s k risen r some few (length c.deref_mut.result.now) (ap length c.deref_mut.ensures.value ∙ k.batch))

pub spill-requires-clause-below : goal.spill-requires-clause-below
spill-requires-clause-below g c =
    let d = g.D.Disk in
    let a = c.args in
    let f = a.frame in
    let o = a.lines.now in
    let x = d.bytes a.disk.now in
    let begun = begun_of x in
    let s = c.requires.stands in
    let k = c.requires.kept in
    let risen = c.rise.new.self in
    let r = c.rise.ensures in
    let some = c.requires.some in
    let few : length o.buffer.olds ≤ 64 =
    omega (arith, c.len-count.ensures.len, c.len-count.ensures.few, length_permutation _ _ r.olds) in
    subst (AreBelow f.heap_lines) (sym c.news.ensures) (risen_below f begun o x s k risen r some few)

pub spill-requires-clause-named : goal.spill-requires-clause-named
spill-requires-clause-named g c =
    let d = g.D.Disk in
    let a = c.args in
    let f = a.frame in
    let o = a.lines.now in
    let x = d.bytes a.disk.now in
    let begun = begun_of x in
    let s = c.requires.stands in
    let k = c.requires.kept in
    let risen = c.rise.new.self in
    let r = c.rise.ensures in
    let some = c.requires.some in
    let few : length o.buffer.olds ≤ 64 =
    omega (arith, c.len-count.ensures.len, c.len-count.ensures.few, length_permutation _ _ r.olds) in
    subst (λ (rs : List Record). AreNamed rs c.news.result.now) (sym c.olds.ensures)
    (subst (AreNamed risen.olds) (sym c.news.ensures) (risen_named f begun o x s k risen r some few))

pub returns-in_err-next-clause-steps : goal.returns-in_err-next-clause-steps
returns-in_err-next-clause-steps g c =
    let d = g.D.Disk in
    let a = c.args in
    let f = a.frame in
    let o = a.lines.now in
    let x = d.bytes a.disk.now in
    let begun = begun_of x in
    let s = c.requires.stands in
    let k = c.requires.kept in
    let risen = c.rise.new.self in
    let r = c.rise.ensures in
    let some = c.requires.some in
    let few : length o.buffer.olds ≤ 64 =
    omega (arith, c.len-count.ensures.len, c.len-count.ensures.few, length_permutation _ _ r.olds) in
    let left = d.may_hold_after a.disk.now (d.moment a.disk.now) in
    let olds_is = c.olds.ensures in
    let news_is = c.news.ensures in
    let whole = c.len-count.ensures.whole in
    let may : Keeps f begun x left → MaySpill f begun o.place s.records c.olds.result.now x left =
    λ keeps. subst (λ (rs : List Record). MaySpill f begun o.place s.records rs x left) (sym olds_is)
    (risen_may f begun o x s k risen r some few left (keeps_left f begun o x s left keeps)) in
    let batch_at = items_anew o.batch.len c.spill.new.buffer o.batch.items (c.spill.auto.buffer ∙ c.deref_mut.ensures.len) in
    let batch = ap length batch_at ∙ c.spill.auto.buffer ∙ ap length c.deref_mut.ensures.value ∙ k.batch in
    record {
      keeps = c.spill.ensures.disk;
      inside = c.spill.ensures.inside;
      forward = c.spill.ensures.forward;
      lines = record {
        long = k.long;
        batch = batch;
        below = risen_below f begun o x s k risen r some few;
        whole = whole.1;
        paired = c.len-count.ensures.long;
        counted = risen_counted f begun o x s k risen r some few;
      };
      kept = omega arith;
      reads = λ none. absurd (risen_touched f begun o x s k risen r some few none);
      any_moment = λ told keeps. c.spill.ensures.any_moment told begun s.records (may keeps);
    }

pub returns-in_err-next-clause-calls : goal.returns-in_err-next-clause-calls
returns-in_err-next-clause-calls g c =
    let d = g.D.Disk in
    let a = c.args in
    let f = a.frame in
    let o = a.lines.now in
    let x = d.bytes a.disk.now in
    let begun = begun_of x in
    let s = c.requires.stands in
    let k = c.requires.kept in
    let risen = c.rise.new.self in
    let r = c.rise.ensures in
    let some = c.requires.some in
    let few : length o.buffer.olds ≤ 64 =
    omega (arith, c.len-count.ensures.len, c.len-count.ensures.few, length_permutation _ _ r.olds) in
    omega (arith, c.spill.ensures.calls, ap length c.news.ensures, c.len-count.ensures.long, c.len-count.ensures.len, c.len-count.ensures.few)

pub set_all-requires-clause-below : goal.set_all-requires-clause-below
set_all-requires-clause-below g c line named =
    let d = g.D.Disk in
    let a = c.args in
    let f = a.frame in
    let o = a.lines.now in
    let x = d.bytes a.disk.now in
    let begun = begun_of x in
    let s = c.requires.stands in
    let k = c.requires.kept in
    let risen = c.rise.new.self in
    let r = c.rise.ensures in
    let some = c.requires.some in
    let few : length o.buffer.olds ≤ 64 =
    omega (arith, c.len-count.ensures.len, c.len-count.ensures.few, length_permutation _ _ r.olds) in
    risen_marks f begun o x s k risen r some few line (ap (λ (rs : List Record). names_line rs line) (sym c.olds-2.ensures) ∙ named)

pub returns-clause-leaves : goal.returns-clause-leaves
returns-clause-leaves g c =
    let d = g.D.Disk in
    let a = c.args in
    let f = a.frame in
    let o = a.lines.now in
    let x = d.bytes a.disk.now in
    let begun = begun_of x in
    let s = c.requires.stands in
    let k = c.requires.kept in
    let risen = c.rise.new.self in
    let r = c.rise.ensures in
    let some = c.requires.some in
    let few : length o.buffer.olds ≤ 64 =
    omega (arith, c.len-count.ensures.len, c.len-count.ensures.few, length_permutation _ _ r.olds) in
    let left = d.may_hold_after a.disk.now (d.moment a.disk.now) in
    let olds_is = c.olds.ensures in
    let news_is = c.news.ensures in
    let whole = c.len-count.ensures.whole in
    let may : Keeps f begun x left → MaySpill f begun o.place s.records c.olds.result.now x left =
    λ keeps. subst (λ (rs : List Record). MaySpill f begun o.place s.records rs x left) (sym olds_is)
    (risen_may f begun o x s k risen r some few left (keeps_left f begun o x s left keeps)) in
    let batch_at = items_anew o.batch.len c.spill.new.buffer o.batch.items (c.spill.auto.buffer ∙ c.deref_mut.ensures.len) in
    let batch = ap length batch_at ∙ c.spill.auto.buffer ∙ ap length c.deref_mut.ensures.value ∙ k.batch in
    let y = d.bytes c.spill.new.disk in
    let is = c.in_ok-next.ensures.written
    ∙ ap (λ (rs : List Record). with_records f c.news.result.now (with_batch o.place rs x)) olds_is
    ∙ ap (λ (rs : List Record). with_records f rs (with_batch o.place risen.olds x)) news_is in
    let l : Lines = record {
      place = c.in_ok-next.next;
      logged = o.logged + c.len-count.result;
      buffer = c.clear.new.self;
      marks = c.set_all.new.self;
      batch = with_items o.batch c.spill.new.buffer;
      cache = o.cache;
    } in
    let next_is = c.in_ok-next.ensures.next ∙ ap (λ (rs : List Record). o.place + batch_size (length rs)) olds_is in
    let logged_is = ap (λ (n : ℕ). o.logged + n) c.len-count.ensures.len in
    let marked : (line : ℕ) → stand_at c.set_all.new.self line
    ≡ cond (names_line risen.olds line) Logged (stand_at o.marks line) =
    λ line. c.set_all.ensures.marked line
    ∙ ap (λ (rs : List Record). cond (names_line rs line) Logged (stand_at o.marks line)) c.olds-2.ensures in
    record {
      stands = spilled_stands f begun o x s k risen r some few whole.0 whole.1 y is l next_is logged_is c.clear.ensures c.set_all.ensures.long marked refl;
      bytes_now = spilled_bytes_now f begun o x s k risen r some few whole.0 whole.1 y is l next_is logged_is c.clear.ensures c.set_all.ensures.long marked refl;
      rests = λ told keeps.
          let sp = c.in_ok-next.ensures.spills told begun s.records (may keeps) in
          record { place = _; records = _; keeps = sp.keeps };
    }

pub returns-clause-marks : goal.returns-clause-marks
returns-clause-marks g c =
    let d = g.D.Disk in
    let a = c.args in
    let f = a.frame in
    let o = a.lines.now in
    let x = d.bytes a.disk.now in
    let begun = begun_of x in
    let s = c.requires.stands in
    let k = c.requires.kept in
    let risen = c.rise.new.self in
    let r = c.rise.ensures in
    let some = c.requires.some in
    let few : length o.buffer.olds ≤ 64 =
    omega (arith, c.len-count.ensures.len, c.len-count.ensures.few, length_permutation _ _ r.olds) in
    let left = d.may_hold_after a.disk.now (d.moment a.disk.now) in
    let olds_is = c.olds.ensures in
    let news_is = c.news.ensures in
    let whole = c.len-count.ensures.whole in
    let may : Keeps f begun x left → MaySpill f begun o.place s.records c.olds.result.now x left =
    λ keeps. subst (λ (rs : List Record). MaySpill f begun o.place s.records rs x left) (sym olds_is)
    (risen_may f begun o x s k risen r some few left (keeps_left f begun o x s left keeps)) in
    let batch_at = items_anew o.batch.len c.spill.new.buffer o.batch.items (c.spill.auto.buffer ∙ c.deref_mut.ensures.len) in
    let batch = ap length batch_at ∙ c.spill.auto.buffer ∙ ap length c.deref_mut.ensures.value ∙ k.batch in
    let y = d.bytes c.spill.new.disk in
    let is = c.in_ok-next.ensures.written
    ∙ ap (λ (rs : List Record). with_records f c.news.result.now (with_batch o.place rs x)) olds_is
    ∙ ap (λ (rs : List Record). with_records f rs (with_batch o.place risen.olds x)) news_is in
    let l : Lines = record {
      place = c.in_ok-next.next;
      logged = o.logged + c.len-count.result;
      buffer = c.clear.new.self;
      marks = c.set_all.new.self;
      batch = with_items o.batch c.spill.new.buffer;
      cache = o.cache;
    } in
    let next_is = c.in_ok-next.ensures.next ∙ ap (λ (rs : List Record). o.place + batch_size (length rs)) olds_is in
    let logged_is = ap (λ (n : ℕ). o.logged + n) c.len-count.ensures.len in
    let marked : (line : ℕ) → stand_at c.set_all.new.self line
    ≡ cond (names_line risen.olds line) Logged (stand_at o.marks line) =
    λ line. c.set_all.ensures.marked line
    ∙ ap (λ (rs : List Record). cond (names_line rs line) Logged (stand_at o.marks line)) c.olds-2.ensures in
    record {
      long = c.set_all.ensures.long;
      clean = spilled_clean f begun o x s k risen r some few whole.0 whole.1 y is l next_is logged_is c.clear.ensures c.set_all.ensures.long marked refl;
      touched = spilled_touched f begun o x s k risen r some few whole.0 whole.1 y is l next_is logged_is c.clear.ensures c.set_all.ensures.long marked refl;
    }

pub returns-clause-steps : goal.returns-clause-steps
returns-clause-steps g c =
    let d = g.D.Disk in
    let a = c.args in
    let f = a.frame in
    let o = a.lines.now in
    let x = d.bytes a.disk.now in
    let begun = begun_of x in
    let s = c.requires.stands in
    let k = c.requires.kept in
    let risen = c.rise.new.self in
    let r = c.rise.ensures in
    let some = c.requires.some in
    let few : length o.buffer.olds ≤ 64 =
    omega (arith, c.len-count.ensures.len, c.len-count.ensures.few, length_permutation _ _ r.olds) in
    let left = d.may_hold_after a.disk.now (d.moment a.disk.now) in
    let olds_is = c.olds.ensures in
    let news_is = c.news.ensures in
    let whole = c.len-count.ensures.whole in
    let may : Keeps f begun x left → MaySpill f begun o.place s.records c.olds.result.now x left =
    λ keeps. subst (λ (rs : List Record). MaySpill f begun o.place s.records rs x left) (sym olds_is)
    (risen_may f begun o x s k risen r some few left (keeps_left f begun o x s left keeps)) in
    let batch_at = items_anew o.batch.len c.spill.new.buffer o.batch.items (c.spill.auto.buffer ∙ c.deref_mut.ensures.len) in
    let batch = ap length batch_at ∙ c.spill.auto.buffer ∙ ap length c.deref_mut.ensures.value ∙ k.batch in
    let y = d.bytes c.spill.new.disk in
    let is = c.in_ok-next.ensures.written
    ∙ ap (λ (rs : List Record). with_records f c.news.result.now (with_batch o.place rs x)) olds_is
    ∙ ap (λ (rs : List Record). with_records f rs (with_batch o.place risen.olds x)) news_is in
    let l : Lines = record {
      place = c.in_ok-next.next;
      logged = o.logged + c.len-count.result;
      buffer = c.clear.new.self;
      marks = c.set_all.new.self;
      batch = with_items o.batch c.spill.new.buffer;
      cache = o.cache;
    } in
    let next_is = c.in_ok-next.ensures.next ∙ ap (λ (rs : List Record). o.place + batch_size (length rs)) olds_is in
    let logged_is = ap (λ (n : ℕ). o.logged + n) c.len-count.ensures.len in
    let marked : (line : ℕ) → stand_at c.set_all.new.self line
    ≡ cond (names_line risen.olds line) Logged (stand_at o.marks line) =
    λ line. c.set_all.ensures.marked line
    ∙ ap (λ (rs : List Record). cond (names_line rs line) Logged (stand_at o.marks line)) c.olds-2.ensures in
    let same = spilled_touched f begun o x s k risen r some few whole.0 whole.1 y is l next_is logged_is c.clear.ensures c.set_all.ensures.long marked refl in
    record {
      keeps = c.spill.ensures.disk;
      inside = c.spill.ensures.inside;
      forward = c.spill.ensures.forward;
      lines = spilled_lines f begun o x s k risen r some few whole.0 whole.1 y is l next_is logged_is c.clear.ensures c.set_all.ensures.long marked refl batch;
      kept = omega (arith, ap length same);
      reads = λ none. absurd (risen_touched f begun o x s k risen r some few (sym same ∙ none));
      any_moment = λ told keeps. c.spill.ensures.any_moment told begun s.records (may keeps);
    }

pub returns-clause-calls : goal.returns-clause-calls
returns-clause-calls g c =
    let d = g.D.Disk in
    let a = c.args in
    let f = a.frame in
    let o = a.lines.now in
    let x = d.bytes a.disk.now in
    let begun = begun_of x in
    let s = c.requires.stands in
    let k = c.requires.kept in
    let risen = c.rise.new.self in
    let r = c.rise.ensures in
    let some = c.requires.some in
    let few : length o.buffer.olds ≤ 64 =
    omega (arith, c.len-count.ensures.len, c.len-count.ensures.few, length_permutation _ _ r.olds) in
    omega (arith, c.spill.ensures.calls, ap length c.news.ensures, c.len-count.ensures.long, c.len-count.ensures.len, c.len-count.ensures.few)
