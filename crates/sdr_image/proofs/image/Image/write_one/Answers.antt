use Rattle.std.proofs.Common.{◌≡◌, ◌≤◌, ◌∙◌, ◌/◌, ◌∷◌, [], ℕ, List, length, refl, sym, ap, subst, arith}
use Rattle.std.specs.Prelude.{IsPermutation, OnOk}
use Rattle.std.proofs.lemmas.List.Sorted.{length_permutation}
use Rattle.sdr_base.specs.Cells.{IsFull, TouchesSome, lines_of, with_lines}
use Rattle.sdr_base.specs.declared.refusal.Refusal.TheVariants.{LogFull}
use Rattle.sdr_log.specs.Frame.{room_of}
use Rattle.sdr_image.specs.Opened.{transaction_of}
use Rattle.sdr_image.specs.QuietLaws.{quiet_same}
use Rattle.sdr_image.proofs.StandsLemmas.{on_ok}
use Rattle.sdr_image.proofs.StopLemmas.{never_refused, on_err, quiet_stays}
use Rattle.sdr_image.proofs.TouchedLemmas.{lines_of-one}
use Rattle.sdr_image.proofs.image.Image.write_one.Goals as goal

pub returns-then-lines-room-clause-room : goal.returns-then-lines-room-clause-room
returns-then-lines-room-clause-room g c =
    let d = g.D.Disk in
    let old = transaction_of d.faults c.args.self.now in
    let own = lines_of c.args.place (length c.args.from.now) in
    let is : (c.args.place / 64) ∷ [] ≡ own = sym (lines_of-one c.args.place (length c.args.from.now) c.requires.some c.requires.one) in
    let many : c.touched_with_one-lines.result ≡ length (with_lines old.touched own) =
    c.touched_with_one-lines.ensures ∙ ap (λ (l : List ℕ). length (with_lines old.touched l)) is in
    record {
      room = refl;
      touched = tt;
      fits = tt;
      same = refl;
      some = record { kept = omega arith; few = omega arith };
      full = record {
        numbers = λ i. LogFull (many i) (c.room-room.ensures i);
        over = omega (arith, many, c.room-room.ensures, c.if-lines-room.true);
      };
    }

pub returns-then-lines-room-clause-quiet : goal.returns-then-lines-room-clause-quiet
returns-then-lines-room-clause-quiet g c =
    let d = g.D.Disk in
    quiet_same d.bytes d.tells_crashes d.moment d.may_hold_after c.args.self.now

pub returns-clause-room : goal.returns-clause-room
returns-clause-room g c =
    let d = g.D.Disk in
    let old = transaction_of d.faults c.args.self.now in
    let new = transaction_of d.faults c.put_one.new.self in
    let e = c.put_one.ensures in
    let r = c.put_one.result in
    let own = lines_of c.args.place (length c.args.from.now) in
    let is : (c.args.place / 64) ∷ [] ≡ own = sym (lines_of-one c.args.place (length c.args.from.now) c.requires.some c.requires.one) in
    let touched = subst (λ (l : List ℕ). OnOk r (IsPermutation (with_lines old.touched l) new.touched)) is e.touched in
    let fits : length (with_lines old.touched own) ≤ old.room =
    omega (arith, ap (λ (l : List ℕ). length (with_lines old.touched l)) is, c.touched_with_one-lines.ensures, c.room-room.ensures) in
    record {
      room = ap room_of e.quiet.frame;
      touched = touched;
      fits = on_ok r (λ (p : IsPermutation (with_lines old.touched own) new.touched).
          omega (arith, fits, length_permutation _ _ p)) touched;
      same = never_refused (λ _. new.touched ≡ old.touched) r e.answered;
      some = on_err r (subst (λ (l : List ℕ). TouchesSome (length l) old new) is e.some);
      full = never_refused (IsFull own old) r e.answered;
    }

pub returns-clause-stays : goal.returns-clause-stays
returns-clause-stays g c =
    let d = g.D.Disk in
    let e = c.put_one.ensures in
    quiet_stays d.bytes d.tells_crashes d.moment d.may_hold_after d.faults c.args.self.now c.put_one.new.self c.put_one.result
    c.requires.sound e.answered e.cause e.quiet
