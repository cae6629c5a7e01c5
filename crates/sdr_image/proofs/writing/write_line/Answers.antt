use Rattle.std.proofs.Common.{◌∙◌, ℕ, not, List, length, sym, ap, subst, arith}
use Rattle.std.specs.Prelude.{IsPermutation}
use Rattle.std.proofs.lemmas.List.Sorted.{IsPermutation-refl}
use Rattle.sdr_disk.proofs.MomentsLemmas.{Reads-refl}
use Rattle.sdr_image.specs.Buffer.{Changes}
use Rattle.sdr_image.specs.Lines.{begun_of}
use Rattle.sdr_image.specs.Marks.{is_clean, touched_in}
use Rattle.sdr_image.specs.declared.lines.Lines.{Lines}
use Rattle.sdr_image.specs.declared.marks.Stand.{Stand}
use Rattle.sdr_image.proofs.EnteredLemmas.{any_record, changed_lines, changed_now, changed_stands}
use Rattle.sdr_image.proofs.MarksLemmas.{is_among-line}
use Rattle.sdr_image.proofs.StandsLemmas.{on_ok}
use Rattle.sdr_image.proofs.StepsLemmas.{steps_read}
use Rattle.sdr_image.proofs.TouchedLemmas.{with_lines-touched, with_lines-untouched}
use Rattle.sdr_image.proofs.writing.write_line.Goals as goal

pub write_clean-requires-clause-clean : goal.write_clean-requires-clause-clean
write_clean-requires-clause-clean g c = ap is_clean (sym c.at.ensures ∙ c.in-Clean.is)

pub write_clean-requires-clause-room : goal.write_clean-requires-clause-room
write_clean-requires-clause-room g c = c.requires.room (ap is_clean (sym c.at.ensures ∙ c.in-Clean.is))

pub write_logged-requires-clause-logged : goal.write_logged-requires-clause-logged
write_logged-requires-clause-logged g c = sym c.at.ensures ∙ c.in-Logged.is

pub returns-in-Clean-clause-touched : goal.returns-in-Clean-clause-touched
returns-in-Clean-clause-touched g c =
    let o = c.args.lines.now in
    let at = sym c.at.ensures ∙ c.in-Clean.is in
    let other = is_among-line o.marks c.args.line ∙ ap (λ (st : Stand). not (is_clean st)) at in
    on_ok c.write_clean.result
    (λ p. subst (λ (t : List ℕ). IsPermutation t (touched_in c.write_clean.new.lines.marks))
    (sym (with_lines-untouched (touched_in o.marks) c.args.line other)) p) c.write_clean.ensures.touched

pub returns-in-Logged-clause-touched : goal.returns-in-Logged-clause-touched
returns-in-Logged-clause-touched g c =
    let o = c.args.lines.now in
    let at = sym c.at.ensures ∙ c.in-Logged.is in
    let there = is_among-line o.marks c.args.line ∙ ap (λ (st : Stand). not (is_clean st)) at in
    on_ok c.write_logged.result
    (λ lv. subst (λ (t : List ℕ). IsPermutation t (touched_in c.write_logged.new.lines.marks))
    (sym (with_lines-touched (touched_in o.marks) c.args.line there))
    (subst (λ (l : Lines). IsPermutation (touched_in o.marks) (touched_in l.marks)) (sym c.write_logged.ensures.same)
    (IsPermutation-refl (touched_in o.marks)))) c.write_logged.ensures.leaves

pub returns-in-Logged-clause-few : goal.returns-in-Logged-clause-few
returns-in-Logged-clause-few g c =
    omega (arith, ap (λ (l : Lines). length (touched_in l.marks)) c.write_logged.ensures.same)

pub returns-in-Buffered-clause-touched : goal.returns-in-Buffered-clause-touched
returns-in-Buffered-clause-touched g c =
    let o = c.args.lines.now in
    let at = sym c.at.ensures ∙ c.in-Buffered.is in
    let there = is_among-line o.marks c.args.line ∙ ap (λ (st : Stand). not (is_clean st)) at in
    subst (λ (t : List ℕ). IsPermutation t (touched_in o.marks))
    (sym (with_lines-touched (touched_in o.marks) c.args.line there)) (IsPermutation-refl (touched_in o.marks))

pub returns-in-Buffered-clause-leaves : goal.returns-in-Buffered-clause-leaves
returns-in-Buffered-clause-leaves g c =
    let a = c.args in
    let o = a.lines.now in
    let x = g.D.Disk.bytes a.disk.now in
    let at = sym c.at.ensures ∙ c.in-Buffered.is in
    let l : Lines = record o { buffer = c.put.new.self } in
    let is = ap (λ (b : Changes). record o { buffer = b }) (c.put.ensures any_record) in
    record {
      stands = changed_stands a.frame (begun_of x) o x c.requires.stands c.requires.kept a.line c.in-Buffered.place a.at
          a.from.now at c.requires.below c.requires.inside any_record l is;
      bytes_now = changed_now a.frame (begun_of x) o x c.requires.stands c.requires.kept a.line c.in-Buffered.place a.at
          a.from.now at c.requires.below c.requires.inside any_record l is;
      rests = λ told keeps. keeps;
    }

pub returns-in-Buffered-clause-steps : goal.returns-in-Buffered-clause-steps
returns-in-Buffered-clause-steps g c =
    let d = g.D.Disk in
    let a = c.args in
    let o = a.lines.now in
    let x = d.bytes a.disk.now in
    let at = sym c.at.ensures ∙ c.in-Buffered.is in
    let l : Lines = record o { buffer = c.put.new.self } in
    let is = ap (λ (b : Changes). record o { buffer = b }) (c.put.ensures any_record) in
    steps_read a.frame a.disk.now a.disk.now o l (Reads-refl d.bytes d.tells_crashes d.moment d.may_hold_after a.disk.now)
    (changed_lines a.frame (begun_of x) o x c.requires.stands c.requires.kept a.line c.in-Buffered.place a.at
    a.from.now at c.requires.below c.requires.inside any_record l is) (omega arith)
