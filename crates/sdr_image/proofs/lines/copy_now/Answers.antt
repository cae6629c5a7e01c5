use Rattle.std.proofs.Common.{◌∙◌, ◌*◌, ⊎_elim, sym, ap, length, ℕ}
use Rattle.sdr_base.specs.Parts.{part}
use Rattle.sdr_log.specs.Log.{heap_of}
use Rattle.sdr_log.proofs.BatchesLemmas.{part-within}
use Rattle.sdr_image.specs.Lines.{begun_of, now_of}
use Rattle.sdr_image.specs.Marks.{is_buffered, is_clean, stand_at}
use Rattle.sdr_image.proofs.EnteredLemmas.{any_record, buffered_line, unbuffered}
use Rattle.sdr_image.proofs.StandsLemmas.{on_ok}
use Rattle.sdr_image.proofs.lines.copy_now.Goals as goal

pub copy_clean-requires-clause-clean : goal.copy_clean-requires-clause-clean
copy_clean-requires-clause-clean g c e has = (c.requires.stands.clean e has).0

pub returns-in-Clean-clause-clean : goal.returns-in-Clean-clause-clean
returns-in-Clean-clause-clean g c e has =
    let x = g.D.Disk.bytes c.args.disk.now in
    let o = c.args.lines.now in
    let at = sym c.at.ensures ∙ c.in-Clean.is in
    ⊎_elim (λ old. c.requires.stands.clean e old)
    (λ new. (new.1, ap (λ (n : ℕ). is_clean (stand_at o.marks n)) new.0 ∙ ap is_clean at))
    (c.copy_clean.ensures.kept e has)

pub returns-in-Buffered-clause-given : goal.returns-in-Buffered-clause-given
returns-in-Buffered-clause-given g c =
    let x = g.D.Disk.bytes c.args.disk.now in
    let o = c.args.lines.now in
    let now = now_of c.args.frame o x in
    let s = c.requires.stands in
    let n = length c.args.into.now in
    let at = sym c.at.ensures ∙ c.in-Buffered.is in
    let was = s.marked.placed c.args.line c.in-Buffered.place at in
    let line = c.at-in-Buffered.ensures any_record
    ∙ buffered_line c.args.frame (begun_of x) o x s c.requires.kept c.in-Buffered.place any_record was.0
    ∙ ap (λ (k : ℕ). part (64 * k) 64 now) (was.1 any_record) in
    c.copy.ensures ∙ ap (part c.args.at n) line ∙ part-within (64 * c.args.line) c.args.at n 64 now c.requires.inside

pub returns-in-Clean-clause-given : goal.returns-in-Clean-clause-given
returns-in-Clean-clause-given g c =
    let x = g.D.Disk.bytes c.args.disk.now in
    let o = c.args.lines.now in
    let f = c.args.frame in
    let n = length c.args.into.now in
    let at = sym c.at.ensures ∙ c.in-Clean.is in
    let same = unbuffered f (begun_of x) o x c.requires.stands c.requires.kept c.args.line c.requires.below (ap is_buffered at) in
    let piece = sym (part-within (64 * c.args.line) c.args.at n 64 (heap_of f x) c.requires.inside)
    ∙ ap (part c.args.at n) (sym same)
    ∙ part-within (64 * c.args.line) c.args.at n 64 (now_of f o x) c.requires.inside in
    on_ok c.copy_clean.result (λ is. is ∙ piece) c.copy_clean.ensures.given

pub returns-in_ok-bytes-in-Logged-clause-given : goal.returns-in_ok-bytes-in-Logged-clause-given
returns-in_ok-bytes-in-Logged-clause-given g c =
    let x = g.D.Disk.bytes c.args.disk.now in
    let o = c.args.lines.now in
    let f = c.args.frame in
    let n = length c.args.into.now in
    let at = sym c.at.ensures ∙ c.in-Logged.is in
    let same = unbuffered f (begun_of x) o x c.requires.stands c.requires.kept c.args.line c.requires.below (ap is_buffered at) in
    c.copy-in-Logged.ensures
    ∙ ap (part c.args.at n) (c.in_ok-bytes-in-Logged.ensures.given ∙ sym same)
    ∙ part-within (64 * c.args.line) c.args.at n 64 (now_of f o x) c.requires.inside
