use Rattle.std.proofs.Common.{◌∙◌, sym, ap, Ok}
use Rattle.std.proofs.lemmas.Result.{err_from_is_err_and}
use Rattle.sdr_words.proofs.InputLemmas.{script-read, Stops-last, Stops-ended}
use Rattle.sdr_words.proofs.read.script_of.Goals as goal

pub returns-in_err-last : goal.returns-in_err-last
returns-in_err-last c =
    let p = err_from_is_err_and c.from_residual-in_err-last.result c.from_residual-in_err-last.ensures.1 in
    rw (p.1, p.2) (Stops-ended c.in_ok-draft.draft c.args.input.now c.in_ok-draft.ensures _ c.in_err-last.ensures.ended)

pub returns-in_err-read_line : goal.returns-in_err-read_line
returns-in_err-read_line c =
    let p = err_from_is_err_and c.from_residual-in_err-read_line.result c.from_residual-in_err-read_line.ensures.1 in
    rw (p.1, p.2) (Stops-last c.in_ok-draft.draft c.args.input.now c.in_ok-draft.ensures _ _
    c.in_ok-last.ensures.last c.in_ok-last.ensures.ended _ c.in_err-read_line.ensures.line)

pub returns : goal.returns
returns c =
    script-read c.in_ok-draft.draft c.args.input.now c.in_ok-draft.ensures _ _
    c.in_ok-last.ensures.last c.in_ok-last.ensures.ended _ c.in_ok-read_line.ensures.line
    ∙ ap Ok (sym c.into_script.ensures)
