use Rattle.std.proofs.Common.{◌∙◌, subst, sym}
use Rattle.run_load.specs.declared.loading.LoadEnd.{LoadEnd}
use Rattle.sdr_forms.proofs.LoadLemmas.{tells_summed}
use Rattle.sdr_forms.specs.Answers.{seen}
use Rattle.sdr_forms.specs.Loading.{TellsLoad}
use Rattle.sdr_forms.proofs.loading.tell_load.Goals as goal

pub returns-in-Summed-clause-told : goal.returns-in-Summed-clause-told
returns-in-Summed-clause-told g c =
    let e = c.print_line.ensures in
    let sink = seen g.K.Sink.taken g.K.Sink.faults c.args.output.now in
    let sink' = seen g.K.Sink.taken g.K.Sink.faults c.print_line.new.output in
    subst (λ (end : LoadEnd). TellsLoad c.args.rounds end c.print_line.result sink sink') (sym c.in-Summed.is)
    (tells_summed c.args.rounds c.in-Summed.summary c.as_slice.result.now c.print_line.result sink sink'
    (c.as_slice.ensures ∙ c.summary_line-text.ensures) e.known e.text e.part e.output)
