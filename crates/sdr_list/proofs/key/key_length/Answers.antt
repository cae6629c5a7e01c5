-- A raw object's key is as long as its bytes, up to the most.
use Rattle.std.proofs.Common.{◌∙◌, ap, sym, Some}
use Rattle.std.specs.Prelude.{min}
use Rattle.sdr_base.specs.declared.kind.Kind.{Kind}
use Rattle.sdr_list.proofs.KeyLemmas.{length-key}
use Rattle.sdr_list.proofs.key.key_length.Goals as goal

pub returns-in-Some-Raw-default-clause-given : goal.returns-in-Some-Raw-default-clause-given
returns-in-Some-Raw-default-clause-given g c =
    let arm = c.in-Some-Raw-default in
    length-key ((g.O.HasHeap.heap c.args.o.now).blocks c.args.datum) arm.bytes c.min.result
    (sym c.in_ok-bytes.ensures.found ∙ arm.is ∙ ap (λ (k : Kind). Some (k, arm.bytes)) arm.field-0-0-is)
    (c.min.ensures ∙ ap (λ n. min n 64) c.saturating_sub.ensures)
