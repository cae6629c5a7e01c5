use Rattle.std.proofs.Common.{◌∙◌, ap, subst, sym}
use Rattle.sdr_audit.proofs.CheckLemmas.{census_is, same_error}
use Rattle.sdr_audit.specs.Census.{IsCensus, census_of}
use Rattle.audit_blocks.proofs.RegionLemmas.{content_tells, free_tells}
use Rattle.audit_blocks.specs.Region.{TellsFirst}
use Rattle.audit_blocks.specs.declared.control.Edges.{Edges}
use Rattle.sdr_audit.proofs.structure.check_structure.Goals as goal

pub returns-in_err-check_free-clause-damaged : goal.returns-in_err-check_free-clause-damaged
returns-in_err-check_free-clause-damaged c =
    let s = c.in_ok-check_blocks.ensures.surveyed in
    same_error (TellsFirst c.args.heap.now) c.from_residual-in_err-check_free.result c.from_residual-in_err-check_free.ensures.1
    (free_tells c.args.heap.now c.check_blocks.new.spots s.edged.right s.found c.in_ok-check_bits.ensures.right c.in_err-check_free.field-0.0
    c.in_err-check_free.ensures.damaged)

pub returns-in_err-check_content-clause-damaged : goal.returns-in_err-check_content-clause-damaged
returns-in_err-check_content-clause-damaged c =
    let s = c.in_ok-check_blocks.ensures.surveyed in
    same_error (TellsFirst c.args.heap.now) c.from_residual-in_err-check_content.result c.from_residual-in_err-check_content.ensures.1
    (content_tells c.args.heap.now c.check_blocks.new.spots s.edged.right s.found c.in_ok-check_bits.ensures.right c.in_ok-check_free.ensures.right
    c.in_err-check_content.field-0.0 c.in_err-check_content.ensures.damaged)

pub returns-clause-census : goal.returns-clause-census
returns-clause-census c =
    let s = c.in_ok-check_blocks.ensures.surveyed in
    subst (IsCensus c.args.heap.now) (sym (c.of-census.ensures ∙ ap (λ (e : Edges). census_of e c.check_blocks.new.spots) s.edged.between))
    (census_is c.args.heap.now c.check_blocks.new.spots s.edged.right s.found c.in_ok-check_bits.ensures.right c.in_ok-check_free.ensures.right
    c.in_ok-check_content.ensures.right s.edged.region s.long)
