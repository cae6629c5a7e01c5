use Rattle.std.proofs.Common.{◌≡◌, ◌∷◌, [], Some, arith, get_or, subst, sym, take}
use Rattle.std.proofs.lemmas.List.{take_all, take_more}
use Rattle.std.proofs.lemmas.List.Elements.{All-append, All-cons, All-nil, All-weaker}
use Rattle.std.specs.BTreeMap.{get}
use Rattle.std.specs.List.{All}
use Rattle.std.specs.Ordering.{nat_cmp}
use Rattle.sdr_model.specs.Zco.{uses_of}
use Rattle.sdr_model.specs.declared.zco.Extent.{Extent}
use Rattle.mem_zco_calls.proofs.gone.count_uses.Goals as goal

pub loop-extent-preserved : goal.loop-extent-preserved
loop-extent-preserved c =
    let w = c.args.world.now.now in
    let all = c.args.extents.now in
    let i = c.loop-extent.extent-index in
    let d : Extent = record { block = 0; source = 0; offset = 0; length = 0 } in
    let P = λ (e : Extent). get nat_cmp c.add_source.new.uses e.source ≡ Some (uses_of w e.source) in
    record {
      counted = subst (All P) (sym (take_more all i d c.loop-extent-test.true))
          (All-append P (take i all) (get_or all i d ∷ [])
          (All-weaker (λ e. get nat_cmp c.loop-extent.uses e.source ≡ Some (uses_of w e.source)) P
          (λ e is. c.in_ok-add_source.ensures.others e.source is) (take i all) c.loop-extent.invariant.counted)
          (All-cons P (get_or all i d) [] c.in_ok-add_source.ensures.here (All-nil P)));
    }

pub returns : goal.returns
returns c =
    let w = c.args.world.now.now in
    let all = c.args.extents.now in
    subst (All (λ e. get nat_cmp c.loop-extent.uses e.source ≡ Some (uses_of w e.source)))
    (take_all c.loop-extent.extent-index all (omega arith)) c.loop-extent.invariant.counted
