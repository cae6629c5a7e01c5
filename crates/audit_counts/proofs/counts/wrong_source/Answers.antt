use Rattle.std.proofs.Common.{◌<◌, ◌∙◌, ◌/◌, ℕ, [], ◌∷◌, length, arith, sym}
use Rattle.sdr_base.specs.declared.kind.Kind.TheVariants as kinds
use Rattle.std.proofs.lemmas.List.{get_or_read}
use Rattle.sdr_base.specs.declared.account.Acct.TheVariants as accts
use Rattle.audit_counts.proofs.CountedLemmas.{others_count}
use Rattle.audit_counts.proofs.CountsLemmas.{told_exact}
use Rattle.audit_owners.proofs.BlockLemmas.{few_words}
use Rattle.audit_owners.proofs.PlacesLemmas.{found_first, found_more, found_over}
use Rattle.audit_counts.specs.Counts.{keeps_counts}
use Rattle.audit_owners.specs.View.{view_in}
use Rattle.audit_counts.proofs.counts.wrong_source.Goals as goal

pub keeps_counts-requires-clause-inbound : goal.keeps_counts-requires-clause-inbound
keeps_counts-requires-clause-inbound c =
    let long = c.in_ok-inbound.ensures.long in
    let end = c.in-Some.ensures.next.inside in
    let inside : c.in-Some.number < length c.in_ok-inbound.inbound.items = omega (arith, long, end) in
    get_or_read c.in_ok-inbound.inbound.items _ _ inside c.index.ensures 0
    ∙ told_exact (view_in c.args.heap.now) (length c.args.heap.now / 8) accts.Inbound c.in_ok-inbound.inbound.items c.in-Some.number
    (few_words c.args.heap.now c.requires.region) c.in_ok-inbound.ensures.told inside

pub keeps_counts-requires-clause-outbound : goal.keeps_counts-requires-clause-outbound
keeps_counts-requires-clause-outbound c =
    let long = c.in_ok-outbound.ensures.long in
    let end = c.in-Some.ensures.next.inside in
    let inside : c.in-Some.number < length c.in_ok-outbound.outbound.items = omega (arith, long, end) in
    get_or_read c.in_ok-outbound.outbound.items _ _ inside c.index-in-Some.ensures 0
    ∙ told_exact (view_in c.args.heap.now) (length c.args.heap.now / 8) accts.Outbound c.in_ok-outbound.outbound.items c.in-Some.number
    (few_words c.args.heap.now c.requires.region) c.in_ok-outbound.ensures.told inside

pub returns-then-not-keeps_counts : goal.returns-then-not-keeps_counts
returns-then-not-keeps_counts c =
    let words : ℕ = length c.args.heap.now / 8 in
    let test = keeps_counts (view_in c.args.heap.now) words in
    let next = c.in-Some.ensures.next in
    let end = next.inside in
    let inside : c.in-Some.number < words = omega (arith, end) in
    sym (found_first test c.in-Some.number words inside
    (found_over (kinds.Source ∷ []) c.args.heap.now test c.loop-number.from c.in-Some.number (others_count (view_in c.args.heap.now) words) next.onward next.before
    c.loop-number.invariant.kept)
    (sym c.keeps_counts.ensures ∙ c.if-not-keeps_counts.true))

pub loop-number-preserved : goal.loop-number-preserved
loop-number-preserved c =
    let words : ℕ = length c.args.heap.now / 8 in
    let test = keeps_counts (view_in c.args.heap.now) words in
    let next = c.in-Some.ensures.next in
    let end = next.inside in
    record {
      inside = omega (arith, end);
      kept =
          found_more test c.in-Some.number
          (found_over (kinds.Source ∷ []) c.args.heap.now test c.loop-number.from c.in-Some.number (others_count (view_in c.args.heap.now) words) next.onward next.before
          c.loop-number.invariant.kept)
          (sym c.keeps_counts.ensures ∙ c.if-not-keeps_counts.false);
    }

pub returns : goal.returns
returns c =
    let words : ℕ = length c.args.heap.now / 8 in
    sym (found_over (kinds.Source ∷ []) c.args.heap.now (keeps_counts (view_in c.args.heap.now) words) c.loop-number.from words (others_count (view_in c.args.heap.now) words)
    c.loop-number.invariant.inside (λ word onward less. c.next_of.ensures.none c.in_default.is word onward) c.loop-number.invariant.kept)
