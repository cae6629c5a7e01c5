use Rattle.std.proofs.Common.{◌≡◌, ◌+◌, ◌*◌, ◌++◌, ◌∷◌, [], ℕ, List, ap, sym, ◌∙◌, arith, append_assoc, drop, get_or, length}
use Rattle.std.proofs.lemmas.List.{drop_more}
use Rattle.sdr_model.specs.BondSteps.{bonded_extents}
use Rattle.sdr_model.specs.declared.zco.Capsule.{Capsule}
use Rattle.sdr_model.specs.declared.zco.Extent.{Extent}
use Rattle.mem_zco_calls.proofs.BondCallLemmas.{extents-shift}
use Rattle.mem_zco_calls.proofs.bond_calls.add_bonded.Goals as goal

pub loop-capsule-preserved : goal.loop-capsule-preserved
loop-capsule-preserved c =
    let all = c.args.capsules.now in
    let i = c.loop-capsule.capsule-index in
    let n = c.loop-capsule.next in
    let d : Capsule = c.capsule-item.result in
    let x : Capsule = get_or all i d in
    let rest = drop (i + 1) all in
    let old = c.loop-capsule.extents in
    let made = λ (bytes : ℕ). let e : Extent = record { block = n + 16; source = n + 8; offset = 0; length = bytes } in e in
    let more = drop_more all i d c.loop-capsule-test.true in
    let shift : bonded_extents (λ k. n + 24 + 8 * k) 0 rest ≡ bonded_extents (λ k. n + 8 * k) 3 rest =
    extents-shift (λ k. n + 24 + 8 * k) (λ k. n + 8 * k) rest 0 3 (λ k. omega arith) in
    let bytes : c.len.result ≡ length x.text = c.len.ensures ∙ ap (λ (c : Capsule). length c.text) c.capsule-item.is in
    record {
      next = omega (arith, c.loop-capsule.invariant.next);
      made = ap (λ (l : List Extent). l ++ bonded_extents (λ k. n + 24 + 8 * k) 0 rest)
          (c.in_ok-push.ensures.ok ∙ ap (λ b. old ++ made b ∷ []) bytes)
          ∙ append_assoc old (made (length x.text) ∷ []) (bonded_extents (λ k. n + 24 + 8 * k) 0 rest)
          ∙ ap (λ (l : List Extent). old ++ made (length x.text) ∷ l) shift
          ∙ sym (ap (λ cs. old ++ bonded_extents (λ k. n + 8 * k) 0 cs) more)
          ∙ c.loop-capsule.invariant.made;
    }
