use Rattle.std.proofs.Common.{◌∙◌, ◌+◌, length, arith}
use Rattle.std.proofs.lemmas.List.Sorted.{length_permutation}
use Rattle.sdr_image.proofs.BufferLemmas.{AreLines-permutation}
use Rattle.sdr_image.proofs.buffer.Buffer.rise.Goals as goal

pub invariant_of-self : goal.invariant_of-self
invariant_of-self c =
    let b = c.self.inside in
    let inv = c.self.invariant in
    let olds = c.rise.ensures.lines in
    let news = c.rise-2.ensures.lines in
    record {
      long = length_permutation _ _ news ∙ inv.long ∙ Rattle.std.proofs.Common.sym (length_permutation _ _ olds);
      few = omega (arith, length_permutation _ _ olds, inv.few);
      whole = AreLines-permutation _ _ olds inv.whole;
      whole' = AreLines-permutation _ _ news inv.whole';
      reserved = omega (arith, c.rise.ensures.capacity, inv.reserved);
      reserved' = omega (arith, c.rise-2.ensures.capacity, inv.reserved');
    }
