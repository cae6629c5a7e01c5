-- The words are written over the front of the block.
use Rattle.std.proofs.Common.{arith, ◌∙◌}
use Rattle.sdr_base.proofs.ObjectsLemmas.{layout-words, taken_uses}
use Rattle.sdr_base.proofs.WritingLemmas.{reaches_less}
use Rattle.sdr_hash.proofs.MadeLemmas.{made}
use Rattle.sdr_hash.proofs.hash.create.Goals as goal

pub put-requires-clause-inside : goal.put-requires-clause-inside
put-requires-clause-inside g c =
    reaches_less _ _ _ (taken_uses _ _ _ _ _ c.in_ok-hash.ensures.taken) (omega arith)

pub returns-clause-made : goal.returns-clause-made
returns-clause-made g c =
    made c.args.key_length c.args.buckets _ c.in_ok-check_shape.ensures.fits (c.write_u64_into.ensures ∙ layout-words _)
    (rw c.check_failed.ensures.looks.same at c.in_ok-hash.ensures.taken) c.in_ok-put.ensures.written
