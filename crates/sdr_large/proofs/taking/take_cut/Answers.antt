-- The block leaves its list, and what is asked for is in use.
use Rattle.std.proofs.Common.{arith}
use Rattle.std.proofs.lemmas.Result.{on_ok_weaker}
use Rattle.sdr_large.proofs.CutStepsLemmas.{cut_free, cut_gap, cut_rest, cuts_whole, cuts_low}
use Rattle.sdr_large.proofs.StepsLemmas.{can_unlink}
use Rattle.sdr_large.proofs.taking.take_cut.Goals as goal

pub unlink-requires : goal.unlink-requires
unlink-requires g c = record { free = cut_free _ c.args.words _ _ c.requires.cut }

pub overflow_add-words : goal.overflow_add-words
overflow_add-words g c =
    let k = can_unlink _ _ _ (cut_free _ c.args.words _ _ c.requires.cut) in
    omega (arith, k.inside, k.short, c.requires.cut.enough)

pub put_used-requires : goal.put_used-requires
put_used-requires g c = record {
  gap = cut_gap _ _ c.args.words _ _ _ c.requires.cut c.in_ok-unlink.ensures.unlinked
      (omega (arith, c.requires.cut.some, c.requires.cut.enough)) (omega arith);
}

pub returns-then-block-words-clause-cut : goal.returns-then-block-words-clause-cut
returns-then-block-words-clause-cut g c =
    on_ok_weaker c.put_used.result
    (λ puts. cuts_whole _ _ _ c.args.words c.args.block.words c.args.block.addr c.in_ok-unlink.ensures.unlinked puts
    (omega arith))
    c.put_used.ensures.put

pub put_used-requires-2 : goal.put_used-requires-2
put_used-requires-2 g c = record {
  gap = cut_gap _ _ c.args.words _ _ c.args.words c.requires.cut c.in_ok-unlink.ensures.unlinked c.requires.cut.some
      c.requires.cut.enough;
}

pub overflow_mul-rest : goal.overflow_mul-rest
overflow_mul-rest g c =
    let k = can_unlink _ _ _ (cut_free _ c.args.words _ _ c.requires.cut) in
    omega (arith, k.inside, k.short, c.requires.cut.enough)

pub overflow_add-rest-2 : goal.overflow_add-rest-2
overflow_add-rest-2 g c =
    let k = can_unlink _ _ _ (cut_free _ c.args.words _ _ c.requires.cut) in
    omega (arith, k.inside, k.short, c.requires.cut.enough)

pub put_free-requires : goal.put_free-requires
put_free-requires g c = record {
  gap = cut_rest _ _ _ c.args.words c.args.block.words c.args.block.addr c.in_ok-unlink.ensures.unlinked
      c.in_ok-put_used.ensures.put c.requires.cut.pools c.requires.cut.keeps c.requires.cut.free c.requires.cut.some
      c.requires.cut.enough (omega arith);
}

pub returns-clause-cut : goal.returns-clause-cut
returns-clause-cut g c =
    on_ok_weaker c.put_free.result
    (λ frees. cuts_low _ _ _ _ c.args.words c.args.block.words c.args.block.addr c.in_ok-unlink.ensures.unlinked
    c.in_ok-put_used.ensures.put frees (omega arith))
    c.put_free.ensures.put
