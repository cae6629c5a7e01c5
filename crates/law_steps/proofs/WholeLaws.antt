-- A whole world stays whole.
use Rattle.std.proofs.Common.{◌≡◌, List, sym, subst}
use Rattle.sdr_base.specs.declared.moves.Move.{Move}
use Rattle.law_steps.proofs.BlockLaws.{valid_kept}
use Rattle.law_steps.proofs.FrontLaws.{barred_same, front_kept}
use Rattle.law_steps.proofs.QueueLaws.{queues_kept}
use Rattle.law_steps.proofs.SourceLaws.{sources_kept}
use Rattle.law_steps.proofs.SourceViews.{fit_same}
use Rattle.law_steps.specs.Fresh.{AreFresh}
use Rattle.sdr_model.specs.Whole.{IsWhole}
use Rattle.sdr_model.specs.Blocks.{addresses_of, blocks_of}
use Rattle.sdr_model.specs.Step.{Step}
use Rattle.sdr_model.specs.Valid.{IsValid, KeepQueues}
use Rattle.sdr_model.specs.World.{World}
use Rattle.sdr_model.specs.declared.answer.Reply.{Reply}
use Rattle.sdr_model.specs.declared.call.Call.{Call}

-- A whole world stays whole.
pub whole_kept : (w w' : World) (call : Call) (moves : List Move) (reply : Reply) → IsWhole w
    → AreFresh (addresses_of (blocks_of w)) moves → Step w call moves w' reply → IsWhole w'
whole_kept w w' call moves reply whole fresh step = record {
  valid = valid_kept w w' call moves reply whole.valid fresh step;
  fits = sources_kept w w' call moves reply whole.valid whole.fits fresh step;
  queues = queues_kept w w' call moves reply whole.queues step;
  barred = λ acct.
      front_kept w w' call moves reply acct whole.valid whole.fits whole.queues (whole.barred acct) fresh step;
}

-- a valid world with the things and accounts of a whole one is whole
pub whole_same : (w w' : World) → w'.things ≡ w.things → w'.accounts ≡ w.accounts → IsValid w' → IsWhole w → IsWhole w'
whole_same w w' things accounts valid whole = record {
  valid = valid;
  fits = fit_same w w' things whole.fits;
  queues = subst KeepQueues (sym accounts) whole.queues;
  barred = λ acct. barred_same w w' acct things accounts (whole.barred acct);
}
