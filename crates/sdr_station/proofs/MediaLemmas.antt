-- What the answer to a call tells of media.
use Rattle.std.proofs.Common.{◌≡◌, true, false, true≢false, Err, refl, sym, arith}
use Rattle.sdr_base.specs.declared.media.Media.{Ghosts as MediaGhosts}
use Rattle.sdr_base.specs.declared.refusal.Refusal.{Refusal}
use Rattle.sdr_base.specs.declared.refusal.Refusal.TheVariants as refusals
use Rattle.sdr_base.specs.declared.stop.Stop.TheVariants as stops
use Rattle.sdr_machine.specs.Lapses.{Lapses, HasLapseCause}
use Rattle.sdr_machine.specs.Ground.{MayMissMedia}
use Rattle.sdr_model.specs.Reading.{reads_media}
use Rattle.sdr_model.specs.Step.{is_answer}
use Rattle.sdr_model.specs.World.{World}
use Rattle.sdr_model.specs.declared.answer.Answer.TheVariants as answers
use Rattle.sdr_model.specs.declared.answer.Reply.{Reply}
use Rattle.sdr_model.specs.declared.answer.Reply.TheVariants as replies
use Rattle.sdr_model.specs.declared.call.Call.{Call}
use Rattle.sdr_station.proofs.GroundLemmas.{lapses_of}
use Rattle.sdr_station.specs.Giving.{AsksMedia, reads_by}
use Rattle.sdr_station.specs.Grounded.{Grounded}
use Rattle.step_zco_parts.specs.Giving.{MissesMedia, may_read}

-- a reply that answers tells of no gap
pub answered_misses : (w : World) (call : Call) (reply : Reply) → is_answer reply ≡ true → MayMissMedia w call reply
answered_misses w call replies.MediaFault is = absurd (true≢false (sym is))
answered_misses w call (replies.Refused refusal) is = absurd (true≢false (sym is))
answered_misses w call reply is = tt

pub answered_gap : (before now : Lapses) (reply : Reply) → is_answer reply ≡ true → HasLapseCause (answers.Reply reply) before now
answered_gap before now replies.MediaFault is = absurd (true≢false (sym is))
answered_gap before now (replies.Refused refusal) is = absurd (true≢false (sym is))
answered_gap before now reply is = tt

-- a call that may not have read media by its reply may not by what it came to
pub answered_reads : (call : Call) (reply : Reply) → is_answer reply ≡ true → reads_by call reply ≡ false → reads_media call ≡ false
answered_reads call (replies.Refused refusal) is none = absurd (true≢false (sym is))
answered_reads call reply is none = none

pub refused_reads : (call : Call) (refusal : Refusal) → reads_by call (replies.Refused refusal) ≡ false
    → may_read call (Err (stops.Refused refusal)) ≡ false
refused_reads call (refusals.SourceShort have want) none = none
refused_reads call refusal none = refl

module _ {M : Type 0} (m : MediaGhosts M) (w : World) (call : Call) (before now : M) where
  -- a refusal that tells of one asks bytes of media
  pub refused_misses : (refusal : Refusal) → MissesMedia m w call before now (Err (stops.Refused refusal))
      → MayMissMedia w call (replies.Refused refusal)
  refused_misses (refusals.SourceShort have want) is = is.0
  refused_misses refusal is = tt

  -- whose count rose
  pub refused_gap : (refusal : Refusal) → MissesMedia m w call before now (Err (stops.Refused refusal))
      → HasLapseCause (answers.Reply (replies.Refused refusal)) (lapses_of m before) (lapses_of m now)
  refused_gap (refusals.SourceShort have want) is = is.2
  refused_gap refusal is = tt

-- a ground that stays has not asked its media
pub asks_none : {D M : Type 0} (m : MediaGhosts M) (call : Call) (g : Grounded D M) → AsksMedia m call g g
asks_none m call g = record { each = λ v at. omega arith }
