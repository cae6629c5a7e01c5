-- What a call on a world in memory comes to, whose media are asked for the bytes that lie with them.
use Rattle.std.specs.Prelude.{◌≡◌, ◌<◌, ◌⊎◌, List, true, Option, ⊤}
use Rattle.sdr_base.specs.Media.{Told}
use Rattle.sdr_base.specs.declared.media.Media.{Ghosts as MediaGhosts}
use Rattle.sdr_base.specs.declared.refusal.Refusal.TheVariants as refusals
use Rattle.sdr_machine.specs.Agreeing.{AgreesWith}
use Rattle.sdr_machine.specs.Ground.{MayMissMedia}
use Rattle.sdr_machine.specs.Lapses.{Lapses}
use Rattle.sdr_machine.specs.Transaction.{bytes_given}
use Rattle.sdr_model.specs.Dry.{StepsDry, StopsReading, dry_moves}
use Rattle.sdr_model.specs.Pieces.{AsksBytes, pieces_asked}
use Rattle.sdr_model.specs.Reading.{reads_media}
use Rattle.sdr_model.specs.World.{World}
use Rattle.sdr_model.specs.declared.answer.Answer.TheVariants as answers
use Rattle.sdr_model.specs.declared.answer.Reply.{Reply}
use Rattle.sdr_model.specs.declared.answer.Reply.TheVariants as replies
use Rattle.sdr_model.specs.declared.call.Call.{Call}
use Rattle.sdr_model.specs.declared.event.Event.TheVariants as events
use Rattle.sdr_model.specs.declared.piece.Piece.{Piece}

-- how often media have failed, and have given fewer bytes than were asked for
abbrev pub lapses_of : {M : Type 0} → MediaGhosts M → M → Lapses
lapses_of m files = record { faults = m.faults files; short = m.short files }

-- the reply tells that media failed, or gave fewer bytes than were asked for
abbrev pub IsLapse : Reply → Type 0
IsLapse replies.MediaFault = ⊤
IsLapse (replies.Refused (refusals.SourceShort have want)) = have < want
IsLapse reply = ⊥

-- the call asks bytes of an object that is there, and these are their pieces
pub record HasPieces (w : World) (call : Call) (pieces : List Piece) : Type 0 where
  pub reads : reads_media call ≡ true
  pub asks : AsksBytes w call
  pub asked : pieces ≡ pieces_asked w call

-- A call on a world comes to a reply by a step in which blocks have the next addresses, or media stop it; the reply agrees with what media
-- tell.
pub record Answers (told : Option Told) (call : Call) (old new : World) (reply : Reply) : Type 0 where
  pub step : StepsDry old call (dry_moves old call reply) new reply ⊎ StopsReading old call (dry_moves old call reply) new reply
  pub misses : MayMissMedia old call reply
  pub agrees : AgreesWith told old (events.Say call) (answers.Reply reply) (bytes_given (answers.Reply reply) new.shown)
