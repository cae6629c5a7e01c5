-- Whether what a call that reads media gave agrees with what they hold.
use Rattle.std.specs.Prelude.{◌≡◌, ℕ, List, [], ◌∷◌, true, length, Option, Some, nat_lt, MatchBool, ⊤}
use Rattle.sdr_base.specs.Media.{Told}
use Rattle.sdr_base.specs.declared.refusal.Refusal.TheVariants as refusals
use Rattle.sdr_model.specs.Pieces.{bytes_by, media_bytes, piece_length, pieces_asked}
use Rattle.sdr_model.specs.Reading.{reads_media}
use Rattle.sdr_model.specs.World.{World}
use Rattle.sdr_model.specs.declared.answer.Answer.{Answer}
use Rattle.sdr_model.specs.declared.answer.Answer.TheVariants as answers
use Rattle.sdr_model.specs.declared.answer.Reply.TheVariants as replies
use Rattle.sdr_model.specs.declared.call.Call.{Call}
use Rattle.sdr_model.specs.declared.event.Event.{Event}
use Rattle.sdr_model.specs.declared.event.Event.TheVariants as events
use Rattle.sdr_model.specs.declared.piece.Piece.{Piece}

-- Of these pieces, the first of which media have fewer bytes than are asked has so many, of so many.
abbrev pub IsFirstShort : Told → List Piece → ℕ → ℕ → Type 0
IsFirstShort media [] have want = ⊥
IsFirstShort media (p ∷ ps) have want =
    MatchBool (nat_lt (length (media_bytes media p)) (piece_length p))
    ((have ≡ length (media_bytes media p)) × (want ≡ piece_length p))
    (IsFirstShort media ps have want)

-- where media tell, the call that reads them gave what they hold, or was refused where they hold too little
abbrev pub AgreesReading : Told → World → Call → Answer → List ℕ → Type 0
AgreesReading media w call (answers.Reply (replies.Bytes count)) bytes = bytes ≡ bytes_by media (pieces_asked w call)
AgreesReading media w call (answers.Reply (replies.Refused (refusals.SourceShort have want))) bytes =
    IsFirstShort media (pieces_asked w call) have want
AgreesReading media w call answer bytes = ⊤

-- where media tell, an answer to an event agrees with what they hold
abbrev pub AgreesWith : Option Told → World → Event → Answer → List ℕ → Type 0
AgreesWith (Some media) w (events.Say call) answer bytes = reads_media call ≡ true → AgreesReading media w call answer bytes
AgreesWith media w event answer bytes = ⊤
