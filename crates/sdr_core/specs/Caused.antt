-- Answers that tell that media failed or gave too few bytes, and how often they did.
use Rattle.std.specs.Prelude.{◌≡◌, ◌≤◌, ◌+◌, ◌-◌, ◌^◌, ℕ, Bool, true, false, List, [], Option, if◌then◌else◌, min, sum_by}
use Rattle.sdr_base.specs.Media.{Told}
use Rattle.sdr_base.specs.declared.refusal.Refusal.TheVariants as refusals
use Rattle.sdr_machine.specs.Machine.{Made}
use Rattle.sdr_machine.specs.declared.has_ground.HasGround.{Ghosts}
use Rattle.sdr_model.specs.declared.answer.Answer.{Answer}
use Rattle.sdr_model.specs.declared.answer.Answer.TheVariants as answers
use Rattle.sdr_model.specs.declared.answer.Reply.TheVariants as replies
use Rattle.sdr_model.specs.declared.journal.Entry.{Entry}
use Rattle.sdr_model.specs.declared.journal.Said.{Said}
use Rattle.sdr_model.specs.declared.journal.What.{What}
use Rattle.sdr_model.specs.declared.journal.What.TheVariants as whats

-- what media show: what they hold, where they tell it, and how often they have failed and have given too few bytes
pub record SeenMedia : Type 0 where
  pub told : Option Told
  pub faults : ℕ
  pub short : ℕ

-- what is seen of media
abbrev pub seen_media : {X : Type 0} → (X → Option Told) → (X → ℕ) → (X → ℕ) → X → SeenMedia
seen_media told faults short x = record { told = told x; faults = faults x; short = short x }

-- what is seen of media before and after
pub record MediaChange : Type 0 where
  pub before : SeenMedia
  pub after : SeenMedia

-- a change of what is seen of media, from this to that
abbrev pub from_to : SeenMedia → SeenMedia → MediaChange
from_to before after = record { before = before; after = after }

-- what is seen of media as they were and as they are
abbrev pub media_change : {X : Type 0} → (X → Option Told) → (X → ℕ) → (X → ℕ) → X → X → MediaChange
media_change told faults short old new = from_to (seen_media told faults short old) (seen_media told faults short new)

-- a count went up so often, or stands at the end of its type
abbrev pub RoseBy : ℕ → ℕ → ℕ → Type 0
RoseBy often before now = min (before + often) (2 ^ 64 - 1) ≤ now

-- one where a test is passed, else none
abbrev pub once : Bool → ℕ
once passed = if passed then 1 else 0

-- whether the answer is a fault of media
abbrev pub is_media_fault : Answer → Bool
is_media_fault (answers.Reply replies.MediaFault) = true
is_media_fault answer = false

-- whether the answer is that media gave too few bytes
abbrev pub is_short : Answer → Bool
is_short (answers.Reply (replies.Refused (refusals.SourceShort have want))) = true
is_short answer = false

-- Media still tell the same, and have failed and given too few bytes at least so often since.
pub record HaveFailed (failures lacks : ℕ) (media : MediaChange) : Type 0 where
  pub told : media.after.told ≡ media.before.told
  pub faults : RoseBy failures media.before.faults media.after.faults
  pub short : RoseBy lacks media.before.short media.after.short

-- how many answers of these are faults of media
abbrev pub media_faults : List Made → ℕ
media_faults = sum_by (λ e. once (is_media_fault e.said.answer))

-- how many are that media gave too few bytes
abbrev pub short_answers : List Made → ℕ
short_answers = sum_by (λ e. once (is_short e.said.answer))

-- The answers that tell of faults of media, and of too few bytes, are at most as many as these since.
abbrev pub AreCaused : List Made → MediaChange → Type 0
AreCaused made = HaveFailed (media_faults made) (short_answers made)

-- media failed, or gave too few bytes, where the answer tells so
abbrev pub IsCaused : Answer → MediaChange → Type 0
IsCaused answer = HaveFailed (once (is_media_fault answer)) (once (is_short answer))

-- what is seen of the media of a ground
abbrev pub media_on : {T : Type 0} → Ghosts T → T → SeenMedia
media_on g base = record { told = g.told base; faults = (g.lapses base).faults; short = (g.lapses base).short }

-- what was said in the entry of this: that of its transaction, and nothing of a look or a leave
abbrev pub said_of : What → List Said
said_of (whats.Work said close) = said
said_of what = []

-- how often such an answer stands in these entries
abbrev pub answers_in : (Answer → Bool) → List Entry → ℕ
answers_in told journal = sum_by (λ (e : Entry). sum_by (λ (s : Said). once (told s.answer)) (said_of e.what)) journal

-- The answers in these entries that tell of faults of media, and of too few bytes, are at most as many as these since.
abbrev pub EntriesAreCaused : List Entry → MediaChange → Type 0
EntriesAreCaused journal = HaveFailed (answers_in is_media_fault journal) (answers_in is_short journal)
