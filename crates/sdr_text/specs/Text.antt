-- What is printed of answers. Each `.._on` is the line so far, which begins with the bytes handed in, with one more thing on it.
use Rattle.std.specs.Prelude.{ℕ, List, [], ◌++◌, Bool, not, ◌&&◌, ◌==◌, nat_le, if◌then◌else◌, codes, decimal}
use Rattle.std.specs.List.{list_all}
use Rattle.hex.specs.Hex.{encode_lower}
use Rattle.sdr_model.specs.declared.answer.Answer.{Answer}
use Rattle.sdr_model.specs.declared.answer.Answer.TheVariants as answers
use Rattle.sdr_model.specs.declared.answer.Close.{Close}
use Rattle.sdr_model.specs.declared.answer.Close.TheVariants as closes
use Rattle.sdr_model.specs.declared.answer.Reply.{Reply}
use Rattle.sdr_model.specs.declared.answer.Reply.TheVariants as replies
use Rattle.sdr_text.specs.Refused.{field_on, reason_on, refusal_on}

-- whether a byte stands for itself in a text between quotation marks
abbrev pub is_text_byte : ℕ → Bool
is_text_byte b = nat_le 33 b && nat_le b 126 && not (b == 34)

-- bytes as lower-case hexadecimal digits behind an x
abbrev pub bytes_text : List ℕ → List ℕ
bytes_text bytes = codes "x" ++ encode_lower bytes

-- a text between quotation marks, or as bytes where it has a byte that doesn't stand for itself
abbrev pub literal_text : List ℕ → List ℕ
literal_text text =
    if list_all is_text_byte text then codes "\"" ++ text ++ codes "\"" else bytes_text text

-- whether a ticket was granted at once
abbrev pub grant_text : Bool → List ℕ
grant_text granted = if granted then codes " granted" else codes " waiting"

-- a reply up to the bytes that its call gave
abbrev pub reply_on : List ℕ → Reply → List ℕ
reply_on t replies.Done = t ++ codes "ok"
reply_on t (replies.At addr) = field_on (t ++ codes "at") addr
reply_on t (replies.Value value) = field_on (t ++ codes "value") value
reply_on t (replies.Pair first second) = field_on (field_on (t ++ codes "pair") first) second
reply_on t (replies.Bytes count) = t ++ codes "bytes "
reply_on t (replies.Named count kind addr) = t ++ codes "named "
reply_on t (replies.Ticket number granted) = field_on (t ++ codes "ticket") number ++ grant_text granted
reply_on t (replies.Refused refusal) = refusal_on (t ++ codes "refused ") refusal
reply_on t replies.MediaFault = t ++ codes "media fault"
reply_on t replies.DiskFault = t ++ codes "disk fault"
reply_on t (replies.Failed moment) = t ++ codes "failed"

-- how a transaction closed
abbrev pub close_on : List ℕ → Close → List ℕ
close_on t closes.Ended = t ++ codes "ended"
close_on t closes.Exited = t ++ codes "exited"
close_on t (closes.Cancelled reason) = reason_on (t ++ codes "cancelled ") reason
close_on t closes.Faulted = t ++ codes "faulted"

-- an answer up to the bytes that its call gave
abbrev pub answer_on : List ℕ → Answer → List ℕ
answer_on t (answers.Lock number) = field_on (t ++ codes "lock") number
answer_on t (answers.Depth depth) = field_on (t ++ codes "depth") depth
answer_on t (answers.Closed close) = close_on t close
answer_on t (answers.Reply reply) = reply_on t reply
answer_on t answers.Awarded = t ++ codes "awarded"
answer_on t answers.Waits = t ++ codes "waits"
answer_on t answers.Stalled = t ++ codes "stalled"

-- the bytes that a call gave
abbrev pub given_text : Answer → List ℕ → List ℕ
given_text (answers.Reply (replies.Bytes count)) bytes = bytes_text bytes
given_text (answers.Reply (replies.Named count kind addr)) bytes = literal_text bytes
given_text answer bytes = []

-- what stands behind the bytes that a call gave
abbrev pub behind_on : List ℕ → Answer → List ℕ
behind_on t (answers.Reply (replies.Named count kind addr)) = field_on (field_on t kind) addr
behind_on t answer = t

-- an answer with the bytes that its call gave
abbrev pub answer_text : List ℕ → Answer → List ℕ → List ℕ
answer_text t answer bytes = behind_on (answer_on t answer ++ given_text answer bytes) answer

-- the printed line of an answer: its line and daemon, what it is, and the bytes that were given
abbrev pub line_text : ℕ → ℕ → Answer → List ℕ → List ℕ
line_text line daemon answer bytes =
    answer_text (field_on (decimal line) daemon ++ codes " ") answer bytes ++ codes "\n"
