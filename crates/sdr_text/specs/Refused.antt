-- What is printed of refusals. Each `.._on` is the line so far, which begins with the bytes handed in, with one more thing on it.
use Rattle.std.specs.Prelude.{ℕ, List, ◌++◌, codes, decimal}
use Rattle.sdr_base.specs.Refusal.{refusal_number}
use Rattle.sdr_base.specs.declared.kind.Space.{Space}
use Rattle.sdr_base.specs.declared.kind.Space.TheVariants as spaces
use Rattle.sdr_base.specs.declared.refusal.Reason.{Reason}
use Rattle.sdr_base.specs.declared.refusal.Reason.TheVariants as reasons
use Rattle.sdr_base.specs.declared.refusal.Refusal.{Refusal}
use Rattle.sdr_base.specs.declared.refusal.Refusal.TheVariants as refusals

-- a refusal's name
abbrev pub refusal_name : Refusal → List ℕ
refusal_name (refusals.NoBlock need) = codes "NoBlock"
refusal_name (refusals.LogFull lines room) = codes "LogFull"
refusal_name (refusals.BadAddress addr) = codes "BadAddress"
refusal_name (refusals.WrongKind addr kind) = codes "WrongKind"
refusal_name (refusals.OutOfBounds addr place length) = codes "OutOfBounds"
refusal_name (refusals.NotStaged addr) = codes "NotStaged"
refusal_name (refusals.BadLength length most) = codes "BadLength"
refusal_name (refusals.NameTaken addr) = codes "NameTaken"
refusal_name refusals.NotFound = codes "NotFound"
refusal_name (refusals.InUse addr count) = codes "InUse"
refusal_name (refusals.BadRow row rows) = codes "BadRow"
refusal_name (refusals.KeyTaken value) = codes "KeyTaken"
refusal_name (refusals.BadKeyLength length want) = codes "BadKeyLength"
refusal_name (refusals.NoSpace space occupied asked most) = codes "NoSpace"
refusal_name (refusals.Queue ticket) = codes "Queue"
refusal_name (refusals.TooLarge space asked most) = codes "TooLarge"
refusal_name (refusals.BadTicket ticket) = codes "BadTicket"
refusal_name (refusals.NotAwarded ticket) = codes "NotAwarded"
refusal_name (refusals.SourceShort have want) = codes "SourceShort"
refusal_name refusals.NoCapsule = codes "NoCapsule"
refusal_name (refusals.BadRange offset length have) = codes "BadRange"
refusal_name (refusals.Doomed reason) = codes "Doomed"
refusal_name refusals.TooDeep = codes "TooDeep"
refusal_name (refusals.Suspended serving mine) = codes "Suspended"
refusal_name refusals.NotBegun = codes "NotBegun"
refusal_name (refusals.InTransaction mine) = codes "InTransaction"

-- a number after a space
abbrev pub field_on : List ℕ → ℕ → List ℕ
field_on t n = t ++ codes " " ++ decimal n

-- a space of an account
abbrev pub space_on : List ℕ → Space → List ℕ
space_on t spaces.File = t ++ codes " file"
space_on t spaces.Bulk = t ++ codes " bulk"
space_on t spaces.Heap = t ++ codes " heap"

-- why a transaction is cancelled
abbrev pub reason_on : List ℕ → Reason → List ℕ
reason_on t reasons.Inner = t ++ codes "inner"
reason_on t (reasons.Refused number) = t ++ codes "refused " ++ decimal number
reason_on t reasons.Asked = t ++ codes "asked"
reason_on t reasons.Modified = t ++ codes "modified"
reason_on t reasons.Left = t ++ codes "left"

-- the fields of a refusal, each after a space
abbrev pub fields_on : List ℕ → Refusal → List ℕ
fields_on t (refusals.NoBlock need) = field_on t need
fields_on t (refusals.LogFull lines room) = field_on (field_on t lines) room
fields_on t (refusals.BadAddress addr) = field_on t addr
fields_on t (refusals.WrongKind addr kind) = field_on (field_on t addr) kind
fields_on t (refusals.OutOfBounds addr place length) = field_on (field_on (field_on t addr) place) length
fields_on t (refusals.NotStaged addr) = field_on t addr
fields_on t (refusals.BadLength length most) = field_on (field_on t length) most
fields_on t (refusals.NameTaken addr) = field_on t addr
fields_on t refusals.NotFound = t
fields_on t (refusals.InUse addr count) = field_on (field_on t addr) count
fields_on t (refusals.BadRow row rows) = field_on (field_on t row) rows
fields_on t (refusals.KeyTaken value) = field_on t value
fields_on t (refusals.BadKeyLength length want) = field_on (field_on t length) want
fields_on t (refusals.NoSpace space occupied asked most) = field_on (field_on (field_on (space_on t space) occupied) asked) most
fields_on t (refusals.Queue ticket) = field_on t ticket
fields_on t (refusals.TooLarge space asked most) = field_on (field_on (space_on t space) asked) most
fields_on t (refusals.BadTicket ticket) = field_on t ticket
fields_on t (refusals.NotAwarded ticket) = field_on t ticket
fields_on t (refusals.SourceShort have want) = field_on (field_on t have) want
fields_on t refusals.NoCapsule = t
fields_on t (refusals.BadRange offset length have) = field_on (field_on (field_on t offset) length) have
fields_on t (refusals.Doomed reason) = reason_on (t ++ codes " ") reason
fields_on t refusals.TooDeep = t
fields_on t (refusals.Suspended serving mine) = field_on (field_on t serving) mine
fields_on t refusals.NotBegun = t
fields_on t (refusals.InTransaction mine) = field_on t mine

-- a refusal: its number, its name and its fields
abbrev pub refusal_on : List ℕ → Refusal → List ℕ
refusal_on t refusal = fields_on (t ++ decimal (refusal_number refusal) ++ codes " " ++ refusal_name refusal) refusal
