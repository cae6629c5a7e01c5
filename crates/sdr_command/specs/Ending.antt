-- How the program comes to the status that it ends with.
use Rattle.std.specs.Prelude.{◌≡◌, ◌≢◌, ◌⊎◌, ℕ, Bool, true, false, List, [], ◌∷◌, None, Some, IsErr, IsOk, codes, nat_eq, if◌then◌else◌}
use Rattle.std.specs.Io.KnownBytes.{Appends}
use Rattle.std.specs.declared.alloc.Global.{Global}
use Rattle.std.specs.declared.option.Option.{Option}
use Rattle.std.specs.declared.rc.RcStr.{RcStr}
use Rattle.std.specs.Cmp.Lexicographic.{pointwise}
use Rattle.std.specs.Rc.{rc_str_bytes}
use Rattle.sdr_base.specs.Causes.{Rose}
use Rattle.sdr_base.specs.Written.{AppendsPart}
use Rattle.sdr_base.specs.declared.media.Media.{Ghosts as MediaGhosts}
use Rattle.sdr_base.specs.declared.sink.Sink.{Ghosts as SinkGhosts}
use Rattle.sdr_base.specs.declared.source.Source.{Ghosts as SourceGhosts}
use Rattle.sdr_disk.specs.declared.disk.Disk.{Ghosts as DiskGhosts}
use Rattle.sdr_log.specs.Frame.{IsInLimits}
use Rattle.sdr_forms.specs.Answers.{Wrote, seen}
use Rattle.sdr_forms.specs.Form.{OnFormat, form_of}
use Rattle.sdr_shell.specs.Words.{AnswersWords}
use Rattle.sdr_forms.specs.declared.form.Form.{Form}
use Rattle.sdr_forms.specs.declared.form.Form.TheVariants as forms
use Rattle.sdr_forms.specs.declared.outcome.RunOutcome.{RunOutcome}
use Rattle.sdr_forms.specs.declared.status.TheConstants.{DONE, NO_MEMORY, OUTPUT_FAULT, USAGE}
use Rattle.sdr_system.specs.Held.{HoldsInput}
use Rattle.sdr_system.specs.HeldFeed.{HeldFeed}
use Rattle.sdr_system.specs.declared.held.Held.{Held}
use Rattle.sdr_words.specs.Script.{input_script}
use Rattle.sdr_command.specs.declared.TheConstants.{CANNOT_OPEN}
use Rattle.sdr_command.specs.declared.about.TheConstants.{HELP, VERSION}
use Rattle.sdr_command.specs.declared.command.Command.{Command}
use Rattle.sdr_command.specs.declared.command.Command.TheVariants as commands

-- What the top call answers to these words on such a disk, and this is its status.
pub record IsStatusOf {D M S K : Type 0} (d : DiskGhosts D) (On : D → Type 0) (m : MediaGhosts M) (s : SourceGhosts S) (k : SinkGhosts K)
    (words : List (RcStr Global)) (files : M) (input input' : S) (output output' : K) (status : ℕ) : Type 0 where
  pub disk : D
  pub on : On disk
  pub outcome : RunOutcome D M
  pub answers : AnswersWords d m s k words disk files input input' output output' outcome
  pub status_is : status ≡ outcome.status

-- the disk has no bytes
abbrev pub IsEmpty : {D : Type 0} → DiskGhosts D → D → Type 0
IsEmpty d disk = d.bytes disk ≡ []

-- the disk is any
abbrev pub IsAny : {D : Type 0} → D → Type 0
IsAny disk = Unit {0}

-- something couldn't be opened, by which no input was read and nothing was printed
pub record IsUnopened {S K : Type 0} (input input' : S) (output output' : K) (status : ℕ) : Type 0 where
  pub status_is : status ≡ CANNOT_OPEN
  pub unread : input' ≡ input
  pub unprinted : output' ≡ output

-- there is no memory for the bytes of a file, which the last line tells; no input was read
pub record IsStarved {S K : Type 0} (k : SinkGhosts K) (input input' : S) (output output' : K) (status : ℕ) : Type 0 where
  pub status_is : status ≡ NO_MEMORY
  pub unread : input' ≡ input
  pub written : Wrote (seen k.taken k.faults output) (seen k.taken k.faults output') (codes "no memory\n")

-- a file couldn't be opened, or there was no memory for its bytes, or it is answered as the top call does on it
abbrev pub IsStatusOnFile : {D M S K : Type 0} → DiskGhosts D → MediaGhosts M → SourceGhosts S → SinkGhosts K
    → List (RcStr Global) → M → S → S → K → K → ℕ → Type 0
IsStatusOnFile d m s k words files input input' output output' status =
    IsUnopened input input' output output' status ⊎ IsStarved k input input' output output' status
    ⊎ IsStatusOf d IsAny m s k words files input input' output output' status

-- a file couldn't be opened, and nothing was printed; or there was no memory for its bytes, which the last line tells
abbrev pub IsNotOpened : {K : Type 0} → SinkGhosts K → K → K → ℕ → Type 0
IsNotOpened k output output' status =
    ((status ≡ CANNOT_OPEN) × (output' ≡ output))
    ⊎ ((status ≡ NO_MEMORY) × Wrote (seen k.taken k.faults output) (seen k.taken k.faults output') (codes "no memory\n"))

-- a file wasn't opened, or it is answered on it as the top call does that reads the input from here to there
abbrev pub IsStatusRead : {D M S K : Type 0} → DiskGhosts D → MediaGhosts M → SourceGhosts S → SinkGhosts K
    → List (RcStr Global) → M → S → S → K → K → ℕ → Type 0
IsStatusRead d m s k words files input input' output output' status =
    IsNotOpened k output output' status ⊎ IsStatusOf d IsAny m s k words files input input' output output' status

-- a held input as a source of which nothing was read
abbrev pub feed_of : Held → HeldFeed
feed_of held = record { left = held.bytes; failed = held.failed; faults = 0; reads = 0 }

-- the input that is held didn't fail, and it spells a script
abbrev pub SpellsScript : Held → Type 0
SpellsScript held = (held.failed ≡ false) × IsOk (input_script held.bytes)

-- it failed, or it spells no script
abbrev pub SpellsNone : Held → Type 0
SpellsNone held = (held.failed ≡ true) ⊎ IsErr (input_script held.bytes)

-- How a form that runs a script on a file comes to its status: the input is held before the file is opened.
pub data ComesHeld {D E M S K : Type 0} (d : DiskGhosts D) (e : DiskGhosts E) (m : MediaGhosts M) (s : SourceGhosts S) (h : SourceGhosts HeldFeed)
    (k : SinkGhosts K) (words : List (RcStr Global)) (files : M) (input input' : S) (output output' : K) (status : ℕ) : Type 0 where
  -- there is no memory for the input
  starved : status ≡ NO_MEMORY → Wrote (seen k.taken k.faults output) (seen k.taken k.faults output') (codes "no memory\n")
      → ComesHeld d e m s h k words files input input' output output' status
  -- the input failed or spells no script: it is answered as the top call does with what is held, on an empty disk in memory
  unread : (held : Held) → HoldsInput (s.left input) (s.left input') (s.faults input) (s.faults input') held → SpellsNone held → (last : HeldFeed)
      → IsStatusOf d (IsEmpty d) m h k words files (feed_of held) last output output' status
      → ComesHeld d e m s h k words files input input' output output' status
  -- it spells a script, for which the file is opened
  read : (held : Held) → HoldsInput (s.left input) (s.left input') (s.faults input) (s.faults input') held → SpellsScript held → (last : HeldFeed)
      → IsStatusOnFile e m h k words files (feed_of held) last output output' status
      → ComesHeld d e m s h k words files input input' output output' status

-- the form takes no file, or the word that names the disk names none
abbrev pub TakesNoFile : List ℕ → Form → Type 0
TakesNoFile word form = (word ≡ codes "-") ⊎ (form ≡ forms.Dry)

-- it takes the file that the word names
abbrev pub TakesFile : List ℕ → Form → Type 0
TakesFile word form = (word ≢ codes "-") × (form ≢ forms.Dry)

-- whether a form runs a script on a disk
abbrev pub runs_on_disk : Form → Bool
runs_on_disk forms.Replay = true
runs_on_disk (forms.Run totals) = true
runs_on_disk form = false

-- How a form comes to its status, by the word that names the disk: on an empty disk in memory for `-` and for `dry`, else on a file, and
-- for `replay` and `run` behind an input that is held.
pub data ComesBy {D E M S K : Type 0} (d : DiskGhosts D) (e : DiskGhosts E) (m : MediaGhosts M) (s : SourceGhosts S) (h : SourceGhosts HeldFeed)
    (k : SinkGhosts K) (word : List ℕ) (form : Form) (words : List (RcStr Global)) (files : M) (input input' : S) (output output' : K) (status : ℕ)
    : Type 0 where
  in_memory : TakesNoFile word form → IsStatusOf d (IsEmpty d) m s k words files input input' output output' status
      → ComesBy d e m s h k word form words files input input' output output' status
  on_file : TakesFile word form → runs_on_disk form ≡ false → IsStatusOnFile e m s k words files input input' output output' status
      → ComesBy d e m s h k word form words files input input' output output' status
  held : TakesFile word form → runs_on_disk form ≡ true → ComesHeld d e m s h k words files input input' output output' status
      → ComesBy d e m s h k word form words files input input' output output' status

-- the text about the program that the words of a command line ask for, if they ask for one
abbrev pub about_text : List (RcStr Global) → Option (List ℕ)
about_text (word ∷ []) =
    if pointwise nat_eq (rc_str_bytes word) (codes "--help") then Some HELP.now
    else (if pointwise nat_eq (rc_str_bytes word) (codes "--version") then Some VERSION.now else None)
about_text words = None

-- the bytes of the word that names the disk
abbrev pub disk_word : List (RcStr Global) → List ℕ
disk_word [] = []
disk_word (disk ∷ words) = rc_str_bytes disk

-- the words behind it
abbrev pub behind_disk : List (RcStr Global) → List (RcStr Global)
behind_disk [] = []
behind_disk (disk ∷ words) = words

-- the words of a command line ask for no text, and behind their first, if there is one, these are no form
pub record AsksNothing (words others : List (RcStr Global)) : Type 0 where
  pub no_text : about_text words ≡ None
  pub behind : others ≡ behind_disk words
  pub no_form : form_of others ≡ None

-- the words of a command line are one that names the disk and these behind it, which are the form
pub record AsksForm (words : List (RcStr Global)) (word : List ℕ) (others : List (RcStr Global)) (form : Form) : Type 0 where
  pub named : word ≡ disk_word words
  pub behind : others ≡ behind_disk words
  pub is_form : form_of others ≡ Some form
  pub limits : OnFormat (Some form) IsInLimits

-- what the words of a command line ask for
abbrev pub IsCommand : List (RcStr Global) → Command → Type 0
IsCommand words (commands.About text) = about_text words ≡ Some text.now
IsCommand words (commands.Usage others) = AsksNothing words others.now
IsCommand words (commands.Form asked) = AsksForm words asked.disk.now asked.words.now asked.form

-- the text was printed whole, or a part of it where the output failed, and the status says which; no input was read
pub record PrintsText {S K : Type 0} (k : SinkGhosts K) (text : List ℕ) (input input' : S) (output output' : K) (status : ℕ) : Type 0 where
  pub known : (status ≡ DONE) ⊎ (status ≡ OUTPUT_FAULT)
  pub done : status ≡ DONE → Appends (k.taken output) (k.taken output') text
  pub part : status ≡ OUTPUT_FAULT → AppendsPart (k.taken output) (k.taken output') text
  pub cause : status ≡ OUTPUT_FAULT → Rose (k.faults output) (k.faults output')
  pub unread : input' ≡ input

-- How the program comes to the status that it ends with, by the words of its command line.
pub data EndsWith {D E M S K : Type 0} (d : DiskGhosts D) (e : DiskGhosts E) (m : MediaGhosts M) (s : SourceGhosts S) (h : SourceGhosts HeldFeed)
    (k : SinkGhosts K) (words : List (RcStr Global)) (files : M) (input input' : S) (output output' : K) (status : ℕ) : Type 0 where
  -- they ask for a text, which is printed
  prints : (text : List ℕ) → about_text words ≡ Some text → PrintsText k text input input' output output' status
      → EndsWith d e m s h k words files input input' output output' status
  -- they are no form: the top call, made on an empty disk in memory, says so
  usage : (others : List (RcStr Global)) → AsksNothing words others → status ≡ USAGE
      → IsStatusOf d (IsEmpty d) m s k others files input input' output output' status
      → EndsWith d e m s h k words files input input' output output' status
  -- they are a form, and the descriptors of the standard streams couldn't be taken
  unopened : (word : List ℕ) (others : List (RcStr Global)) (form : Form) → AsksForm words word others form
      → IsUnopened input input' output output' status → EndsWith d e m s h k words files input input' output output' status
  -- they are a form, which was answered
  answered : (word : List ℕ) (others : List (RcStr Global)) (form : Form) → AsksForm words word others form
      → ComesBy d e m s h k word form others files input input' output output' status
      → EndsWith d e m s h k words files input input' output output' status
