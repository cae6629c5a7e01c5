-- The forms that the words of a command line have.
use Rattle.std.specs.Prelude.{◌&&◌, ℕ, Bool, true, false, List, [], ◌∷◌, Option, Some, None, codes, nat_eq, nat_le, if◌then◌else◌, ⊤}
use Rattle.std.specs.declared.rc.RcStr.{RcStr}
use Rattle.std.specs.declared.alloc.Global.{Global}
use Rattle.std.specs.Cmp.Lexicographic.{pointwise}
use Rattle.std.specs.Rc.{rc_str_bytes}
use Rattle.sdr_load.specs.declared.round.TheConstants.{MOST_ROUNDS}
use Rattle.sdr_log.specs.Frame.{is_in_limits}
use Rattle.sdr_log.specs.declared.frame.Frame.{Frame}
use Rattle.sdr_words.specs.Words.{as_number}
use Rattle.sdr_forms.specs.declared.form.Form.{Form}
use Rattle.sdr_forms.specs.declared.form.Form.TheVariants as forms
use Rattle.sdr_forms.specs.declared.form.HeapForm.{HeapForm}
use Rattle.sdr_forms.specs.declared.form.HeapForm.TheVariants as heap_forms

-- the regions, where both are as long as is allowed
abbrev pub allowed : Frame → Option Frame
allowed frame = if is_in_limits frame then Some frame else None

-- the regions of so many lines of log and heap, where both are numbers and are allowed
abbrev pub frame_from : Option ℕ → Option ℕ → Option Frame
frame_from (Some log) (Some heap) = allowed (record { log_lines = log; heap_lines = heap })
frame_from log heap = None

-- the form `format` with these regions, where there are any
abbrev pub format_of : Option Frame → Option Form
format_of (Some frame) = Some (forms.Format frame)
format_of None = None

-- whether a load may have so many rounds: from one to the most
abbrev pub are_rounds : ℕ → Bool
are_rounds rounds = nat_le 1 rounds && nat_le rounds MOST_ROUNDS

-- the rounds of a load, where it may have so many
abbrev pub rounds_from : Option ℕ → Option ℕ
rounds_from (Some rounds) = if are_rounds rounds then Some rounds else None
rounds_from None = None

-- the form `load` of so many rounds, where they are allowed
abbrev pub load_of : Option ℕ → Option Form
load_of (Some rounds) = Some (forms.Load rounds)
load_of None = None

-- whether the word is this text
abbrev pub is_word : RcStr Global → List ℕ → Bool
is_word word text = pointwise nat_eq (rc_str_bytes word) text

-- the form that the words are, if they are one
abbrev pub form_of : List (RcStr Global) → Option Form
form_of (word ∷ []) =
    if is_word word (codes "run") then Some (forms.Run false)
    else (if is_word word (codes "dry") then Some forms.Dry
    else (if is_word word (codes "replay") then Some forms.Replay
    else (if is_word word (codes "recover") then Some forms.Recover
    else (if is_word word (codes "inspect") then Some forms.Inspect else None))))
form_of (word ∷ more ∷ []) =
    if is_word word (codes "run") && is_word more (codes "totals") then Some (forms.Run true)
    else (if is_word word (codes "load") then load_of (rounds_from (as_number (rc_str_bytes more))) else None)
form_of (word ∷ log ∷ heap ∷ []) =
    if is_word word (codes "format")
    then format_of (frame_from (as_number (rc_str_bytes log)) (as_number (rc_str_bytes heap)))
    else None
form_of words = None

-- what holds of the regions where the form is `format`
abbrev pub OnFormat : Option Form → (Frame → Type 0) → Type 0
OnFormat (Some (forms.Format frame)) P = P frame
OnFormat form P = ⊤

-- what holds of the rounds where the form is `load`
abbrev pub OnLoad : Option Form → (ℕ → Type 0) → Type 0
OnLoad (Some (forms.Load rounds)) P = P rounds
OnLoad form P = ⊤

-- whether the form opens the heap of the disk
abbrev pub opens_heap : Option Form → Bool
opens_heap (Some forms.Replay) = true
opens_heap (Some (forms.Run totals)) = true
opens_heap (Some (forms.Load rounds)) = true
opens_heap (Some forms.Recover) = true
opens_heap (Some forms.Inspect) = true
opens_heap form = false

-- whether the first of the words is `run`: such words are for `live`, and all others for `still`
abbrev pub asks_live : List (RcStr Global) → Bool
asks_live [] = false
asks_live (word ∷ words) = is_word word (codes "run")

-- whether it is the form `run`, with totals or without
abbrev pub is_live : Option Form → Bool
is_live (Some (forms.Run totals)) = true
is_live form = false

-- whether it is the form `load`, of any rounds
abbrev pub is_load : Option Form → Bool
is_load (Some (forms.Load rounds)) = true
is_load form = false

-- whether totals are asked, where it is the form `run`
abbrev pub live_totals : Option Form → Option Bool
live_totals (Some (forms.Run totals)) = Some totals
live_totals form = None

-- the form that `live` answers: `run`, and no other
abbrev pub live_form : Option Form → Option Form
live_form (Some (forms.Run totals)) = Some (forms.Run totals)
live_form form = None

-- the form that `still` answers: any, but not `run`
abbrev pub still_form : Option Form → Option Form
still_form (Some (forms.Run totals)) = None
still_form form = form

-- the form that runs a script so
abbrev pub form_on : HeapForm → Form
form_on heap_forms.Replay = forms.Replay
form_on (heap_forms.Run totals) = forms.Run totals
