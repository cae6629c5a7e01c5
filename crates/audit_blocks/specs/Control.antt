-- What an audit asks of the control words.
use Rattle.std.specs.Prelude.{◌≡◌, ◌<◌, ◌==◌, ◌+◌, ◌*◌, ◌/◌, ◌%◌, ◌&&◌, ◌||◌, ℕ, Bool, true, false, cond, nat_le, nat_lt, List, length}
use Rattle.sdr_base.specs.FreshHeap.{first_block}
use Rattle.sdr_base.specs.Stored.{number_at}
use Rattle.sdr_base.specs.declared.control.TheConstants.{BULK_MAXIMUM, CONTROL_WORDS, FILE_MAXIMUM, HEAP_MAXIMUM, HEAP_VERSION, HIGH, INBOUND, LOW, NEXT_TICKET, OUTBOUND, SIZE, START, VERSION}
use Rattle.sdr_base.specs.declared.line.TheConstants.{LINE, WORD}
use Rattle.sdr_model.specs.Accounts.{most_amount}

-- the number in a control word
abbrev pub control_word : List ℕ → ℕ → ℕ
control_word bytes word = number_at (WORD * word) bytes

-- whether the unassigned space may begin or end at this place: at a whole word, and not behind the region
abbrev pub is_edge : List ℕ → ℕ → Bool
is_edge bytes place = place % WORD == 0 && nat_le place (length bytes)

-- whether the unassigned space may begin there: not before the first block, and not behind where it ends
abbrev pub is_low : List ℕ → ℕ → Bool
is_low bytes low =
    is_edge bytes low && nat_le (first_block (length bytes / LINE)) low && nat_le low (control_word bytes HIGH)

-- whether the control word is a maximum of the account whose words begin with this one
abbrev pub is_maximum_of : ℕ → ℕ → Bool
is_maximum_of first word =
    word == first + FILE_MAXIMUM || word == first + BULK_MAXIMUM || word == first + HEAP_MAXIMUM

-- whether the control word is always 0: those behind the next ticket's number
abbrev pub is_spare : ℕ → Bool
is_spare word = nat_lt NEXT_TICKET word

-- Whether a control word may have this value: the size of the region, the place of the first block, the ends of the unassigned
-- space, the heap's version, maxima, the number of the next ticket, and zeros. What begins a chain may have any: the chains are
-- checked later.
abbrev pub may_be : List ℕ → ℕ → ℕ → Bool
may_be bytes word value =
    cond (word == SIZE) (value == length bytes)
    (cond (word == START) (value == first_block (length bytes / LINE))
    (cond (word == LOW) (is_low bytes value)
    (cond (word == HIGH) (is_edge bytes value)
    (cond (word == VERSION) (value == HEAP_VERSION)
    (cond (is_maximum_of INBOUND word || is_maximum_of OUTBOUND word) (nat_le value most_amount)
    (cond (word == NEXT_TICKET) (nat_le 1 value && nat_le value most_amount)
    (cond (is_spare word) (value == 0) true)))))))

-- each control word has a value that it may have
abbrev pub ControlIsRight : List ℕ → Type 0
ControlIsRight bytes = (word : ℕ) → word < CONTROL_WORDS → may_be bytes word (control_word bytes word) ≡ true

-- the control word at a place is wrong, and none before it
pub record IsWrongControl (bytes : List ℕ) (place : ℕ) : Type 0 where
  pub word : ℕ
  pub at : place ≡ WORD * word
  pub below : word < CONTROL_WORDS
  pub before : (other : ℕ) → other < word → may_be bytes other (control_word bytes other) ≡ true
  pub wrong : may_be bytes word (control_word bytes word) ≡ false
