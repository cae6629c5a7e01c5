-- Where the lines of a heap region stand.
use Rattle.std.specs.Prelude.{◌<◌, ⊤, ℕ, suc, ◌-◌, ◌+◌, ◌==◌, Bool, true, false, cond, List, [], ◌∷◌, get_or}
use Rattle.sdr_image.specs.declared.buffer.TheConstants.{MOST_BUFFERED}
use Rattle.sdr_image.specs.declared.marks.Stand.{Stand}
use Rattle.sdr_image.specs.declared.marks.Stand.TheVariants.{Clean, Buffered, Logged}

-- whether a line that stands there isn't touched
abbrev pub is_clean : Stand → Bool
is_clean Clean = true
is_clean (Buffered place) = false
is_clean Logged = false

-- whether it stands in the buffer
abbrev pub is_buffered : Stand → Bool
is_buffered Clean = false
is_buffered (Buffered place) = true
is_buffered Logged = false

-- whether an open batch names it
abbrev pub is_logged : Stand → Bool
is_logged Clean = false
is_logged (Buffered place) = false
is_logged Logged = true

-- a place in the buffer is one that the buffer has
abbrev pub IsPlaced : Stand → Type 0
IsPlaced Clean = ⊤
IsPlaced (Buffered place) = place < MOST_BUFFERED
IsPlaced Logged = ⊤

-- where the line stands; one that there isn't is clean
abbrev pub stand_at : List Stand → ℕ → Stand
stand_at marks line = get_or marks line Clean

-- the lines that are touched, where the first of these marks is that of this line
unfoldable pub touched_from : ℕ → List Stand → List ℕ
touched_from first [] = []
touched_from first (stand ∷ marks) =
    cond (is_clean stand) (touched_from (suc first) marks) (first ∷ touched_from (suc first) marks)

-- the lines that are touched, by rising number
abbrev pub touched_in : List Stand → List ℕ
touched_in marks = touched_from 0 marks

-- where the line stands whose byte this is
unfoldable pub stand_of : ℕ → Stand
stand_of byte = cond (byte == 0) Clean (cond (byte == MOST_BUFFERED + 1) Logged (Buffered (byte - 1)))
