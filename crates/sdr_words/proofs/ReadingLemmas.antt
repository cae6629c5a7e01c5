-- How an input is read line by line.
use Rattle.std.proofs.Common.{◌≡◌, ◌==◌, ◌<◌, ◌≤◌, ◌+◌, ◌++◌, IfSome, ℕ, List, [], ◌∷◌, Option, None, Some, Ok, Err, length, ◌-◌, take, drop, refl, ap, sym, ◌∙◌, append_assoc, append-nil, length-append, arith}
use Rattle.std.proofs.lemmas.List.Splits.{length-slice_split}
use Rattle.sdr_words.proofs.SplitLemmas.{split_cut, split_uncut}
use Rattle.std.proofs.KnownBytes.{Consumes-nil, Consumes-trans, Consumes-kept}
use Rattle.std.specs.Io.KnownBytes.{Consumes}
use Rattle.sdr_base.specs.Causes.{Rose, counted}
use Rattle.bstr.specs.Find.{IsFirstByte, is_byte}
use Rattle.sdr_words.specs.LineAnswers.{Stops}
use Rattle.sdr_words.specs.declared.error.ScriptError.{ScriptError}
use Rattle.sdr_words.specs.declared.error.ScriptError.TheVariants as errors
use Rattle.sdr_words.specs.Script.{◌>>=◌, Reading, input_lines, ended_lines, but_last, read_line, read_lines}

-- an input cut at the first byte 10
pub lines_cut : (bytes : List ℕ) (end : ℕ) → IsFirstByte (is_byte 10) bytes (Some end)
    → input_lines bytes ≡ take end bytes ∷ input_lines (take (length bytes - (end + 1)) (drop (end + 1) bytes))
lines_cut bytes end first = split_cut 10 bytes end first

-- an input without the byte 10 is one line
pub lines_uncut : (bytes : List ℕ) → IsFirstByte (is_byte 10) bytes None → input_lines bytes ≡ bytes ∷ []
lines_uncut bytes none = split_uncut 10 bytes none

pub ruleset cutting = (lines_cut, lines_uncut)

but_last-append : {A : Type 0} (xs : List A) (y : A) (ys : List A) → but_last (xs ++ y ∷ ys) ≡ xs ++ but_last (y ∷ ys)
but_last-append [] y ys = refl
but_last-append (x ∷ []) y ys = refl
but_last-append (x ∷ z ∷ xs) y ys = ap (λ l. x ∷ l) (but_last-append (z ∷ xs) y ys)

-- lines behind others are read after them
pub read_lines-append : (reading : Reading) (xs ys : List (List ℕ)) → read_lines reading (xs ++ ys)
    ≡ (read_lines reading xs >>= λ now. read_lines now ys)
read_lines-append reading [] ys = refl
read_lines-append reading (x ∷ xs) ys =
    elim (read_line reading x) as (λ r. (r >>= λ now. read_lines now (xs ++ ys))
    ≡ (r >>= λ now. read_lines now xs) >>= λ now. read_lines now ys)
    [ Ok now ↦ read_lines-append now xs ys | Err number ↦ refl ]

-- all lines but those of a rest were read
pub record HasRead (old now : Reading) (bytes rest : List ℕ) : Type 0 where
  pub done : List (List ℕ)
  pub parts : input_lines bytes ≡ done ++ input_lines rest
  pub reads : read_lines old done ≡ Ok now

pub HasRead-none : (old : Reading) (bytes : List ℕ) → HasRead old old bytes bytes
HasRead-none old bytes = record { done = []; parts = refl; reads = refl }

pub HasRead-more : (old now later : Reading) (bytes rest line after : List ℕ) → HasRead old now bytes rest
    → input_lines rest ≡ line ∷ input_lines after → read_line now line ≡ Ok later → HasRead old later bytes after
HasRead-more old now later bytes rest line after read cut reads = record {
  done = read.done ++ line ∷ [];
  parts = read.parts ∙ ap (λ l. read.done ++ l) cut ∙ sym (append_assoc read.done (line ∷ []) (input_lines after));
  reads = read_lines-append old read.done (line ∷ []) ∙ ap (λ r. r >>= λ now. read_lines now (line ∷ [])) read.reads
      ∙ ap (λ r. r >>= λ now. read_lines now []) reads;
}

first_of : {A : Type 0} (xs : List A) → 0 < length xs → (x : A) × (ys : List A) × (xs ≡ x ∷ ys)
first_of [] some = absurd (omega arith)
first_of (x ∷ xs) some = (x, xs, refl)

-- the ended lines of an input that goes on behind a line
ended_behind : (bytes line after : List ℕ) (done : List (List ℕ)) → input_lines bytes ≡ done ++ line ∷ input_lines after
    → ended_lines bytes ≡ done ++ line ∷ ended_lines after
ended_behind bytes line after done parts =
    let next = first_of (input_lines after) (omega (arith, length-slice_split (λ b. b == 10) after)) in
    ap but_last parts ∙ but_last-append done line (input_lines after)
    ∙ ap (λ l. done ++ but_last (line ∷ l)) next.2 ∙ ap (λ l. done ++ line ∷ but_last l) (sym next.2)

pub HasRead-refused : (old now : Reading) (bytes rest line after : List ℕ) (number : ℕ) → HasRead old now bytes rest
    → input_lines rest ≡ line ∷ input_lines after → read_line now line ≡ Err number → read_lines old (ended_lines bytes)
    ≡ Err number
HasRead-refused old now bytes rest line after number read cut refused =
    ap (read_lines old) (ended_behind bytes line after read.done (read.parts ∙ ap (λ l. read.done ++ l) cut))
    ∙ read_lines-append old read.done (line ∷ ended_lines after)
    ∙ ap (λ r. r >>= λ now. read_lines now (line ∷ ended_lines after)) read.reads
    ∙ ap (λ r. r >>= λ now. read_lines now (ended_lines after)) refused

-- why the ended lines are not read
pub Stops-refused : (old now : Reading) (bytes rest line after : List ℕ) (error : ScriptError)
    → HasRead old now bytes rest → input_lines rest ≡ line ∷ input_lines after
    → Stops error (read_line now line) → Stops error (read_lines old (ended_lines bytes))
Stops-refused old now bytes rest line after errors.Input read cut stops = stops
Stops-refused old now bytes rest line after (errors.Line number) read cut stops =
    HasRead-refused old now bytes rest line after number read cut stops
Stops-refused old now bytes rest line after errors.NoMemory read cut stops = tt

-- the ended lines are those before the last
ended_are_done : (bytes rest : List ℕ) (done : List (List ℕ)) → input_lines bytes ≡ done ++ input_lines rest → input_lines rest
    ≡ rest ∷ [] → ended_lines bytes ≡ done
ended_are_done bytes rest done parts last = ap but_last (parts ∙ ap (λ l. done ++ l) last)
    ∙ but_last-append done rest [] ∙ append-nil done

pub HasRead-all : (old now : Reading) (bytes rest : List ℕ) → HasRead old now bytes rest → input_lines rest ≡ rest ∷ []
    → read_lines old (ended_lines bytes) ≡ Ok now
HasRead-all old now bytes rest read last = ap (read_lines old) (ended_are_done bytes rest read.done read.parts last)
    ∙ read.reads

pub HasRead-last : (old now : Reading) (bytes rest : List ℕ) → HasRead old now bytes rest → input_lines rest ≡ rest ∷ []
    → input_lines bytes ≡ ended_lines bytes ++ rest ∷ []
HasRead-last old now bytes rest read last =
    read.parts ∙ ap (λ l. read.done ++ l) last
    ∙ ap (λ l. l ++ rest ∷ []) (sym (ended_are_done bytes rest read.done read.parts last))

pub ruleset reading = (HasRead-none, HasRead-more, HasRead-refused, HasRead-all, HasRead-last)

pub rose_later : (first before now : ℕ) → first ≤ before → Rose before now → Rose first now
rose_later first before now le rose = omega (arith, le, rose)

-- a count goes up by one at most
pub counted_once : (before now : ℕ) → now ≡ counted before → now ≤ before + 1
counted_once before now is = omega (arith, is)

-- where each read gave a byte but one, the reads are at most one more than the bytes that there were
pub reads_each : (old new : Option (List ℕ)) (taken : List ℕ) (first before now : ℕ) → Consumes old new taken → before ≤ first + length taken
    → now ≤ before + 1 → IfSome old (λ bytes. now ≤ first + length bytes + 1)
reads_each None new taken first before now consumes each once = tt
reads_each (Some bytes) None taken first before now consumes each once = absurd consumes
reads_each (Some bytes) (Some rest) taken first before now consumes each once =
    omega (arith, each, once, ap (λ (xs : List ℕ). length xs) consumes, length-append taken rest)

pub ruleset taking = (Consumes-nil, Consumes-trans, Consumes-kept, rose_later, counted_once, reads_each)
